-- Who waits: while a queue can't run empty, it grows by those who come and shrinks by one in each green second.
use Rattle.std.proofs.Common.{◌≡◌, ℕ, zero, suc, ◌+◌, ◌-◌, ◌≤◌, Bool, arith}
use Rattle.std.proofs.lemmas.Bool.{cond_both}
use Rattle.greens.specs.Greens.{on, count_to}
use Rattle.greens.proofs.Counts.{count_within, as_long}
use Rattle.crossing.specs.Below.{sum_to}
use Rattle.crossing.specs.Laws.{waits, NoGrowing, NoGrowingAnywhere}
use Rattle.crossing.proofs.Good.{good_out, enough_out}

balance : (come : ℕ → ℕ) (green : ℕ → Bool) (w s : ℕ) → s ≤ w → waits come green w s + count_to s green ≡ w + sum_to s come
unfolding waits count_to sum_to
balance come green w zero few = omega arith
balance come green w (suc s) few =
    cond_both (green s) 1 0 (λ x. (waits come green w s + come s - x) + (count_to s green + x) ≡ w + (sum_to s come + come s))
    (λ e. omega (arith, balance come green w s (omega arith), count_within s green)) (λ e. omega (arith, balance come green w s (omega arith)))

pub no_growing : NoGrowing
no_growing c w g come begins whole few many = omega (arith, balance come (on c g) w c many, as_long c g begins whole)

pub no_growing_anywhere : NoGrowingAnywhere
no_growing_anywhere j p k w come is_good all_go there few many =
    let fitting = (good_out j p is_good).fitting k there in
    no_growing j.cycle w (p k) come fitting.begins fitting.within (omega (arith, enough_out j p all_go k there)) many
