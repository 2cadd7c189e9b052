-- From what can be left to spare to what is best: the most that can be had, with a plan that has it.
use Rattle.std.proofs.Common.{◌≡◌, ℕ, ◌+◌, ◌<◌, ◌≤◌, true, ⊎_elim, arith}
use Rattle.std.proofs.lemmas.Bool.{cases_lt}
use Rattle.crossing.specs.Site.{Site, Greens}
use Rattle.crossing.specs.Good.{good, enough, worst, Best, NoPlan}
use Rattle.planning.specs.Lengths.{Leaves}
use Rattle.planning.proofs.Worst.{worst_bound}

-- what leaves w to spare leaves less too, and nothing leaves more than the cycle
pub leaves_less : (j : Site) (v w : ℕ) (p : Greens) → v ≤ w → Leaves j w p → Leaves j v p
leaves_less j v w p less l = record { is_good = l.is_good; all_go = l.all_go; spares = omega (arith, l.spares) }

pub leaves_bound : (j : Site) (w : ℕ) (p : Greens) → Leaves j w p → w ≤ j.cycle
leaves_bound j w p l = omega (arith, l.spares, worst_bound j p)

-- where w can't be had, every good plan that lets all go leaves less
pub less_than : (j : Site) (w : ℕ) → ((q : Greens) → Leaves j w q → ⊥) → (q : Greens) → good j q ≡ true → enough j q ≡ true → worst j q < w
less_than j w none q g e =
    ⊎_elim
    (λ (less : worst j q < w). less)
    (λ (all : w ≤ worst j q). absurd (none q (record { is_good = g; all_go = e; spares = all })))
    (cases_lt (worst j q) w)

-- a plan that leaves w to spare, where one more can't be had, is best, and w is what it leaves
pub best_in : (j : Site) (w : ℕ) (p : Greens) → Leaves j w p → ((q : Greens) → Leaves j (w + 1) q → ⊥) → Best j p × (worst j p ≡ w)
best_in j w p l none = (
  record { is_good = l.is_good; all_go = l.all_go; most = λ q g e. omega (arith, less_than j (w + 1) none q g e, l.spares) },
  omega (arith, less_than j (w + 1) none p l.is_good l.all_go, l.spares),
)

-- where not even nothing can be left to spare, there is no plan
pub none_in : (j : Site) → ((q : Greens) → Leaves j 0 q → ⊥) → NoPlan j
none_in j none q g e = none q (record { is_good = g; all_go = e; spares = omega arith })

-- all best plans leave the same to spare, however they were found
pub best_same : (j : Site) (p q : Greens) → Best j p → Best j q → worst j p ≡ worst j q
best_same j p q one other = omega (arith, one.most q other.is_good other.all_go, other.most p one.is_good one.all_go)
