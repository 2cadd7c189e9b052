-- Any one stream may be taken to begin with the cycle: the whole plan is turned.
use Rattle.std.proofs.Common.{◌≡◌, ℕ, ◌+◌, ◌-◌, ◌%◌, ◌<◌, ap, ◌∙◌, arith}
use native.Mathlib.Nat.{mod_self}
use Rattle.greens.specs.Rounds.{later}
use Rattle.crossing.specs.Site.{Site, Greens}
use Rattle.crossing.proofs.Good.{Fitting, good_out, enough_out, enough_in}
use Rattle.crossing.proofs.Safe.{turned}
use Rattle.planning.specs.Lengths.{Leaves}

pub first_at_nought : (j : Site) (w : ℕ) (p : Greens) (a : ℕ) → a < j.streams → Leaves j w p → (q : Greens) × Leaves j w q × ((q a).from ≡ 0)
first_at_nought j w p a there l =
    let fit : Fitting j a (p a) = (good_out j p l.is_good).fitting a there in
    let n : ℕ = j.cycle - (p a).from in
    let q : Greens = λ k. later j.cycle n (p k) in
    let same = turned j p n (omega (arith, fit.begins)) l.is_good in
    let round : (p a).from + n ≡ j.cycle = omega (arith, fit.begins) in
    let nought : ((p a).from + n) % j.cycle ≡ 0 = ap (λ (s : ℕ). s % j.cycle) round ∙ mod_self j.cycle in (
      q,
      record {
        is_good = same.0;
        all_go = enough_in j q (λ k h. enough_out j p l.all_go k h);
        spares = omega (arith, same.1, l.spares);
      },
      nought,
    )
