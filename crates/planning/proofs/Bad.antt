-- What makes a plan not good: a green that doesn't fit, or a second in which two that cross are too close.
use Rattle.std.proofs.Common.{◌≡◌, ℕ, ◌<◌, true, false, not, ◌&&◌, eqb, Result, Ok, Err, None}
use Rattle.std.specs.Result.{result_ok}
use Rattle.std.proofs.lemmas.Bool.{both_ways, not-true, and_parts, eqb-false}
use Rattle.crossing.specs.Site.{Site, Greens}
use Rattle.crossing.specs.Good.{close, apart, fits, good}
use Rattle.crossing.specs.Verdicts.{clash, Judged}
use Rattle.crossing.specs.declared.judging.Fault.{Fault}
use Rattle.crossing.specs.declared.judging.Fault.TheVariants.{Unfit, TooClose}
use Rattle.crossing.specs.declared.judging.Worth.{Worth}
use Rattle.crossing.proofs.Below.{all_out}
use Rattle.crossing.proofs.Good.{good_out, fits_in}
use Rattle.planning.specs.Tries.{Spared}

pub unfit_bad : (j : Site) (p : Greens) (k : ℕ) → k < j.streams → fits j k (p k) ≡ false → good j p ≡ true → ⊥
unfit_bad j p k there unfit g = both_ways (fits j k (p k)) unfit (fits_in j k (p k) ((good_out j p g).fitting k there))

pub clash_bad : (j : Site) (p : Greens) (a b s : ℕ) → a < j.streams → b < j.streams → s < j.cycle → clash j p a b s ≡ true → good j p ≡ true → ⊥
unfolding apart
clash_bad j p a b s ha hb hs clashes g =
    let near = close j.cycle (j.clear a b) (p a) (p b) in
    let parts = and_parts (j.crosses a b) (not (eqb a b) && near s) clashes in
    let rest = and_parts (not (eqb a b)) (near s) parts.1 in
    let differ : a ≡ b → ⊥ = eqb-false a b (not-true (eqb a b) rest.0) in
    both_ways (near s) (not-true (near s) (all_out j.cycle (λ t. not (near t)) ((good_out j p g).keeps a ha b hb parts.0 differ) s hs)) rest.1

pub fault_bad : (j : Site) (p : Greens) (judged : Result Worth Fault) → Judged j p judged → result_ok judged ≡ None → Spared j p None
fault_bad j p (Ok worth) told is = cc
fault_bad j p (Err (Unfit k)) told is = λ g e. unfit_bad j p k told.0 told.1 g
fault_bad j p (Err (TooClose s a b)) told is = λ g e. clash_bad j p a b s told.2 told.3 told.1 told.4 g
