-- What the steps of a judgement say of a plan.
use Rattle.std.proofs.Common.{◌≡◌, ℕ, ◌<◌, true, false, not, eqb, Option, Some, None, sym, subst}
use Rattle.std.specs.Prelude.{Err, MatchOption}
use Rattle.std.proofs.lemmas.Bool.{ne_eqb, not_from_false, not-false, not-true}
use Rattle.crossing.specs.declared.judging.Fault.TheVariants.{Unfit, TooClose}
use Rattle.crossing.specs.Below.{found_to}
use Rattle.crossing.specs.Site.{Site, Greens}
use Rattle.crossing.specs.Good.{close, apart, fits, good}
use Rattle.crossing.specs.Verdicts.{Judged, AllFit, AllApart, Calm, FirstClose, clash}
use Rattle.crossing.proofs.Below.{all_in, found_says}
use Rattle.crossing.proofs.Good.{fits_out, good_in}

-- where every green fits and no second is too close the plan is good
pub calm_good : (j : Site) (p : Greens) → AllFit j p → AllApart j p → good j p ≡ true
unfolding apart
calm_good j p fit calm =
    good_in j p
    (record {
      fitting = λ k h. fits_out j k (p k) (fit k h);
      keeps = λ a ha b hb crosses differ. all_in j.cycle (λ s. not (close j.cycle (j.clear a b) (p a) (p b) s))
          (λ s h.
          let none : clash j p a b s ≡ false = calm s h a ha b hb in
          let other : eqb a b ≡ false = ne_eqb a b differ in
          not_from_false _ (rw (crosses, other) at none));
    })

module _ (j : Site) (p : Greens) where
  -- the first stream whose green doesn't fit
  pub unfit_told : (k : ℕ) → Some k ≡ found_to j.streams (λ i. not (fits j i (p i))) → Judged j p (Err (Unfit k))
  unfit_told k is =
      let says = found_says j.streams (λ i. not (fits j i (p i))) (Some k) is in
      (says.0, not-true _ says.1, λ i early. not-false _ (says.2 i early))

  pub fit_told : None ≡ found_to j.streams (λ i. not (fits j i (p i))) → AllFit j p
  fit_told is = λ k h. not-false _ (found_says j.streams (λ i. not (fits j i (p i))) None is k h)

  -- the first second in which two are too close, and the first two
  abbrev pub Closest : ℕ × ℕ × ℕ → Type 0
  Closest three = (i : ℕ) × (i < j.cycle) × ((three.0 ≡ i) × FirstClose j p i three.1 three.2) × ((k : ℕ) → k < i → Calm j p k)

  pub close_told : (r : Option (ℕ × ℕ × ℕ)) (three : ℕ × ℕ × ℕ) → r ≡ Some three → MatchOption r (AllApart j p) Closest → AllFit j p → Judged j p (Err (TooClose three.0 three.1 three.2))
  close_told r three is told fit =
      let here : Closest three = subst (λ o. MatchOption o (AllApart j p) Closest) is told in
      let close = here.2.1 in
      subst (λ s. Judged j p (Err (TooClose s three.1 three.2))) (sym here.2.0)
      (fit, here.1, close.0, close.1, close.2, here.3, close.3, close.4)

  pub apart_told : (r : Option (ℕ × ℕ × ℕ)) → r ≡ None → MatchOption r (AllApart j p) Closest → AllApart j p
  apart_told r is told = subst (λ o. MatchOption o (AllApart j p) Closest) is told
