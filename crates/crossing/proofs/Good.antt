-- Taking `good`, `enough` and `apart` apart, and putting them together.
use Rattle.std.proofs.Common.{◌≡◌, ℕ, ◌+◌, ◌<◌, ◌≤◌, Bool, true, false, not, ◌&&◌, ◌||◌, eqb, ltb, leb, ⊎_elim, arith}
use Rattle.std.proofs.lemmas.Bool.{and_parts, and_from, ltb-true, leb-true, lt-ltb, le-leb, ne_eqb, not-true, not_from_false, eq-eqb, cases_Bool, cases_eq, cases_lt}
use Rattle.std.proofs.lemmas.Bool.Decides.{nat_tests}
use Rattle.greens.specs.declared.lights.Green.{Green}
use Rattle.greens.specs.Circle.{after}
use Rattle.greens.specs.Greens.{on}
use Rattle.crossing.specs.Below.{all_to}
use Rattle.crossing.specs.Site.{Site, Greens}
use Rattle.crossing.specs.Good.{close, apart, fits, good, enough}
use Rattle.crossing.proofs.Below.{all_out, all_in}

-- what a fitting green is
pub record Fitting (j : Site) (k : ℕ) (g : Green) : Type 0 where
  pub begins : g.from < j.cycle
  pub least_long : j.least k ≤ g.long
  pub within : g.long ≤ j.cycle

pub fits_out : (j : Site) (k : ℕ) (g : Green) → fits j k g ≡ true → Fitting j k g
unfolding fits
fits_out j k g e =
    let parts = and_parts (ltb g.from j.cycle) (leb (j.least k) g.long && leb g.long j.cycle) e in
    let rest = and_parts (leb (j.least k) g.long) (leb g.long j.cycle) parts.1 in
    record {
      begins = ltb-true g.from j.cycle parts.0;
      least_long = leb-true (j.least k) g.long rest.0;
      within = leb-true g.long j.cycle rest.1;
    }

pub fits_in : (j : Site) (k : ℕ) (g : Green) → Fitting j k g → fits j k g ≡ true
unfolding fits
fits_in j k g f =
    and_from _ _ (lt-ltb _ _ f.begins) (and_from _ _ (le-leb _ _ f.least_long) (le-leb _ _ f.within))

-- what a good plan is: every green fits, and of two that cross each keeps apart from the other
pub record GoodPlan (j : Site) (p : Greens) : Type 0 where
  pub fitting : (k : ℕ) → k < j.streams → Fitting j k (p k)
  pub keeps : (a : ℕ) → a < j.streams → (b : ℕ) → b < j.streams → j.crosses a b ≡ true → (a ≡ b → ⊥) → apart j.cycle (j.clear a b) (p a) (p b) ≡ true

keep : Site → Greens → ℕ → ℕ → Bool
keep j p a b = not (j.crosses a b) || (eqb a b || apart j.cycle (j.clear a b) (p a) (p b))

pub good_out : (j : Site) (p : Greens) → good j p ≡ true → GoodPlan j p
unfolding good keep
good_out j p e =
    let parts = and_parts (all_to j.streams (λ k. fits j k (p k))) (all_to j.streams (λ a. all_to j.streams (keep j p a))) e in
    record {
      fitting = λ k h. fits_out j k (p k) (all_out j.streams (λ i. fits j i (p i)) parts.0 k h);
      keeps = λ a ha b hb crosses differ.
          let kept : keep j p a b ≡ true = all_out j.streams (keep j p a) (all_out j.streams (λ i. all_to j.streams (keep j p i)) parts.1 a ha) b hb in
          let other : eqb a b ≡ false = ne_eqb a b differ in
          rw (crosses, other) at kept;
    }

pub good_in : (j : Site) (p : Greens) → GoodPlan j p → good j p ≡ true
unfolding good keep
good_in j p g =
    and_from _ _ (all_in j.streams (λ k. fits j k (p k)) (λ k h. fits_in j k (p k) (g.fitting k h)))
    (all_in j.streams (λ a. all_to j.streams (keep j p a)) (λ a ha. all_in j.streams (keep j p a) (λ b hb.
    ⊎_elim
    (λ (crosses : j.crosses a b ≡ true).
    ⊎_elim
    (λ (same : a ≡ b). let e : eqb a b ≡ true = eq-eqb a b same in grind (arith, nat_tests))
    (λ (differ : a ≡ b → ⊥). let e : apart j.cycle (j.clear a b) (p a) (p b) ≡ true = g.keeps a ha b hb crosses differ in grind (arith, nat_tests))
    (cases_eq a b))
    (λ (free : j.crosses a b ≡ false). rw free)
    (cases_Bool (j.crosses a b)))))

pub enough_out : (j : Site) (p : Greens) → enough j p ≡ true → (k : ℕ) → k < j.streams → j.comes k ≤ (p k).long
unfolding enough
enough_out j p e k h = leb-true (j.comes k) (p k).long (all_out j.streams (λ i. leb (j.comes i) (p i).long) e k h)

pub enough_in : (j : Site) (p : Greens) → ((k : ℕ) → k < j.streams → j.comes k ≤ (p k).long) → enough j p ≡ true
unfolding enough
enough_in j p each = all_in j.streams (λ k. leb (j.comes k) (p k).long) (λ k h. le-leb _ _ (each k h))

-- two greens apart: in no second of a green with seconds, nor of what has to be clear after it, is the other on
pub apart_out : (c clear : ℕ) (g h : Green) → apart c clear g h ≡ true → (s : ℕ) → s < c → 1 ≤ g.long → after c g.from s < g.long + clear → on c h s ≡ false
unfolding apart close
apart_out c clear g h e s within some soon =
    let clear_here = not-true (close c clear g h s) (all_out c (λ t. not (close c clear g h t)) e s within) in
    let a : ltb 0 g.long ≡ true = lt-ltb _ _ (omega arith) in
    let b : ltb (after c g.from s) (g.long + clear) ≡ true = lt-ltb _ _ soon in
    grind (arith, nat_tests)

pub apart_in : (c clear : ℕ) (g h : Green) → ((s : ℕ) → s < c → 1 ≤ g.long → after c g.from s < g.long + clear → on c h s ≡ false) → apart c clear g h ≡ true
unfolding apart close
apart_in c clear g h each = all_in c (λ t. not (close c clear g h t)) (λ s within. not_from_false (close c clear g h s)
    (⊎_elim
    (λ (soon : after c g.from s < g.long + clear).
    ⊎_elim
    (λ (some : 0 < g.long). let off : on c h s ≡ false = each s within some soon in grind (arith, nat_tests))
    (λ (none : g.long ≤ 0). grind (arith, nat_tests))
    (cases_lt 0 g.long))
    (λ (late : g.long + clear ≤ after c g.from s). grind (arith, nat_tests))
    (cases_lt (after c g.from s) (g.long + clear))))
