-- The two junctions worked by hand.
use Rattle.std.proofs.Common.{◌≡◌, ℕ, ◌+◌, ◌<◌, ◌≤◌, true, refl, ⊎_elim, arith}
use Rattle.std.proofs.lemmas.Bool.{cases_lt, both_ways, lt-ltb}
use Rattle.greens.specs.declared.lights.Green.{Green}
use Rattle.greens.specs.Circle.{after}
use Rattle.greens.specs.Greens.{on}
use Rattle.greens.proofs.Circle.{after_cases}
use Rattle.crossing.specs.Below.{all_to, least_to}
use Rattle.crossing.specs.Good.{close, apart, fits, good, enough, spare, worst}
use Rattle.crossing.proofs.Good.{Fitting, GoodPlan, good_out, enough_out, apart_out}
use Rattle.planning.specs.Worked.{too_much, TooMuch, side_by_side, NineToSpare}
use Rattle.planning.proofs.Worst.{worst_out, spare_long}

-- a green is on in its first second
on_first : (c : ℕ) (g : Green) → g.from < c → 1 ≤ g.long → on c g g.from ≡ true
unfolding on
on_first c g begins some = lt-ltb (after c g.from g.from) g.long (omega (arith, after_cases c g.from g.from begins begins))

-- of two greens that are apart, the second begins no sooner than the first has ended and its seconds to clear are over
pub apart_begin : (c clear : ℕ) (g h : Green) → h.from < c → 1 ≤ g.long → 1 ≤ h.long → apart c clear g h ≡ true → g.long + clear ≤ after c g.from h.from
apart_begin c clear g h begins some other e =
    ⊎_elim
    (λ (soon : after c g.from h.from < g.long + clear).
    absurd (both_ways (on c h h.from) (apart_out c clear g h e h.from begins some soon) (on_first c h begins other)))
    (λ (ClearOf : g.long + clear ≤ after c g.from h.from). ClearOf)
    (cases_lt (after c g.from h.from) (g.long + clear))

pub too_much_none : TooMuch
too_much_none q g e =
    let parts : GoodPlan too_much q = good_out too_much q g in
    let first : Fitting too_much 0 (q 0) = parts.fitting 0 (omega arith) in
    let second : Fitting too_much 1 (q 1) = parts.fitting 1 (omega arith) in
    let five : 5 ≤ (q 0).long = enough_out too_much q e 0 (omega arith) in
    let four : 4 ≤ (q 1).long = enough_out too_much q e 1 (omega arith) in
    let forth = apart_begin 12 2 (q 0) (q 1) second.begins (omega arith) (omega arith)
    (parts.keeps 0 (omega arith) 1 (omega arith) refl (λ same. omega arith))
    in
    let back = apart_begin 12 2 (q 1) (q 0) first.begins (omega arith) (omega arith)
    (parts.keeps 1 (omega arith) 0 (omega arith) refl (λ same. omega arith))
    in
    omega (arith, after_cases 12 (q 0).from (q 1).from first.begins second.begins, after_cases 12 (q 1).from (q 0).from second.begins first.begins)

pub nine_to_spare : NineToSpare
unfolding all_to least_to close apart fits good enough spare worst on after
nine_to_spare = (
  record {
    is_good = refl;
    all_go = refl;
    most = λ q g e.
        let fit : Fitting side_by_side 0 (q 0) = (good_out side_by_side q g).fitting 0 (omega arith) in
        omega (arith, worst_out side_by_side q (worst side_by_side q) (omega arith) 0 (omega arith), spare_long side_by_side q e 0 (omega arith), fit.within);
  },
  refl,
)
