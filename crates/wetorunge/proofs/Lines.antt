-- The junctions of a text printed one after the other.
use Rattle.std.proofs.Common.{◌≡◌, ℕ, Bool, true, false, cond, ◌||◌, List, [], ◌∷◌, ◌++◌, Option, sym, refl, ap, ◌∙◌, subst, subst₂}
use Rattle.std.proofs.lemmas.List.{append_assoc}
use Rattle.greens.specs.declared.plans.Plan.{Plan}
use Rattle.greens.specs.declared.seconds.Cycle.{Cycle}
use Rattle.greens.specs.Plans.{green_of}
use Rattle.crossing.specs.declared.junctions.Junction.{Junction}
use Rattle.crossing.specs.Good.{worst, Best}
use Rattle.crossing.specs.Taken.{site_of}
use Rattle.texts.specs.Answers.{answer_line}
use Rattle.texts.specs.Printed.{Adds}
use Rattle.texts.specs.Rings.{rings}
use Rattle.texts.specs.Sections.{Told}
use Rattle.wetorunge.specs.Answers.{Planned, Printed, AllPrinted}

-- some junctions are printed, and others are left
pub record Sofar (all : List Told) (drawn : Bool) (out : List ℕ) (refused : Bool) (left : List Told) : Type 0 where
  pub done : List Told
  pub split : all ≡ done ++ left
  pub printed : AllPrinted done drawn [] out refused

or_false : (a b : Bool) → a ≡ false → (a || b) ≡ (b || false)
or_false true b is = elim b as (λ v. true ≡ (v || false)) [ true ↦ refl | false ↦ is ]
or_false false true is = refl
or_false false false is = refl

or_assoc : (a b c d : Bool) → d ≡ (a || b) → (d || c) ≡ (a || (b || c))
or_assoc true b c d is = rw is
or_assoc false b c d is = rw is

-- one junction more is printed after those that are
all_push : (done : List Told) (t : Told) (drawn : Bool) (before middle after : List ℕ) (refused one : Bool) → AllPrinted done drawn before middle refused →
    Printed t drawn middle after one → AllPrinted (done ++ (t ∷ [])) drawn before after (refused || one)
all_push [] t drawn before middle after refused one all here =
    (after, one, false, subst (λ (m : List ℕ). Printed t drawn m after one) all.0 here, (refl, refl), or_false refused one all.1)
all_push (d ∷ ds) t drawn before middle after refused one all here =
    (all.0, all.1, all.2 || one, all.3, all_push ds t drawn all.0 middle after all.2 one all.4 here, or_assoc all.1 all.2 one refused all.5)

pub sofar_more : (all : List Told) (drawn : Bool) (out next : List ℕ) (refused one : Bool) (left rest : List Told) (t : Told) → Sofar all drawn out refused left → left ≡ t ∷ rest →
    Printed t drawn out next one → Sofar all drawn next (refused || one) rest
sofar_more all drawn out next refused one left rest t before is here = record {
  done = before.done ++ (t ∷ []);
  split = before.split ∙ (ap (λ (l : List Told). before.done ++ l) is ∙ sym (append_assoc before.done (t ∷ []) rest));
  printed = all_push before.done t drawn [] out next refused one before.printed here;
}

-- an answer line and its rings, if they were drawn, are what is printed for a best plan
pub planned_in : (t : Told) (drawn : Bool) (j : Junction) (p : Plan) (w : ℕ) (before middle after : List ℕ) (title : Option (List ℕ)) (names again : List (List ℕ)) (cycle : Cycle) →
    title ≡ t.name → names ≡ t.said.names → again ≡ t.said.names → cycle ≡ j.cycle → Best (site_of j) (green_of p.greens) → w ≡ worst (site_of j) (green_of p.greens) →
    Adds before middle (answer_line title names (green_of p.greens) w) → Adds middle after (cond drawn (rings cycle.seconds again (green_of p.greens)) []) → Planned t drawn j before after
planned_in t drawn j p w before middle after title names again cycle is_title is_names is_again is_cycle best spares one two =
    let line : List ℕ = answer_line t.name t.said.names (green_of p.greens) w in
    let tail : List ℕ = cond drawn (rings j.cycle.seconds t.said.names (green_of p.greens)) [] in
    let first : middle ≡ before ++ line = subst₂ (λ (x : Option (List ℕ)) (ns : List (List ℕ)). middle ≡ before ++ answer_line x ns (green_of p.greens) w) is_title is_names one.is in
    let second : after ≡ middle ++ tail
    = subst₂ (λ (x : Cycle) (ns : List (List ℕ)). after ≡ middle ++ cond drawn (rings x.seconds ns (green_of p.greens)) []) is_cycle is_again two.is
    in
    record { plan = p; spare = w; is_best = best; spares = spares; is = second ∙ (ap (λ (m : List ℕ). m ++ tail) first ∙ append_assoc before line tail) }
