-- What is printed for a text. Assumes nothing: these are definitions.
use Rattle.std.specs.Prelude.{◌≡◌, ℕ, Bool, true, false, cond, ◌||◌, ◌⊎◌, List, [], ◌∷◌, ◌++◌, Ok, Err}
use Rattle.greens.specs.declared.plans.Plan.{Plan}
use Rattle.greens.specs.Plans.{green_of}
use Rattle.crossing.specs.declared.junctions.Junction.{Junction}
use Rattle.crossing.specs.declared.refusals.Refusal.{Refusal}
use Rattle.crossing.specs.Good.{worst, Best, NoPlan}
use Rattle.crossing.specs.Taken.{site_of}
use Rattle.texts.specs.Answers.{answer_line, none_line}
use Rattle.texts.specs.Numbers.{Answered}
use Rattle.texts.specs.Refused.{Says}
use Rattle.texts.specs.Rings.{rings}
use Rattle.texts.specs.Sections.{Told}

-- a junction that is taken has a best plan, which is printed with what it has to spare, and with its rings if they are asked for
pub record Planned (t : Told) (drawn : Bool) (j : Junction) (before after : List ℕ) : Type 0 where
  pub plan : Plan
  pub spare : ℕ
  pub is_best : Best (site_of j) (green_of plan.greens)
  pub spares : spare ≡ worst (site_of j) (green_of plan.greens)
  pub is : after ≡ before
      ++ (answer_line t.name t.said.names (green_of plan.greens) spare
      ++ cond drawn (rings j.cycle.seconds t.said.names (green_of plan.greens)) [])

-- or no plan at all is good and lets all go, and `none` is printed
pub record Planless (t : Told) (j : Junction) (before after : List ℕ) : Type 0 where
  pub none : NoPlan (site_of j)
  pub is : after ≡ before ++ none_line t.name

abbrev pub Taken : (t : Told) (drawn : Bool) (j : Junction) (before after : List ℕ) → Type 0
Taken t drawn j before after = Planned t drawn j before after ⊎ Planless t j before after

-- for a junction of a text its refusal is printed, or what was found for it
abbrev pub Printed : (t : Told) (drawn : Bool) (before after : List ℕ) (refused : Bool) → Type 0
Printed t drawn before after true = (e : Refusal) × Answered t (Err e) × Says before after t.name e
Printed t drawn before after false = (j : Junction) × Answered t (Ok j) × Taken t drawn j before after

-- for all junctions of a text that is printed in their order, and it is said whether any was refused
abbrev pub AllPrinted : List Told → (drawn : Bool) (before after : List ℕ) (refused : Bool) → Type 0
AllPrinted [] drawn before after refused = (after ≡ before) × (refused ≡ false)
AllPrinted (t ∷ ts) drawn before after refused =
    (middle : List ℕ) × (one : Bool) × (others : Bool) × Printed t drawn before middle one × AllPrinted ts drawn middle after others × (refused ≡ (one || others))
