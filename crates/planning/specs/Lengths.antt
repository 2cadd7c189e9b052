-- Plans that leave so much to spare, and greens that are no longer than that asks for. Assumes nothing: these are definitions.
use Rattle.std.specs.Prelude.{◌≡◌, ℕ, ◌≤◌, true, Some, None, Option}
use Rattle.greens.specs.declared.plans.Plan.{Plan}
use Rattle.greens.specs.Plans.{green_of}
use Rattle.crossing.specs.Site.{Site, Greens}
use Rattle.crossing.specs.Good.{good, enough, worst, Best, NoPlan}
use Rattle.groups.specs.Groups.{asked}
use Rattle.planning.specs.declared.tries.Found.{Found}

-- a good plan in which all can go leaves every stream at least w to spare
pub record Leaves (j : Site) (w : ℕ) (p : Greens) : Type 0 where
  pub is_good : good j p ≡ true
  pub all_go : enough j p ≡ true
  pub spares : w ≤ worst j p

-- the plan that begins as it is told, each green just as long as it has to be for w to spare
abbrev pub plan_for : Site → (w : ℕ) (begins : ℕ → ℕ) → Greens
plan_for j w begins k = record { from = begins k; long = asked j w k }

-- a plan with each green cut to what it has to be for w to spare
abbrev pub cut : Site → (w : ℕ) → Greens → Greens
cut j w p = plan_for j w (λ k. (p k).from)

-- no plan leaves every stream w to spare
pub record Beyond (j : Site) (w : ℕ) : Type 0 where
  pub none : (q : Greens) → Leaves j w q → ⊥

-- what looking for a plan that leaves w to spare answers
abbrev pub Leaving : Site → (w : ℕ) → Option Plan → Type 0
Leaving j w None = Beyond j w
Leaving j w (Some p) = Leaves j w (green_of p.greens)

-- what looking for a best plan answers: one, with what its worst-off stream has to spare, or that there is none in which all can go
abbrev pub BestFound : Site → Option Found → Type 0
BestFound j None = NoPlan j
BestFound j (Some f) = Best j (green_of f.plan.greens) × (f.spare ≡ worst j (green_of f.plan.greens))
