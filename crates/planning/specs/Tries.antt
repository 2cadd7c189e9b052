-- What trying all plans gives. Assumes nothing: these are definitions.
use Rattle.std.specs.Prelude.{◌≡◌, ℕ, ◌<◌, ◌≤◌, true, Some, None, Option, Ok, Err, Result, ◌≢◌}
use Rattle.greens.specs.Plans.{green_of}
use Rattle.crossing.specs.declared.junctions.Junction.{Junction}
use Rattle.crossing.specs.Site.{Site, Greens}
use Rattle.crossing.specs.Good.{good, enough, worst, Best, NoPlan}
use Rattle.crossing.specs.Taken.{site_of}
use Rattle.planning.specs.declared.tries.Found.{Found}
use Rattle.planning.specs.declared.tries.TooMany.{TooMany}

-- the plan that was found
abbrev pub greens_of : Found → Greens
greens_of f = green_of f.plan.greens

-- what a plan's worst-off stream has to spare, given only where the plan is good and all can go
abbrev pub Spared : Site → Greens → Option ℕ → Type 0
Spared j p None = good j p ≡ true → enough j p ≢ true
Spared j p (Some spare) = (good j p ≡ true) × (enough j p ≡ true) × (spare ≡ worst j p)

-- what was found is a good plan in which all can go, with what its worst-off stream has to spare
pub record Right (j : Site) (f : Found) : Type 0 where
  pub is_good : good j (greens_of f) ≡ true
  pub all_go : enough j (greens_of f) ≡ true
  pub spares : f.spare ≡ worst j (greens_of f)

-- what may have been found
abbrev pub RightSoFar : Site → Option Found → Type 0
RightSoFar j None = Unit {0}
RightSoFar j (Some f) = Right j f

-- a plan is no better than what was found: if it is good and lets all go, something was found that leaves as much to spare
abbrev pub NoBetter : Site → Option Found → Greens → Type 0
NoBetter j None q = good j q ≡ true → enough j q ≢ true
NoBetter j (Some f) q = good j q ≡ true → enough j q ≡ true → worst j q ≤ f.spare

-- more was tried: what is found now is right, as good as what was found before, and as good as each plan newly tried
pub record Further (j : Site) (before now : Option Found) (tried : Greens → Type 0) : Type 0 where
  pub right : RightSoFar j now
  pub kept : (q : Greens) → NoBetter j before q → NoBetter j now q
  pub new : (q : Greens) → tried q → NoBetter j now q

-- what trying all answers: a best plan and what its worst-off stream has to spare, or that no plan lets all go; more than three streams are not tried
abbrev pub AllTried : Junction → Result (Option Found) TooMany → Type 0
AllTried j (Ok (Some f)) = (j.count ≤ 3) × Best (site_of j) (greens_of f) × (f.spare ≡ worst (site_of j) (greens_of f))
AllTried j (Ok None) = (j.count ≤ 3) × NoPlan (site_of j)
AllTried j (Err _) = 3 < j.count
