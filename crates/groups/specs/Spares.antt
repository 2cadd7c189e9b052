-- How much a junction's plans can have to spare at most. Assumes nothing: these are definitions.
use Rattle.std.specs.Prelude.{◌≡◌, ℕ, ◌<◌, ◌≤◌, true, Some, None, Option}
use Rattle.crossing.specs.Site.{Site, Greens}
use Rattle.crossing.specs.Good.{good, enough, worst, NoPlan}

-- every good plan in which all can go leaves its worst-off stream less than w to spare; if w is 0, there is no such plan
pub record Under (j : Site) (w : ℕ) : Type 0 where
  pub each : (q : Greens) → good j q ≡ true → enough j q ≡ true → worst j q < w

-- no good plan in which all can go leaves its worst-off stream more than w to spare, or there is no such plan at all
abbrev pub AtMost : Site → Option ℕ → Type 0
AtMost j (Some w) = (q : Greens) → good j q ≡ true → enough j q ≡ true → worst j q ≤ w
AtMost j None = NoPlan j
