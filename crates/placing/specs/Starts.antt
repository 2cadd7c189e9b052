-- What it is to place greens of given lengths. Assumes nothing: these are definitions.
use Rattle.std.specs.Prelude.{◌≡◌, ℕ, ◌<◌, ◌≤◌, Bool, true, ◌≢◌}
use Rattle.greens.specs.declared.lights.Green.{Green}
use Rattle.crossing.specs.Good.{apart}

-- greens on a cycle to be placed: how many, how long each is, which two cross, what has to be clear after the one before the other,
-- and the window in which each may begin
pub record Task : Type 0 where
  pub count : ℕ
  pub cycle : ℕ
  pub long : ℕ → ℕ
  pub crosses : ℕ → ℕ → Bool
  pub clear : ℕ → ℕ → ℕ
  pub lowest : ℕ → ℕ
  pub highest : ℕ → ℕ

-- a green of a task that begins in a second
abbrev pub green_at : Task → (start : ℕ → ℕ) → ℕ → Green
green_at t start k = record { from = start k; long = t.long k }

-- starts place the greens: each begins in the cycle and in its window, and of two that cross each keeps apart from the other
pub record Placed (t : Task) (start : ℕ → ℕ) : Type 0 where
  pub begins : (k : ℕ) → k < t.count → start k < t.cycle
  pub window : (k : ℕ) → k < t.count → (t.lowest k ≤ start k) × (start k ≤ t.highest k)
  pub keeps : (a : ℕ) → a < t.count → (b : ℕ) → b < t.count → t.crosses a b ≡ true → (a ≢ b) → apart t.cycle (t.clear a b) (green_at t start a) (green_at t start b) ≡ true
