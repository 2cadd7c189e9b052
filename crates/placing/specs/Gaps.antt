-- Gaps worked out. Assumes nothing: these are definitions.
use Rattle.std.specs.Prelude.{◌≡◌, ℕ, ◌+◌, ◌<◌, ◌≤◌, ◌⊎◌, List, [], slice_index, slice_index_or}
use Rattle.placing.specs.declared.spacing.Gaps.{Gaps}
use Rattle.placing.specs.Starts.{Task}
use Rattle.placing.specs.Orders.{gap_of}
use Rattle.placing.specs.Sizes.{most_greens}

-- the gap in row a, column b
abbrev pub gap_at : Gaps → ℕ → ℕ → ℕ
gap_at q a b = slice_index (slice_index_or q.gap a []) b

-- starts are in order with these gaps: each is in the cycle, of any two one comes first by its gap, and each comes by its gap before the other's next turn
pub record InOrder (q : Gaps) (start : ℕ → ℕ) : Type 0 where
  pub begins : (k : ℕ) → k < q.count → start k < q.cycle.seconds
  pub first : (a : ℕ) → a < q.count → (b : ℕ) → b < q.count → (start a + gap_at q a b ≤ start b) ⊎ (start b + gap_at q b a ≤ start a)
  pub round : (a : ℕ) → a < q.count → (b : ℕ) → b < q.count → start a + gap_at q a b ≤ start b + q.cycle.seconds

-- the gaps are those of a task
pub record Measured (t : Task) (q : Gaps) : Type 0 where
  pub count : q.count ≡ t.count
  pub cycle : q.cycle.seconds ≡ t.cycle
  pub gaps : (a : ℕ) → a < most_greens → (b : ℕ) → b < most_greens → gap_at q a b ≡ gap_of t a b

-- a row of them: those from a to each
pub record GapsFrom (t : Task) (a : ℕ) (row : List ℕ) : Type 0 where
  pub each : a < most_greens → (b : ℕ) → b < most_greens → slice_index row b ≡ gap_of t a b
