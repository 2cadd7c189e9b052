-- Greens in order, with no second looked at: of any two one is over before the other begins. Assumes nothing: these are definitions.
use Rattle.std.specs.Prelude.{ℕ, ◌+◌, ◌<◌, ◌≤◌, Bool, cond, not, ◌&&◌, ◌||◌, ◌⊎◌, ◌==◌, nat_lt}
use Rattle.placing.specs.Starts.{Task}

-- two greens are tied: they are two, both have seconds, and they cross one way at least
unfoldable pub tied : Task → ℕ → ℕ → Bool
tied t a b = not (a == b) && (nat_lt 0 (t.long a) && (nat_lt 0 (t.long b) && (t.crosses a b || t.crosses b a)))

-- by how much a has to begin before b, where it comes first: a's length and what has to be clear after it, and nothing for two that aren't tied
unfoldable pub gap_of : Task → ℕ → ℕ → ℕ
gap_of t a b = cond (tied t a b) (t.long a + cond (t.crosses a b) (t.clear a b) 0) 0

-- starts are in order, with such gaps between n greens on a cycle: of any two one comes first by its gap, and each comes by its gap before the other's next turn
pub record Ordered (n c : ℕ) (gap : ℕ → ℕ → ℕ) (start : ℕ → ℕ) : Type 0 where
  pub first : (a : ℕ) → a < n → (b : ℕ) → b < n → (start a + gap a b ≤ start b) ⊎ (start b + gap b a ≤ start a)
  pub round : (a : ℕ) → a < n → (b : ℕ) → b < n → start a + gap a b ≤ start b + c
