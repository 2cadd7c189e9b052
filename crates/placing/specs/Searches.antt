-- One green put before another, and what a search gives. Assumes nothing: these are definitions.
use Rattle.std.specs.Prelude.{◌≡◌, ℕ, ◌+◌, ◌-◌, ◌<◌, ◌≤◌, min, false, slice_index}
use Rattle.placing.specs.declared.answers.Starts.{Starts}
use Rattle.placing.specs.declared.room.Bounds.{Bounds}
use Rattle.placing.specs.declared.spacing.Gaps.{Gaps}
use Rattle.placing.specs.declared.settings.Setting.{Setting}
use Rattle.placing.specs.Gaps.{gap_at}
use Rattle.placing.specs.Orders.{Ordered}
use Rattle.placing.specs.Bounds.{Obeys, before_of, low_of, high_of, room_of}
use Rattle.placing.specs.Sizes.{most_greens}

-- a put before b: who obeys and has a first obeys still, and the other way round; where b's low bound was too early for that there is less room
pub record Put (q : Gaps) (s t : Bounds) (a b : ℕ) : Type 0 where
  pub keeps : (start : ℕ → ℕ) → Obeys q s start → start a + gap_at q a b ≤ start b → Obeys q t start
  pub back : (start : ℕ → ℕ) → Obeys q t start → Obeys q s start
  pub less : low_of s b < low_of s a + gap_at q a b → room_of t < room_of s

-- a can't be put before b: nobody who obeys has a first
abbrev pub NotFirst : Gaps → Bounds → (a b : ℕ) → Type 0
NotFirst q s a b = (start : ℕ → ℕ) → Obeys q s start → start a + gap_at q a b ≤ start b → ⊥

-- the start of each green
abbrev pub start_of : Starts → ℕ → ℕ
start_of r k = slice_index r.at k

-- starts found: they are in order and obey the bounds
pub record Found (q : Gaps) (s : Bounds) (start : ℕ → ℕ) : Type 0 where
  pub ordered : Ordered q.count q.cycle.seconds (gap_at q) start
  pub obeys : Obeys q s start

-- the bounds that a search begins with: the window of each green, as far as it is in the cycle, and nothing put before anything
pub record Open (g : Setting) (s : Bounds) : Type 0 where
  pub low : s.low ≡ g.lowest
  pub high : (k : ℕ) → k < most_greens → high_of s k ≡ min (slice_index g.highest k) (g.cycle.seconds - 1)
  pub before : (a b : ℕ) → before_of s a b ≡ false
