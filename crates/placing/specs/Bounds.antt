-- Starts within bounds, and bounds made narrower. Assumes nothing: these are definitions.
use Rattle.std.specs.Prelude.{◌≡◌, ℕ, ◌+◌, ◌-◌, ◌<◌, ◌≤◌, Bool, true, false, List, [], ◌∷◌, slice_index, slice_index_or, slice_set}
use Rattle.placing.specs.declared.room.Bounds.{Bounds}
use Rattle.placing.specs.declared.spacing.Gaps.{Gaps}
use Rattle.placing.specs.Gaps.{gap_at, InOrder}

-- the first second in which a green may begin
abbrev pub low_of : Bounds → ℕ → ℕ
low_of s k = slice_index s.low k

-- and the last
abbrev pub high_of : Bounds → ℕ → ℕ
high_of s k = slice_index s.high k

-- a has been put before b
abbrev pub before_of : Bounds → ℕ → ℕ → Bool
before_of s a b = slice_index_or (slice_index_or s.before a []) b false

-- starts obey the bounds: each is within its own, and what has been put before another comes first by its gap
pub record Obeys (q : Gaps) (s : Bounds) (start : ℕ → ℕ) : Type 0 where
  pub low : (k : ℕ) → k < q.count → low_of s k ≤ start k
  pub high : (k : ℕ) → k < q.count → start k ≤ high_of s k
  pub order : (a : ℕ) → a < q.count → (b : ℕ) → b < q.count → before_of s a b ≡ true → start a + gap_at q a b ≤ start b

-- nobody obeys: no starts in order do
abbrev pub Nobody : Gaps → Bounds → Type 0
Nobody q s = (start : ℕ → ℕ) → InOrder q start → Obeys q s start → ⊥

-- bounds made narrower: what is in order obeys the narrower if it obeyed the wider, and the other way round
pub record Narrower (q : Gaps) (s t : Bounds) : Type 0 where
  pub keeps : (start : ℕ → ℕ) → InOrder q start → Obeys q s start → Obeys q t start
  pub back : (start : ℕ → ℕ) → Obeys q t start → Obeys q s start

-- for how many seconds in all the bounds leave a choice
unfoldable pub room : (low high : List ℕ) → ℕ
room [] high = 0
room (l ∷ low) [] = 0
room (l ∷ low) (h ∷ high) = (h - l) + room low high

-- the room of bounds
abbrev pub room_of : Bounds → ℕ
room_of s = room s.low s.high

-- a green's low bound raised to a second, where that is above it
pub record Raised (s t : Bounds) (k to : ℕ) (moved : Bool) : Type 0 where
  pub still : moved ≡ false → t ≡ s
  pub enough : moved ≡ false → (to ≤ low_of s k) × (low_of s k ≤ high_of s k)
  pub low : moved ≡ true → t.low ≡ slice_set s.low k to
  pub same : (t.high ≡ s.high) × (t.before ≡ s.before)
  pub fits : moved ≡ true → (low_of s k < to) × (to ≤ high_of s k)

-- a green's high bound lowered to a second, where that is below it
pub record Lowered (s t : Bounds) (k to : ℕ) (moved : Bool) : Type 0 where
  pub still : moved ≡ false → t ≡ s
  pub high : moved ≡ true → t.high ≡ slice_set s.high k to
  pub same : (t.low ≡ s.low) × (t.before ≡ s.before)
  pub fits : moved ≡ true → (to < high_of s k) × (low_of s k ≤ to)
