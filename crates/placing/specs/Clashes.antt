-- Two greens that aren't in order where each begins as early as its bounds allow. Assumes nothing: these are definitions.
use Rattle.std.specs.Prelude.{ℕ, ◌+◌, ◌<◌, ◌≤◌, ◌⊎◌}
use Rattle.placing.specs.declared.room.Bounds.{Bounds}
use Rattle.placing.specs.declared.spacing.Gaps.{Gaps}
use Rattle.placing.specs.Gaps.{gap_at}
use Rattle.placing.specs.Bounds.{low_of}

-- of a and b one comes first by its gap, at their low bounds
abbrev pub OneFirst : Gaps → Bounds → (a b : ℕ) → Type 0
OneFirst q s a b = (low_of s a + gap_at q a b ≤ low_of s b) ⊎ (low_of s b + gap_at q b a ≤ low_of s a)

-- neither does
pub record Clashing (q : Gaps) (s : Bounds) (a b : ℕ) : Type 0 where
  pub one : a < q.count
  pub other : b < q.count
  pub there : low_of s b < low_of s a + gap_at q a b
  pub back : low_of s a < low_of s b + gap_at q b a
