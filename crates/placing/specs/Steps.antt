-- One step of narrowing, and where there is none left. Assumes nothing: these are definitions.
use Rattle.std.specs.Prelude.{◌≡◌, ℕ, ◌+◌, ◌<◌, ◌≤◌, Bool, true, false}
use Rattle.placing.specs.declared.room.Bounds.{Bounds}
use Rattle.placing.specs.declared.spacing.Gaps.{Gaps}
use Rattle.placing.specs.Gaps.{gap_at, InOrder}
use Rattle.placing.specs.Bounds.{Obeys, Narrower, low_of, high_of, before_of, room_of}

-- whether it is known that a comes before b: it is where a was put there, and where the answer is true it holds of all who obey
pub record Known (q : Gaps) (s : Bounds) (a b : ℕ) (known : Bool) : Type 0 where
  pub put : before_of s a b ≡ true → known ≡ true
  pub holds : known ≡ true → (start : ℕ → ℕ) → InOrder q start → Obeys q s start → start a + gap_at q a b ≤ start b

-- by how much a has to begin before b's next turn, as far as the bounds tell: by its gap, and a turn more where it comes first
pub record Far (q : Gaps) (s : Bounds) (a b far : ℕ) : Type 0 where
  pub gap : gap_at q a b ≤ far
  pub first : before_of s a b ≡ true → gap_at q a b + q.cycle.seconds ≤ far
  pub holds : (start : ℕ → ℕ) → InOrder q start → Obeys q s start → start a + far ≤ start b + q.cycle.seconds

-- the low bounds of a and b are as far apart as they have to be, and b can begin
pub record Settled (q : Gaps) (s : Bounds) (a b : ℕ) : Type 0 where
  pub fits : low_of s b ≤ high_of s b
  pub round : low_of s a + gap_at q a b ≤ low_of s b + q.cycle.seconds
  pub order : before_of s a b ≡ true → low_of s a + gap_at q a b ≤ low_of s b

-- a step from bounds to narrower ones: if nothing moved they are the same, else they leave less room
pub record Step (q : Gaps) (s t : Bounds) (moved : Bool) : Type 0 where
  pub narrower : Narrower q s t
  pub still : moved ≡ false → t ≡ s
  pub less : moved ≡ true → room_of t < room_of s

-- a step for a and b, which are settled if it moved nothing
pub record Met (q : Gaps) (s t : Bounds) (a b : ℕ) (moved : Bool) : Type 0 where
  pub step : Step q s t moved
  pub settled : moved ≡ false → Settled q t a b

-- steps for each of the first n and all, which are settled if nothing moved
pub record Round (q : Gaps) (s t : Bounds) (n : ℕ) (moved : Bool) : Type 0 where
  pub step : Step q s t moved
  pub settled : moved ≡ false → (a : ℕ) → a < n → (b : ℕ) → b < q.count → Settled q t a b

-- bounds narrowed until any two are settled
pub record Narrowed (q : Gaps) (s t : Bounds) : Type 0 where
  pub narrower : Narrower q s t
  pub less : room_of t ≤ room_of s
  pub settled : (a : ℕ) → a < q.count → (b : ℕ) → b < q.count → Settled q t a b
