-- A junction as what it asks for, and plans for it. Assumes nothing: these are definitions.
use Rattle.std.specs.Prelude.{ℕ, Bool}
use Rattle.greens.specs.declared.lights.Green.{Green}

-- streams of traffic numbered from 0, in a cycle of so many seconds: how long each one's green has to be at least, how many come in a cycle,
-- which cross, and how many seconds have to be clear after the end of the one's green before the other's may begin
pub record Site : Type 0 where
  pub streams : ℕ
  pub cycle : ℕ
  pub least : ℕ → ℕ
  pub comes : ℕ → ℕ
  pub crosses : ℕ → ℕ → Bool
  pub clear : ℕ → ℕ → ℕ

-- a plan: any function from streams to greens
abbrev pub Greens : Type 0
Greens = ℕ → Green
