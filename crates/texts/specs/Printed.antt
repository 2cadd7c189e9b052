-- Something printed after what is there. Assumes nothing: these are definitions.
use Rattle.std.specs.Prelude.{◌≡◌, ℕ, List, ◌++◌, Result, OnOk}
use Rattle.std.specs.Borrow.{Bor}
use Rattle.greens.specs.declared.lights.Green.{Green}

-- after is what was there before, and then these bytes
pub record Adds (before after bytes : List ℕ) : Type 0 where
  pub is : after ≡ before ++ bytes

-- after is what was there before, and then something
pub record Grows (before after : List ℕ) : Type 0 where
  pub rest : List ℕ
  pub is : after ≡ before ++ rest

-- each call of a function puts a piece, by a name and its green
abbrev pub Puts : {Out E : Type 0} → (items : Out → List ℕ) → (called : Out → Bor (List ℕ) → Green → Result (Unit {0}) E → Out → Type 0) → (piece : List ℕ → Green → List ℕ) → Type 0
Puts {Out} {E} items called piece =
    (old : Out) (name : Bor (List ℕ)) (green : Green) (result : Result (Unit {0}) E) (new : Out) → called old name green result new → OnOk result (Adds (items old) (items new) (piece name.now green))
