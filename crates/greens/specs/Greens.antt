-- A green on a cycle. Assumes nothing: these are definitions.
use Rattle.std.specs.Prelude.{ℕ, zero, suc, ◌+◌, Bool, cond, nat_lt}
use Rattle.greens.specs.Circle.{after}
use Rattle.greens.specs.declared.lights.Green.{Green}

-- a green is on in a second that comes after its first second by less than it is long
unfoldable pub on : (cycle : ℕ) → Green → (s : ℕ) → Bool
on cycle g s = nat_lt (after cycle g.from s) g.long

-- in how many of the seconds 0 to n - 1 a test holds
unfoldable pub count_to : (n : ℕ) → (ℕ → Bool) → ℕ
count_to zero test = 0
count_to (suc n) test = count_to n test + cond (test n) 1 0
