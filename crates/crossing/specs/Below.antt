-- Tests and figures over the numbers below a number. Assumes nothing: these are definitions.
use Rattle.std.specs.Prelude.{ℕ, zero, suc, ◌+◌, min, Bool, true, cond, ◌&&◌, nat_lt, Option, Some, None}

-- each number below n passes the test
unfoldable pub all_to : (n : ℕ) → (ℕ → Bool) → Bool
all_to zero test = true
all_to (suc n) test = test n && all_to n test

-- the first number below n that passes the test, or n where none does
unfoldable pub first_to : (n : ℕ) → (ℕ → Bool) → ℕ
first_to zero test = 0
first_to (suc n) test = cond (nat_lt (first_to n test) n) (first_to n test) (cond (test n) n (suc n))

-- the same, and none where none does
abbrev pub found_to : (n : ℕ) → (ℕ → Bool) → Option ℕ
found_to n test = cond (nat_lt (first_to n test) n) (Some (first_to n test)) None

-- the least of a figure over the numbers below n, and of a bound
unfoldable pub least_to : (n : ℕ) → (ℕ → ℕ) → (bound : ℕ) → ℕ
least_to zero figure bound = bound
least_to (suc n) figure bound = min (figure n) (least_to n figure bound)

-- the sum of a figure over the numbers below n
unfoldable pub sum_to : (n : ℕ) → (ℕ → ℕ) → ℕ
sum_to zero figure = 0
sum_to (suc n) figure = sum_to n figure + figure n
