-- The least of a figure over the numbers below a number that pass a test. Assumes nothing: these are definitions.
use Rattle.std.specs.Prelude.{ℕ, zero, suc, min, Bool, false, cond, ◌||◌}

-- some number below n passes the test
unfoldable pub some_to : (n : ℕ) → (ℕ → Bool) → Bool
some_to zero test = false
some_to (suc n) test = test n || some_to n test

-- the least of a figure over the numbers below n that pass the test; 0 where none does
unfoldable pub least_among : (n : ℕ) → (ℕ → Bool) → (ℕ → ℕ) → ℕ
least_among zero test figure = 0
least_among (suc n) test figure =
    cond (test n) (cond (some_to n test) (min (figure n) (least_among n test figure)) (figure n)) (least_among n test figure)
