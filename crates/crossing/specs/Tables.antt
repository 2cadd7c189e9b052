-- A table with a number for each two of n streams, row by row. Assumes nothing: these are definitions.
use Rattle.std.specs.Prelude.{ℕ, ◌+◌, ◌*◌, Bool, not, ◌||◌, List, take, drop, nat_lt, slice_index}
use Rattle.crossing.specs.Below.{all_to}

-- the number in row a, column b: 0 if the two don't cross, else one more than the seconds to clear after a before b
abbrev pub entry : (n : ℕ) (table : List ℕ) (a b : ℕ) → ℕ
entry n table a b = slice_index table (a * n + b)

-- two streams cross
abbrev pub crossing : (n : ℕ) (table : List ℕ) (a b : ℕ) → Bool
crossing n table a b = nat_lt 0 (entry n table a b)

-- what crosses goes for both ways
unfoldable pub both_ways : (n : ℕ) (table : List ℕ) → Bool
both_ways n table = all_to n (λ a. all_to n (λ b. not (crossing n table a b) || crossing n table b a))

-- row a
abbrev pub row_of : (n : ℕ) (table : List ℕ) (a : ℕ) → List ℕ
row_of n table a = take n (drop (a * n) table)
