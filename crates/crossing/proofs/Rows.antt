-- Places in a table with a number for each two of n streams, row by row.
use Rattle.std.proofs.Common.{◌≡◌, ℕ, suc, ◌+◌, ◌*◌, ◌<◌, ◌≤◌, List, length, get_or, mul-le-mul_right, suc-mul, mul-le-mul, arith, length-drop, length-take, get_or-drop, get_or-take}
use Rattle.std.proofs.lemmas.Bool.{lt-ltb}
use Rattle.crossing.specs.declared.junctions.Junction.{Junction}
use Rattle.crossing.specs.Tables.{entry, row_of}
use Rattle.crossing.specs.Taken.{row_in}

-- a row ends within the table
pub row_ends : (a n : ℕ) → a < n → a * n + n ≤ n * n
row_ends a n h = let wide : suc a * n ≤ n * n = mul-le-mul_right n h in omega (arith, suc-mul a n)

-- a table of at most twelve streams has at most 144 numbers
pub table_most : (n : ℕ) → n ≤ 12 → n * n ≤ 144
table_most n h = mul-le-mul h h

pub row_length : (n : ℕ) (table : List ℕ) (a : ℕ) → a < n → n * n ≤ length table → length (row_of n table a) ≡ n
row_length n table a h whole = simp (length-take, length-drop) (omega (arith, row_ends a n h))

-- what stands in a row is what stands in the table
pub row_entry : (n : ℕ) (table : List ℕ) (a b : ℕ) → b < n → get_or (row_of n table a) b 0 ≡ entry n table a b
row_entry n table a b h = rw (get_or-take, get_or-drop)

module _ (j : Junction) (a b : ℕ) (row : List ℕ) (is : row ≡ row_in j a) where
  pub row_there : a < j.count → length row ≡ j.count
  row_there h =
      let whole = table_most j.count j.few.1 in
      let here = lt-ltb a j.count h in
      simp (is, here) (row_length j.count j.table a h (omega arith))

  pub row_holds : a < j.count → b < j.count → get_or row b 0 ≡ entry j.count j.table a b
  row_holds h inside = let here = lt-ltb a j.count h in simp (is, here) (row_entry j.count j.table a b inside)
