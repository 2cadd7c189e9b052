-- Faults of a table, looked for row by row.
use Rattle.std.proofs.Common.{◌≡◌, ℕ, ◌+◌, ◌*◌, ◌<◌, Bool, true, false, eqb, List, Option, Some, None, get_or, refl, sym, ap, subst, ◌∙◌, arith}
use Rattle.std.specs.Prelude.{MatchOption, is_some}
use Rattle.std.specs.Option.{option_map, option_and_then}
use Rattle.std.proofs.lemmas.Bool.{both_ways}
use Rattle.crossing.specs.Numbers.{at_fault, fault, faulty_column, faulty_row, faulty_place}
use Rattle.crossing.specs.Tables.{row_of}
use Rattle.crossing.proofs.Below.{found_says, found_in}
use Rattle.crossing.proofs.Rows.{row_entry, row_ends}

-- a row's number and the one the other way tell whether the table is at fault there
pub fault_row : (n : ℕ) (row table : List ℕ) (a b : ℕ) → row ≡ row_of n table a → b < n →
    at_fault (eqb a b) (get_or row b 0) (get_or table (b * n + a) 0) ≡ fault n table a b
fault_row n row table a b is within =
    ap (λ x. at_fault (eqb a b) x (get_or table (b * n + a) 0)) (ap (λ r. get_or r b 0) is ∙ row_entry n table a b within)

-- the place of row b, column a lies in the table
pub place_within : (n a b : ℕ) → a < n → b < n → b * n + a < n * n
place_within n a b ha hb = omega (arith, row_ends b n hb)

is_none : (o : Option ℕ) → is_some o ≡ false → o ≡ None
is_none None is = refl
is_none (Some x) is = absurd (both_ways true is refl)

mapped_none : (f : ℕ → ℕ) (o : Option ℕ) → option_map f o ≡ None → o ≡ None
mapped_none f None is = refl
mapped_none f (Some x) is = absurd (both_ways true (ap is_some is) refl)

mapped_some : (f : ℕ → ℕ) (o : Option ℕ) (y : ℕ) → option_map f o ≡ Some y → is_some o ≡ true
mapped_some f None y is = absurd (both_ways true (sym (ap is_some is)) refl)
mapped_some f (Some x) y is = refl

module _ (n : ℕ) (table : List ℕ) where
  has_fault : ℕ → Bool
  has_fault a = is_some (faulty_column n table a)

  in_row : ℕ → Option ℕ
  in_row a = option_map (λ b. a * n + b) (faulty_column n table a)

  -- what is found row by row is the first place at fault
  pub place_told : (r : Option ℕ) →
      MatchOption r ((a : ℕ) → a < n → None ≡ faulty_column n table a) (λ place. (a : ℕ) × (a < n) × (Some place ≡ option_map (λ b. a * n + b) (faulty_column n table a)) × ((k : ℕ) → k < a → None ≡ faulty_column n table k)) →
      r ≡ faulty_place n table
  unfolding has_fault in_row
  place_told None none =
      let row : None ≡ faulty_row n table = found_in n has_fault None (λ k h. sym (ap is_some (none k h))) in
      subst (λ o. None ≡ option_and_then in_row o) row refl
  place_told (Some place) told =
      let row : Some told.0 ≡ faulty_row n table
      = found_in n has_fault (Some told.0) (told.1, mapped_some (λ b. told.0 * n + b) (faulty_column n table told.0) place (sym told.2), λ k h. sym (ap is_some (told.3 k h)))
      in
      subst (λ o. Some place ≡ option_and_then in_row o) row told.2

  row_none : (o : Option ℕ) → o ≡ faulty_row n table → option_and_then in_row o ≡ None → o ≡ None
  unfolding has_fault in_row
  row_none None is none = refl
  row_none (Some a) is none =
      let says = found_says n has_fault (Some a) is in
      absurd (both_ways (has_fault a) (ap is_some (mapped_none (λ b. a * n + b) (faulty_column n table a) none)) says.1)

  -- where no place is at fault, nothing is in any row
  pub no_fault : faulty_place n table ≡ None → (a : ℕ) → a < n → (b : ℕ) → b < n → fault n table a b ≡ false
  unfolding has_fault in_row
  no_fault none a ha b hb =
      let row : None ≡ faulty_row n table = sym (row_none (faulty_row n table) refl none) in
      let column : faulty_column n table a ≡ None = is_none (faulty_column n table a) (found_says n has_fault None row a ha) in
      found_says n (fault n table a) None (sym column) b hb
