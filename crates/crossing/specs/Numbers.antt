-- A junction given by numbers: what it asks for, and why numbers are not taken. Assumes nothing: these are definitions.
use Rattle.std.specs.Prelude.{ℕ, ◌+◌, ◌-◌, ◌*◌, Bool, cond, not, ◌&&◌, ◌||◌, nat_lt, List, length, Some, None, Option, is_some, option_map, option_and_then, position, ◌==◌, slice_index}
use Rattle.crossing.specs.declared.refusals.Refusal.{Refusal}
use Rattle.crossing.specs.declared.refusals.Refusal.TheVariants.{Cycle, Streams, Table, Room}
use Rattle.crossing.specs.Below.{found_to}
use Rattle.crossing.specs.Site.{Site}
use Rattle.crossing.specs.Tables.{entry, crossing}

-- a junction by its numbers: the cycle, how many streams, for each of them at least how long and how many come, and the table of what crosses
abbrev pub site_in : (cycle streams : ℕ) (pairs table : List ℕ) → Site
site_in c n pairs table = record {
  streams = n;
  cycle = c;
  least = λ k. slice_index pairs (2 * k);
  comes = λ k. slice_index pairs (2 * k + 1);
  crosses = crossing n table;
  clear = λ a b. entry n table a b - 1;
}

-- the place of the first number above a bound, if there is one
abbrev pub first_above : (most : ℕ) → List ℕ → Option ℕ
first_above most numbers = position (λ number. nat_lt most number) numbers

-- a number of the table is at fault, beside the one for the same two the other way: it is above 121, not 0 for a stream and itself, or they cross one way only
abbrev pub at_fault : (itself : Bool) (number back : ℕ) → Bool
at_fault itself number back =
    nat_lt 121 number || ((itself && nat_lt 0 number) || ((nat_lt 0 number && back == 0) || (number == 0 && nat_lt 0 back)))

abbrev pub fault : (n : ℕ) (table : List ℕ) (a b : ℕ) → Bool
fault n table a b = at_fault (a == b) (entry n table a b) (entry n table b a)

-- the first column of row a that is at fault, if there is one, and the first row that has such a column
abbrev pub faulty_column : (n : ℕ) (table : List ℕ) (a : ℕ) → Option ℕ
faulty_column n table a = found_to n (fault n table a)

abbrev pub faulty_row : (n : ℕ) (table : List ℕ) → Option ℕ
faulty_row n table = found_to n (λ a. is_some (faulty_column n table a))

-- the place of the first number that is at fault, row by row
abbrev pub faulty_place : (n : ℕ) (table : List ℕ) → Option ℕ
faulty_place n table = option_and_then (λ a. option_map (λ b. a * n + b) (faulty_column n table a)) (faulty_row n table)

-- why the streams are not taken: their count, the count of their numbers, or the first number above 120
abbrev pub streams_refusal : (n : ℕ) (pairs : List ℕ) → Option Refusal
streams_refusal n pairs =
    cond (nat_lt n 1 || nat_lt 12 n) (Some (Streams n))
    (cond (not (length pairs == 2 * n)) (Some (Streams (length pairs)))
    (option_map (λ place. Streams place) (first_above 120 pairs)))

-- why the table is not taken: its length, or its first number that is at fault
abbrev pub table_refusal : (n : ℕ) (table : List ℕ) → Option Refusal
table_refusal n table =
    cond (not (length table == n * n)) (Some (Table (length table))) (option_map (λ place. Table place) (faulty_place n table))

-- the first of two refusals, if there is any
abbrev pub or_else : Option Refusal → Option Refusal → Option Refusal
or_else None later = later
or_else (Some first) later = Some first

-- the first refusal that applies to a junction's numbers
unfoldable pub refusal : (cycle streams : ℕ) (pairs table : List ℕ) → Option Refusal
refusal c n pairs table = cond (nat_lt c 1 || nat_lt 120 c) (Some (Cycle c)) (or_else (streams_refusal n pairs) (table_refusal n table))

-- why a room is not taken: it isn't two numbers for each stream
abbrev pub room_refusal : (n : ℕ) (room : List ℕ) → Option Refusal
room_refusal n room = cond (length room == 2 * n) None (Some (Room (length room)))
