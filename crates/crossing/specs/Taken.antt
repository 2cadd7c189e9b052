-- A junction that was taken. Assumes nothing: these are definitions.
use Rattle.std.specs.Prelude.{◌≡◌, ℕ, zero, suc, ◌+◌, ◌-◌, ◌*◌, cond, ◌&&◌, List, [], Some, None, Ok, Err, Option, Result, nat_lt, slice_index, slice_index_or}
use Rattle.crossing.specs.declared.junctions.Junction.{Junction}
use Rattle.crossing.specs.declared.junctions.Stream.{Stream}
use Rattle.crossing.specs.declared.refusals.Refusal.{Refusal}
use Rattle.crossing.specs.Site.{Site}
use Rattle.crossing.specs.Numbers.{site_in, refusal}
use Rattle.crossing.specs.Tables.{entry, crossing, row_of}

-- past a junction's streams there is one that nobody uses
abbrev pub no_stream : Stream
no_stream = record { least = 0; comes = 0 }

-- the stream that the numbers at 2k and 2k + 1 give
abbrev pub stream_in : List ℕ → ℕ → Stream
stream_in pairs k = record { least = slice_index pairs (2 * k); comes = slice_index pairs (2 * k + 1) }

abbrev pub stream_of : Junction → ℕ → Stream
stream_of j k = slice_index_or j.streams k no_stream

-- what a junction asks for
abbrev pub site_of : Junction → Site
site_of j = record {
  streams = j.count;
  cycle = j.cycle.seconds;
  least = λ k. (stream_of j k).least;
  comes = λ k. (stream_of j k).comes;
  crosses = crossing j.count j.table;
  clear = λ a b. entry j.count j.table a b - 1;
}

-- a number of the table as the seconds to clear, and none where two don't cross
abbrev pub seconds_in : ℕ → Option ℕ
seconds_in zero = None
seconds_in (suc n) = Some n

-- the seconds to clear after stream a before stream b, none where they don't cross or aren't both there
abbrev pub clearing_of : Junction → (a b : ℕ) → Option ℕ
clearing_of j a b = cond (nat_lt a j.count && nat_lt b j.count) (seconds_in (entry j.count j.table a b)) None

-- a row of the table, empty past the last stream
abbrev pub row_in : Junction → (a : ℕ) → List ℕ
row_in j a = cond (nat_lt a j.count) (row_of j.count j.table a) []

-- what reading a junction's numbers answers: the junction that they give, if no refusal applies, or the first that does
abbrev pub Read : (cycle streams : ℕ) (pairs table : List ℕ) → Result Junction Refusal → Type 0
Read c n pairs table (Ok j) = (refusal c n pairs table ≡ None) × (site_of j ≡ site_in c n pairs table)
Read c n pairs table (Err e) = refusal c n pairs table ≡ Some e
