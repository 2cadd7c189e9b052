-- The list of refusals. Assumes nothing: these are definitions.
use Rattle.std.specs.Prelude.{ℕ}
use Rattle.crossing.specs.declared.refusals.Refusal.{Refusal}
use Rattle.crossing.specs.declared.refusals.Refusal.TheVariants.{Cycle, Streams, Table, Room, Text}

-- the number of a refusal in the list
abbrev pub number_of : Refusal → ℕ
number_of (Cycle at) = 1
number_of (Streams at) = 2
number_of (Table at) = 3
number_of (Room at) = 4
number_of (Text at) = 5

-- the place that it names, counted from 0
abbrev pub place_of : Refusal → ℕ
place_of (Cycle at) = at
place_of (Streams at) = at
place_of (Table at) = at
place_of (Room at) = at
place_of (Text at) = at
