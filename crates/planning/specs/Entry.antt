-- What planning over lent numbers answers and leaves behind. Assumes nothing: these are definitions.
use Rattle.std.specs.Prelude.{◌≡◌, ℕ, ◌+◌, ◌*◌, List, length, Some, None, Ok, Err, Option, Result, slice_index}
use Rattle.std.specs.Option.{option_map}
use Rattle.crossing.specs.declared.refusals.Refusal.{Refusal}
use Rattle.crossing.specs.Good.{worst, Best, NoPlan}
use Rattle.crossing.specs.Numbers.{refusal, room_refusal, or_else}
use Rattle.crossing.specs.Refusals.{number_of}
use Rattle.crossing.specs.Site.{Site, Greens}
use Rattle.planning.specs.declared.entry.Done.{Done}

-- the first refusal that applies to a junction's numbers and to the room for its plan
abbrev pub entry_refusal : (cycle streams : ℕ) (pairs table room : List ℕ) → Option Refusal
entry_refusal c n pairs table room = or_else (refusal c n pairs table) (room_refusal n room)

-- the plan in a room: for each stream the second from which, and for how long
abbrev pub plan_in : List ℕ → Greens
plan_in room k = record { from = slice_index room (2 * k); long = slice_index room (2 * k + 1) }

-- what planning answers and leaves behind, told by Option and Result
abbrev pub Gives : Option Refusal → Site → (before : List ℕ) → Result (Option ℕ) Refusal → (after : List ℕ) → Type 0
-- planned: nothing is refused, the room holds a best plan, and so much has its worst-off stream to spare
Gives refused j before (Ok (Some w)) after = (refused ≡ None) × (length after ≡ length before) × Best j (plan_in after) × (w ≡ worst j (plan_in after))
-- none: nothing is refused, the room is as it was, and no plan at all is good and lets all go
Gives refused j before (Ok None) after = (refused ≡ None) × (after ≡ before) × NoPlan j
-- refused: the first refusal that applies, and the room is as it was
Gives refused j before (Err e) after = (refused ≡ Some e) × (after ≡ before)

-- the same in numbers alone
abbrev pub Says : Option Refusal → Site → (before : List ℕ) → Done → (after : List ℕ) → Type 0
-- planned: nothing is refused, the room holds a best plan, and so much has its worst-off stream to spare
Says refused j before (Done.Planned w) after = (refused ≡ None) × (length after ≡ length before) × Best j (plan_in after) × (w ≡ worst j (plan_in after))
-- none: nothing is refused, the room is as it was, and no plan at all is good and lets all go
Says refused j before Done.None after = (refused ≡ None) × (after ≡ before) × NoPlan j
-- refused: by the number of the first refusal that applies, and the room is as it was
Says refused j before (Done.Refused number) after = (option_map number_of refused ≡ Some number) × (after ≡ before)
