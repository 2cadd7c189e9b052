-- Groups: streams that all cross each other, and what they need of the cycle that they share. Assumes nothing: these are definitions.
-- A set of streams is a test that says which streams are its members.
use Rattle.std.specs.Prelude.{ℕ, ◌+◌, max, Bool, cond, not, ◌&&◌, ◌||◌, ◌==◌, nat_lt}
use Rattle.crossing.specs.Below.{all_to, sum_to}
use Rattle.crossing.specs.Site.{Site}
use Rattle.groups.specs.Among.{least_among}

-- b is another member than a
abbrev pub other : (member : ℕ → Bool) (a b : ℕ) → Bool
other member a b = member b && not (a == b)

-- a and b are not two members, or a crosses b
abbrev pub meets : Site → (member : ℕ → Bool) (a b : ℕ) → Bool
meets j member a b = not (member a && other member a b) || j.crosses a b

-- a set of streams is a group: of any two different members each crosses the other
unfoldable pub all_cross : Site → (member : ℕ → Bool) → Bool
all_cross j member = all_to j.streams (λ a. all_to j.streams (meets j member a))

-- the least seconds to clear after a stream before another of the group; 0 if there is no other
unfoldable pub gap : Site → (member : ℕ → Bool) (stream : ℕ) → ℕ
gap j member a = least_among j.streams (other member a) (j.clear a)

-- what a stream takes of the cycle: if it is a member, its length and the least seconds to clear after it
unfoldable pub share : Site → (long : ℕ → ℕ) (member : ℕ → Bool) (stream : ℕ) → ℕ
share j long member k = cond (member k) (long k + gap j member k) 0

-- what a group needs of the cycle, for greens of such lengths
unfoldable pub need : Site → (long : ℕ → ℕ) (member : ℕ → Bool) → ℕ
need j long member = sum_to j.streams (share j long member)

-- how long a stream's green has to be at least, if the stream is to have w to spare
abbrev pub asked : Site → (w stream : ℕ) → ℕ
asked j w k = max (j.least k) (j.comes k + w)

-- a stream is no member, or has to have a green if every stream is to have w to spare
abbrev pub wants : Site → (w : ℕ) (member : ℕ → Bool) (stream : ℕ) → Bool
wants j w member k = not (member k) || nat_lt 0 (asked j w k)

-- a group is overfull, if every stream is to have w to spare: all its members have to have a green, and together they need more than the cycle
unfoldable pub overfull : Site → (w : ℕ) (member : ℕ → Bool) → Bool
overfull j w member = all_cross j member && (all_to j.streams (wants j w member) && nat_lt j.cycle (need j (asked j w) member))
