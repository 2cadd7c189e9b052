-- Why a junction can't go. Assumes nothing: these are definitions.
use Rattle.std.specs.Prelude.{◌≡◌, ℕ, true, Some, None, Option}
use Rattle.crossing.specs.Site.{Site}
use Rattle.groups.specs.declared.members.Group.{Group}
use Rattle.groups.specs.Groups.{overfull}
use Rattle.groups.specs.Members.{member_of}

-- a group that is said to be why not every stream can have w to spare is overfull; where none is said, nothing is
abbrev pub Why : Site → (w : ℕ) → Option Group → Type 0
Why j w (Some g) = overfull j w (member_of g) ≡ true
Why j w None = Unit {0}
