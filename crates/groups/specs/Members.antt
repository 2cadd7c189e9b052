-- A set of streams as a test. Assumes nothing: these are definitions.
use Rattle.std.specs.Prelude.{ℕ, Bool, false, slice_index_or}
use Rattle.groups.specs.declared.members.Group.{Group}

-- which streams are members; none past the twelfth
abbrev pub member_of : Group → ℕ → Bool
member_of g k = slice_index_or g.member k false
