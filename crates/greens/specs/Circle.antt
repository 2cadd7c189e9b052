-- Seconds that go round. Assumes nothing: these are definitions.
use Rattle.std.specs.Prelude.{ℕ, ◌+◌, ◌-◌, ◌%◌}

-- how many seconds after `from` the second `s` comes, in a cycle after whose last second comes the first
unfoldable pub after : (cycle from s : ℕ) → ℕ
after cycle from s = (s + (cycle - from)) % cycle
