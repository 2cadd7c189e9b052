-- How much there is room for. Assumes nothing: these are definitions.
use Rattle.std.specs.Prelude.{ℕ}

-- how many greens can be placed at most
abbrev pub most_greens : ℕ
most_greens = 12

-- how many numbers there are for any two of them
abbrev pub most_pairs : ℕ
most_pairs = 144
