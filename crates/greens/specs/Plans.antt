-- Twelve greens as a plan, a function from streams to greens. Assumes nothing: these are definitions.
use Rattle.std.specs.Prelude.{ℕ, List, slice_index_or}
use Rattle.greens.specs.declared.lights.Green.{Green}

-- a green of no seconds is none
abbrev pub no_green : Green
no_green = record { from = 0; long = 0 }

-- the plan that a list of greens is: the green of each stream, and none past the list's end
abbrev pub green_of : List Green → ℕ → Green
green_of greens k = slice_index_or greens k no_green
