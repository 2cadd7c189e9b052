-- Greens begun later. Assumes nothing: these are definitions.
use Rattle.std.specs.Prelude.{ℕ, ◌+◌, ◌%◌}
use Rattle.greens.specs.declared.lights.Green.{Green}

-- a green begun so many seconds later, round the cycle's end
abbrev pub later : (cycle by : ℕ) → Green → Green
later cycle by g = record { from = (g.from + by) % cycle; long = g.long }
