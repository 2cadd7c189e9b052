-- That there is a best plan wherever there is one at all. A statement; a function's contract asks for its proof.
use Rattle.std.specs.Prelude.{◌≤◌, ◌⊎◌}
use Rattle.crossing.specs.Site.{Site, Greens}
use Rattle.crossing.specs.Good.{Best, NoPlan}

-- for every junction whatever there is a best plan, or none in which all can go
abbrev pub BestOrNone : Type 0
BestOrNone = (j : Site) → 1 ≤ j.cycle → ((p : Greens) × Best j p) ⊎ NoPlan j
