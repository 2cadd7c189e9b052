-- Two junctions worked by hand. Assumes nothing: these are definitions and statements.
use Rattle.std.specs.Prelude.{◌≡◌, false, cond, not, ◌==◌}
use Rattle.crossing.specs.Site.{Site, Greens}
use Rattle.crossing.specs.Good.{worst, Best, NoPlan}

-- in a cycle of 12, two streams of at least 2 seconds in which 5 and 4 come, that cross, with 2 seconds to clear either way
abbrev pub too_much : Site
too_much =
    record { streams = 2; cycle = 12; least = λ k. 2; comes = λ k. cond (k == 0) 5 4; crosses = λ a b. not (a == b); clear = λ a b. 2 }

-- 5 and 4 green seconds and 2 and 2 to clear are 13: no plan lets all go
abbrev pub TooMuch : Type 0
TooMuch = NoPlan too_much

-- in a cycle of 12, two streams of at least 2 seconds in which 3 and 2 come, that don't cross
abbrev pub side_by_side : Site
side_by_side =
    record { streams = 2; cycle = 12; least = λ k. 2; comes = λ k. cond (k == 0) 3 2; crosses = λ a b. false; clear = λ a b. 0 }

-- both begin with the cycle: the one is on throughout, the other for 11 seconds
abbrev pub both_at_once : Greens
both_at_once k = record { from = 0; long = cond (k == 0) 12 11 }

-- it is a best plan, and either stream has 9 to spare
abbrev pub NineToSpare : Type 0
NineToSpare = Best side_by_side both_at_once × (worst side_by_side both_at_once ≡ 9)
