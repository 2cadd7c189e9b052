use Rattle.std.proofs.Common.{◌+◌, ◌-◌}
use Rattle.greens.specs.Plans.{green_of}
use Rattle.crossing.specs.Taken.{site_of}
use Rattle.planning.specs.Lengths.{Leaves, Beyond}
use Rattle.planning.proofs.laying.Ground.widen.Given as goal

abbrev pub invariant-loop-found : goal.invariant-loop-found
invariant-loop-found l = Leaves (site_of l.self.junction.now) l.found.spare (green_of l.found.plan.greens) × Beyond (site_of l.self.junction.now) (l.most + 1)

abbrev pub decreases-loop-found : goal.decreases-loop-found
decreases-loop-found l = l.most - l.found.spare
