use Rattle.std.proofs.Common.{◌-◌}
use Rattle.greens.specs.Plans.{green_of}
use Rattle.crossing.specs.Taken.{site_of}
use Rattle.planning.specs.Tries.{Further}
use Rattle.planning.proofs.Turns.{Begun, Shorter}
use Rattle.planning.proofs.tries.+try_from.Given as goal

abbrev pub decreases-try_from : goal.decreases-try_from
decreases-try_from l = l.junction.now.count - l.stream

abbrev pub invariant-loop-long : goal.invariant-loop-long
invariant-loop-long l = Further (site_of l.junction) l.initial.best l.best (Shorter (green_of l.plan.greens) l.stream l.from l.long)

abbrev pub invariant-loop-from : goal.invariant-loop-from
invariant-loop-from l = Further (site_of l.junction) l.initial.best l.best (Begun (green_of l.plan.greens) l.stream l.from)
