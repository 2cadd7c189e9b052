use Rattle.greens.specs.Plans.{green_of}
use Rattle.crossing.specs.Taken.{site_of}
use Rattle.placing.specs.Searches.{start_of}
use Rattle.planning.specs.Alike.{Alike}
use Rattle.planning.specs.Lengths.{plan_for}
use Rattle.planning.proofs.finding.plan_from.Given as goal

abbrev pub invariant-loop-stream : goal.invariant-loop-stream
invariant-loop-stream l = Alike l.stream (plan_for (site_of l.junction) l.spare (start_of l.starts)) (green_of l.plan.greens)
