use Rattle.crossing.specs.Taken.{site_of}
use Rattle.planning.specs.Laying.{Lengthened}
use Rattle.planning.proofs.laying.Ground.lengthened.Given as goal

abbrev pub invariant-loop-stream : goal.invariant-loop-stream
invariant-loop-stream l = Lengthened (site_of l.self.junction.now) l.spare l.initial.longer l.longer l.stream
