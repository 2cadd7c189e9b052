use Rattle.std.proofs.Common.{rules, tests, not}
use Rattle.crossing.specs.Good.{apart, close}
use Rattle.crossing.proofs.Ranges.{any_of}
use Rattle.crossing.proofs.keeping.apart.Goals as goal

pub returns : goal.returns
unfolding apart
returns c =
    any_of c.args.cycle.seconds (λ s. not (close c.args.cycle.seconds c.args.clear c.args.first c.args.next s)) c.any.ensures.ran (search rules) (λ x b q k. search (rules, tests))
