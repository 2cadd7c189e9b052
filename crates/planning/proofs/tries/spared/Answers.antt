use Rattle.std.proofs.Common.{rules}
use Rattle.greens.specs.Plans.{green_of}
use Rattle.crossing.specs.Taken.{site_of}
use Rattle.planning.proofs.Bad.{fault_bad}
use Rattle.planning.proofs.tries.spared.Goals as goal

pub returns-in_err-worth : goal.returns-in_err-worth
returns-in_err-worth c =
    rw c.from_residual.ensures (fault_bad (site_of c.args.junction.now) (green_of c.args.plan.now.greens) c.judge.result c.judge.ensures (search rules))
