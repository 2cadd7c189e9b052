use Rattle.std.proofs.Common.{rules}
use Rattle.greens.specs.Circle.{after}
use Rattle.greens.proofs.seconds.Cycle.after.Goals as goal

pub returns : goal.returns
unfolding after
returns c = search rules
