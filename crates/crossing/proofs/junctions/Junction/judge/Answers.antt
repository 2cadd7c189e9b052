use Rattle.std.proofs.Common.{rules}
use Rattle.crossing.proofs.Calm.{calm_good}
use Rattle.crossing.proofs.junctions.Junction.judge.Goals as goal

pub returns : goal.returns
returns c = search (rules, calm_good)
