use Rattle.crossing.proofs.Safe.{cleared}
use Rattle.crossing.proofs.laws.cleared.Goals as goal

pub returns : goal.returns
returns c = cleared
