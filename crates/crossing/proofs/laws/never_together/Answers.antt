use Rattle.crossing.proofs.Safe.{never_together}
use Rattle.crossing.proofs.laws.never_together.Goals as goal

pub returns : goal.returns
returns c = never_together
