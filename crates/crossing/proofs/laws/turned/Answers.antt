use Rattle.crossing.proofs.Safe.{turned}
use Rattle.crossing.proofs.laws.turned.Goals as goal

pub returns : goal.returns
returns c = turned
