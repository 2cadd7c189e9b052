use Rattle.planning.proofs.Exist.{best_or_none}
use Rattle.planning.proofs.laws.best_or_none.Goals as goal

pub returns : goal.returns
returns c = best_or_none
