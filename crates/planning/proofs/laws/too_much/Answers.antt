use Rattle.planning.proofs.Work.{too_much_none}
use Rattle.planning.proofs.laws.too_much.Goals as goal

pub returns : goal.returns
returns c = too_much_none
