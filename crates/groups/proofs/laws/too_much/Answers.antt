use Rattle.groups.proofs.Spare.{too_much}
use Rattle.groups.proofs.laws.too_much.Goals as goal

pub returns : goal.returns
returns c = λ j w member e. (too_much j w member e).each
