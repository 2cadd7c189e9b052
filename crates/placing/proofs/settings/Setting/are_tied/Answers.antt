use Rattle.std.proofs.Common.{rules}
use Rattle.placing.specs.Orders.{tied}
use Rattle.placing.proofs.settings.Setting.are_tied.Goals as goal

pub returns : goal.returns
unfolding tied
returns c = search rules
