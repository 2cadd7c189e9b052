use Rattle.std.proofs.Common.{rules}
use Rattle.crossing.specs.Good.{close}
use Rattle.crossing.proofs.keeping.too_close.Goals as goal

pub returns : goal.returns
unfolding close
returns c = search rules
