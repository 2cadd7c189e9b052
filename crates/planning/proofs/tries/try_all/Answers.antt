use Rattle.std.proofs.Common.{arith}
use Rattle.greens.specs.Plans.{green_of}
use Rattle.planning.proofs.Progress.{all_tried}
use Rattle.planning.proofs.tries.try_all.Goals as goal

pub returns : goal.returns
returns c = all_tried c.args.junction.now c.try_from.result (green_of c.new.result.greens) (omega arith) c.try_from.ensures
