use Rattle.std.proofs.Common.{arith}
use Rattle.placing.proofs.Steps.{met_from}
use Rattle.placing.proofs.pairs.Pair.meet.Goals as goal

pub returns : goal.returns
returns c =
    met_from c.args.self.now.gaps.now c.args.bounds.now c.raise.new.self c.lower.new.self c.args.self.now.first c.args.self.now.second c.distance-far.result _ _
    c.in_ok-raised.raised c.in_ok-lowered.lowered c.args.self.now.one c.args.self.now.other c.distance-far.ensures (omega arith) (omega arith) (omega arith)
    c.in_ok-raised.ensures c.in_ok-lowered.ensures
