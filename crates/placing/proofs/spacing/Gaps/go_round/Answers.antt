use Rattle.placing.proofs.Steps.{round_more}
use Rattle.placing.proofs.spacing.Gaps.go_round.Goals as goal

pub loop-second-preserved : goal.loop-second-preserved
loop-second-preserved c =
    round_more c.args.self.now c.args.bounds.now c.loop-second.bounds c.meet.new.bounds c.loop-first.first c.loop-first.first c.loop-second.second
    c.loop-second.moved _ c.loop-second.invariant.0 c.loop-second.invariant.1 c.in_ok-moved.ensures
