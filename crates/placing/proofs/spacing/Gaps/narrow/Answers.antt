use Rattle.placing.proofs.Steps.{narrowed_from}
use Rattle.placing.proofs.spacing.Gaps.narrow.Goals as goal

pub returns : goal.returns
returns c =
    narrowed_from c.args.self.now c.args.bounds.now c.loop.bounds c.go_round.new.bounds _ c.loop.invariant.0 c.loop.invariant.1
    c.in_ok-go_round.ensures c.if-branch.false
