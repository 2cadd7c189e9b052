use Rattle.placing.proofs.Sharing.{crowd_none}
use Rattle.placing.proofs.spacing.Gaps.taken.Goals as goal

pub returns : goal.returns
returns c = λ s spread.
    crowd_none c.args.self.now s c.args.spans.now c.args.group.now c.afters-out.result c.aheads-into.result spread c.afters-out.ensures
    c.aheads-into.ensures c.total.result c.total.ensures
