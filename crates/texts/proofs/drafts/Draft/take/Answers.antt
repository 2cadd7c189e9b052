use Rattle.std.proofs.Common.{Ok, ap, ◌∙◌}
use Rattle.texts.proofs.drafts.Draft.take.Goals as goal

pub returns-in-Pair : goal.returns-in-Pair
returns-in-Pair c = rw (c.in_ok-line.was ∙ ap Ok c.in-Pair.is) c.take_pair.ensures
