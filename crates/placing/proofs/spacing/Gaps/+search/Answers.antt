use Rattle.placing.proofs.Searches.{found_from}
use Rattle.placing.proofs.spacing.Gaps.+search.Goals as goal

pub returns-in_default : goal.returns-in_default
returns-in_default t c = found_from c.args.self.now c.args.bounds c.narrow.new.bounds c.in_ok-narrow.ensures c.in_default.ensures
