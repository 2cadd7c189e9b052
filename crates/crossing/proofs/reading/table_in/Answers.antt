use Rattle.crossing.proofs.Padded.{padded}
use Rattle.crossing.proofs.reading.table_in.Goals as goal

pub returns-clause-each : goal.returns-clause-each
returns-clause-each c = λ i. rw c.copy_from_slice.ensures.after (padded c.args.table.now 144 i)
