use Rattle.planning.specs.Laying.{RowWritten, RowsWritten}
use Rattle.planning.proofs.laying.write_table.Given as goal

abbrev pub invariant-loop-first : goal.invariant-loop-first
invariant-loop-first l = RowsWritten l.initial.setting l.setting l.junction.count l.junction.table l.first

abbrev pub invariant-loop-next : goal.invariant-loop-next
invariant-loop-next l = RowWritten l.initial.setting l.setting l.number-items l.first l.next
