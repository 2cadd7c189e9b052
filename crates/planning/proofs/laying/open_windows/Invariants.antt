use Rattle.planning.specs.Laying.{Opened}
use Rattle.planning.proofs.laying.open_windows.Given as goal

abbrev pub invariant-loop-green : goal.invariant-loop-green
invariant-loop-green l = Opened l.initial.setting l.setting l.anchor l.last l.green
