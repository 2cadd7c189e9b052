use Rattle.std.proofs.Common.{vec_items}
use Rattle.texts.specs.Printed.{Adds}
use Rattle.texts.specs.Rings.{marks_to}
use Rattle.texts.proofs.rings.put_marks.Given as goal

abbrev pub invariant-loop-ten : goal.invariant-loop-ten
invariant-loop-ten l = Adds (vec_items l.initial.out) (vec_items l.out) (marks_to l.ten)
