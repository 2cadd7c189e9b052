use Rattle.std.proofs.Common.{vec_items}
use Rattle.texts.specs.Printed.{Grows}
use Rattle.texts.proofs.sentences.say.Given as goal

abbrev pub invariant-loop-piece : goal.invariant-loop-piece
invariant-loop-piece l = Grows (vec_items l.initial.out) (vec_items l.out)
