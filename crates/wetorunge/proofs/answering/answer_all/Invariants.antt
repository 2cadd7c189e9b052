use Rattle.std.proofs.Common.{length, vec_items}
use Rattle.texts.specs.Sections.{told_in, left_of}
use Rattle.wetorunge.proofs.Lines.{Sofar}
use Rattle.wetorunge.proofs.answering.answer_all.Given as goal

abbrev pub invariant-loop-out : goal.invariant-loop-out
invariant-loop-out l = Sofar (told_in l.text) l.drawn (vec_items l.out) l.refused (left_of l.reader)

abbrev pub decreases-loop-out : goal.decreases-loop-out
decreases-loop-out l = length (left_of l.reader)
