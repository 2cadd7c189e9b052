use Rattle.std.proofs.Common.{vec_items, sym, append-nil, add-one}
use Rattle.texts.specs.Rings.{marks_to}
use Rattle.texts.proofs.Puts.{two_puts}
use Rattle.texts.proofs.rings.put_marks.Goals as goal

pub loop-ten-init : goal.loop-ten-init
unfolding marks_to
loop-ten-init c = record { is = sym (append-nil (vec_items c.args.out.now)) }

pub loop-ten-preserved : goal.loop-ten-preserved
unfolding marks_to
loop-ten-preserved c = rw add-one (two_puts c.loop-ten.invariant c.in_ok-put_mark.ensures)
