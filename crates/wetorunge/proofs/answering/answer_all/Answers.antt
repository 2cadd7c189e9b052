use Rattle.std.proofs.Common.{◌≡◌, ◌∷◌, vec_items}
use Rattle.texts.specs.Sections.{told_of, told_in, left_of}
use Rattle.wetorunge.proofs.Lines.{sofar_more}
use Rattle.wetorunge.proofs.answering.answer_all.Goals as goal

pub loop-out-preserved : goal.loop-out-preserved
loop-out-preserved c =
    let next : left_of c.loop-out.reader ≡ told_of c.in-Some.section ∷ left_of c.next.new.self = rw c.in-Some.is at c.in_ok-section.ensures in
    sofar_more (told_in c.args.text.now) c.args.drawn (vec_items c.loop-out.out) (vec_items c.put_section.new.out) c.loop-out.refused c.in_ok-one.one
    (left_of c.loop-out.reader) (left_of c.next.new.self) (told_of c.in-Some.section) c.loop-out.invariant next c.in_ok-one.ensures
