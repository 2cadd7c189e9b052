use Rattle.std.proofs.Common.{refl, arith, length-drop, length-take}
use Rattle.texts.proofs.Splits.{word_none, word_cut}
use Rattle.texts.proofs.wording.next_word.Goals as goal

pub returns-then-end-eq0 : goal.returns-then-end-eq0
returns-then-end-eq0 c =
    word_none c.args.line.now _ c.blanks.result c.word_end-end.result c.blanks.ensures.is refl c.word_end-end.ensures.is c.if-end-eq0.true

pub returns-else-end-eq0 : goal.returns-else-end-eq0
returns-else-end-eq0 c = (
  word_cut c.args.line.now _ c.blanks.result c.word_end-end.result c.blanks.ensures.is refl c.word_end-end.ensures.is (omega (arith, c.if-end-eq0.false)),
  simp (length-take, length-drop) (omega (arith, c.if-end-eq0.false, c.word_end-end.ensures.within, c.blanks.ensures.within)),
)
