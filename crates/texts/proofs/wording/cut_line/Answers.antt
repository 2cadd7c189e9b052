use Rattle.std.proofs.Common.{arith, length-drop}
use Rattle.texts.proofs.Splits.{line_cut}
use Rattle.texts.proofs.wording.cut_line.Goals as goal

pub returns : goal.returns
returns c = record {
  first = λ some. line_cut c.args.text.now c.cut_at.result.0.now c.cut_at.result.1.now some c.cut_at.ensures.before c.cut_at.ensures.after;
  less = λ some. rw c.cut_at.ensures.after (simp length-drop (omega arith));
}
