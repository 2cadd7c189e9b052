use Rattle.std.proofs.Common.{sym, ◌∙◌, arith}
use Rattle.std.proofs.lemmas.Bool.{and_left, and_right}
use Rattle.std.proofs.lemmas.Grind.{common_steps}
use Rattle.texts.specs.Lines.{line_in}
use Rattle.texts.proofs.Says.{no_two, no_five}
use Rattle.texts.proofs.saying.line_of.Goals as goal
use Rattle.texts.proofs.saying.line_of.Goals.{in_default-via-then-words-lt2, in_default-via-in-len2-2+else-same-2, in_default-via-else-words-lt2+else-words-lt3+else-words-lt4+then-words-lt5, in_default-via-in-len5+then-same-3+else-same-4, in_default-via-in-len5+else-same-3, in_default-via-else-words-lt2+else-words-lt3+else-words-lt4+else-words-lt5+else-words-lt6}

pub returns-in_default : goal.returns-in_default
unfolding line_in
returns-in_default c =
    elim c.in_default.branch [
      | in_default-via-then-words-lt2 w ↦ grind (arith, common_steps)
      | in_default-via-in-len2-2+else-same-2 w ↦
          no_two _ c.args.words.now (omega arith) (sym w.same.ensures ∙ w.if-same.false) (sym w.same-then-words-lt3.ensures ∙ w.if-same-2.false)
      | in_default-via-else-words-lt2+else-words-lt3+else-words-lt4+then-words-lt5 w ↦ grind (arith, common_steps)
      | in_default-via-in-len5+then-same-3+else-same-4 w ↦
          no_five _ c.args.words.now (omega arith) (and_right _ _ (sym w.same-then-same-3.ensures ∙ w.if-same-4.false))
      | in_default-via-in-len5+else-same-3 w ↦
          no_five _ c.args.words.now (omega arith) (and_left _ _ (sym w.same-then-words-lt6.ensures ∙ w.if-same-3.false))
      | in_default-via-else-words-lt2+else-words-lt3+else-words-lt4+else-words-lt5+else-words-lt6 w ↦ grind (arith, common_steps)
    ]
