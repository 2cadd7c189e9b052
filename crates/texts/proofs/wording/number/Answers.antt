use Rattle.std.proofs.Common.{◌+◌, ◌-◌, ◌*◌, ◌^◌, get_or, sym, ap, ◌∙◌, arith}
use Rattle.std.specs.Option.{option_map}
use Rattle.texts.specs.Words.{capped}
use Rattle.texts.proofs.Figures.{digits_more, digits_stop, digits_all}
use Rattle.texts.proofs.wording.number.Goals as goal

pub returns-then-not-is_ascii_digit : goal.returns-then-not-is_ascii_digit
returns-then-not-is_ascii_digit c =
    let old = c.loop-byte.invariant in
    sym
    (ap (option_map (capped (2 ^ 64 - 1)))
    (old.2
    ∙ digits_stop c.args.word.now c.loop-byte.byte-index old.0 c.loop-byte-test.true (sym c.is_ascii_digit.ensures.value ∙ c.if-not-is_ascii_digit.true)))

pub loop-byte-preserved : goal.loop-byte-preserved
loop-byte-preserved c =
    let old = c.loop-byte.invariant in (
      old.0 * 10 + (get_or c.args.word.now c.loop-byte.byte-index 0 - 48),
      omega (arith, old.1, c.saturating_mul.ensures, c.saturating_add-sum.ensures, c.from.ensures),
      old.2 ∙ digits_more c.args.word.now c.loop-byte.byte-index old.0 c.loop-byte-test.true (sym c.is_ascii_digit.ensures.value ∙ c.if-not-is_ascii_digit.false),
    )

pub returns : goal.returns
returns c =
    let old = c.loop-byte.invariant in
    sym (ap (option_map (capped (2 ^ 64 - 1))) (old.2 ∙ digits_all c.args.word.now c.loop-byte.byte-index old.0 (omega arith)) ∙ rw old.1)
