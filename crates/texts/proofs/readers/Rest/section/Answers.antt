use Rattle.std.proofs.Common.{◌≡◌, ◌<◌, [], ◌∷◌, length, sym, ap, ◌∙◌, arith, true-eqb, false-eqb}
use Rattle.texts.specs.Words.{lines}
use Rattle.texts.specs.Lines.{line_said}
use Rattle.texts.specs.Sections.{closed, told_of}
use Rattle.texts.proofs.Tells.{told_end, begun_or, reader_closes, reader_begins, reader_passes, reader_goes}
use Rattle.texts.proofs.Splits.{no_lines}
use Rattle.texts.proofs.readers.Rest.section.Goals as goal
use Rattle.texts.proofs.readers.Rest.section.Goals.{in-Some+in_default-section, in_default+then-says_something+in_ok-take, in_default+else-says_something}

pub returns-in-Some-section : goal.returns-in-Some-section
returns-in-Some-section c =
    let more : 0 < length c.loop-text.text.now = omega (arith, false-eqb _ _ c.loop-text-test.ensures) in
    reader_closes _ c.loop-text.number c.loop-text.section (lines c.loop-text.text.now) (lines c.cut_line.result.1.now) c.cut_line.result.0.now (line_said c.in_ok-line.line) c.loop-text.invariant.1 (c.cut_line.ensures.first more) c.in_ok-line.ensures
    c.in-Some.name.now c.in-Some-section.whole (told_of c.closed.result) c.in-Some.ensures c.in-Some-section.is c.closed.ensures

pub loop-text-preserved : goal.loop-text-preserved
loop-text-preserved c =
    let more : 0 < length c.loop-text.text.now = omega (arith, false-eqb _ _ c.loop-text-test.ensures) in (
      omega (arith, c.loop-text.invariant.0, c.cut_line.ensures.less more),
      elim c.match-name_begun.branch [
        | in-Some+in_default-section w ↦
            reader_begins _ c.loop-text.number c.loop-text.section (lines c.loop-text.text.now) (lines c.cut_line.result.1.now) c.cut_line.result.0.now (line_said c.in_ok-line.line) c.loop-text.invariant.1 (c.cut_line.ensures.first more) c.in_ok-line.ensures
            w.in-Some.name.now w.begin.result c.match-name_begun.section w.in-Some.ensures w.in_default-section.is w.begin.ensures w.section-is
        | in_default+then-says_something+in_ok-take w ↦
            reader_goes _ c.loop-text.number c.loop-text.section (lines c.loop-text.text.now) (lines c.cut_line.result.1.now) c.cut_line.result.0.now (line_said c.in_ok-line.line) c.loop-text.invariant.1 (c.cut_line.ensures.first more) c.in_ok-line.ensures
            w.get_or_insert.result.now w.take.new.self c.match-name_begun.section w.in_default.ensures (sym w.says_something.ensures ∙ w.if-says_something.true)
            (ap told_of w.get_or_insert.ensures.value ∙ begun_or c.loop-text.section w.begin-then-says_something.result w.begin-then-says_something.ensures) w.in_ok-take.ensures w.section-is
        | in_default+else-says_something w ↦
            reader_passes _ c.loop-text.number c.loop-text.section (lines c.loop-text.text.now) (lines c.cut_line.result.1.now) c.cut_line.result.0.now (line_said c.in_ok-line.line) c.loop-text.invariant.1 (c.cut_line.ensures.first more) c.in_ok-line.ensures
            c.match-name_begun.section w.in_default.ensures (sym w.says_something.ensures ∙ w.if-says_something.false) w.section-is
      ],
    )

pub returns : goal.returns
returns c =
    let none : length c.loop-text.text.now ≡ 0 = true-eqb _ _ c.loop-text-test.ensures in
    c.loop-text.invariant.1 ∙ told_end _ _ _ _ (no_lines c.loop-text.text.now none)
    ∙ ap (λ t. closed c.loop-text.number t ∷ []) (sym (begun_or c.loop-text.section c.begin-2.result c.begin-2.ensures) ∙ ap told_of (sym c.unwrap_or-whole.ensures))
    ∙ ap (λ t. t ∷ []) (sym c.closed-2.ensures)
