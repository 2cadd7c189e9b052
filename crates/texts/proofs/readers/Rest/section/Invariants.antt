use Rattle.std.proofs.Common.{◌≡◌, ◌+◌, ◌^◌, ◌<◌, length, is_some}
use Rattle.texts.specs.Words.{lines}
use Rattle.texts.specs.Sections.{told_from, told_after}
use Rattle.texts.proofs.Tells.{begun}
use Rattle.texts.proofs.readers.Rest.section.Given as goal

abbrev pub invariant-loop-text : goal.invariant-loop-text
invariant-loop-text l =
    (l.number + length l.text < 2 ^ 64)
    × (told_after l.fn.self ≡ told_from l.number (is_some l.section) (begun l.section) (lines l.text))

abbrev pub decreases-loop-text : goal.decreases-loop-text
decreases-loop-text l = length l.text
