use Rattle.std.proofs.Common.{◌≡◌, ℕ, ◌-◌, ◌^◌, min, drop}
use Rattle.texts.specs.Words.{number_in, digits_in}
use Rattle.texts.proofs.wording.number.Given as goal

abbrev pub invariant-loop-byte : goal.invariant-loop-byte
invariant-loop-byte l = (v : ℕ) × (l.sum ≡ min (2 ^ 64 - 1) v) × (number_in l.word ≡ digits_in v (drop l.byte-index l.word))
