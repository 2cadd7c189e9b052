use Rattle.std.proofs.Common.{◌≡◌, ℕ, ◌<◌, false}
use Rattle.placing.specs.Steps.{Settled, Round}
use Rattle.placing.proofs.spacing.Gaps.go_round.Given as goal

abbrev pub invariant-loop-first : goal.invariant-loop-first
invariant-loop-first l = Round l.self l.fn.bounds l.bounds l.first l.moved

abbrev pub invariant-loop-second : goal.invariant-loop-second
invariant-loop-second l = Round l.self l.fn.bounds l.bounds l.first l.moved × (l.moved ≡ false → (b : ℕ) → b < l.second → Settled l.self l.bounds l.first b)
