use Rattle.std.proofs.Common.{◌≤◌}
use Rattle.placing.specs.Bounds.{Narrower, room_of}
use Rattle.placing.proofs.spacing.Gaps.narrow.Given as goal

abbrev pub invariant-loop : goal.invariant-loop
invariant-loop l = Narrower l.self l.initial.bounds l.bounds × (room_of l.bounds ≤ room_of l.initial.bounds)

abbrev pub decreases-loop : goal.decreases-loop
decreases-loop l = room_of l.bounds
