use Rattle.std.proofs.Common.{◌*◌, ◌≤◌}
use Rattle.groups.proofs.crowds.Crowd.seems_full.Given as goal

abbrev pub invariant-loop-stream : goal.invariant-loop-stream
invariant-loop-stream l = l.sum ≤ 255 * l.stream
