use Rattle.std.proofs.Common.{◌≡◌, ℕ, ◌+◌, ◌*◌, ◌<◌, slice_index}
use Rattle.greens.specs.Plans.{green_of}
use Rattle.planning.proofs.entry.write_plan.Given as goal

abbrev pub invariant-loop-place : goal.invariant-loop-place
invariant-loop-place l = record {
  from : (k : ℕ) → 2 * k < l.place → slice_index l.room (2 * k) ≡ (green_of l.plan.greens k).from;
  long : (k : ℕ) → 2 * k + 1 < l.place → slice_index l.room (2 * k + 1) ≡ (green_of l.plan.greens k).long;
}
