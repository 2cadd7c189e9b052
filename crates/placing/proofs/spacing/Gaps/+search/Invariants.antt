use Rattle.placing.specs.Bounds.{room_of}
use Rattle.placing.proofs.spacing.Gaps.+search.Given as goal

abbrev pub decreases-search : goal.decreases-search
decreases-search l = room_of l.bounds
