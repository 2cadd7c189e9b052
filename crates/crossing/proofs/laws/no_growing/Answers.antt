use Rattle.crossing.proofs.Queue.{no_growing, no_growing_anywhere}
use Rattle.crossing.proofs.laws.no_growing.Goals as goal

pub returns : goal.returns
returns c = record { one = no_growing; all = no_growing_anywhere }
