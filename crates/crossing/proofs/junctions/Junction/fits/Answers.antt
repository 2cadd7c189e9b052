use Rattle.std.proofs.Common.{rules, tests}
use Rattle.crossing.specs.Good.{fits}
use Rattle.crossing.proofs.junctions.Junction.fits.Goals as goal

pub returns-then-stream-green : goal.returns-then-stream-green
unfolding fits
returns-then-stream-green c = search (rules, tests)

pub returns-else-stream-green : goal.returns-else-stream-green
unfolding fits
returns-else-stream-green c = search (rules, tests)
