use Rattle.greens.specs.Greens.{on}
use Rattle.greens.proofs.lights.Green.on.Goals as goal

pub returns : goal.returns
unfolding on
returns c = rw c.after.ensures
