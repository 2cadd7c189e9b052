use Rattle.planning.proofs.Work.{nine_to_spare}
use Rattle.planning.proofs.laws.nine_to_spare.Goals as goal

pub returns : goal.returns
returns c = nine_to_spare
