use Rattle.texts.proofs.Backwards.{read_back}
use Rattle.texts.proofs.laws.read_back.Goals as goal

pub returns : goal.returns
returns c = read_back
