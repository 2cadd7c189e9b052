use Rattle.texts.proofs.Named.{names_are_words}
use Rattle.texts.proofs.laws.names_are_words.Goals as goal

pub returns : goal.returns
returns c = names_are_words
