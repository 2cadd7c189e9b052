use Rattle.std.proofs.Common.{◌∙◌, rules, tests}
use Rattle.std.specs.Str.{bytes_eq}
use Rattle.std.proofs.lemmas.Iterator.{YieldsList-from_slice}
use Rattle.std.proofs.lemmas.Iterator.Search.{position_from_yields_List}
use Rattle.texts.proofs.Seeks.{position_seen}
use Rattle.texts.proofs.taking.place_of.Goals as goal

pub returns : goal.returns
returns c =
    position_from_yields_List (λ n. bytes_eq n.now c.args.name.now) _ _ c.position.result c.position.ensures.ran (YieldsList-from_slice c.args.names.now cc) (λ x b q k. search (rules, tests))
    ∙ position_seen (λ n. bytes_eq n c.args.name.now) c.args.names.now
