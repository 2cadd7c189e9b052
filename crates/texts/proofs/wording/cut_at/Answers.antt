use Rattle.std.proofs.Common.{eqb, rules, tests}
use Rattle.std.proofs.lemmas.Iterator.{YieldsList-from_slice}
use Rattle.std.proofs.lemmas.Iterator.Search.{position_from_yields_List}
use Rattle.texts.proofs.Splits.{cut_some, cut_none}
use Rattle.texts.proofs.wording.cut_at.Goals as goal

pub returns-in-Some : goal.returns-in-Some
returns-in-Some c =
    let both = cut_some (λ b. eqb b c.args.end) c.args.bytes.now c.in-Some.at c.position.result
    (position_from_yields_List (λ b. eqb b c.args.end) _ _ c.position.result c.position.ensures.ran (YieldsList-from_slice c.args.bytes.now cc) (λ x b q k. search (rules, tests)))
    c.in-Some.is in
    record { before = both.0; after = both.1 }

pub returns-in-None : goal.returns-in-None
returns-in-None c =
    let both = cut_none (λ b. eqb b c.args.end) c.args.bytes.now c.position.result
    (position_from_yields_List (λ b. eqb b c.args.end) _ _ c.position.result c.position.ensures.ran (YieldsList-from_slice c.args.bytes.now cc) (λ x b q k. search (rules, tests)))
    c.in-None.is in
    record { before = both.0; after = both.1 }
