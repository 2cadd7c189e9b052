use Rattle.std.proofs.Common.{not, rules, tests}
use Rattle.std.proofs.lemmas.Iterator.{YieldsList-from_slice}
use Rattle.std.proofs.lemmas.Iterator.Search.{position_from_yields_List}
use Rattle.texts.specs.Words.{blank}
use Rattle.texts.proofs.Splits.{first_or_all}
use Rattle.texts.proofs.wording.blanks.Goals as goal

pub returns-clause-is : goal.returns-clause-is
returns-clause-is c =
    first_or_all (λ b. not (blank b)) c.args.line.now _ c.position-first.result
    (position_from_yields_List (λ b. not (blank b)) _ _ c.position-first.result c.position-first.ensures.ran (YieldsList-from_slice c.args.line.now cc) (λ x b q k. search (rules, tests)))
    c.unwrap_or.ensures
