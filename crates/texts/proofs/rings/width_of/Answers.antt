use Rattle.std.proofs.Common.{◌^◌, not, cond, rules, tests, arith}
use Rattle.std.proofs.lemmas.Iterator.{YieldsList-from_slice, YieldsList-from_map}
use Rattle.std.proofs.lemmas.Iterator.Adapters.{at_most_from_yields_List, fits_from_length}
use Rattle.std.proofs.lemmas.Iterator.Consumers.{YieldsList-at, sum_by_from_yields_List}
use Rattle.texts.specs.Rings.{goes_on, wide}
use Rattle.texts.proofs.rings.width_of.Goals as goal

-- no name is as long as half of all numbers
pub sum-requires-clause-fits : goal.sum-requires-clause-fits
sum-requires-clause-fits c =
    fits_from_length _ _ (2 ^ 63) (2 ^ 64)
    (at_most_from_yields_List (YieldsList-at c.map.ensures.source (YieldsList-from_slice c.args.name.now cc)) (omega arith))
    c.map.ensures.closure (omega arith) (λ x r q k. search (rules, tests))

pub returns : goal.returns
unfolding wide
returns c =
    sum_by_from_yields_List (λ b. cond (not (goes_on b)) 1 0) c.args.name.now _ c.sum.result c.sum.ensures.ran
    (YieldsList-from_map _ (λ b. cond (not (goes_on b)) 1 0) (YieldsList-at c.map.ensures.source (YieldsList-from_slice c.args.name.now cc)) c.map.ensures.closure (λ x r q k. search (rules, tests)))
