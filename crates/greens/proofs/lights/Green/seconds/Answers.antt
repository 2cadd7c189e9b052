use Rattle.std.proofs.Common.{◌∙◌, cond, arith, rules, tests}
use Rattle.std.specs.List.{range_with_len}
use Rattle.std.proofs.lemmas.Iterator.{YieldsList-from_range, YieldsList-from_map}
use Rattle.std.proofs.lemmas.Iterator.Adapters.{at_most_from_yields_List, fits_from_length}
use Rattle.std.proofs.lemmas.Iterator.Consumers.{YieldsList-at, sum_by_from_yields_List}
use Rattle.std.proofs.lemmas.List.FromFn.{length-range_with_len}
use Rattle.greens.specs.Greens.{on}
use Rattle.greens.proofs.Counts.{counted, as_long}
use Rattle.greens.proofs.lights.Green.seconds.Goals as goal

-- at most 120 seconds, each counted once
pub sum-requires-clause-fits : goal.sum-requires-clause-fits
sum-requires-clause-fits c =
    let all = c.args.cycle.seconds in
    fits_from_length _ _ 120 256
    (at_most_from_yields_List (YieldsList-at c.map.ensures.source (YieldsList-from_range 0 all all (search rules) (omega arith))) (omega (arith, length-range_with_len 0 all)))
    c.map.ensures.closure (omega arith) (λ x r q k. search (rules, tests))

pub returns-clause-counted : goal.returns-clause-counted
returns-clause-counted c =
    let all = c.args.cycle.seconds in
    sum_by_from_yields_List (λ s. cond (on all c.args.self s) 1 0) (range_with_len 0 all) _ c.sum.result c.sum.ensures.ran
    (YieldsList-from_map _ (λ s. cond (on all c.args.self s) 1 0) (YieldsList-at c.map.ensures.source (YieldsList-from_range 0 all all (search rules) (omega arith))) c.map.ensures.closure (λ x r q k. search (rules, tests)))
    ∙ counted all (on all c.args.self)

pub returns-clause-stated : goal.returns-clause-stated
returns-clause-stated c = λ fits whole. returns-clause-counted c ∙ as_long c.args.cycle.seconds c.args.self fits whole
