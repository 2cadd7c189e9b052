use Rattle.std.proofs.Common.{◌*◌, ◌/◌, ◌%◌, refl, rules, tests, arith}
use Rattle.std.proofs.lemmas.Bool.{le-ltb}
use Rattle.std.proofs.lemmas.Iterator.{items_from_collect, YieldsList-from_map, YieldsList-from_range}
use Rattle.std.proofs.lemmas.Iterator.Consumers.{YieldsList-at}
use Rattle.texts.specs.Numbers.{table_number}
use Rattle.texts.proofs.numbers.table_of.Goals as goal

pub returns : goal.returns
returns c =
    rw (le-ltb 12 c.args.streams (omega arith))
    (items_from_collect _ c.collect.ensures.ran
    (YieldsList-from_map _ (λ k. table_number c.args.clearings.now (k / c.args.streams) (k % c.args.streams))
    (YieldsList-at c.map.ensures.source (YieldsList-from_range 0 (c.args.streams * c.args.streams) (c.args.streams * c.args.streams) refl (omega arith)))
    c.map.ensures.closure (λ x r q k. search (rules, tests))))
