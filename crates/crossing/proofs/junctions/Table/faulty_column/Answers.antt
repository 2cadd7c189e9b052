use Rattle.std.proofs.Common.{rules, tests, ◌<◌, ◌+◌, ◌*◌}
use Rattle.std.proofs.lemmas.Iterator.{serves_from_Range}
use Rattle.crossing.specs.Numbers.{fault}
use Rattle.crossing.proofs.Faults.{fault_row, place_within}
use Rattle.crossing.proofs.Ranges.{find_of}
use Rattle.crossing.proofs.junctions.Table.faulty_column.Goals as goal

pub find-requires-clause-callable : goal.find-requires-clause-callable
find-requires-clause-callable c =
    serves_from_Range (λ x q k. search (rules, tests))
    (λ x from to.
    let n = c.args.self.now.width in
    let here : x < n = to in
    let within : x * n + c.args.a < n * n = place_within n c.args.a x c.requires.there here in
    search rules)

pub returns : goal.returns
returns c =
    let table = c.args.self.now in
    find_of table.width (fault table.width table.numbers.now c.args.a) _ c.find.ensures.ran (search rules)
    (λ x b q k.
    let same = λ (h : x < table.width). fault_row table.width c.row-row.result.now table.numbers.now c.args.a x c.row-row.ensures.row h in
    search (rules, tests, same))
