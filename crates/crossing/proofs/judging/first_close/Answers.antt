use Rattle.std.proofs.Common.{rules, tests, ◌≡◌, Some, None}
use Rattle.greens.specs.Plans.{green_of}
use Rattle.crossing.specs.Taken.{site_of, row_in}
use Rattle.crossing.specs.Verdicts.{close_to}
use Rattle.crossing.proofs.Clashes.{RowCalm, RowClose, row_tells, rows_tell}
use Rattle.crossing.proofs.Ranges.{find_map_of}
use Rattle.crossing.proofs.judging.first_close.Goals as goal

pub returns : goal.returns
returns c =
    let j = c.args.junction.now in
    let site = site_of j in
    let greens = green_of c.args.plan.now.greens in
    let s = c.args.second in
    rows_tell site greens s c.find_map.result
    (find_map_of site.streams (RowCalm site greens s) (λ a two. (two.0 ≡ a) × RowClose site greens s a two.1)
    c.find_map.result c.find_map.ensures.runs (search rules) (λ x o q called. search rules)
    (λ x h called.
    let none : None ≡ close_to j.cycle.seconds (row_in j x) greens x s = search (rules, tests) in
    row_tells j greens x s None h none)
    (λ x two h called.
    let some : (two.0 ≡ x) × (Some two.1 ≡ close_to j.cycle.seconds (row_in j x) greens x s) = search (rules, tests) in
    (some.0, row_tells j greens x s (Some two.1) h some.1)))
