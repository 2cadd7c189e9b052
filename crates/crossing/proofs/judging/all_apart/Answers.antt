use Rattle.std.proofs.Common.{rules, tests, ◌≡◌}
use Rattle.greens.specs.Plans.{green_of}
use Rattle.crossing.specs.Taken.{site_of}
use Rattle.crossing.specs.Verdicts.{Calm, FirstClose}
use Rattle.crossing.proofs.Calm.{close_told, apart_told}
use Rattle.crossing.proofs.Ranges.{find_map_of}
use Rattle.crossing.proofs.judging.all_apart.Goals as goal

pub returns-in-Some : goal.returns-in-Some
returns-in-Some c =
    let site = site_of c.args.junction.now in
    let greens = green_of c.args.plan.now.greens in
    close_told site greens c.find_map-close.result _ c.in-Some.is
    (find_map_of site.cycle (Calm site greens) (λ s three. (three.0 ≡ s) × FirstClose site greens s three.1 three.2)
    c.find_map-close.result c.find_map-close.ensures.runs (search rules) (λ x o q called. search rules) (λ x h called. search (rules, tests)) (λ x three h called. search (rules, tests)))

pub returns-in-None : goal.returns-in-None
returns-in-None c =
    let site = site_of c.args.junction.now in
    let greens = green_of c.args.plan.now.greens in
    apart_told site greens c.find_map-close.result c.in-None.is
    (find_map_of site.cycle (Calm site greens) (λ s three. (three.0 ≡ s) × FirstClose site greens s three.1 three.2)
    c.find_map-close.result c.find_map-close.ensures.runs (search rules) (λ x o q called. search rules) (λ x h called. search (rules, tests)) (λ x three h called. search (rules, tests)))
