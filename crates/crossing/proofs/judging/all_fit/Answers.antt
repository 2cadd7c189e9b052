use Rattle.std.proofs.Common.{rules, tests, ◌∙◌, sym, not}
use Rattle.greens.specs.Plans.{green_of}
use Rattle.crossing.specs.Good.{fits}
use Rattle.crossing.specs.Taken.{site_of}
use Rattle.crossing.proofs.Calm.{unfit_told, fit_told}
use Rattle.crossing.proofs.Ranges.{find_of}
use Rattle.crossing.proofs.judging.all_fit.Goals as goal

pub returns-in-Some : goal.returns-in-Some
returns-in-Some c =
    let site = site_of c.args.junction.now in
    let greens = green_of c.args.plan.now.greens in
    unfit_told site greens c.in-Some.stream
    (sym c.in-Some.is ∙ find_of site.streams (λ k. not (fits site k (greens k))) _ c.find-unfit.ensures.ran (search rules) (λ x b q k. search (rules, tests)))

pub returns-in-None : goal.returns-in-None
returns-in-None c =
    let site = site_of c.args.junction.now in
    let greens = green_of c.args.plan.now.greens in
    fit_told site greens
    (sym c.in-None.is ∙ find_of site.streams (λ k. not (fits site k (greens k))) _ c.find-unfit.ensures.ran (search rules) (λ x b q k. search (rules, tests)))
