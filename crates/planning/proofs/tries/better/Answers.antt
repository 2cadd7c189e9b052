use Rattle.std.proofs.Common.{◌≡◌, rules, tests}
use Rattle.greens.specs.Plans.{green_of}
use Rattle.crossing.specs.Taken.{site_of}
use Rattle.planning.proofs.Progress.{stays, kept, takes_or_keeps}
use Rattle.planning.proofs.tries.better.Goals as goal

pub returns-in_default : goal.returns-in_default
returns-in_default c = stays (site_of c.args.junction.now) c.args.best (green_of c.args.plan.greens) c.requires c.in_default.ensures

pub returns : goal.returns
returns c =
    let told = c.in-Some.ensures in
    let is : c.filter.result ≡ kept c.args.best c.in-Some.spare = search (rules, tests) in
    rw (c.or.ensures, is)
    (takes_or_keeps (site_of c.args.junction.now) c.args.best (record { plan = c.args.plan; spare = c.in-Some.spare }) c.requires
    (record { is_good = told.0; all_go = told.1; spares = told.2 }))
