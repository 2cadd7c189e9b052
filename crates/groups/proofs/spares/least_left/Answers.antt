use Rattle.std.proofs.Common.{◌≡◌, rules, arith}
use Rattle.crossing.specs.Taken.{site_of}
use Rattle.crossing.proofs.Ranges.{fold_of}
use Rattle.groups.specs.Spares.{AtMost}
use Rattle.groups.proofs.Spare.{under_cycle, most_either}
use Rattle.groups.proofs.spares.least_left.Goals as goal

pub returns : goal.returns
returns c =
    fold_of c.args.junction.now.count (λ k most. AtMost (site_of c.args.junction.now) most) c.fold.ensures.ran (search rules)
    (λ q is_good all_go.
    let whole : c.seconds-cycle.result ≡ (site_of c.args.junction.now).cycle = cc in
    omega (arith, (under_cycle (site_of c.args.junction.now)).each q is_good all_go))
    (λ k most next q within so_far called. search (rules, most_either))
