use Rattle.std.proofs.Common.{rules, tests, nat_le}
use Rattle.greens.specs.Plans.{green_of}
use Rattle.crossing.specs.Good.{enough}
use Rattle.crossing.specs.Taken.{site_of}
use Rattle.crossing.proofs.Ranges.{all_of}
use Rattle.crossing.proofs.junctions.Junction.all_go.Goals as goal

pub returns : goal.returns
unfolding enough
returns c =
    let site = site_of c.args.self.now in
    all_of c.args.self.now.count (λ k. nat_le (site.comes k) (green_of c.args.plan.now.greens k).long) c.all.ensures.ran (search rules) (λ x b q k. search (rules, tests))
