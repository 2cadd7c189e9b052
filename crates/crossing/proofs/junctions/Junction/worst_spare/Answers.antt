use Rattle.std.proofs.Common.{rules, tests, ◌≡◌, ◌∙◌, min, sym}
use Rattle.greens.specs.Plans.{green_of}
use Rattle.crossing.specs.Below.{least_to}
use Rattle.crossing.specs.Good.{worst, spare}
use Rattle.crossing.specs.Taken.{site_of}
use Rattle.crossing.proofs.Below.{least_none, least_more}
use Rattle.crossing.proofs.Ranges.{fold_of}
use Rattle.crossing.proofs.junctions.Junction.worst_spare.Goals as goal

pub returns : goal.returns
unfolding worst spare
returns c =
    let site = site_of c.args.self.now in
    let greens = green_of c.args.plan.now.greens in
    fold_of c.args.self.now.count (λ k a. a ≡ least_to k (spare site greens) site.cycle) c.fold.ensures.ran (search rules)
    (search (rules, least_none))
    (λ k a b q within so_far called.
    let turned : (q ≡ (c.args.plan, c.args.self)) × (b ≡ min (spare site greens k) a) = search (rules, tests) in
    (turned.0, turned.1 ∙ (rw so_far (sym (least_more k (spare site greens) site.cycle)))))
