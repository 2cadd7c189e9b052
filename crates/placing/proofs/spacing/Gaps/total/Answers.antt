use Rattle.std.proofs.Common.{◌≡◌, ◌+◌, ◌≤◌, arith, rules, tests}
use Rattle.crossing.specs.Below.{sum_to}
use Rattle.crossing.proofs.Ranges.{fold_of}
use Rattle.placing.specs.Crowds.{margin_of}
use Rattle.placing.proofs.Sharing.{sum_more}
use Rattle.placing.proofs.spacing.Gaps.total.Goals as goal

pub returns : goal.returns
returns c =
    let q = c.args.self.now in
    fold_of q.count (λ k a. a ≤ sum_to k (λ k. margin_of c.args.out.now k + margin_of c.args.into.now k)) c.fold.ensures.ran (search rules) (omega arith)
    (λ k a b q within so_far called.
    let turned : (q ≡ (c.args.out, c.args.into)) × (b ≤ a + (margin_of c.args.out.now k + margin_of c.args.into.now k)) = search (rules, tests) in
    (turned.0, omega (arith, so_far, turned.1, sum_more k (λ k. margin_of c.args.out.now k + margin_of c.args.into.now k))))
