use Rattle.std.proofs.Common.{rules, tests, ℕ, ◌+◌, ◌<◌, MatchOption, arith}
use Rattle.crossing.proofs.Ranges.{fold_of}
use Rattle.placing.specs.Clashes.{OneFirst, Clashing}
use Rattle.placing.proofs.spacing.Gaps.tightest_with.Goals as goal

pub returns : goal.returns
returns c =
    let q = c.args.self.now in
    let s = c.args.bounds.now in
    let all =
    fold_of (c.args.one + 1) (λ n best. MatchOption best ((b : ℕ) → b < n → OneFirst q s c.args.one b) (λ c. Clashing q s c.first c.second)) c.fold.ensures.ran
    (search rules) (λ b h. absurd (omega arith)) (λ n a b q within so_far called. search (rules, tests))
    in
    search rules
