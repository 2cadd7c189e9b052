use Rattle.std.proofs.Common.{rules, tests, ℕ, ◌≤◌, ◌<◌, MatchOption, arith}
use Rattle.crossing.proofs.Ranges.{fold_of}
use Rattle.placing.specs.Clashes.{OneFirst, Clashing}
use Rattle.placing.proofs.spacing.Gaps.tightest.Goals as goal

pub returns : goal.returns
returns c =
    let q = c.args.self.now in
    let s = c.args.bounds.now in
    fold_of q.count (λ n best. MatchOption best ((a : ℕ) → a < n → (b : ℕ) → b ≤ a → OneFirst q s a b) (λ c. Clashing q s c.first c.second)) c.fold.ensures.ran
    (search rules) (λ a h. absurd (omega arith)) (λ n a b q within so_far called. search (rules, tests))
