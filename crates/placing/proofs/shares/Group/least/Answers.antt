use Rattle.std.proofs.Common.{rules, tests, ◌≡◌, ℕ, ◌<◌, ◌≤◌, ◌≢◌, true, below_more, arith}
use Rattle.crossing.proofs.Ranges.{fold_of}
use Rattle.placing.specs.Crowds.{member_of}
use Rattle.placing.proofs.shares.Group.least.Goals as goal

pub returns-clause-whole : goal.returns-clause-whole
returns-clause-whole g c =
    fold_of c.args.count (λ n a. a ≤ c.args.bound) c.fold.ensures.ran (search rules) (omega arith)
    (λ n a b q within so_far called. let less : b ≤ a = search (rules, tests) in (search rules, omega arith))

pub returns-clause-least : goal.returns-clause-least
returns-clause-least g c =
    fold_of c.args.count
    (λ n a. (k : ℕ) → k < n → member_of c.args.self.now k ≡ true → (k ≢ c.args.but) → (y : ℕ) × goal.F-post g c.args.number k y × (a ≤ y))
    c.fold.ensures.ran (search rules) (λ k h. absurd (omega arith))
    (λ n a b q within so_far called.
    let less : b ≤ a = search (rules, tests) in
    let here : member_of c.args.self.now n ≡ true → (n ≢ c.args.but) → (y : ℕ) × goal.F-post g c.args.number n y × (b ≤ y) = λ m ne. search (rules, tests) in
    (search rules, below_more _ _ (λ k h m ne. let old = so_far k h m ne in (old.0, old.1, omega arith)) here))
