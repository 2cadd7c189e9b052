use Rattle.std.proofs.Common.{rules, ◌≡◌, true, false}
use Rattle.placing.specs.Crowds.{member_of}
use Rattle.greens.proofs.Made.{made_of}
use Rattle.placing.proofs.shares.Group.margins.Goals as goal

pub returns-clause-none : goal.returns-clause-none
returns-clause-none g c = λ k h.
    made_of _ (λ k y. member_of c.args.self.now k ≡ false → y ≡ 0) _ _ (λ k y q called. search rules) _ c.from_fn.ensures.items k 0 h

pub returns-clause-some : goal.returns-clause-some
returns-clause-some g c = λ k h.
    made_of _ (λ k y. member_of c.args.self.now k ≡ true → goal.F-post g c.args.number k y) _ _ (λ k y q called. search rules) _ c.from_fn.ensures.items k 0 h
