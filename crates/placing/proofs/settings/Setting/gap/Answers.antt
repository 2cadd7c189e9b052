use Rattle.std.proofs.Common.{◌≡◌, ℕ, ◌-◌, cond, ltb, sym, arith}
use Rattle.std.proofs.lemmas.Bool.{cond_both, ltb-false}
use Rattle.placing.specs.Settings.{task_of, entry_of}
use Rattle.placing.proofs.Gaps.{gap_free, gap_tied}
use Rattle.placing.proofs.settings.Setting.gap.Goals as goal

-- what has to be clear is one less than the table says
clear_is : (n : ℕ) → cond (ltb 0 n) (n - 1) 0 ≡ n - 1
clear_is n = cond_both (ltb 0 n) (n - 1) 0 (λ x. x ≡ n - 1) (λ e. omega arith) (λ e. omega (arith, ltb-false 0 n e))

pub returns-then-not-are_tied : goal.returns-then-not-are_tied
returns-then-not-are_tied c = λ ha hb. sym (gap_free (task_of c.args.self.now) c.args.first c.args.second (sym (c.if-not-are_tied.ensures ha hb)))

pub returns : goal.returns
returns c = λ ha hb.
    omega (
      arith,
      gap_tied (task_of c.args.self.now) c.args.first c.args.second (sym (c.if-not-are_tied.ensures ha hb)),
      clear_is (entry_of c.args.self.now c.args.first c.args.second),
    )
