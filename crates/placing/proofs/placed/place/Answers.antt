use Rattle.std.proofs.Common.{ℕ, Some, None, Option, MatchOption}
use Rattle.placing.specs.Bounds.{Nobody}
use Rattle.placing.specs.Searches.{Found, start_of}
use Rattle.placing.specs.Settings.{task_of}
use Rattle.placing.specs.Starts.{Placed}
use Rattle.placing.proofs.Opening.{nowhere, somewhere}
use Rattle.placing.proofs.placed.place.Goals as goal

cases_like : {A : Type 0} (o : Option A) (P R : Type 0) (Q S : A → Type 0) → (P → R) → ((x : A) → Q x → S x) → MatchOption o P Q → MatchOption o R S
cases_like None P R Q S f h c = f c
cases_like (Some x) P R Q S f h c = h x c

pub returns : goal.returns
returns c =
    let setting = c.args.setting.now in
    let gaps = c.measure-gaps.result in
    let bounds = c.open-bounds.result in
    cases_like c.search.result (Nobody gaps bounds) ((start : ℕ → ℕ) → Placed (task_of setting) start → ⊥) (λ t. Found gaps bounds (start_of t))
    (λ t. Placed (task_of setting) (start_of t)) (nowhere setting gaps bounds c.measure-gaps.ensures c.open-bounds.ensures)
    (λ t. somewhere setting gaps bounds c.measure-gaps.ensures c.open-bounds.ensures (start_of t)) c.search.ensures
