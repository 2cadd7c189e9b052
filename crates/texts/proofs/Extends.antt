-- What an iterator yields, put after what is there. Assumes nothing.
use Rattle.std.proofs.Common.{◌≡◌, ℕ, List, ◌++◌, Option, Result, OnOk, ap, sym, ◌∙◌, map-id}
use Rattle.std.proofs.iter.Yields.{gives_Drains}
use Rattle.std.proofs.lemmas.Iterator.{YieldsList}
use Rattle.std.proofs.lemmas.Result.{MatchResult-weaker}
use Rattle.std.specs.Iterator.{Drains}
use Rattle.std.specs.Result.{MatchResult}
use Rattle.texts.specs.Printed.{Adds}

pub adds_items : {S E : Type 0} (steps : S → Option ℕ → S → Type 0) (s : S) (start last all : List ℕ) (r : Result (Unit {0}) E) (xs : List ℕ) (Else : E → Type 0) → last ≡ start ++ xs → MatchResult r (λ _. Drains steps s xs) Else → YieldsList steps (λ x. x) s all → OnOk r (Adds start last all)
adds_items {S} {E} steps s start last all r xs Else is ran yields =
    MatchResult-weaker r ran (λ u d. record { is = is ∙ ap (λ l. start ++ l) (sym (map-id xs) ∙ gives_Drains steps (λ x. x) xs all s yields.runs d) }) (λ _ _. tt)
