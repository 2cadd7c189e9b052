-- One piece put after another. Assumes nothing.
use Rattle.std.proofs.Common.{◌≡◌, ℕ, ◌+◌, ◌<◌, ◌≤◌, List, [], ◌++◌, map, length, get_or, drop, sym, ap, ◌∙◌, append_assoc, append-nil, Bor, Result, Ok, Err, OnOk, is_ok, true}
use lib.ListN.{length-map}
use Rattle.std.proofs.lemmas.List.{at_drop_more, at_drop_all, get_or-map}
use Rattle.std.proofs.lemmas.Result.{MatchResult-weaker}
use Rattle.greens.specs.declared.lights.Green.{Green}
use Rattle.texts.specs.Printed.{Adds, Puts}
use Rattle.texts.specs.Answers.{each_from}

pub two_puts : {start mid last a b : List ℕ} → Adds start mid a → Adds mid last b → Adds start last (a ++ b)
two_puts {start} {mid} {last} {a} {b} one two = record { is = two.is ∙ ap (λ l. l ++ b) one.is ∙ append_assoc start a b }

pub then_put : {U E : Type 0} (r : Result U E) {start mid a : List ℕ} (last b : List ℕ) → Adds start mid a → OnOk r (Adds mid last b) → OnOk r (Adds start last (a ++ b))
then_put r last b one two = MatchResult-weaker r two (λ _ more. two_puts one more) (λ _ _. tt)

-- a loop that puts a piece for each stream, one after the other
module _ (piece : List ℕ → Green → List ℕ) (names : List (Bor (List ℕ))) (plan : ℕ → Green) (k : ℕ) where
  step : (d : Bor (List ℕ)) → k < length names → each_from piece (drop k (map (λ x. x.now) names)) k plan ≡ piece (get_or names k d).now (plan k) ++ each_from piece (drop (k + 1) (map (λ x. x.now) names)) (k + 1) plan
  unfolding each_from
  step d within =
      let long : k < length (map (λ x. x.now) names) = rw length-map within in
      let one : each_from piece (drop k (map (λ x. x.now) names)) k plan ≡ piece (get_or (map (λ x. x.now) names) k []) (plan k) ++ each_from piece (drop (k + 1) (map (λ x. x.now) names)) (k + 1) plan = at_drop_more (λ l. each_from piece l k plan) (map (λ x. x.now) names) k [] long in
      one ∙ ap (λ n. piece n (plan k) ++ each_from piece (drop (k + 1) (map (λ x. x.now) names)) (k + 1) plan) (get_or-map (λ x. x.now) names k d [] within)

  pub each_more : (d : Bor (List ℕ)) (out more whole : List ℕ) → k < length names → Adds out more (piece (get_or names k d).now (plan k)) → out ++ each_from piece (drop k (map (λ x. x.now) names)) k plan ≡ whole → more ++ each_from piece (drop (k + 1) (map (λ x. x.now) names)) (k + 1) plan ≡ whole
  each_more d out more whole within put old =
      ap (λ l. l ++ each_from piece (drop (k + 1) (map (λ x. x.now) names)) (k + 1) plan) put.is
      ∙ append_assoc out (piece (get_or names k d).now (plan k)) (each_from piece (drop (k + 1) (map (λ x. x.now) names)) (k + 1) plan)
      ∙ ap (λ l. out ++ l) (sym (step d within)) ∙ old

  -- one turn: the call put the piece of the k-th stream
  pub each_put : {Out E : Type 0} {items : Out → List ℕ} {called : Out → Bor (List ℕ) → Green → Result (Unit {0}) E → Out → Type 0} → Puts items called piece → (d : Bor (List ℕ)) (old new : Out) (green : Green) (result : Result (Unit {0}) E) (whole : List ℕ) → called old (get_or names k d) green result new → is_ok result ≡ true → green ≡ plan k → k < length names → items old ++ each_from piece (drop k (map (λ x. x.now) names)) k plan ≡ whole → items new ++ each_from piece (drop (k + 1) (map (λ x. x.now) names)) (k + 1) plan ≡ whole
  each_put {Out} {E} {items} puts d old new green (Ok u) whole called ok is within left = each_more d (items old) (items new) whole within (rw is at (puts old (get_or names k d) green (Ok u) new called)) left
  each_put puts d old new green (Err e) whole called ok is within left = absurd (cc ok)

  pub each_all : (out whole : List ℕ) → length names ≤ k → out ++ each_from piece (drop k (map (λ x. x.now) names)) k plan ≡ whole → out ≡ whole
  unfolding each_from
  each_all out whole past old =
      let long : length (map (λ x. x.now) names) ≤ k = rw length-map past in
      let none : each_from piece (drop k (map (λ x. x.now) names)) k plan ≡ [] = at_drop_all (λ l. each_from piece l k plan) (map (λ x. x.now) names) k long in
      sym (append-nil out) ∙ ap (λ l. out ++ l) (sym none) ∙ old
