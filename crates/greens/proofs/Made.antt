-- What an array holds that `from_fn` made, place by place.
use Rattle.std.proofs.Common.{◌≡◌, ℕ, zero, suc, ◌+◌, ◌<◌, ◌≤◌, List, get_or, refl, sym, subst, ⊎_elim, arith}
use Rattle.std.proofs.lemmas.Bool.{cases_eq}
use Rattle.std.specs.Array.{IsFromFnResult, IsFromFnResultFrom}
use denote.Param.Members.{Mut, Called}

module _ {F B : Type 0} (g : Mut F (ℕ × Unit {0}) B) (P : ℕ → B → Type 0) (f : F) (ys : List B)
    (answers : (k : ℕ) (y : B) (q : F) → Called g f (k, tt) y q → (q ≡ f) × P k y) where
  made_from : (n i : ℕ) (h : F) → h ≡ f → IsFromFnResultFrom g h ys i n → (k : ℕ) (d : B) → i ≤ k → k < i + n → P k (get_or ys k d)
  made_from zero i h e each k d low high = absurd (omega arith)
  made_from (suc n) i h e each k d low high =
      let here : (each.0 ≡ f) × P i each.1 = answers i each.1 each.0 (subst (λ x. Called g x (i, tt) each.1 each.0) e each.3) in
      ⊎_elim
      (λ (same : k ≡ i). rw same (subst (λ y. P i y) (sym (each.2.1 d)) here.1))
      (λ (other : k ≡ i → ⊥). made_from n (i + 1) each.0 here.0 each.4 k d (omega arith) (omega arith))
      (cases_eq k i)

  pub made_of : (n : ℕ) → IsFromFnResult g f ys n → (k : ℕ) (d : B) → k < n → P k (get_or ys k d)
  made_of n made k d h = made_from n 0 f refl made.each k d (omega arith) (omega arith)
