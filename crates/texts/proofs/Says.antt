-- A line of two or five words that is of no kind. Assumes nothing.
use Rattle.std.proofs.Common.{◌≡◌, ℕ, false, ◌&&◌, List, [], ◌∷◌, map, length, get_or, codes, arith, Bor}
use Rattle.std.specs.Str.{bytes_eq}
use Rattle.texts.specs.Lines.{unread, line_in}

module _ (d : Bor (List ℕ)) where
  pub no_two : (ws : List (Bor (List ℕ))) → length ws ≡ 2 → bytes_eq (get_or ws 0 d).now (codes "junction") ≡ false → bytes_eq (get_or ws 0 d).now (codes "cycle") ≡ false → unread ≡ line_in (map (λ x. x.now) ws)
  unfolding line_in
  no_two [] is junction cycle = absurd (omega arith)
  no_two (a ∷ []) is junction cycle = absurd (omega arith)
  no_two (a ∷ b ∷ []) is junction cycle = rw (junction, cycle)
  no_two (a ∷ b ∷ c ∷ ws) is junction cycle = absurd (omega arith)

  pub no_five : (ws : List (Bor (List ℕ))) → length ws ≡ 5 → (bytes_eq (get_or ws 1 d).now (codes "least") && bytes_eq (get_or ws 3 d).now (codes "comes")) ≡ false → unread ≡ line_in (map (λ x. x.now) ws)
  unfolding line_in
  no_five [] is other = absurd (omega arith)
  no_five (a ∷ []) is other = absurd (omega arith)
  no_five (a ∷ b ∷ []) is other = absurd (omega arith)
  no_five (a ∷ b ∷ c ∷ []) is other = absurd (omega arith)
  no_five (a ∷ b ∷ c ∷ d' ∷ []) is other = absurd (omega arith)
  no_five (a ∷ b ∷ c ∷ d' ∷ e ∷ []) is other = rw other
  no_five (a ∷ b ∷ c ∷ d' ∷ e ∷ f ∷ ws) is other = absurd (omega arith)
