-- What moving a bound does to the room that is left, and to who obeys.
use Rattle.std.proofs.Common.{◌≡◌, ℕ, zero, suc, ◌<◌, ◌≤◌, Bool, true, false, ◌⊎◌, List, [], ◌∷◌, length, get_or, set, refl, inl, inr, ⊎_elim, arith, get_or-set_other, get_or-set_same}
use Rattle.std.proofs.lemmas.Bool.{cases_eq, cases_Bool}
use Rattle.placing.specs.declared.room.Bounds.{Bounds}
use Rattle.placing.specs.declared.spacing.Gaps.{Gaps}
use Rattle.placing.specs.Bounds.{Obeys, Raised, Lowered, room, room_of, low_of, high_of}
use Rattle.placing.specs.Sizes.{most_greens}

room_raise : (low high : List ℕ) (k to : ℕ) → k < length low → get_or low k 0 < to → to ≤ get_or high k 0 → room (set low k to) high < room low high
unfolding room
room_raise [] high k to within news fits = absurd (omega arith)
room_raise (l ∷ low) [] k to within news fits = absurd (omega arith)
room_raise (l ∷ low) (h ∷ high) zero to within news fits = omega arith
room_raise (l ∷ low) (h ∷ high) (suc k) to within news fits = omega (arith, room_raise low high k to (omega arith) news fits)

room_lower : (low high : List ℕ) (k to : ℕ) → k < length low → to < get_or high k 0 → get_or low k 0 ≤ to → room low (set high k to) < room low high
unfolding room
room_lower [] high k to within news fits = absurd (omega arith)
room_lower (l ∷ low) [] k to within news fits = absurd (omega arith)
room_lower (l ∷ low) (h ∷ high) zero to within news fits = omega arith
room_lower (l ∷ low) (h ∷ high) (suc k) to within news fits = omega (arith, room_lower low high k to (omega arith) news fits)

-- a list written at a place, read
set_cases : (xs : List ℕ) (k to j : ℕ) → k < length xs → ((j ≡ k) × (get_or (set xs k to) j 0 ≡ to)) ⊎ ((j ≡ k → ⊥) × (get_or (set xs k to) j 0 ≡ get_or xs j 0))
set_cases xs k to j within =
    ⊎_elim
    (λ (e : j ≡ k). inl (e, rw e (get_or-set_same xs k to 0 within)))
    (λ (ne : j ≡ k → ⊥). inr (ne, get_or-set_other xs k j to 0 ne))
    (cases_eq j k)

module _ (q : Gaps) (s t : Bounds) (k to : ℕ) (within : k < most_greens) where
  pub raised_room : Raised s t k to true → room_of t < room_of s
  raised_room r =
      rw (r.low refl, r.same.0) (room_raise s.low s.high k to (omega (arith, s.framed.0)) (r.fits refl).0 (r.fits refl).1)

  raised_cases : (moved : Bool) → Raised s t k to moved → (j : ℕ) → (low_of t j ≡ low_of s j) ⊎ ((j ≡ k) × ((low_of t j ≡ to) × (low_of s k < to)))
  raised_cases moved r j =
      ⊎_elim
      (λ (e : moved ≡ true).
      ⊎_elim
      (λ (h : (j ≡ k) × (get_or (set s.low k to) j 0 ≡ to)). inr (h.0, (rw (r.low e) h.1, (r.fits e).0)))
      (λ (h : (j ≡ k → ⊥) × (get_or (set s.low k to) j 0 ≡ low_of s j)). inl (rw (r.low e) h.1))
      (set_cases s.low k to j (omega (arith, s.framed.0))))
      (λ (e : moved ≡ false). inl (rw (r.still e)))
      (cases_Bool moved)

  pub raised_keeps : (moved : Bool) → Raised s t k to moved → (start : ℕ → ℕ) → to ≤ start k → Obeys q s start → Obeys q t start
  raised_keeps moved r start late o = record {
    low = λ j h.
        ⊎_elim
        (λ (e : low_of t j ≡ low_of s j). omega (arith, o.low j h))
        (λ (e : (j ≡ k) × ((low_of t j ≡ to) × (low_of s k < to))). rw (e.1.0, e.0) late)
        (raised_cases moved r j);
    high = λ j h. rw r.same.0 (o.high j h);
    order = λ a ha b hb h. o.order a ha b hb (rw r.same.1 at h);
  }

  pub raised_back : (moved : Bool) → Raised s t k to moved → (start : ℕ → ℕ) → Obeys q t start → Obeys q s start
  raised_back moved r start o = record {
    low = λ j h.
        ⊎_elim
        (λ (e : low_of t j ≡ low_of s j). omega (arith, o.low j h))
        (λ (e : (j ≡ k) × ((low_of t j ≡ to) × (low_of s k < to))).
        let less : low_of s j < to = rw e.0 e.1.1 in
        omega (arith, o.low j h))
        (raised_cases moved r j);
    high = λ j h. rw (← r.same.0) (o.high j h);
    order = λ a ha b hb h. o.order a ha b hb (rw r.same.1 h);
  }

module _ (q : Gaps) (s t : Bounds) (k to : ℕ) (within : k < most_greens) where
  pub lowered_room : Lowered s t k to true → room_of t < room_of s
  lowered_room r =
      rw (r.high refl, r.same.0) (room_lower s.low s.high k to (omega (arith, s.framed.0)) (r.fits refl).0 (r.fits refl).1)

  lowered_cases : (moved : Bool) → Lowered s t k to moved → (j : ℕ) → (high_of t j ≡ high_of s j) ⊎ ((j ≡ k) × ((high_of t j ≡ to) × (to < high_of s k)))
  lowered_cases moved r j =
      ⊎_elim
      (λ (e : moved ≡ true).
      ⊎_elim
      (λ (h : (j ≡ k) × (get_or (set s.high k to) j 0 ≡ to)). inr (h.0, (rw (r.high e) h.1, (r.fits e).0)))
      (λ (h : (j ≡ k → ⊥) × (get_or (set s.high k to) j 0 ≡ high_of s j)). inl (rw (r.high e) h.1))
      (set_cases s.high k to j (omega (arith, s.framed.1))))
      (λ (e : moved ≡ false). inl (rw (r.still e)))
      (cases_Bool moved)

  pub lowered_keeps : (moved : Bool) → Lowered s t k to moved → (start : ℕ → ℕ) → start k ≤ to → Obeys q s start → Obeys q t start
  lowered_keeps moved r start early o = record {
    low = λ j h. rw r.same.0 (o.low j h);
    high = λ j h.
        ⊎_elim
        (λ (e : high_of t j ≡ high_of s j). omega (arith, o.high j h))
        (λ (e : (j ≡ k) × ((high_of t j ≡ to) × (to < high_of s k))). rw (e.1.0, e.0) early)
        (lowered_cases moved r j);
    order = λ a ha b hb h. o.order a ha b hb (rw r.same.1 at h);
  }

  pub lowered_back : (moved : Bool) → Lowered s t k to moved → (start : ℕ → ℕ) → Obeys q t start → Obeys q s start
  lowered_back moved r start o = record {
    low = λ j h. rw (← r.same.0) (o.low j h);
    high = λ j h.
        ⊎_elim
        (λ (e : high_of t j ≡ high_of s j). omega (arith, o.high j h))
        (λ (e : (j ≡ k) × ((high_of t j ≡ to) × (to < high_of s k))).
        let less : to < high_of s j = rw e.0 e.1.1 in
        omega (arith, o.high j h))
        (lowered_cases moved r j);
    order = λ a ha b hb h. o.order a ha b hb (rw r.same.1 h);
  }
