-- One green put before another, and low bounds that are starts.
use Rattle.std.proofs.Common.{◌≡◌, ℕ, ◌+◌, ◌<◌, ◌≤◌, Bool, true, false, ◌⊎◌, [], length, get_or, set, sym, ◌∙◌, inl, inr, ⊎_elim, arith, get_or-set_other, get_or-set_same}
use Rattle.std.proofs.lemmas.List.Elements.{All-get_or}
use Rattle.std.proofs.lemmas.Bool.{cases_eq, cases_lt, cases_Bool}
use Rattle.placing.specs.declared.room.Bounds.{Bounds}
use Rattle.placing.specs.declared.spacing.Gaps.{Gaps}
use Rattle.placing.specs.Gaps.{gap_at}
use Rattle.placing.specs.Bounds.{Obeys, Raised, low_of, before_of}
use Rattle.placing.specs.Clashes.{OneFirst}
use Rattle.placing.specs.Steps.{Narrowed}
use Rattle.placing.specs.Searches.{Put, Found}
use Rattle.placing.proofs.Rooms.{raised_room, raised_keeps, raised_back}
use Rattle.placing.specs.Sizes.{most_greens}

module _ (q : Gaps) (s m t : Bounds) (a b to : ℕ) (ha : a < q.count) (hb : b < q.count) (upward : to ≡ low_of s a + gap_at q a b)
    (low : t.low ≡ m.low) (high : t.high ≡ m.high) (put : t.before ≡ set m.before a (set (get_or m.before a []) b true)) where
  -- a place of the table that was written
  put_cases : (x y : ℕ) → ((x ≡ a) × (y ≡ b)) ⊎ (before_of t x y ≡ before_of m x y)
  put_cases x y =
      ⊎_elim
      (λ (row : x ≡ a).
      ⊎_elim
      (λ (column : y ≡ b). inl (row, column))
      (λ (other : y ≡ b → ⊥).
      let within : a < length m.before = omega (arith, q.few, m.sized) in
      inr (rw (put, row, get_or-set_same m.before a (set (get_or m.before a []) b true) [] within) (get_or-set_other (get_or m.before a []) b y true false other)))
      (cases_eq y b))
      (λ (other : x ≡ a → ⊥). inr (rw (put, get_or-set_other m.before a x (set (get_or m.before a []) b true) [] other)))
      (cases_eq x a)

  -- what is before what now: a before b, and what was
  put_order :
      (start : ℕ → ℕ) → start a + gap_at q a b ≤ start b → Obeys q m start →
      (x : ℕ) → x < q.count → (y : ℕ) → y < q.count → before_of t x y ≡ true → start x + gap_at q x y ≤ start y
  put_order start first o x hx y hy h =
      ⊎_elim
      (λ (same : (x ≡ a) × (y ≡ b)). rw (same.0, same.1) first)
      (λ (kept : before_of t x y ≡ before_of m x y). o.order x hx y hy (sym kept ∙ h))
      (put_cases x y)

  put_kept : (x y : ℕ) → before_of m x y ≡ true → before_of t x y ≡ true
  put_kept x y h =
      ⊎_elim
      (λ (same : (x ≡ a) × (y ≡ b)).
      let row : a < length m.before = omega (arith, q.few, m.sized) in
      let column : b < length (get_or m.before a []) = omega (arith, q.few, All-get_or (λ row. length row ≡ most_greens) m.before a [] row m.square) in
      rw (put, same.0, same.1, get_or-set_same m.before a (set (get_or m.before a []) b true) [] row) (get_or-set_same (get_or m.before a []) b true false column))
      (λ (kept : before_of t x y ≡ before_of m x y). kept ∙ h)
      (put_cases x y)

  pub put_from : (moved : Bool) → Raised s m b to moved → Put q s t a b
  put_from moved r =
      let within : b < most_greens = omega (arith, q.few) in
      record {
        keeps = λ start o first.
            let raised = raised_keeps q s m b to within moved r start (omega (arith, o.low a ha)) o in
            record {
              low = λ k h. rw low (raised.low k h);
              high = λ k h. rw high (raised.high k h);
              order = put_order start first raised;
            };
        back = λ start o.
            raised_back q s m b to within moved r start (record {
              low = λ k h. rw (← low) (o.low k h);
              high = λ k h. rw (← high) (o.high k h);
              order = λ x hx y hy h. o.order x hx y hy (put_kept x y h);
            });
        less = λ early.
            rw (low, high)
            (⊎_elim
            (λ (e : moved ≡ true). raised_room q s m b to within (rw e at r))
            (λ (e : moved ≡ false). absurd (omega (arith, r.enough e)))
            (cases_Bool moved));
      }

-- low bounds of which any two are settled, and one of any two comes first, are starts
pub found_from :
    (q : Gaps) (s t : Bounds) → Narrowed q s t → ((a : ℕ) → a < q.count → (b : ℕ) → b ≤ a → OneFirst q t a b) → Found q s (low_of t)
found_from q s t n first = record {
  ordered = record {
    first = λ a ha b hb.
        ⊎_elim
        (λ (h : a < b).
        ⊎_elim
        (λ (x : low_of t b + gap_at q b a ≤ low_of t a). inr x)
        (λ (x : low_of t a + gap_at q a b ≤ low_of t b). inl x)
        (first b hb a (omega arith)))
        (λ (h : b ≤ a). first a ha b h)
        (cases_lt a b);
    round = λ a ha b hb. (n.settled a ha b hb).round;
  };
  obeys = n.narrower.back (low_of t) (record {
    low = λ k h. omega arith;
    high = λ k h. (n.settled k h k h).fits;
    order = λ a ha b hb h. (n.settled a ha b hb).order h;
  });
}
