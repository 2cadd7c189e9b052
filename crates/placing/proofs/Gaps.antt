-- Greens are placed exactly if each begins in the cycle and in its window and they are in order.
use Rattle.std.proofs.Common.{◌≡◌, ℕ, ◌+◌, ◌<◌, ◌≤◌, true, false, cond, not, ◌&&◌, ◌||◌, eqb, ltb, ◌⊎◌, inl, inr, ⊎_elim, arith}
use Rattle.std.proofs.Math.Logic.{⊎_swap}
use Rattle.std.proofs.lemmas.Bool.{cases_lt, cases_Bool, and_parts, and_from, or_cases, or_left, not-true, not_from_false, eqb-false, ne_eqb, ltb-true, lt-ltb, both_ways}
use Rattle.std.proofs.lemmas.Bool.Decides.{nat_tests}
use Rattle.crossing.proofs.Good.{apart_in}
use Rattle.placing.specs.Starts.{Task, Placed, green_at}
use Rattle.placing.specs.Orders.{tied, gap_of, Ordered}
use Rattle.placing.proofs.Bridge.{Keeps, keeps_out, keeps_in, off_in}

record Tied (t : Task) (a b : ℕ) : Type 0 where
  differ : a ≡ b → ⊥
  some : 1 ≤ t.long a
  others : 1 ≤ t.long b
  cross : (t.crosses a b ≡ true) ⊎ (t.crosses b a ≡ true)

tied_out : (t : Task) (a b : ℕ) → tied t a b ≡ true → Tied t a b
unfolding tied
tied_out t a b e =
    let two = and_parts (not (eqb a b)) (ltb 0 (t.long a) && (ltb 0 (t.long b) && (t.crosses a b || t.crosses b a))) e in
    let long = and_parts (ltb 0 (t.long a)) (ltb 0 (t.long b) && (t.crosses a b || t.crosses b a)) two.1 in
    let other = and_parts (ltb 0 (t.long b)) (t.crosses a b || t.crosses b a) long.1 in
    record {
      differ = eqb-false a b (not-true (eqb a b) two.0);
      some = ltb-true 0 (t.long a) long.0;
      others = ltb-true 0 (t.long b) other.0;
      cross = or_cases (t.crosses a b) (t.crosses b a) other.1;
    }

tied_in : (t : Task) (a b : ℕ) → (a ≡ b → ⊥) → 1 ≤ t.long a → 1 ≤ t.long b → (t.crosses a b || t.crosses b a) ≡ true → tied t a b ≡ true
unfolding tied
tied_in t a b differ some others cross =
    and_from _ _ (not_from_false (eqb a b) (ne_eqb a b differ)) (and_from _ _ (lt-ltb 0 (t.long a) some) (and_from _ _ (lt-ltb 0 (t.long b) others) cross))

tied_both : (t : Task) (a b : ℕ) → tied t a b ≡ tied t b a
unfolding tied
tied_both t a b = grind (arith, nat_tests)

pub gap_tied : (t : Task) (a b : ℕ) → tied t a b ≡ true → gap_of t a b ≡ t.long a + cond (t.crosses a b) (t.clear a b) 0
unfolding gap_of
gap_tied t a b e = rw e

pub gap_free : (t : Task) (a b : ℕ) → tied t a b ≡ false → gap_of t a b ≡ 0
unfolding gap_of
gap_free t a b e = rw e

-- a comes first by its gap, and b by its own before a's next turn
abbrev First : (c : ℕ) (gap : ℕ → ℕ → ℕ) (start : ℕ → ℕ) (a b : ℕ) → Type 0
First c gap start a b = (start a + gap a b ≤ start b) × (start b + gap b a ≤ start a + c)

-- the two cases of two that cross one way, over plain numbers
one_way :
    (c f g l m x p q : ℕ) → ((f + l + x ≤ g) × (g + m ≤ f + c)) ⊎ ((g + m ≤ f) × (f + l + x ≤ g + c)) → p ≡ l + x → q ≡ m →
    ((f + p ≤ g) × (g + q ≤ f + c)) ⊎ ((g + q ≤ f) × (f + p ≤ g + c))
one_way c f g l m x p q k e d =
    ⊎_elim
    (λ (h : (f + l + x ≤ g) × (g + m ≤ f + c)). inl (omega arith, omega arith))
    (λ (h : (g + m ≤ f) × (f + l + x ≤ g + c)). inr (omega arith, omega arith))
    k

-- and of two that cross both ways
each_way :
    (c f g l m x y p q : ℕ) → 1 ≤ l → 1 ≤ m → ((f + l + x ≤ g) × (g + m ≤ f + c)) ⊎ ((g + m ≤ f) × (f + l + x ≤ g + c)) →
    ((g + m + y ≤ f) × (f + l ≤ g + c)) ⊎ ((f + l ≤ g) × (g + m + y ≤ f + c)) → p ≡ l + x → q ≡ m + y →
    ((f + p ≤ g) × (g + q ≤ f + c)) ⊎ ((g + q ≤ f) × (f + p ≤ g + c))
each_way c f g l m x y p q some others k j e d =
    ⊎_elim
    (λ (h : (f + l + x ≤ g) × (g + m ≤ f + c)). inl (omega arith, omega (arith, j)))
    (λ (h : (g + m ≤ f) × (f + l + x ≤ g + c)). inr (omega (arith, j), omega arith))
    k

module _ (t : Task) (start : ℕ → ℕ) (p : Placed t start) where
  kept : (a : ℕ) → a < t.count → (b : ℕ) → b < t.count → Tied t a b → t.crosses a b ≡ true → Keeps t.cycle (t.clear a b) (green_at t start a) (green_at t start b)
  kept a ha b hb w e =
      keeps_out t.cycle (t.clear a b) (green_at t start a) (green_at t start b) (p.begins a ha) (p.begins b hb) w.some w.others
      (p.keeps a ha b hb e w.differ)

  two_out : (a : ℕ) → a < t.count → (b : ℕ) → b < t.count → tied t a b ≡ true → First t.cycle (gap_of t) start a b ⊎ First t.cycle (gap_of t) start b a
  two_out a ha b hb e =
      let w = tied_out t a b e in
      let back : tied t b a ≡ true = rw tied_both at e in
      let v = tied_out t b a back in
      let x : gap_of t a b ≡ t.long a + cond (t.crosses a b) (t.clear a b) 0 = gap_tied t a b e in
      let y : gap_of t b a ≡ t.long b + cond (t.crosses b a) (t.clear b a) 0 = gap_tied t b a back in
      ⊎_elim
      (λ (ab : t.crosses a b ≡ true).
      ⊎_elim
      (λ (ba : t.crosses b a ≡ true).
      each_way t.cycle (start a) (start b) (t.long a) (t.long b) (t.clear a b) (t.clear b a) (gap_of t a b) (gap_of t b a) w.some w.others
      (kept a ha b hb w ab) (kept b hb a ha v ba) (rw ab at x) (rw ba at y))
      (λ (ba : t.crosses b a ≡ false).
      let z : gap_of t b a ≡ t.long b + 0 = rw ba at y in
      one_way t.cycle (start a) (start b) (t.long a) (t.long b) (t.clear a b) (gap_of t a b) (gap_of t b a) (kept a ha b hb w ab) (rw ab at x) (omega arith))
      (cases_Bool (t.crosses b a)))
      (λ (ab : t.crosses a b ≡ false).
      ⊎_elim
      (λ (no_way : t.crosses a b ≡ true). absurd (both_ways (t.crosses a b) ab no_way))
      (λ (ba : t.crosses b a ≡ true).
      let z : gap_of t a b ≡ t.long a + 0 = rw ab at x in
      ⊎_swap (one_way t.cycle (start b) (start a) (t.long b) (t.long a) (t.clear b a) (gap_of t b a) (gap_of t a b) (kept b hb a ha v ba) (rw ba at y) (omega arith)))
      w.cross)
      (cases_Bool (t.crosses a b))

pub placed_out : (t : Task) (start : ℕ → ℕ) → Placed t start → Ordered t.count t.cycle (gap_of t) start
placed_out t start p = record {
  first = λ a ha b hb.
      ⊎_elim
      (λ (e : tied t a b ≡ true).
      ⊎_elim
      (λ (f : First t.cycle (gap_of t) start a b). inl f.0)
      (λ (f : First t.cycle (gap_of t) start b a). inr f.0)
      (two_out t start p a ha b hb e))
      (λ (e : tied t a b ≡ false).
      let x : gap_of t a b ≡ 0 = gap_free t a b e in
      let y : gap_of t b a ≡ 0 = gap_free t b a (rw tied_both at e) in
      ⊎_elim (λ (l : start a < start b). inl (omega arith)) (λ (l : start b ≤ start a). inr (omega arith)) (cases_lt (start a) (start b)))
      (cases_Bool (tied t a b));
  round = λ a ha b hb.
      ⊎_elim
      (λ (e : tied t a b ≡ true).
      ⊎_elim
      (λ (f : First t.cycle (gap_of t) start a b). omega (arith, f.0))
      (λ (f : First t.cycle (gap_of t) start b a). omega (arith, f.1))
      (two_out t start p a ha b hb e))
      (λ (e : tied t a b ≡ false).
      let x : gap_of t a b ≡ 0 = gap_free t a b e in
      omega (arith, p.begins a ha))
      (cases_Bool (tied t a b));
}

two_in :
    (t : Task) (start : ℕ → ℕ) → Ordered t.count t.cycle (gap_of t) start → (a : ℕ) → a < t.count → (b : ℕ) → b < t.count → t.crosses a b ≡ true → tied t a b ≡ true →
    Keeps t.cycle (t.clear a b) (green_at t start a) (green_at t start b)
two_in t start o a ha b hb crosses e =
    let x : gap_of t a b ≡ t.long a + cond (t.crosses a b) (t.clear a b) 0 = gap_tied t a b e in
    let z : gap_of t a b ≡ t.long a + t.clear a b = rw crosses at x in
    let y : gap_of t b a ≡ t.long b + cond (t.crosses b a) (t.clear b a) 0 = gap_tied t b a (rw tied_both at e) in
    let there = o.round a ha b hb in
    let back = o.round b hb a ha in
    ⊎_elim
    (λ (f : start a + gap_of t a b ≤ start b). inl (omega arith, omega arith))
    (λ (f : start b + gap_of t b a ≤ start a). inr (omega arith, omega arith))
    (o.first a ha b hb)

pub placed_in :
    (t : Task) (start : ℕ → ℕ) → ((k : ℕ) → k < t.count → start k < t.cycle) →
    ((k : ℕ) → k < t.count → (t.lowest k ≤ start k) × (start k ≤ t.highest k)) →
    Ordered t.count t.cycle (gap_of t) start → Placed t start
placed_in t start begins window o = record {
  begins = begins;
  window = window;
  keeps = λ a ha b hb crosses differ.
      ⊎_elim
      (λ (none : t.long a < 1). apart_in t.cycle (t.clear a b) (green_at t start a) (green_at t start b) (λ s sc some soon. absurd (omega arith)))
      (λ (some : 1 ≤ t.long a).
      ⊎_elim
      (λ (none : t.long b < 1).
      apart_in t.cycle (t.clear a b) (green_at t start a) (green_at t start b) (λ s sc more soon. off_in t.cycle s (green_at t start b) (omega arith)))
      (λ (others : 1 ≤ t.long b).
      keeps_in t.cycle (t.clear a b) (green_at t start a) (green_at t start b) (begins a ha) (begins b hb)
      (two_in t start o a ha b hb crosses (tied_in t a b differ some others (or_left _ _ crosses))))
      (cases_lt (t.long b) 1))
      (cases_lt (t.long a) 1);
}
