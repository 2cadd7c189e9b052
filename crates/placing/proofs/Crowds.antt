-- Greens that keep apart share the cycle: together they are no longer than it.
use Rattle.std.proofs.Common.{◌≡◌, ℕ, zero, suc, ◌+◌, ◌-◌, ◌<◌, ◌≤◌, Bool, true, false, cond, leb, ◌⊎◌, sym, refl, inl, inr, ⊎_elim, arith}
use Rattle.std.proofs.lemmas.Bool.{cases_Bool, cases_lt, ltb-true, leb-true, leb-false}
use Rattle.greens.specs.declared.lights.Green.{Green}
use Rattle.greens.specs.Circle.{after}
use Rattle.greens.specs.Greens.{on, count_to}
use Rattle.greens.proofs.Counts.{as_long}
use Rattle.crossing.specs.Below.{sum_to}
use Rattle.crossing.proofs.Good.{apart_out}
use Rattle.placing.proofs.Bridge.{Keeps, keeps_in, off_in}

count_zero : (n : ℕ) (test : ℕ → Bool) → ((k : ℕ) → k < n → test k ≡ false) → count_to n test ≡ 0
unfolding count_to
count_zero zero test none = refl
count_zero (suc n) test none = rw (none n (omega arith)) (omega (arith, count_zero n test (λ k h. none k (omega arith))))

-- tests of which no two hold together hold once at most
count_once :
    (n : ℕ) (test : ℕ → Bool) → ((a : ℕ) → a < n → (b : ℕ) → b < n → (a ≡ b → ⊥) → test a ≡ true → test b ≡ false) → count_to n test ≤ 1
unfolding count_to
count_once zero test alone = omega arith
count_once (suc n) test alone =
    ⊎_elim
    (λ (e : test n ≡ true). rw e (omega (arith, count_zero n test (λ k h. alone n (omega arith) k (omega arith) (λ same. omega arith) e))))
    (λ (e : test n ≡ false). rw e (omega (arith, count_once n test (λ a ha b hb. alone a (omega arith) b (omega arith)))))
    (cases_Bool (test n))

-- one second more
sum_split :
    (n m : ℕ) (test : ℕ → ℕ → Bool) → sum_to n (λ k. count_to (suc m) (test k)) ≡ sum_to n (λ k. count_to m (test k)) + count_to n (λ k. test k m)
unfolding sum_to count_to
sum_split zero m test = refl
sum_split (suc n) m test = omega (arith, sum_split n m test)

sum_none : (n : ℕ) (test : ℕ → ℕ → Bool) → sum_to n (λ k. count_to 0 (test k)) ≡ 0
unfolding sum_to count_to
sum_none zero test = refl
sum_none (suc n) test = omega (arith, sum_none n test)

-- where in each second one at most is on, all are on in no more seconds than there are
sum_seconds :
    (n m : ℕ) (test : ℕ → ℕ → Bool) → ((s : ℕ) → s < m → count_to n (λ k. test k s) ≤ 1) → sum_to n (λ k. count_to m (test k)) ≤ m
sum_seconds n zero test once = omega (arith, sum_none n test)
sum_seconds n (suc m) test once = omega (arith, sum_split n m test, once m (omega arith), sum_seconds n m test (λ s h. once s (omega arith)))

sum_like : (n : ℕ) (figure other : ℕ → ℕ) → ((k : ℕ) → k < n → figure k ≡ other k) → sum_to n figure ≡ sum_to n other
unfolding sum_to
sum_like zero figure other same = refl
sum_like (suc n) figure other same = omega (arith, same n (omega arith), sum_like n figure other (λ k h. same k (omega arith)))

module _ (n c : ℕ) (green : ℕ → Green) (begins : (k : ℕ) → k < n → (green k).from < c) (whole : (k : ℕ) → k < n → (green k).long ≤ c)
    (keeps : (a : ℕ) → a < n → (b : ℕ) → b < n → (a ≡ b → ⊥) → 1 ≤ (green a).long → 1 ≤ (green b).long → Keeps c 0 (green a) (green b)) where
  alone : (s : ℕ) → s < c → (a : ℕ) → a < n → (b : ℕ) → b < n → (a ≡ b → ⊥) → on c (green a) s ≡ true → on c (green b) s ≡ false
  unfolding on
  alone s hs a ha b hb differ e =
      let soon : after c (green a).from s < (green a).long = ltb-true (after c (green a).from s) (green a).long e in
      ⊎_elim
      (λ (none : (green b).long < 1). off_in c s (green b) (omega arith))
      (λ (some : 1 ≤ (green b).long).
      apart_out c 0 (green a) (green b) (keeps_in c 0 (green a) (green b) (begins a ha) (begins b hb) (keeps a ha b hb differ (omega arith) some)) s hs (omega arith) (omega arith))
      (cases_lt (green b).long 1)

  pub share : sum_to n (λ k. (green k).long) ≤ c
  share =
      let each : sum_to n (λ k. (green k).long) ≡ sum_to n (λ k. count_to c (on c (green k))) =
      sum_like n (λ k. (green k).long) (λ k. count_to c (on c (green k))) (λ k h. sym (as_long c (green k) (begins k h) (whole k h)))
      in
      omega (arith, sum_seconds n c (λ k s. on c (green k) s) (λ s hs. count_once n (λ k. on c (green k) s) (alone s hs)))

-- a start moved back by so many seconds, round the cycle's beginning
earlier : (c x by : ℕ) → ℕ
earlier c x by = cond (leb by x) (x - by) (x + c - by)

earlier_cases : (c x by : ℕ) → by ≤ c → ((by ≤ x) × (earlier c x by + by ≡ x)) ⊎ ((x < by) × (earlier c x by + by ≡ x + c))
unfolding earlier
earlier_cases c x by within =
    ⊎_elim
    (λ (e : leb by x ≡ true). let l = leb-true by x e in inl (l, rw e (omega arith)))
    (λ (e : leb by x ≡ false). let l = leb-false by x e in inr (l, rw e (omega arith)))
    (cases_Bool (leb by x))

-- two that come one after the other with such room before and after each, moved back by the room before
moved_keeps :
    (c x y d e bx by zx zy lx ly : ℕ) → 1 ≤ lx → 1 ≤ ly → bx ≤ lx → by ≤ ly → ((x + d ≤ y) × (y + e ≤ x + c)) ⊎ ((y + e ≤ x) × (x + d ≤ y + c)) →
    ((bx ≤ x) × (zx + bx ≡ x)) ⊎ ((x < bx) × (zx + bx ≡ x + c)) → ((by ≤ y) × (zy + by ≡ y)) ⊎ ((y < by) × (zy + by ≡ y + c)) →
    lx + by ≤ d + bx → ly + bx ≤ e + by → ((zx + lx + 0 ≤ zy) × (zy + ly ≤ zx + c)) ⊎ ((zy + ly ≤ zx) × (zx + lx + 0 ≤ zy + c))
moved_keeps c x y d e bx by zx zy lx ly some others bl bm pair cx cy there back =
    ⊎_elim
    (λ (h : zx < zy). inl (omega (arith, pair, cx, cy), omega (arith, pair, cx, cy)))
    (λ (h : zy ≤ zx). inr (omega (arith, pair, cx, cy), omega (arith, pair, cx, cy)))
    (cases_lt zx zy)

-- what a crowd is: room after and before each of n greens, so much that the room after a and that before b fit between a and b
pub record Crowd (n c : ℕ) (span : ℕ → ℕ → ℕ) (out into : ℕ → ℕ) : Type 0 where
  pub whole : (k : ℕ) → k < n → out k + into k ≤ c
  pub fits : (a : ℕ) → a < n → (b : ℕ) → b < n → (a ≡ b → ⊥) → 1 ≤ out a + into a → 1 ≤ out b + into b → out a + into b ≤ span a b

module _ (n c : ℕ) (span : ℕ → ℕ → ℕ) (out into : ℕ → ℕ) (crowd : Crowd n c span out into) (start : ℕ → ℕ) (begins : (k : ℕ) → k < n → start k < c)
    (two : (a : ℕ) → a < n → (b : ℕ) → b < n → ((start a + span a b ≤ start b) × (start b + span b a ≤ start a + c)) ⊎ ((start b + span b a ≤ start a) × (start a + span a b ≤ start b + c))) where
  widened : ℕ → Green
  widened k = record { from = earlier c (start k) (into k); long = out k + into k }

  pub crowd_shares : sum_to n (λ k. out k + into k) ≤ c
  unfolding widened
  crowd_shares =
      share n c widened
      (λ k h. let w = crowd.whole k h in omega (arith, earlier_cases c (start k) (into k) (omega arith), begins k h))
      crowd.whole
      (λ a ha b hb differ some others.
      let wa = crowd.whole a ha in
      let wb = crowd.whole b hb in
      let there = crowd.fits a ha b hb differ some others in
      let back = crowd.fits b hb a ha (λ e. differ (sym e)) others some in
      moved_keeps c (start a) (start b) (span a b) (span b a) (into a) (into b) (earlier c (start a) (into a)) (earlier c (start b) (into b)) (out a + into a) (out b + into b)
      some others (omega arith) (omega arith) (two a ha b hb) (earlier_cases c (start a) (into a) (omega arith)) (earlier_cases c (start b) (into b) (omega arith)) (omega arith) (omega arith))
