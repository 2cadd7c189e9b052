-- Trying all: some choice of a number below c for each of n places passes a test, or none does.
use Rattle.std.proofs.Common.{◌≡◌, ℕ, zero, suc, ◌<◌, ◌≤◌, Bool, true, false, cond, eqb, ltb, ◌⊎◌, refl, inl, inr, ⊎_elim, arith}
use mathlib.Core.Path.{fun_ext}
use Rattle.std.proofs.lemmas.Bool.{cases_lt, cases_eq, cases_Bool, both_ways, cond-true, cond-false, lt-ltb, le-ltb, eq-eqb, ne_eqb}

-- g below n, and f from there on
abbrev pub joined : (n : ℕ) (g f : ℕ → ℕ) → ℕ → ℕ
joined n g f k = cond (ltb k n) (g k) (f k)

-- f, but s at n
abbrev changed : (f : ℕ → ℕ) (n s : ℕ) → ℕ → ℕ
changed f n s k = cond (eqb k n) s (f k)

pub joined_below : (n : ℕ) (g f : ℕ → ℕ) (k : ℕ) → k < n → joined n g f k ≡ g k
joined_below n g f k h = cond-true (ltb k n) (g k) (f k) (lt-ltb k n h)

joined_none : (g f : ℕ → ℕ) → joined 0 g f ≡ f
joined_none g f = fun_ext (λ k. cond-false (ltb k 0) (g k) (f k) (le-ltb k 0 (omega arith)))

-- one place more: its choice is put where g would not reach
joined_more : (n : ℕ) (g f : ℕ → ℕ) → joined (suc n) g f ≡ joined n g (changed f n (g n))
joined_more n g f = fun_ext (λ k.
    ⊎_elim
    (λ (below : k < n).
    rw (lt-ltb k (suc n) (omega arith), lt-ltb k n below))
    (λ (past : n ≤ k).
    ⊎_elim
    (λ (here : k ≡ n). rw (here, lt-ltb n (suc n) (omega arith), le-ltb n n (omega arith), eq-eqb n n refl))
    (λ (beyond : k ≡ n → ⊥). rw (le-ltb k (suc n) (omega arith), le-ltb k n past, ne_eqb k n beyond))
    (cases_eq k n))
    (cases_lt k n))

module _ (c : ℕ) (test : (ℕ → ℕ) → Bool) where
  -- some choice passes
  abbrev pub Some : Type 0
  Some = (g : ℕ → ℕ) × (test g ≡ true)

  -- no choice below n passes, with f from there on
  abbrev pub None : (n : ℕ) (f : ℕ → ℕ) → Type 0
  None n f = (g : ℕ → ℕ) → ((k : ℕ) → k < n → g k < c) → test (joined n g f) ≡ true → ⊥

  -- if for each s below m it is decided with s at n, it is decided for all of them
  each : (n m : ℕ) (f : ℕ → ℕ) → ((s : ℕ) → Some ⊎ None n (changed f n s)) → Some ⊎ ((s : ℕ) → s < m → None n (changed f n s))
  each n zero f decided = inr (λ s h. absurd (omega arith))
  each n (suc m) f decided =
      ⊎_elim
      (λ (some : Some). inl some)
      (λ (none : None n (changed f n m)).
      ⊎_elim
      (λ (some : Some). inl some)
      (λ (before : (s : ℕ) → s < m → None n (changed f n s)).
      inr (λ s h.
      ⊎_elim
      (λ (here : s ≡ m). rw here none)
      (λ (other : s ≡ m → ⊥). before s (omega arith))
      (cases_eq s m)))
      (each n m f decided))
      (decided m)

  pub some_or_none : (n : ℕ) (f : ℕ → ℕ) → Some ⊎ None n f
  some_or_none zero f =
      ⊎_elim
      (λ (passes : test f ≡ true). inl (f, passes))
      (λ (fails : test f ≡ false). inr (λ g within passes. both_ways (test f) fails (rw joined_none at passes)))
      (cases_Bool (test f))
  some_or_none (suc n) f =
      ⊎_elim
      (λ (some : Some). inl some)
      (λ (none : (s : ℕ) → s < c → None n (changed f n s)).
      inr (λ g within passes. none (g n) (within n (omega arith)) g (λ k h. within k (omega arith)) (rw joined_more at passes)))
      (each n c f (λ s. some_or_none n (changed f n s)))
