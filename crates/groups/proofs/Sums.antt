-- Sums of a figure over the numbers below a number, and seconds that at most one claims.
use Rattle.std.proofs.Common.{◌≡◌, ℕ, zero, suc, ◌+◌, ◌<◌, ◌≤◌, Bool, true, false, cond, refl, ⊎_elim, arith}
use Rattle.std.proofs.lemmas.Bool.{cases_Bool}
use Rattle.greens.specs.Greens.{count_to}
use Rattle.crossing.specs.Below.{sum_to}

-- a sum of no larger figures is no larger
pub sum_mono : (n : ℕ) (f g : ℕ → ℕ) → ((k : ℕ) → k < n → f k ≤ g k) → sum_to n f ≤ sum_to n g
unfolding sum_to
sum_mono zero f g each = omega arith
sum_mono (suc n) f g each = omega (arith, sum_mono n f g (λ k h. each k (omega arith)), each n (omega arith))

sum_plus : (n : ℕ) (f g : ℕ → ℕ) → sum_to n (λ k. f k + g k) ≡ sum_to n f + sum_to n g
unfolding sum_to
sum_plus zero f g = refl
sum_plus (suc n) f g = omega (arith, sum_plus n f g)

sum_zeros : (n : ℕ) → sum_to n (λ k. 0) ≡ 0
unfolding sum_to
sum_zeros zero = refl
sum_zeros (suc n) = omega (arith, sum_zeros n)

one_if : (ℕ → Bool) → ℕ → ℕ
one_if test k = cond (test k) 1 0

-- no number passes the test: the sum is 0
sum_nobody : (n : ℕ) (test : ℕ → Bool) → ((k : ℕ) → k < n → test k ≡ false) → sum_to n (one_if test) ≡ 0
unfolding sum_to one_if
sum_nobody zero test each = refl
sum_nobody (suc n) test each = let here = each n (omega arith) in rw here (omega (arith, sum_nobody n test (λ k h. each k (omega arith))))

-- at most one number passes the test: the sum is at most 1
sum_once : (n : ℕ) (test : ℕ → Bool) → ((a : ℕ) → a < n → (b : ℕ) → b < n → test a ≡ true → test b ≡ true → a ≡ b) → sum_to n (one_if test) ≤ 1
unfolding sum_to one_if
sum_once zero test single = omega arith
sum_once (suc n) test single =
    ⊎_elim
    (λ (here : test n ≡ true).
    let nobody = sum_nobody n test (λ k h.
    ⊎_elim
    (λ (there : test k ≡ true). absurd (omega (arith, single k (omega arith) n (omega arith) there here)))
    (λ (free : test k ≡ false). free)
    (cases_Bool (test k))) in
    rw here (omega (arith, nobody)))
    (λ (free : test n ≡ false).
    rw free (omega (arith, sum_once n test (λ a ha b hb. single a (omega arith) b (omega arith)))))
    (cases_Bool (test n))

-- where each second is claimed by at most one, all together claim no more seconds than there are
pub claims_share : (n c : ℕ) (claim : ℕ → ℕ → Bool) →
    ((s : ℕ) → s < c → (a : ℕ) → a < n → (b : ℕ) → b < n → claim a s ≡ true → claim b s ≡ true → a ≡ b) →
    sum_to n (λ k. count_to c (claim k)) ≤ c
unfolding count_to one_if
claims_share n zero claim single = omega (arith, sum_zeros n)
claims_share n (suc c) claim single =
    let before = claims_share n c claim (λ s h. single s (omega arith)) in
    let now = sum_once n (λ k. claim k c) (single c (omega arith)) in
    omega (arith, before, now, sum_plus n (λ k. count_to c (claim k)) (one_if (λ k. claim k c)))
