-- Counting the seconds in which a green is on.
use Rattle.std.proofs.Common.{◌≡◌, ℕ, zero, suc, ◌+◌, ◌-◌, ◌<◌, ◌≤◌, min, Bool, cond, ltb, refl, add-one, arith}
use Rattle.std.specs.List.{range_with_len, sum_by}
use Rattle.std.proofs.lemmas.Bool.{cond_both, ltb-true, ltb-false}
use Rattle.std.proofs.lemmas.List.{map-id}
use Rattle.std.proofs.lemmas.List.FromFn.{sum_by-map-range_with_len_more}
use Rattle.greens.specs.declared.lights.Green.{Green}
use Rattle.greens.specs.Circle.{after}
use Rattle.greens.specs.Greens.{on, count_to}
use Rattle.greens.proofs.Circle.{after_cases}

pub count_none : (test : ℕ → Bool) → count_to 0 test ≡ 0
unfolding count_to
count_none test = refl

pub count_more : (n : ℕ) (test : ℕ → Bool) → count_to (n + 1) test ≡ count_to n test + cond (test n) 1 0
unfolding count_to
count_more n test = rw add-one

-- a test counted over the numbers below n
pub counted : (n : ℕ) (test : ℕ → Bool) → sum_by (λ s. cond (test s) 1 0) (range_with_len 0 n) ≡ count_to n test
unfolding count_to
counted zero test = refl
counted (suc n) test =
    let more : sum_by (λ s. cond (test s) 1 0) (range_with_len 0 (suc n)) ≡ sum_by (λ s. cond (test s) 1 0) (range_with_len 0 n) + cond (test n) 1 0
    = rw add-one at (simp map-id at (sum_by-map-range_with_len_more (λ s. cond (test s) 1 0) (λ x. x) 0 n n (omega arith)))
    in
    omega (arith, more, counted n test)

pub count_within : (n : ℕ) (test : ℕ → Bool) → count_to n test ≤ n
unfolding count_to
count_within zero test = omega arith
count_within (suc n) test =
    cond_both (test n) 1 0 (λ x. count_to n test + x ≤ suc n) (λ e. omega (arith, count_within n test)) (λ e. omega (arith, count_within n test))

-- below a second n a green is on from its beginning up to n or its end, and in what of it goes over the cycle's end
count_on : (c : ℕ) (g : Green) → g.from < c → g.long ≤ c → (n : ℕ) → n ≤ c →
    count_to n (on c g) ≡ (min n (g.from + g.long) - g.from) + min n (g.from + g.long - c)
unfolding count_to on
count_on c g fits whole zero within = omega arith
count_on c g fits whole (suc n) within =
    cond_both (ltb (after c g.from n) g.long) 1 0
    (λ x. count_to n (on c g) + x ≡ (min (suc n) (g.from + g.long) - g.from) + min (suc n) (g.from + g.long - c))
    (λ e. omega (arith, count_on c g fits whole n (omega arith), after_cases c g.from n fits (omega arith), ltb-true (after c g.from n) g.long e))
    (λ e. omega (arith, count_on c g fits whole n (omega arith), after_cases c g.from n fits (omega arith), ltb-false (after c g.from n) g.long e))

-- a green is on in as many seconds of a cycle as it says, wherever it begins
pub as_long : (c : ℕ) (g : Green) → g.from < c → g.long ≤ c → count_to c (on c g) ≡ g.long
as_long c g fits whole = omega (arith, count_on c g fits whole c (omega arith))
