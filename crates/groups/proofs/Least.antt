-- The least of a figure over what passes a test.
use Rattle.std.proofs.Common.{◌≡◌, ℕ, zero, suc, ◌<◌, ◌≤◌, Bool, true, false, Decides, refl, ⊎_elim, arith}
use Rattle.std.proofs.lemmas.Bool.{cases_eq, or_parts}
use Rattle.std.proofs.lemmas.Bool.Decides.{Decides-below_or, nat_tests}
use Rattle.groups.specs.Among.{some_to, least_among}

some_decides : (n : ℕ) (test : ℕ → Bool) → Decides (some_to n test) ((k : ℕ) × (k < n) × (test k ≡ true))
unfolding some_to
some_decides n test =
    Decides-below_or test (λ k. test k ≡ true) (λ m. some_to m test) (λ k. (λ e. e, λ e. e)) refl (λ m. refl) n

-- a number below n that passes the test
pub some_out : (n : ℕ) (test : ℕ → Bool) → some_to n test ≡ true → (k : ℕ) × (k < n) × (test k ≡ true)
some_out n test = (some_decides n test).0

pub some_in : (n : ℕ) (test : ℕ → Bool) (k : ℕ) → k < n → test k ≡ true → some_to n test ≡ true
some_in n test k h e = (some_decides n test).1 (k, h, e)

pub among_none : (n : ℕ) (test : ℕ → Bool) (figure : ℕ → ℕ) → some_to n test ≡ false → least_among n test figure ≡ 0
unfolding some_to least_among
among_none zero test figure e = refl
among_none (suc n) test figure e =
    let parts = or_parts (test n) (some_to n test) e in
    let here : test n ≡ false = parts.0 in
    rw here (among_none n test figure parts.1)

-- the least is at most the figure of any number that passes
pub among_out : (n : ℕ) (test : ℕ → Bool) (figure : ℕ → ℕ) (k : ℕ) → k < n → test k ≡ true → least_among n test figure ≤ figure k
unfolding least_among
among_out zero test figure k h e = absurd (omega arith)
among_out (suc n) test figure k h e =
    ⊎_elim
    (λ (last : k ≡ n). rw last (let here : test n ≡ true = rw last at e in grind (arith, nat_tests)))
    (λ (early : k ≡ n → ⊥).
    let before : least_among n test figure ≤ figure k = among_out n test figure k (omega arith) e in
    let found : some_to n test ≡ true = some_in n test k (omega arith) e in
    grind (arith, nat_tests))
    (cases_eq k n)
