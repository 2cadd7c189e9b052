-- Taking tests over the numbers below a number apart, and putting them together.
use Rattle.std.proofs.Common.{◌≡◌, ℕ, zero, suc, ◌+◌, ◌<◌, ◌≤◌, min, Option, Some, None, cond, ltb, sym, subst, ap, Bool, true, false, Decides, refl, ⊎_elim, add-one, arith}
use Rattle.std.proofs.lemmas.Bool.{both_ways, cases_Bool, cases_eq, cases_lt, cases_order, lt-ltb, le-ltb}
use Rattle.std.proofs.lemmas.Bool.Decides.{Decides-below_and, nat_tests}
use Rattle.std.specs.Prelude.{MatchOption}
use Rattle.crossing.specs.Below.{all_to, first_to, found_to, least_to}

all_decides : (n : ℕ) (test : ℕ → Bool) → Decides (all_to n test) ((k : ℕ) → k < n → test k ≡ true)
unfolding all_to
all_decides n test =
    Decides-below_and test (λ k. test k ≡ true) (λ m. all_to m test) (λ k. (λ e. e, λ e. e)) refl (λ m. refl) n

pub all_out : (n : ℕ) (test : ℕ → Bool) → all_to n test ≡ true → (k : ℕ) → k < n → test k ≡ true
all_out n test = (all_decides n test).0

pub all_in : (n : ℕ) (test : ℕ → Bool) → ((k : ℕ) → k < n → test k ≡ true) → all_to n test ≡ true
all_in n test = (all_decides n test).1

pub least_out : (n : ℕ) (figure : ℕ → ℕ) (bound k : ℕ) → k < n → least_to n figure bound ≤ figure k
unfolding least_to
least_out zero figure bound k h = omega arith
least_out (suc n) figure bound k h =
    ⊎_elim
    (λ (e : k ≡ n). rw e (omega arith))
    (λ (e : k ≡ n → ⊥). omega (arith, least_out n figure bound k (omega arith)))
    (cases_eq k n)

pub least_bound : (n : ℕ) (figure : ℕ → ℕ) (bound : ℕ) → least_to n figure bound ≤ bound
unfolding least_to
least_bound zero figure bound = omega arith
least_bound (suc n) figure bound = omega (arith, least_bound n figure bound)

pub least_in : (n : ℕ) (figure : ℕ → ℕ) (bound w : ℕ) → w ≤ bound → ((k : ℕ) → k < n → w ≤ figure k) → w ≤ least_to n figure bound
unfolding least_to
least_in zero figure bound w top each = top
least_in (suc n) figure bound w top each =
    omega (arith, least_in n figure bound w top (λ k h. each k (omega arith)), each n (omega arith))

pub least_more : (n : ℕ) (figure : ℕ → ℕ) (bound : ℕ) → least_to (n + 1) figure bound ≡ min (figure n) (least_to n figure bound)
unfolding least_to
least_more n figure bound = rw add-one

-- the first number that passes: none below it does
pub first_within : (n : ℕ) (test : ℕ → Bool) → first_to n test ≤ n
unfolding first_to
first_within zero test = omega arith
first_within (suc n) test = let ih = first_within n test in grind (arith, nat_tests)

pub first_none : (n : ℕ) (test : ℕ → Bool) → ((k : ℕ) → k < n → test k ≡ false) → first_to n test ≡ n
unfolding first_to
first_none zero test none = refl
first_none (suc n) test none =
    let ih = first_none n test (λ k h. none k (omega arith)) in
    let here = none n (omega arith) in
    grind (arith, nat_tests)

pub first_below : (n : ℕ) (test : ℕ → Bool) (k : ℕ) → k < first_to n test → test k ≡ false
unfolding first_to
first_below zero test k h = absurd (omega arith)
first_below (suc n) test k h =
    let old : k < first_to n test → test k ≡ false = first_below n test k in
    let top = first_within n test in
    ⊎_elim
    (λ (e : k ≡ n). rw e (let h2 : n < first_to (suc n) test = rw e at h in grind (arith, nat_tests)))
    (λ (e : k ≡ n → ⊥). old (grind (arith, nat_tests)))
    (cases_eq k n)

pub first_here : (n : ℕ) (test : ℕ → Bool) → first_to n test < n → test (first_to n test) ≡ true
unfolding first_to
first_here zero test h = absurd (omega arith)
first_here (suc n) test h =
    let old : first_to n test < n → test (first_to n test) ≡ true = first_here n test in
    let top = first_within n test in
    grind (arith, nat_tests)

-- the first number that passes is the one that does, with none below it that does
pub first_is : (n : ℕ) (test : ℕ → Bool) (i : ℕ) → i < n → ((k : ℕ) → k < i → test k ≡ false) → test i ≡ true → i ≡ first_to n test
first_is n test i within none here =
    ⊎_elim
    (λ (e : i ≡ first_to n test). e)
    (⊎_elim
    (λ (early : i < first_to n test). absurd (both_ways (test i) (first_below n test i early) here))
    (λ (late : first_to n test < i).
    absurd (both_ways (test (first_to n test)) (none (first_to n test) late) (first_here n test (omega arith)))))
    (cases_order i (first_to n test))

-- so `found_to` says: none passes, or the one that it answers and none before it
pub found_says : (n : ℕ) (test : ℕ → Bool) (r : Option ℕ) → r ≡ found_to n test →
    MatchOption r ((k : ℕ) → k < n → test k ≡ false) (λ i. (i < n) × (test i ≡ true) × ((k : ℕ) → k < i → test k ≡ false))
found_says n test r is =
    subst (λ o. MatchOption o ((k : ℕ) → k < n → test k ≡ false) (λ i. (i < n) × (test i ≡ true) × ((k : ℕ) → k < i → test k ≡ false))) (sym is)
    (⊎_elim
    (λ (some : first_to n test < n). let e = lt-ltb (first_to n test) n some in rw e (some, first_here n test some, first_below n test))
    (λ (none : n ≤ first_to n test). let e = le-ltb (first_to n test) n none in rw e (λ k h. first_below n test k (omega arith)))
    (cases_lt (first_to n test) n))

pub found_in : (n : ℕ) (test : ℕ → Bool) (r : Option ℕ) →
    MatchOption r ((k : ℕ) → k < n → test k ≡ false) (λ i. (i < n) × (test i ≡ true) × ((k : ℕ) → k < i → test k ≡ false)) → r ≡ found_to n test
found_in n test None none =
    let is : first_to n test ≡ n = first_none n test none in
    rw is (let past = le-ltb n n (omega arith) in rw past refl)
found_in n test (Some i) told =
    let is : i ≡ first_to n test = first_is n test i told.0 told.2 told.1 in
    rw (sym is) (let within = lt-ltb i n told.0 in rw within refl)

pub all_fails : (n : ℕ) (test : ℕ → Bool) (k : ℕ) → k < n → test k ≡ false → all_to n test ≡ false
all_fails n test k within fails =
    ⊎_elim (λ (all : all_to n test ≡ true). absurd (both_ways (test k) fails (all_out n test all k within))) (λ (e : all_to n test ≡ false). e) (cases_Bool (all_to n test))

-- two tests that agree below n have the same first number
pub first_same : (n : ℕ) (test other : ℕ → Bool) → ((k : ℕ) → k < n → test k ≡ other k) → first_to n test ≡ first_to n other
unfolding first_to
first_same zero test other agree = refl
first_same (suc n) test other agree =
    let before = first_same n test other (λ k h. agree k (omega arith)) in let here = agree n (omega arith) in rw (before, here)

pub found_same : (n : ℕ) (test other : ℕ → Bool) → ((k : ℕ) → k < n → test k ≡ other k) → found_to n test ≡ found_to n other
found_same n test other agree = ap (λ i. cond (ltb i n) (Some i) None) (first_same n test other agree)

pub least_none : (figure : ℕ → ℕ) (bound : ℕ) → least_to 0 figure bound ≡ bound
unfolding least_to
least_none figure bound = refl
