-- Greens begun later: what was on in a second is on so many seconds later.
use Rattle.std.proofs.Common.{◌≡◌, ℕ, ◌+◌, ◌-◌, ◌%◌, ◌<◌, ◌≤◌, ◌⊎◌, inl, inr, ⊎_elim, mod-lt, mod-eq_of_lt, arith}
use native.Mathlib.Nat.{mod-eq-sub-mod, add-mod-mod}
use Rattle.std.proofs.lemmas.Bool.{cases_lt}
use Rattle.greens.specs.Circle.{after}
use Rattle.greens.proofs.Circle.{after_cases, after_below}

-- a sum of two seconds of the cycle, round its end
pub sum_cases : (c x y : ℕ) → x < c → y < c → (((x + y) % c ≡ x + y) × (x + y < c)) ⊎ ((x + y) % c + c ≡ x + y)
sum_cases c x y hx hy =
    ⊎_elim (λ (short : x + y < c). inl (mod-eq_of_lt short, short))
    (λ (long : c ≤ x + y).
    let once : (x + y) % c ≡ (x + y - c) % c = mod-eq-sub-mod long in
    let rest : (x + y - c) % c ≡ x + y - c = mod-eq_of_lt (omega arith) in
    inr (omega (arith, once, rest)))
    (cases_lt (x + y) c)

-- after a beginning turned by n a second is as far as its turned-back second was after the beginning
pub after_turned : (c f n s : ℕ) → 1 ≤ c → f < c → s < c → after c ((f + n) % c) s ≡ after c f (after c (n % c) s)
after_turned c f n s some begins within =
    let m : n % c < c = mod-lt n (omega arith) in
    let whole : (f + n % c) % c ≡ (f + n) % c = add-mod-mod f n c in
    let start : (f + n) % c < c = mod-lt (f + n) (omega arith) in
    let back : after c (n % c) s < c = after_below c (n % c) s some in
    omega (
      arith,
      whole,
      sum_cases c f (n % c) begins m,
      after_cases c ((f + n) % c) s start within,
      after_cases c f (after c (n % c) s) begins back,
      after_cases c (n % c) s m within,
      after_below c ((f + n) % c) s some,
      after_below c f (after c (n % c) s) some,
    )
