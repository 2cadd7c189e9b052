-- The arithmetic of the circle, with no `%` and no `-` left.
use Rattle.std.proofs.Common.{◌≡◌, ℕ, ◌+◌, ◌-◌, ◌%◌, ◌<◌, ◌≤◌, ◌⊎◌, inl, inr, ⊎_elim, mod-lt, mod-eq_of_lt, arith}
use native.Mathlib.Nat.{mod-eq-sub-mod}
use Rattle.std.proofs.lemmas.Bool.{cases_lt}
use Rattle.greens.specs.Circle.{after}

-- a second comes after another in the same turn, or in the next one
pub after_cases : (c f s : ℕ) → f < c → s < c → ((f ≤ s) × (after c f s + f ≡ s)) ⊎ ((s < f) × (after c f s + f ≡ s + c))
unfolding after
after_cases c f s fits within =
    ⊎_elim
    (λ (early : s < f).
    let e : (s + (c - f)) % c ≡ s + (c - f) = mod-eq_of_lt (omega arith) in inr (early, omega (arith, e)))
    (λ (late : f ≤ s).
    let e : (s + (c - f)) % c ≡ (s + (c - f) - c) % c = mod-eq-sub-mod (omega arith) in
    let e2 : (s + (c - f) - c) % c ≡ s + (c - f) - c = mod-eq_of_lt (omega arith) in
    inl (late, omega (arith, e, e2)))
    (cases_lt s f)

pub after_below : (c f s : ℕ) → 1 ≤ c → after c f s < c
unfolding after
after_below c f s some = mod-lt (s + (c - f)) (omega arith)
