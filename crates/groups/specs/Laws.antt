-- What groups say of every good plan. Each is a statement; a function's contract asks for its proof.
use Rattle.std.specs.Prelude.{◌≡◌, ℕ, ◌<◌, ◌≤◌, Bool, true}
use Rattle.crossing.specs.Site.{Site, Greens}
use Rattle.crossing.specs.Good.{good, enough, worst}
use Rattle.groups.specs.Groups.{all_cross, need, overfull}

-- the members of a group share the cycle: where a good plan gives each member a green, and one of at least such a length,
-- the group needs no more than the cycle for those lengths
abbrev pub Shares : Type 0
Shares =
    (j : Site) (p : Greens) (long : ℕ → ℕ) (member : ℕ → Bool) → good j p ≡ true → all_cross j member ≡ true →
    ((k : ℕ) → k < j.streams → member k ≡ true → (1 ≤ (p k).long) × (long k ≤ (p k).long)) →
    need j long member ≤ j.cycle

-- so no good plan in which all can go leaves every stream as much to spare as makes a group overfull
abbrev pub TooMuch : Type 0
TooMuch =
    (j : Site) (w : ℕ) (member : ℕ → Bool) → overfull j w member ≡ true →
    (q : Greens) → good j q ≡ true → enough j q ≡ true → worst j q < w
