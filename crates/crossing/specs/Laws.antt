-- What holds of every good plan, in the words of those who stand at the junction. Each is a statement; a function's contract asks for its proof.
use Rattle.std.specs.Prelude.{◌≡◌, ℕ, zero, suc, ◌+◌, ◌-◌, ◌<◌, ◌≤◌, Bool, true, false, cond, ◌≢◌}
use Rattle.greens.specs.declared.lights.Green.{Green}
use Rattle.greens.specs.Circle.{after}
use Rattle.greens.specs.Greens.{on}
use Rattle.greens.specs.Rounds.{later}
use Rattle.crossing.specs.Below.{sum_to}
use Rattle.crossing.specs.Site.{Site, Greens}
use Rattle.crossing.specs.Good.{good, enough, worst}

-- in a good plan two streams that cross are never green in the same second
abbrev pub NeverTogether : Type 0
NeverTogether =
    (j : Site) (p : Greens) (a b s : ℕ) → good j p ≡ true → a < j.streams → b < j.streams → j.crosses a b ≡ true → (a ≢ b) → s < j.cycle →
    on j.cycle (p a) s ≡ true → on j.cycle (p b) s ≡ false

-- nor is one green too soon after the other: as long as a's green has not been over for the seconds to clear, b is not green
abbrev pub Cleared : Type 0
Cleared =
    (j : Site) (p : Greens) (a b s : ℕ) → good j p ≡ true → a < j.streams → b < j.streams → j.crosses a b ≡ true → (a ≢ b) → s < j.cycle → 1 ≤ (p a).long →
    after j.cycle (p a).from s < (p a).long + j.clear a b → on j.cycle (p b) s ≡ false

-- all begun so many seconds later, a plan is as good and has as much to spare
abbrev pub Turned : Type 0
Turned =
    (j : Site) (p : Greens) (n : ℕ) → 1 ≤ j.cycle → good j p ≡ true →
    (good j (λ k. later j.cycle n (p k)) ≡ true) × (worst j (λ k. later j.cycle n (p k)) ≡ worst j p)

-- how many wait before second s, of w who waited at first, if so many come in each second, and then one goes where it is green
unfoldable pub waits : (come : ℕ → ℕ) (green : ℕ → Bool) (w s : ℕ) → ℕ
waits come green w zero = w
waits come green w (suc s) = waits come green w s + come s - cond (green s) 1 0

-- if no more come in a cycle than the green is long, those who wait are no more after a cycle than before, once they are as many as the cycle has seconds
abbrev pub NoGrowing : Type 0
NoGrowing =
    (c w : ℕ) (g : Green) (come : ℕ → ℕ) → g.from < c → g.long ≤ c → sum_to c come ≤ g.long → c ≤ w → waits come (on c g) w c ≤ w

-- so it is in front of every stream of a good plan in which all can go
abbrev pub NoGrowingAnywhere : Type 0
NoGrowingAnywhere =
    (j : Site) (p : Greens) (k w : ℕ) (come : ℕ → ℕ) → good j p ≡ true → enough j p ≡ true → k < j.streams → sum_to j.cycle come ≤ j.comes k → j.cycle ≤ w →
    waits come (on j.cycle (p k)) w j.cycle ≤ w
