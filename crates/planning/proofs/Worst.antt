-- What the worst-off stream has to spare, taken apart and put together.
use Rattle.std.proofs.Common.{◌≡◌, ℕ, ◌+◌, ◌<◌, ◌≤◌, true, arith}
use Rattle.crossing.specs.Site.{Site, Greens}
use Rattle.crossing.specs.Good.{enough, spare, worst}
use Rattle.crossing.proofs.Below.{least_out, least_bound, least_in}
use Rattle.crossing.proofs.Good.{enough_out}

-- no more than the cycle
pub worst_bound : (j : Site) (p : Greens) → worst j p ≤ j.cycle
unfolding worst
worst_bound j p = least_bound j.streams (spare j p) j.cycle

-- nor than any stream
pub worst_out : (j : Site) (p : Greens) (w : ℕ) → w ≤ worst j p → (k : ℕ) → k < j.streams → w ≤ spare j p k
unfolding worst
worst_out j p w h k within = omega (arith, least_out j.streams (spare j p) j.cycle k within)

pub worst_in : (j : Site) (p : Greens) (w : ℕ) → w ≤ j.cycle → ((k : ℕ) → k < j.streams → w ≤ spare j p k) → w ≤ worst j p
unfolding worst
worst_in j p w top each = least_in j.streams (spare j p) j.cycle w top each

-- where all can go, a green is as long as how many come and what it has to spare
pub spare_long : (j : Site) (p : Greens) → enough j p ≡ true → (k : ℕ) → k < j.streams → spare j p k + j.comes k ≡ (p k).long
unfolding spare
spare_long j p go k within = omega (arith, enough_out j p go k within)

pub spare_in : (j : Site) (p : Greens) (w k : ℕ) → j.comes k + w ≤ (p k).long → w ≤ spare j p k
unfolding spare
spare_in j p w k long = omega arith
