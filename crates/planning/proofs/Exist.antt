-- There is a best plan, or none: the most that can be left to spare is looked for from the cycle down, and for each all beginnings are tried.
use Rattle.std.proofs.Common.{◌≡◌, ℕ, zero, suc, ◌+◌, ◌<◌, Bool, true, ◌&&◌, leb, ◌⊎◌, inl, inr, ⊎_elim, add-one, arith}
use Rattle.std.proofs.lemmas.Bool.{and_parts, and_from, leb-true, le-leb}
use Rattle.crossing.specs.Site.{Site, Greens}
use Rattle.crossing.specs.Good.{good, enough, worst, Best, NoPlan}
use Rattle.crossing.proofs.Good.{GoodPlan, good_out}
use Rattle.planning.specs.Alike.{Alike}
use Rattle.planning.specs.Exists.{BestOrNone}
use Rattle.planning.specs.Lengths.{Leaves, plan_for, cut}
use Rattle.planning.proofs.Choose.{joined, joined_below, some_or_none}
use Rattle.planning.proofs.Leave.{leaves_bound, best_in, none_in}
use Rattle.planning.proofs.Same.{same_leaves}
use Rattle.planning.proofs.Tight.{tight}

-- whether a plan leaves w to spare
leaves : Site → ℕ → Greens → Bool
leaves j w p = good j p && (enough j p && leb w (worst j p))

leaves_out : (j : Site) (w : ℕ) (p : Greens) → leaves j w p ≡ true → Leaves j w p
unfolding leaves
leaves_out j w p e =
    let parts = and_parts (good j p) (enough j p && leb w (worst j p)) e in
    let rest = and_parts (enough j p) (leb w (worst j p)) parts.1 in
    record { is_good = parts.0; all_go = rest.0; spares = leb-true w (worst j p) rest.1 }

leaves_in : (j : Site) (w : ℕ) (p : Greens) → Leaves j w p → leaves j w p ≡ true
unfolding leaves
leaves_in j w p l = and_from _ _ l.is_good (and_from _ _ l.all_go (le-leb _ _ l.spares))

-- w to spare can be had, or it can't
pub had : (j : Site) (w : ℕ) → ((p : Greens) × Leaves j w p) ⊎ ((q : Greens) → Leaves j w q → ⊥)
had j w =
    let test : (ℕ → ℕ) → Bool = λ begins. leaves j w (plan_for j w begins) in
    let nought : ℕ → ℕ = λ k. 0 in
    ⊎_elim
    (λ (some : (g : ℕ → ℕ) × (test g ≡ true)). inl (plan_for j w some.0, leaves_out j w (plan_for j w some.0) some.1))
    (λ (none : (g : ℕ → ℕ) → ((k : ℕ) → k < j.streams → g k < j.cycle) → test (joined j.streams g nought) ≡ true → ⊥).
    inr (λ q l.
    let begins : ℕ → ℕ = λ k. (q k).from in
    let parts : GoodPlan j q = good_out j q l.is_good in
    let plan : Greens = plan_for j w (joined j.streams begins nought) in
    let same : Alike j.streams (cut j w q) plan = λ k h. let e = joined_below j.streams begins nought k h in rw e in
    none begins (λ k h. (parts.fitting k h).begins) (leaves_in j w plan (same_leaves j w (cut j w q) plan same (tight j w q l)))))
    (some_or_none j.cycle test j.streams nought)

-- if more than w can't be had, the first that can be had from w down is best
from_down : (j : Site) (w : ℕ) → ((q : Greens) → Leaves j (w + 1) q → ⊥) → ((p : Greens) × Best j p) ⊎ NoPlan j
from_down j zero top =
    ⊎_elim
    (λ (some : (p : Greens) × Leaves j 0 p). inl (some.0, (best_in j 0 some.0 some.1 top).0))
    (λ (none : (q : Greens) → Leaves j 0 q → ⊥). inr (none_in j none))
    (had j 0)
from_down j (suc w) top =
    ⊎_elim
    (λ (some : (p : Greens) × Leaves j (suc w) p). inl (some.0, (best_in j (suc w) some.0 some.1 top).0))
    (λ (none : (q : Greens) → Leaves j (suc w) q → ⊥). from_down j w (rw add-one none))
    (had j (suc w))

pub best_or_none : BestOrNone
best_or_none j some = from_down j j.cycle (λ q l. omega (arith, leaves_bound j (j.cycle + 1) q l))
