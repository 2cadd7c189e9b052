-- Greens cut to what they have to be: a plan stays good, and leaves as much to spare. So for w to spare only the beginnings are to be found.
use Rattle.std.proofs.Common.{◌≡◌, ℕ, ◌+◌, ◌<◌, ◌≤◌, true, false, refl, arith}
use Rattle.std.proofs.lemmas.Bool.Decides.{nat_tests}
use Rattle.greens.specs.declared.lights.Green.{Green}
use Rattle.greens.specs.Circle.{after}
use Rattle.greens.specs.Greens.{on}
use Rattle.crossing.specs.Site.{Site, Greens}
use Rattle.crossing.specs.Good.{apart}
use Rattle.crossing.proofs.Good.{Fitting, GoodPlan, good_out, good_in, enough_in, apart_out, apart_in}
use Rattle.groups.specs.Groups.{asked}
use Rattle.planning.specs.Lengths.{Leaves, plan_for, cut}
use Rattle.planning.proofs.Worst.{worst_bound, worst_out, worst_in, spare_long, spare_in}

-- a shorter green is on in no other second
on_shorter : (c : ℕ) (g h : Green) (s : ℕ) → h.from ≡ g.from → h.long ≤ g.long → on c g s ≡ false → on c h s ≡ false
unfolding on
on_shorter c g h s same shorter off = rw same (grind (arith, nat_tests))

-- two greens that are apart stay apart when they are cut at their ends
pub apart_shorter : (c clear : ℕ) (g h g2 h2 : Green) → g2.from ≡ g.from → h2.from ≡ h.from → g2.long ≤ g.long → h2.long ≤ h.long →
    apart c clear g h ≡ true → apart c clear g2 h2 ≡ true
apart_shorter c clear g h g2 h2 same_g same_h shorter_g shorter_h e =
    apart_in c clear g2 h2 (λ s within some soon.
    let sooner : after c g.from s < g2.long + clear = rw same_g at soon in
    on_shorter c h h2 s same_h shorter_h (apart_out c clear g h e s within (omega arith) (omega arith)))

-- beginnings in the cycle, with which all that crosses is apart, leave w to spare if the lengths for that are no longer than the cycle
pub begins_in : (j : Site) (w : ℕ) (begins : ℕ → ℕ) → w ≤ j.cycle → ((k : ℕ) → k < j.streams → (begins k < j.cycle) × (asked j w k ≤ j.cycle)) →
    ((a : ℕ) → a < j.streams → (b : ℕ) → b < j.streams → j.crosses a b ≡ true → (a ≡ b → ⊥) →
    apart j.cycle (j.clear a b) (plan_for j w begins a) (plan_for j w begins b) ≡ true) →
    Leaves j w (plan_for j w begins)
begins_in j w begins top within keeps =
    record {
      is_good = good_in j (plan_for j w begins) (record {
        fitting = λ k h. record { begins = (within k h).0; least_long = omega arith; within = (within k h).1 };
        keeps = keeps;
      });
      all_go = enough_in j (plan_for j w begins) (λ k h. omega arith);
      spares = worst_in j (plan_for j w begins) w top (λ k h. spare_in j (plan_for j w begins) w k (omega arith));
    }

-- a green of a plan that leaves w to spare is at least as long as that asks for
pub leaves_long : (j : Site) (w : ℕ) (p : Greens) → Leaves j w p → (k : ℕ) → k < j.streams → asked j w k ≤ (p k).long
leaves_long j w p l k h =
    let fit : Fitting j k (p k) = (good_out j p l.is_good).fitting k h in
    omega (arith, spare_long j p l.all_go k h, worst_out j p w l.spares k h, fit.least_long)

-- and so that is no longer than the cycle
pub leaves_within : (j : Site) (w : ℕ) (p : Greens) → Leaves j w p → (k : ℕ) → k < j.streams → asked j w k ≤ j.cycle
leaves_within j w p l k h =
    let fit : Fitting j k (p k) = (good_out j p l.is_good).fitting k h in omega (arith, leaves_long j w p l k h, fit.within)

-- cut to that, it leaves as much
pub tight : (j : Site) (w : ℕ) (p : Greens) → Leaves j w p → Leaves j w (cut j w p)
tight j w p l =
    let parts : GoodPlan j p = good_out j p l.is_good in
    begins_in j w (λ k. (p k).from) (omega (arith, worst_bound j p, l.spares))
    (λ k h. ((parts.fitting k h).begins, leaves_within j w p l k h))
    (λ a ha b hb crosses differ.
    apart_shorter j.cycle (j.clear a b) (p a) (p b) (cut j w p a) (cut j w p b) refl refl (leaves_long j w p l a ha) (leaves_long j w p l b hb)
    (parts.keeps a ha b hb crosses differ))
