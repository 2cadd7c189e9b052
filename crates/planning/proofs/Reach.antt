-- From starts that place a junction's greens to a plan that leaves so much to spare, and back.
use Rattle.std.proofs.Common.{◌≡◌, ℕ, ◌+◌, ◌-◌, ◌*◌, ◌<◌, ◌≤◌, ltb, get_or, sym, ap, ◌∙◌, ⊎_elim, arith}
use Rattle.std.proofs.lemmas.Bool.{cases_eq}
use Rattle.greens.specs.declared.seconds.Cycle.{Cycle}
use Rattle.crossing.specs.Site.{Site, Greens}
use Rattle.crossing.specs.Good.{apart}
use Rattle.crossing.proofs.Good.{GoodPlan, good_out}
use Rattle.placing.specs.declared.settings.Setting.{Setting}
use Rattle.placing.specs.Settings.{task_of, entry_of}
use Rattle.placing.specs.Starts.{Task, Placed, green_at}
use Rattle.planning.specs.Laying.{Laid, Asked, Lengthened, Overlong}
use Rattle.planning.specs.Lengths.{Leaves, Beyond, plan_for, cut}
use Rattle.planning.proofs.First.{first_at_nought}
use Rattle.planning.proofs.Tight.{tight, begins_in, leaves_within}

pub overlong_none : (j : Site) (w : ℕ) → Overlong j w → Beyond j w
overlong_none j w over = record { none = λ q l. omega (arith, leaves_within j w q l over.0 over.1, over.2) }

laid_longer : (j : Site) (anchor w : ℕ) (s t : Setting) → Laid j anchor (task_of s) → Lengthened j w s t j.streams → Laid j anchor (task_of t)
laid_longer j anchor w s t laid longer = record {
  counted = longer.count ∙ laid.counted;
  round = ap (λ (x : Cycle). x.seconds) longer.cycle ∙ laid.round;
  crossing = λ a ha b hb.
      let same : entry_of t a b ≡ entry_of s a b = ap (λ xs. get_or xs (a * 12 + b) 0) longer.table in
      (ap (ltb 0) same ∙ (laid.crossing a ha b hb).0, ap (λ x. x - 1) same ∙ (laid.crossing a ha b hb).1);
  low = λ k h. ap (λ xs. get_or xs k 0) longer.lowest ∙ laid.low k h;
  high = λ k h differ. omega (arith, ap (λ xs. get_or xs k 0) longer.highest, laid.high k h differ);
}

asked_longer : (j : Site) (w : ℕ) (s t : Setting) → Lengthened j w s t j.streams → Asked j w (task_of t)
asked_longer j w s t longer = record { long = longer.long; within = longer.within }

module _ (j : Site) (w anchor : ℕ) (t : Task) (laid : Laid j anchor t) (lengths : Asked j w t) where
  -- a green of the task is one of the plan that begins alike
  keeps_same : (start : ℕ → ℕ) (a : ℕ) → a < j.streams → (b : ℕ) → b < j.streams →
      apart t.cycle (t.clear a b) (green_at t start a) (green_at t start b) ≡ apart j.cycle (j.clear a b) (plan_for j w start a) (plan_for j w start b)
  keeps_same start a ha b hb =
      let here = lengths.long a ha in
      let there = lengths.long b hb in
      let clear = (laid.crossing a ha b hb).1 in
      rw (laid.round, clear, here, there)

  -- starts that place the greens leave w to spare
  placed_leaves : (start : ℕ → ℕ) → 1 ≤ j.streams → Placed t start → Leaves j w (plan_for j w start)
  placed_leaves start some placed =
      begins_in j w start (omega (arith, lengths.within 0 some))
      (λ k h. (omega (arith, placed.begins k (omega (arith, laid.counted)), laid.round), lengths.within k h))
      (λ a ha b hb crosses differ.
      sym (keeps_same start a ha b hb)
      ∙ placed.keeps a (omega (arith, laid.counted)) b (omega (arith, laid.counted)) ((laid.crossing a ha b hb).0 ∙ crosses) differ)

  -- where none do, no plan does: cut to its lengths and turned until the anchor begins in second 0, it would place them
  placed_none : anchor < j.streams → ((start : ℕ → ℕ) → Placed t start → ⊥) → Beyond j w
  placed_none there nobody = record {
    none = λ q l.
        let turned = first_at_nought j w q anchor there l in
        let plan : Greens = turned.0 in
        let start : ℕ → ℕ = λ k. (plan k).from in
        let parts : GoodPlan j (cut j w plan) = good_out j (cut j w plan) (tight j w plan turned.1).is_good in
        nobody start (record {
          begins = λ k h. omega (arith, (parts.fitting k (omega (arith, laid.counted))).begins, laid.round);
          window = λ k h.
              let within : k < j.streams = omega (arith, laid.counted) in
              let begins = (parts.fitting k within).begins in
              ⊎_elim
              (λ (e : k ≡ anchor). let first : start k ≡ 0 = rw e turned.2 in (omega (arith, laid.low k within), omega arith))
              (λ (e : k ≡ anchor → ⊥). (omega (arith, laid.low k within), omega (arith, laid.high k within e)))
              (cases_eq k anchor);
          keeps = λ a ha b hb crosses differ.
              let ha2 : a < j.streams = omega (arith, laid.counted) in
              let hb2 : b < j.streams = omega (arith, laid.counted) in
              keeps_same start a ha2 b hb2 ∙ parts.keeps a ha2 b hb2 (sym (laid.crossing a ha2 b hb2).0 ∙ crosses) differ;
        });
  }

module _ (j : Site) (w anchor : ℕ) (s t : Setting) (laid : Laid j anchor (task_of s)) (longer : Lengthened j w s t j.streams) where
  pub reached : (start : ℕ → ℕ) → 1 ≤ j.streams → Placed (task_of t) start → Leaves j w (plan_for j w start)
  reached = placed_leaves j w anchor (task_of t) (laid_longer j anchor w s t laid longer) (asked_longer j w s t longer)

  pub unreached : anchor < j.streams → ((start : ℕ → ℕ) → Placed (task_of t) start → ⊥) → Beyond j w
  unreached = placed_none j w anchor (task_of t) (laid_longer j anchor w s t laid longer) (asked_longer j w s t longer)
