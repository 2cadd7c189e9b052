-- From a setting to the bounds that a search begins with, and from what the search says back to the setting.
use Rattle.std.proofs.Common.{◌≡◌, ℕ, ◌<◌, sym, arith}
use Rattle.std.proofs.lemmas.Bool.{both_ways}
use Rattle.placing.specs.declared.room.Bounds.{Bounds}
use Rattle.placing.specs.declared.spacing.Gaps.{Gaps}
use Rattle.placing.specs.declared.settings.Setting.{Setting}
use Rattle.placing.specs.Bounds.{Nobody, before_of}
use Rattle.placing.specs.Gaps.{gap_at, Measured}
use Rattle.placing.specs.Orders.{Ordered, gap_of}
use Rattle.placing.specs.Searches.{Open, Found}
use Rattle.placing.specs.Settings.{task_of}
use Rattle.placing.specs.Starts.{Placed}
use Rattle.placing.proofs.Gaps.{placed_out, placed_in}

-- in order with the same gaps
ordered_like :
    (n c m d : ℕ) (gap other : ℕ → ℕ → ℕ) (start : ℕ → ℕ) → n ≡ m → c ≡ d → ((a : ℕ) → a < n → (b : ℕ) → b < n → gap a b ≡ other a b) →
    Ordered n c gap start → Ordered m d other start
ordered_like n c m d gap other start count cycle same o = record {
  first = λ a ha b hb.
      let x : a < n = omega arith in
      let y : b < n = omega arith in
      let there : gap a b ≡ other a b = same a x b y in
      let back : gap b a ≡ other b a = same b y a x in
      rw (← there, ← back) (o.first a x b y);
  round = λ a ha b hb.
      let x : a < n = omega arith in
      let y : b < n = omega arith in
      omega (arith, same a x b y, o.round a x b y);
}

module _ (g : Setting) (q : Gaps) (s : Bounds) (m : Measured (task_of g) q) (op : Open g s) where
  pub nowhere : Nobody q s → (start : ℕ → ℕ) → Placed (task_of g) start → ⊥
  nowhere none start p =
      let o =
      ordered_like g.count g.cycle.seconds q.count q.cycle.seconds (gap_of (task_of g)) (gap_at q) start (sym m.count) (sym m.cycle)
      (λ a ha b hb. sym (m.gaps a (omega (arith, g.few)) b (omega (arith, g.few)))) (placed_out (task_of g) start p)
      in
      none start
      (record { begins = λ k h. omega (arith, m.cycle, p.begins k (omega (arith, m.count))); first = o.first; round = o.round })
      (record {
        low = λ k h. let k2 : k < g.count = omega (arith, m.count) in rw op.low (p.window k k2).0;
        high = λ k h.
            let k2 : k < g.count = omega (arith, m.count) in
            omega (arith, op.high k (omega (arith, g.few)), p.window k k2, p.begins k k2);
        order = λ a ha b hb h. absurd (both_ways (before_of s a b) (op.before a b) h);
      })

  pub somewhere : (start : ℕ → ℕ) → Found q s start → Placed (task_of g) start
  somewhere start f =
      placed_in (task_of g) start
      (λ k h. omega (arith, op.high k (omega (arith, g.few)), f.obeys.high k (omega (arith, m.count)), g.cycle.fits))
      (λ k h.
      let k2 : k < q.count = omega (arith, m.count) in
      (rw (← op.low) (f.obeys.low k k2), omega (arith, op.high k (omega (arith, g.few)), f.obeys.high k k2)))
      (ordered_like q.count q.cycle.seconds g.count g.cycle.seconds (gap_at q) (gap_of (task_of g)) start m.count m.cycle
      (λ a ha b hb. m.gaps a (omega (arith, q.few)) b (omega (arith, q.few))) f.ordered)
