-- A group that takes more than the cycle leaves nobody who obeys.
use Rattle.std.proofs.Common.{◌≡◌, ℕ, ◌+◌, ◌<◌, ◌≤◌, true, false, ◌⊎◌, sym, inl, inr, ⊎_elim, add-one, arith}
use Rattle.std.proofs.lemmas.Bool.{cases_Bool}
use Rattle.crossing.specs.Below.{sum_to}
use Rattle.placing.specs.declared.room.Bounds.{Bounds}
use Rattle.placing.specs.declared.shares.Group.{Group}
use Rattle.placing.specs.declared.shares.Margins.{Margins}
use Rattle.placing.specs.declared.shares.Spans.{Spans}
use Rattle.placing.specs.declared.spacing.Gaps.{Gaps}
use Rattle.placing.specs.Gaps.{gap_at}
use Rattle.placing.specs.Crowds.{Spread, Afters, Aheads, Crowding, span_at, member_of, margin_of}
use Rattle.placing.proofs.Crowds.{Crowd, crowd_shares}

pub sum_more : (n : ℕ) (figure : ℕ → ℕ) → sum_to (n + 1) figure ≡ sum_to n figure + figure n
unfolding sum_to
sum_more n figure = rw add-one

-- two spans, over plain numbers
two_spans :
    (c x y g h d e : ℕ) → (g ≡ 0 → d ≡ 0) → (h ≡ 0 → e ≡ 0) → (x + d ≤ y) ⊎ ((y + h ≤ x) × (x + d ≤ y + c)) → (y + e ≤ x) ⊎ ((x + g ≤ y) × (y + e ≤ x + c)) →
    ((x + d ≤ y) × (y + e ≤ x + c)) ⊎ ((y + e ≤ x) × (x + d ≤ y + c))
two_spans c x y g h d e free other one two =
    ⊎_elim
    (λ (p : x + d ≤ y). inl (p, omega (arith, two)))
    (λ (p : (y + h ≤ x) × (x + d ≤ y + c)).
    ⊎_elim
    (λ (r : y + e ≤ x). inr (r, p.1))
    (λ (r : (x + g ≤ y) × (y + e ≤ x + c)).
    let z : d ≡ 0 = free (omega arith) in
    inl (omega arith, r.1))
    two)
    one

module _ (q : Gaps) (s : Bounds) (d : Spans) (m : Group) (out into : Margins) (spread : Spread q s d) (afters : Afters q d m out) (aheads : Aheads q d m out into) where
  whole : (k : ℕ) → k < q.count → margin_of out k + margin_of into k ≤ q.cycle.seconds
  whole k h =
      ⊎_elim
      (λ (e : member_of m k ≡ true). omega (arith, (afters.some k h e).whole, (aheads.some k h e).whole))
      (λ (e : member_of m k ≡ false). omega (arith, afters.none k h e, aheads.none k h e))
      (cases_Bool (member_of m k))

  member : (k : ℕ) → k < q.count → 1 ≤ margin_of out k + margin_of into k → member_of m k ≡ true
  member k h some =
      ⊎_elim
      (λ (e : member_of m k ≡ true). e)
      (λ (e : member_of m k ≡ false). absurd (omega (arith, afters.none k h e, aheads.none k h e)))
      (cases_Bool (member_of m k))

  crowd : Crowd q.count q.cycle.seconds (span_at d) (margin_of out) (margin_of into)
  crowd = record {
    whole = whole;
    fits = λ a ha b hb differ some others.
        let ma = member a ha some in
        let mb = member b hb others in
        omega (arith, (afters.some a ha ma).least b hb mb (λ e. differ (sym e)), (aheads.some b hb mb).least a ha ma differ);
  }

  pub crowd_none : (total : ℕ) → total ≤ sum_to q.count (λ k. margin_of out k + margin_of into k) → Crowding q s total
  crowd_none total counted over start i o =
      omega (
        arith,
        crowd_shares q.count q.cycle.seconds (span_at d) (margin_of out) (margin_of into) crowd start i.begins
            (λ a ha b hb.
            two_spans q.cycle.seconds (start a) (start b) (gap_at q a b) (gap_at q b a) (span_at d a b) (span_at d b a) (spread a ha b hb).free (spread b hb a ha).free
            ((spread a ha b hb).holds start i o) ((spread b hb a ha).holds start i o)),
      )
