-- Steps of narrowing, one after the other.
use Rattle.std.proofs.Common.{◌≡◌, ℕ, ◌+◌, ◌-◌, ◌<◌, ◌≤◌, Bool, true, false, ◌||◌, ◌∙◌, ⊎_elim, below_more, arith}
use Rattle.std.proofs.lemmas.Bool.{cases_Bool, or_parts, or_cases}
use Rattle.placing.specs.declared.room.Bounds.{Bounds}
use Rattle.placing.specs.declared.spacing.Gaps.{Gaps}
use Rattle.placing.specs.Gaps.{InOrder}
use Rattle.placing.specs.Bounds.{Obeys, Narrower, Raised, Lowered, low_of, high_of, room_of}
use Rattle.placing.specs.Steps.{Far, Settled, Step, Met, Round, Narrowed}
use Rattle.placing.proofs.Rooms.{raised_room, raised_keeps, raised_back, lowered_room, lowered_keeps, lowered_back}
use Rattle.placing.specs.Sizes.{most_greens}

narrower_more : (q : Gaps) (s m t : Bounds) → Narrower q s m → Narrower q m t → Narrower q s t
narrower_more q s m t x y = record {
  keeps = λ start i o. y.keeps start i (x.keeps start i o);
  back = λ start o. x.back start (y.back start o);
}

-- two steps are a step, which moves something if one of them does
step_more : (q : Gaps) (s m t : Bounds) (x y : Bool) → Step q s m x → Step q m t y → Step q s t (x || y)
step_more q s m t x y one two =
    let room_first : room_of m ≤ room_of s =
    ⊎_elim
    (λ (e : x ≡ true). omega (arith, one.less e))
    (λ (e : x ≡ false). rw (one.still e) (omega arith))
    (cases_Bool x)
    in
    let room_second : room_of t ≤ room_of m =
    ⊎_elim
    (λ (e : y ≡ true). omega (arith, two.less e))
    (λ (e : y ≡ false). rw (two.still e) (omega arith))
    (cases_Bool y)
    in
    record {
      narrower = narrower_more q s m t one.narrower two.narrower;
      still = λ e. let parts = or_parts x y e in two.still parts.1 ∙ one.still parts.0;
      less = λ e.
          ⊎_elim
          (λ (h : x ≡ true). omega (arith, one.less h))
          (λ (h : y ≡ true). omega (arith, two.less h))
          (or_cases x y e);
    }

raised_step :
    (q : Gaps) (s t : Bounds) (k to : ℕ) (moved : Bool) → k < most_greens → Raised s t k to moved →
    ((start : ℕ → ℕ) → InOrder q start → Obeys q s start → to ≤ start k) → Step q s t moved
raised_step q s t k to moved within r late = record {
  narrower = record {
    keeps = λ start i o. raised_keeps q s t k to within moved r start (late start i o) o;
    back = λ start o. raised_back q s t k to within moved r start o;
  };
  still = r.still;
  less = λ e. raised_room q s t k to within (rw e at r);
}

lowered_step :
    (q : Gaps) (s t : Bounds) (k to : ℕ) (moved : Bool) → k < most_greens → Lowered s t k to moved →
    ((start : ℕ → ℕ) → InOrder q start → Obeys q s start → start k ≤ to) → Step q s t moved
lowered_step q s t k to moved within r early = record {
  narrower = record {
    keeps = λ start i o. lowered_keeps q s t k to within moved r start (early start i o) o;
    back = λ start o. lowered_back q s t k to within moved r start o;
  };
  still = r.still;
  less = λ e. lowered_room q s t k to within (rw e at r);
}

-- the bounds of two greens narrowed by how far apart they have to be
pub met_from :
    (q : Gaps) (s m t : Bounds) (a b far up down : ℕ) (x y : Bool) → a < q.count → b < q.count → Far q s a b far → far ≤ high_of s b + q.cycle.seconds →
    up ≡ low_of s a + far - q.cycle.seconds → down ≡ high_of s b + q.cycle.seconds - far → Raised s m b up x → Lowered m t a down y → Met q s t a b (x || y)
met_from q s m t a b far up down x y ha hb f within upward downward r l =
    let one : Step q s m x = raised_step q s m b up x (omega (arith, q.few)) r (λ start i o. omega (arith, f.holds start i o, o.low a ha)) in
    let two : Step q m t y =
    lowered_step q m t a down y (omega (arith, q.few)) l
    (λ start i o. let before = one.narrower.back start o in omega (arith, f.holds start i before, before.high b hb))
    in
    record {
      step = step_more q s m t x y one two;
      settled = λ e.
          let parts = or_parts x y e in
          let same : t ≡ s = two.still parts.1 ∙ one.still parts.0 in
          let enough = r.enough parts.0 in
          rw same (record {
            fits = enough.1;
            round = omega (arith, f.gap);
            order = λ h. omega (arith, f.first h);
          });
    }

-- one pair more in a round
pub round_more :
    (q : Gaps) (s m t : Bounds) (n a k : ℕ) (x y : Bool) → Round q s m n x → (x ≡ false → (b : ℕ) → b < k → Settled q m a b) → Met q m t a k y →
    Round q s t n (x || y) × ((x || y) ≡ false → (b : ℕ) → b < k + 1 → Settled q t a b)
round_more q s m t n a k x y round row met = (
  record {
    step = step_more q s m t x y round.step met.step;
    settled = λ e. let parts = or_parts x y e in let same : t ≡ m = met.step.still parts.1 in rw same (round.settled parts.0);
  },
  λ e.
      let parts = or_parts x y e in
      let same : t ≡ m = met.step.still parts.1 in
      below_more _ _ (rw same (row parts.0)) (met.settled parts.1),
)

-- where a round moves nothing, the narrowing is done
pub narrowed_from : (q : Gaps) (s m t : Bounds) (moved : Bool) → Narrower q s m → room_of m ≤ room_of s → Round q m t q.count moved → moved ≡ false → Narrowed q s t
narrowed_from q s m t moved n room round e =
    let same : t ≡ m = round.step.still e in
    record {
      narrower = narrower_more q s m t n round.step.narrower;
      less = rw same room;
      settled = round.settled e;
    }
