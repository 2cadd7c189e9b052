-- The members of a group claim seconds of the cycle: those of their greens, and those to clear after them. No second is claimed twice.
use Rattle.std.proofs.Common.{◌≡◌, ℕ, ◌+◌, ◌<◌, ◌≤◌, Bool, true, false, cond, not, eqb, ltb, sym, ⊎_elim, arith}
use Rattle.std.proofs.lemmas.Bool.{and_parts, and_from, ltb-true, ltb-false, ne_eqb, eqb-false, false≢true, not-true, not_from_false, cases_Bool, cases_eq, cases_lt}
use Rattle.greens.specs.declared.lights.Green.{Green}
use Rattle.greens.specs.Circle.{after}
use Rattle.greens.specs.Greens.{on, count_to}
use Rattle.greens.proofs.Circle.{after_cases, after_below}
use Rattle.greens.proofs.Counts.{as_long}
use Rattle.crossing.specs.Below.{all_to}
use Rattle.crossing.specs.Site.{Site, Greens}
use Rattle.crossing.specs.Good.{apart, good}
use Rattle.crossing.proofs.Below.{all_out}
use Rattle.crossing.proofs.Good.{good_out, apart_out}
use Rattle.groups.specs.Among.{some_to}
use Rattle.groups.specs.Groups.{other, meets, all_cross, gap, share, need}
use Rattle.groups.proofs.Sums.{sum_mono, claims_share}
use Rattle.groups.proofs.Least.{some_out, among_none, among_out}

-- of two members each crosses the other
pub cross_out : (j : Site) (member : ℕ → Bool) → all_cross j member ≡ true →
    (a : ℕ) → a < j.streams → (b : ℕ) → b < j.streams → member a ≡ true → member b ≡ true → (a ≡ b → ⊥) → j.crosses a b ≡ true
unfolding all_cross
cross_out j member e a ha b hb ma mb differ =
    let row = all_out j.streams (λ x. all_to j.streams (meets j member x)) e a ha in
    let here = all_out j.streams (meets j member a) row b hb in
    let apart_ids : eqb a b ≡ false = ne_eqb a b differ in
    rw (ma, mb, apart_ids) at here

-- a member's green and what has to be clear after it are over when another member's green begins
ended : (c clear : ℕ) (g h : Green) → apart c clear g h ≡ true → g.from < c → h.from < c → 1 ≤ g.long → 1 ≤ h.long →
    g.long + clear ≤ after c g.from h.from
unfolding on
ended c clear g h keeps begins within some there =
    ⊎_elim
    (λ (soon : after c g.from h.from < g.long + clear).
    let off : ltb (after c h.from h.from) h.long ≡ false = apart_out c clear g h keeps h.from within some soon in
    absurd (omega (arith, ltb-false (after c h.from h.from) h.long off, after_cases c h.from h.from within within)))
    (λ (late : g.long + clear ≤ after c g.from h.from). late)
    (cases_lt (after c g.from h.from) (g.long + clear))

-- two stretches on the circle, each of which is over when the other begins, have no second in common
disjoint : (c f g x y s : ℕ) → f < c → g < c → s < c → x ≤ after c f g → y ≤ after c g f → after c f s < x → after c g s < y → ⊥
disjoint c f g x y s hf hg hs xg yf inx iny =
    omega (arith, after_cases c f g hf hg, after_cases c g f hg hf, after_cases c f s hf hs, after_cases c g s hg hs)

-- a good plan in which every member of a group has a green
pub record Served (j : Site) (p : Greens) (member : ℕ → Bool) : Type 0 where
  pub is_good : good j p ≡ true
  pub is_group : all_cross j member ≡ true
  pub some : (k : ℕ) → k < j.streams → member k ≡ true → 1 ≤ (p k).long

-- a member's green, lengthened by the least seconds to clear after it
longer : Site → Greens → (ℕ → Bool) → ℕ → Green
longer j p member k = record { from = (p k).from; long = (p k).long + gap j member k }

over : (j : Site) (p : Greens) (member : ℕ → Bool) → Served j p member →
    (a : ℕ) → a < j.streams → (b : ℕ) → b < j.streams → member a ≡ true → member b ≡ true → (a ≡ b → ⊥) →
    (p a).long + gap j member a ≤ after j.cycle (p a).from (p b).from
unfolding gap
over j p member served a ha b hb ma mb differ =
    let plan = good_out j p served.is_good in
    let crosses = cross_out j member served.is_group a ha b hb ma mb differ in
    let keeps = plan.keeps a ha b hb crosses differ in
    let begins = (plan.fitting a ha).begins in
    let there = (plan.fitting b hb).begins in
    let other_b : other member a b ≡ true = and_from (member b) (not (eqb a b)) mb (not_from_false (eqb a b) (ne_eqb a b differ)) in
    omega (
      arith,
      among_out j.streams (other member a) (j.clear a) b hb other_b,
      ended j.cycle (j.clear a b) (p a) (p b) keeps begins there (served.some a ha ma) (served.some b hb mb),
    )

within : (j : Site) (p : Greens) (member : ℕ → Bool) → Served j p member → (a : ℕ) → a < j.streams → member a ≡ true →
    (p a).long + gap j member a ≤ j.cycle
unfolding gap
within j p member served a ha ma =
    let fitting = (good_out j p served.is_good).fitting a ha in
    let begins = fitting.begins in
    let whole = fitting.within in
    ⊎_elim
    (λ (found : some_to j.streams (other member a) ≡ true).
    let found_b = some_out j.streams (other member a) found in
    let parts = and_parts (member found_b.0) (not (eqb a found_b.0)) found_b.2 in
    let differ = eqb-false a found_b.0 (not-true (eqb a found_b.0) parts.1) in
    omega (arith, over j p member served a ha found_b.0 found_b.1 ma parts.0 differ, after_below j.cycle (p a).from (p found_b.0).from))
    (λ (lone : some_to j.streams (other member a) ≡ false).
    omega (arith, among_none j.streams (other member a) (j.clear a) lone))
    (cases_Bool (some_to j.streams (other member a)))

-- the seconds that a stream claims: if it is a member, those of its lengthened green
claim : Site → Greens → (ℕ → Bool) → ℕ → ℕ → Bool
claim j p member k = cond (member k) (on j.cycle (longer j p member k)) (λ s. false)

claim_out : (j : Site) (p : Greens) (member : ℕ → Bool) (k s : ℕ) → claim j p member k s ≡ true →
    (member k ≡ true) × (after j.cycle (p k).from s < (p k).long + gap j member k)
unfolding claim on longer
claim_out j p member k s e =
    ⊎_elim
    (λ (mk : member k ≡ true).
    let here : ltb (after j.cycle (p k).from s) ((p k).long + gap j member k) ≡ true = rw mk at e in
    (mk, ltb-true (after j.cycle (p k).from s) ((p k).long + gap j member k) here))
    (λ (none : member k ≡ false). let never : false ≡ true = rw none at e in absurd (false≢true never))
    (cases_Bool (member k))

claim_single : (j : Site) (p : Greens) (member : ℕ → Bool) → Served j p member →
    (s : ℕ) → s < j.cycle → (a : ℕ) → a < j.streams → (b : ℕ) → b < j.streams → claim j p member a s ≡ true → claim j p member b s ≡ true → a ≡ b
claim_single j p member served s hs a ha b hb ca cb =
    let plan = good_out j p served.is_good in
    let in_a = claim_out j p member a s ca in
    let in_b = claim_out j p member b s cb in
    ⊎_elim
    (λ (same : a ≡ b). same)
    (λ (differ : a ≡ b → ⊥).
    absurd (disjoint j.cycle (p a).from (p b).from ((p a).long + gap j member a) ((p b).long + gap j member b) s
    (plan.fitting a ha).begins (plan.fitting b hb).begins hs
    (over j p member served a ha b hb in_a.0 in_b.0 differ)
    (over j p member served b hb a ha in_b.0 in_a.0 (λ e. differ (sym e)))
    in_a.1 in_b.1))
    (cases_eq a b)

-- a stream claims as many seconds as it takes of the cycle
claim_count : (j : Site) (p : Greens) (long : ℕ → ℕ) (member : ℕ → Bool) → Served j p member → (k : ℕ) → k < j.streams → (member k ≡ true → long k ≤ (p k).long) →
    share j long member k ≤ count_to j.cycle (claim j p member k)
unfolding claim longer share
claim_count j p long member served k hk reach =
    ⊎_elim
    (λ (mk : member k ≡ true).
    let begins = ((good_out j p served.is_good).fitting k hk).begins in
    rw mk (omega (arith, reach mk, as_long j.cycle (longer j p member k) begins (within j p member served k hk mk))))
    (λ (none : member k ≡ false). rw none (omega arith))
    (cases_Bool (member k))

-- a group needs no more than the cycle
pub shares : (j : Site) (p : Greens) (long : ℕ → ℕ) (member : ℕ → Bool) → Served j p member →
    ((k : ℕ) → k < j.streams → member k ≡ true → long k ≤ (p k).long) → need j long member ≤ j.cycle
unfolding need
shares j p long member served reach =
    omega (
      arith,
      sum_mono j.streams (share j long member) (λ k. count_to j.cycle (claim j p member k)) (λ k h. claim_count j p long member served k h (reach k h)),
      claims_share j.streams j.cycle (claim j p member) (claim_single j p member served),
    )
