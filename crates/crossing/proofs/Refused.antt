-- What is known of numbers by the refusals that apply to them, and by those that don't.
use Rattle.std.proofs.Common.{◌≡◌, ℕ, ◌+◌, ◌*◌, ◌<◌, ◌≤◌, Bool, true, false, cond, not, ◌||◌, eqb, ltb, List, length, get_or, Some, None, Option, refl, sym, ap, ◌∙◌, ⊎_elim, arith}
use Rattle.std.specs.Prelude.{MatchOption, Result, Ok, Err, ok_or}
use Rattle.std.specs.Result.{result_err}
use Rattle.std.specs.Option.{option_map}
use Rattle.std.proofs.lemmas.Bool.{or_parts, or_from, ltb-false, eqb-true, not-false, le-ltb, lt-ltb, or_left, or_right, cases_Bool, cases_lt}
use Rattle.std.proofs.lemmas.Bool.Decides.{nat_tests}
use Rattle.crossing.specs.declared.refusals.Refusal.{Refusal}
use Rattle.crossing.specs.declared.refusals.Refusal.TheVariants.{Cycle, Table, Room}
use Rattle.crossing.specs.Below.{all_to}
use Rattle.crossing.specs.Tables.{crossing, both_ways}
use Rattle.crossing.specs.Numbers.{refusal, streams_refusal, table_refusal, room_refusal, or_else, faulty_place, fault}
use Rattle.crossing.proofs.Below.{all_in}
use Rattle.crossing.proofs.Faults.{no_fault}

pub cycle_refused : (c n : ℕ) (pairs table : List ℕ) → ((1 ≤ c) × (c ≤ 120) → ⊥) → refusal c n pairs table ≡ Some (Cycle c)
unfolding refusal
cycle_refused c n pairs table out =
    let test : (ltb c 1 || ltb 120 c) ≡ true
    = ⊎_elim (λ (zero_long : c < 1). or_left _ _ (lt-ltb _ _ zero_long))
    (λ (some : 1 ≤ c). or_right (ltb c 1) _ (lt-ltb _ _ (⊎_elim (λ (over : 120 < c). over) (λ (under : c ≤ 120). absurd (out (some, under))) (cases_lt 120 c))))
    (cases_lt c 1)
    in
    rw test

-- with a cycle that is taken, the streams are looked at, and then the table
pub cycle_taken : (c n : ℕ) (pairs table : List ℕ) → 1 ≤ c → c ≤ 120 → refusal c n pairs table ≡ or_else (streams_refusal n pairs) (table_refusal n table)
unfolding refusal
cycle_taken c n pairs table some under = let test : (ltb c 1 || ltb 120 c) ≡ false = or_from _ _ (le-ltb _ _ some) (le-ltb _ _ under) in rw test

some_none : (e : Refusal) → Some e ≡ None → ⊥
some_none e is = let z : ◌≡◌ {A = ℕ} 0 1 = cc in omega arith

seconds_of : {X : Type 0} (seconds : X → ℕ) → Result X Refusal → ℕ
seconds_of seconds (Ok cycle) = seconds cycle
seconds_of seconds (Err e) = 0

-- a cycle that can't be is refused, and else it is as long as it says
pub cycle_err : {X : Type 0} (seconds : X → ℕ) (c n : ℕ) (pairs table : List ℕ) (o : Option X) (e : Refusal) → MatchOption o ((1 ≤ c) × (c ≤ 120) → ⊥) (λ cycle. seconds cycle ≡ c) →
    ok_or o (Cycle c) ≡ Err e → refusal c n pairs table ≡ Some e
cycle_err seconds c n pairs table None e out is = cycle_refused c n pairs table out ∙ ap result_err is
cycle_err seconds c n pairs table (Some cycle) e told is = absurd (some_none e (ap result_err (sym is)))

pub cycle_ok : {X : Type 0} (seconds : X → ℕ) (c : ℕ) (o : Option X) (cycle : X) → MatchOption o ((1 ≤ c) × (c ≤ 120) → ⊥) (λ cycle. seconds cycle ≡ c) →
    ok_or o (Cycle c) ≡ Ok cycle → ((1 ≤ seconds cycle) × (seconds cycle ≤ 120)) → (seconds cycle ≡ c) × (1 ≤ c) × (c ≤ 120)
unfolding seconds_of
cycle_ok seconds c None cycle out is fits = absurd (some_none (Cycle c) (ap result_err is))
cycle_ok seconds c (Some taken) cycle told is fits =
    let same : seconds cycle ≡ c = sym (ap (seconds_of seconds) is) ∙ told in (same, omega (arith, fits.0), omega (arith, fits.1))

cond_none : (b : Bool) (e : Refusal) (rest : Option Refusal) → cond b (Some e) rest ≡ None → (b ≡ false) × (rest ≡ None)
cond_none true e rest is = absurd (some_none e is)
cond_none false e rest is = (refl, is)

-- streams that are taken are 1 to 12, with two numbers for each
pub record TakenStreams (n : ℕ) (pairs : List ℕ) : Type 0 where
  pub some : 1 ≤ n
  pub few : n ≤ 12
  pub paired : length pairs ≡ 2 * n

pub streams_taken : (n : ℕ) (pairs : List ℕ) → streams_refusal n pairs ≡ None → TakenStreams n pairs
streams_taken n pairs is =
    let counted = cond_none (ltb n 1 || ltb 12 n) _ _ is in
    let tests = or_parts (ltb n 1) (ltb 12 n) counted.0 in
    let numbered = cond_none (not (eqb (length pairs) (2 * n))) _ _ counted.1 in
    record {
      some = ltb-false n 1 tests.0;
      few = ltb-false 12 n tests.1;
      paired = eqb-true _ _ (not-false _ numbered.0);
    }

mapped_none : (f : ℕ → Refusal) (o : Option ℕ) → option_map f o ≡ None → o ≡ None
mapped_none f None is = refl
mapped_none f (Some x) is = absurd (some_none (f x) is)

-- a table that is taken has a number for each two streams, and none at fault
pub record TakenTable (n : ℕ) (table : List ℕ) : Type 0 where
  pub whole : length table ≡ n * n
  pub faultless : (a : ℕ) → a < n → (b : ℕ) → b < n → fault n table a b ≡ false

pub table_taken : (n : ℕ) (table : List ℕ) → table_refusal n table ≡ None → TakenTable n table
table_taken n table is =
    let counted = cond_none (not (eqb (length table) (n * n))) _ _ is in
    record { whole = eqb-true _ _ (not-false _ counted.0); faultless = no_fault n table (mapped_none Table (faulty_place n table) counted.1) }

-- what crosses in a table without fault crosses both ways, also where the table is copied
pub faultless_both : (n : ℕ) (table copy : List ℕ) → ((a : ℕ) → a < n → (b : ℕ) → b < n → fault n table a b ≡ false) → ((i : ℕ) → get_or copy i 0 ≡ get_or table i 0) → both_ways n copy ≡ true
unfolding both_ways
faultless_both n table copy faultless same =
    all_in n (λ a. all_to n (λ b. not (crossing n copy a b) || crossing n copy b a))
    (λ a ha. all_in n (λ b. not (crossing n copy a b) || crossing n copy b a)
    (λ b hb.
    let sound : fault n table a b ≡ false = faultless a ha b hb in
    rw (same (a * n + b), same (b * n + a)) (grind (arith, nat_tests))))

-- a room that is taken has two numbers for each stream
pub room_taken : (n : ℕ) (room : List ℕ) → room_refusal n room ≡ None → length room ≡ 2 * n
room_taken n room is =
    ⊎_elim (λ (e : eqb (length room) (2 * n) ≡ true). eqb-true _ _ e) (λ (e : eqb (length room) (2 * n) ≡ false). absurd (some_none (Room (length room)) (rw e at is)))
    (cases_Bool (eqb (length room) (2 * n)))
