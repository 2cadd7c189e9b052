-- What the methods of a range answer, in the words of `Below`: each takes the clause `ran` of the call, and what a call of the closure answers.
use Rattle.std.proofs.Common.{◌≡◌, ℕ, ◌+◌, ◌<◌, ◌≤◌, Bool, true, false, not, List, [], ◌∷◌, Option, Some, None, length, get_or, refl, sym, ◌∙◌, ap, subst, arith}
use Rattle.std.specs.Prelude.{MatchBool, MatchOption, IfSome, IsSomeAnd, IsTrue}
use Rattle.std.specs.Fn.{Called, CalledAt}
use Rattle.std.specs.Option.{option_map}
use Rattle.std.specs.Iterator.Runs.{Run, SomeRun, AllItemsGive, IsFirstToGive, CallKeepsClosure}
use Rattle.std.proofs.iter.runs.Sources.{range_runs}
use Rattle.std.specs.Iterator.{ChecksAll, ChecksAny, FindsItem, FoldsItems, FindsPosition, FoldTurn, YieldsThen}
use Rattle.std.specs.List.{range_with_len, enumerate_from, AllWithin, HoldsAt, FoldsTo}
use Rattle.std.specs.declared.ops.Range.{Range}
use Rattle.std.specs.Iterator.Adapters.{enumerate_source, enumerate_count, enumerate_steps}
use Rattle.std.specs.Slice.Iter.{iter_rest}
use Rattle.std.proofs.iter.Yields.{nat_range_steps, fronts}
use Rattle.std.proofs.lemmas.Iterator.{YieldsList-from_range, YieldsList-from_slice, IsFirst-from_position, cases_from_all, cases_from_any, first_from_Range}
use Rattle.std.proofs.lemmas.Iterator.Consumers.{YieldsList-from_enumerate}
use Rattle.std.proofs.lemmas.List.FromFn.{length-range_with_len, get_or-range_with_len, length-enumerate_from, get_or-enumerate_from}
use Rattle.std.proofs.lemmas.Bool.{lt-ltb, le-ltb}
use Rattle.crossing.specs.Below.{all_to, first_to, found_to}
use Rattle.crossing.proofs.Below.{all_in, all_fails, first_is, first_none}
use denote.Param.Members.{Mut}
use denote.Ref.{Bor}

-- what holds at each place of the numbers below n holds of each of them
each_below : (n : ℕ) (P : ℕ → Type 0) → AllWithin (λ x. x < n → P x) (range_with_len 0 n) 0 (length (range_with_len 0 n)) → (k : ℕ) → k < n → P k
each_below n P all k h =
    let here : get_or (range_with_len 0 n) k 0 ≡ k = omega (arith, get_or-range_with_len 0 n k 0 h) in
    subst (λ x. x < n → P x) here (all k 0 (omega arith) (omega (arith, length-range_with_len 0 n))) h

-- what holds at a place of them holds of a number below n
one_below : (n k : ℕ) (P : ℕ → Type 0) → k < length (range_with_len 0 n) → HoldsAt (λ x. x < n → P x) (range_with_len 0 n) k → (k < n) × P k
one_below n k P within one =
    let h : k < n = omega (arith, length-range_with_len 0 n) in
    let here : get_or (range_with_len 0 n) k 0 ≡ k = omega (arith, get_or-range_with_len 0 n k 0 h) in
    (h, subst (λ x. x < n → P x) here (one 0) h)

all_cases : (n : ℕ) (test : ℕ → Bool) (r : Bool)
    → MatchBool r (AllWithin (λ x. x < n → test x ≡ true) (range_with_len 0 n) 0 (length (range_with_len 0 n))) ((k : ℕ) × (k < length (range_with_len 0 n)) × HoldsAt (λ x. x < n → test x ≡ false) (range_with_len 0 n) k)
    → r ≡ all_to n test
all_cases n test true told = sym (all_in n test (each_below n (λ k. test k ≡ true) told))
all_cases n test false told = let one = one_below n told.0 (λ k. test k ≡ false) told.1 told.2 in sym (all_fails n test told.0 one.0 one.1)

any_cases : (n : ℕ) (test : ℕ → Bool) (r : Bool)
    → MatchBool r ((k : ℕ) × (k < length (range_with_len 0 n)) × HoldsAt (λ x. x < n → test x ≡ false) (range_with_len 0 n) k) (AllWithin (λ x. x < n → test x ≡ true) (range_with_len 0 n) 0 (length (range_with_len 0 n)))
    → not r ≡ all_to n test
any_cases n test false told = sym (all_in n test (each_below n (λ k. test k ≡ true) told))
any_cases n test true told = let one = one_below n told.0 (λ k. test k ≡ false) told.1 told.2 in sym (all_fails n test told.0 one.0 one.1)

pub all_of : {F : Type 0} {g : Mut F (ℕ × Unit {0}) Bool} (n : ℕ) (test : ℕ → Bool) {s u : Range ℕ} {f : F} {r : Bool}
    → ChecksAll nat_range_steps g s f r u
    → s ≡ record { start = 0; end = n }
    → ((x : ℕ) (b : Bool) (q : F) → Called g f (x, tt) b q → (q ≡ f) × (x < n → b ≡ test x))
    → r ≡ all_to n test
all_of n test {u = u} {f = f} {r = r} ran e answers =
    all_cases n test r
    (cases_from_all u f r (λ x. x < n → test x ≡ true) (λ x. x < n → test x ≡ false) ran (YieldsList-from_range 0 n n e (omega arith))
    (λ x q k. ((answers x true q k).0, λ h. sym ((answers x true q k).1 h)))
    (λ x q k. λ h. sym ((answers x false q k).1 h)))

-- `any`, of a test that fails where the other passes
pub any_of : {F : Type 0} {g : Mut F (ℕ × Unit {0}) Bool} (n : ℕ) (test : ℕ → Bool) {s u : Range ℕ} {f : F} {r : Bool}
    → ChecksAny nat_range_steps g s f r u
    → s ≡ record { start = 0; end = n }
    → ((x : ℕ) (b : Bool) (q : F) → Called g f (x, tt) b q → (q ≡ f) × (x < n → not b ≡ test x))
    → not r ≡ all_to n test
any_of n test {u = u} {f = f} {r = r} ran e answers =
    any_cases n test r
    (cases_from_any u f r (λ x. x < n → test x ≡ false) (λ x. x < n → test x ≡ true) ran (YieldsList-from_range 0 n n e (omega arith))
    (λ x q k. λ h. sym ((answers x true q k).1 h))
    (λ x q k. ((answers x false q k).0, λ h. sym ((answers x false q k).1 h))))

-- a number below n, and none where it is n
found_cases : (n : ℕ) (test : ℕ → Bool) (r : Option ℕ)
    → MatchOption r ((k : ℕ) → 0 ≤ k → k < n → k < n → test k ≡ false) (λ i. (0 ≤ i) × (i < n) × (i < n → test i ≡ true) × ((k : ℕ) → 0 ≤ k → k < i → k < n → test k ≡ false))
    → r ≡ found_to n test
found_cases n test None told =
    let is : first_to n test ≡ n = first_none n test (λ k h. told k (omega arith) h h) in
    rw is (let none = le-ltb n n (omega arith) in rw none refl)
found_cases n test (Some i) told =
    let is : i ≡ first_to n test = first_is n test i told.1 (λ k h. told.3 k (omega arith) h (omega arith)) (told.2 told.1) in
    rw (sym is) (let some = lt-ltb i n told.1 in rw some refl)

pub find_of : {F : Type 0} {g : Mut F (Bor ℕ × Unit {0}) Bool} (n : ℕ) (test : ℕ → Bool) {s : Range ℕ} (u : Range ℕ) {f : F} {r : Option ℕ}
    → FindsItem nat_range_steps g s f r u
    → s ≡ record { start = 0; end = n }
    → ((x : ℕ) (b : Bool) (q : F) → CalledAt g f x b q → (q ≡ f) × (x < n → b ≡ test x))
    → r ≡ found_to n test
find_of {g = g} n test u {f = f} {r = r} ran e answers =
    found_cases n test r
    (first_from_Range (record { start = 0; end = n }) u f r (λ x. x < n → test x ≡ true) (λ x. x < n → test x ≡ false)
    (subst (λ (k : Range ℕ). FindsItem nat_range_steps g k f r u) e ran)
    (λ x q k. λ h. sym ((answers x true q k).1 h))
    (λ x q k. ((answers x false q k).0, λ h. sym ((answers x false q k).1 h))))

-- a run over the numbers below n has each at its place, and a whole run has all of them
same_item : (o : Option ℕ) (k : ℕ) → option_map (λ y. y) o ≡ Some k → o ≡ Some k
same_item None k is = is
same_item (Some x) k is = is

module _ (n : ℕ) (p : Run nat_range_steps) (is : p.from ≡ record { start = 0; end = n }) where
  from_none : p.from.start ≡ 0
  from_none = ap (λ (s : Range ℕ). s.start) is

  to_end : p.from.end ≡ n
  to_end = ap (λ (s : Range ℕ). s.end) is

  run_within : p.len ≤ n
  run_within = omega (arith, from_none, to_end, (range_runs p p.seen).0)

  run_whole : p.whole ≡ true → p.len ≡ n
  run_whole whole = omega (arith, from_none, to_end, (range_runs p p.seen).1 whole)

  run_item : (k : ℕ) → k < p.len → p.at k ≡ Some k
  run_item k within = let place : p.from.start + k ≡ k = omega (arith, from_none) in same_item (p.at k) k (subst (λ x. option_map (λ y. y) (p.at k) ≡ Some x) place ((range_runs p p.seen).3 k within))

  module _ {F B : Type 0} {g : Mut F (ℕ × Unit {0}) (Option B)} {f : F} (No : ℕ → Type 0) (Yes : ℕ → B → Type 0) (keeps : CallKeepsClosure g f)
      (none : (x : ℕ) → x < n → Called g f (x, tt) None f → No x) (some : (x : ℕ) (y : B) → x < n → Called g f (x, tt) (Some y) f → Yes x y) where
    mapped_cases : (r : Option B) → MatchOption r (IsTrue p.whole × AllItemsGive p g f None) (λ y. (i : ℕ) × (i < p.len) × (p.len ≡ i + 1) × IsFirstToGive p g f (Some y) None i)
        → MatchOption r ((k : ℕ) → k < n → No k) (λ y. (i : ℕ) × (i < n) × Yes i y × ((k : ℕ) → k < i → No k))
    mapped_cases None told = λ k h.
        none k h (subst (λ o. IfSome o (λ x. Called g f (x, tt) None f)) (run_item k (omega (arith, run_whole told.0))) (told.1 keeps k))
    mapped_cases (Some y) told =
        let first = told.3 keeps in (
          told.0,
          omega (arith, told.1, run_within),
          some told.0 y (omega (arith, told.1, run_within)) (subst (λ o. IsSomeAnd o (λ x. Called g f (x, tt) (Some y) f)) (run_item told.0 told.1) first.0),
          λ k h. none k (omega (arith, told.1, run_within)) (subst (λ o. IsSomeAnd o (λ x. Called g f (x, tt) None f)) (run_item k (omega (arith, told.1))) (first.1 k h)),
        )

-- `find_map`: no number below n gives any, or a number gives the one that is answered and none before it gives any
pub find_map_of : {F B : Type 0} {g : Mut F (ℕ × Unit {0}) (Option B)} (n : ℕ) (No : ℕ → Type 0) (Yes : ℕ → B → Type 0) {s : Range ℕ} {f : F} (r : Option B)
    → SomeRun nat_range_steps s (λ p. MatchOption r (IsTrue p.whole × AllItemsGive p g f None) (λ y. (i : ℕ) × (i < p.len) × (p.len ≡ i + 1) × IsFirstToGive p g f (Some y) None i))
    → s ≡ record { start = 0; end = n }
    → ((x : ℕ) (o : Option B) (q : F) → Called g f (x, tt) o q → q ≡ f)
    → ((x : ℕ) → x < n → Called g f (x, tt) None f → No x)
    → ((x : ℕ) (y : B) → x < n → Called g f (x, tt) (Some y) f → Yes x y)
    → MatchOption r ((k : ℕ) → k < n → No k) (λ y. (i : ℕ) × (i < n) × Yes i y × ((k : ℕ) → k < i → No k))
find_map_of n No Yes r runs e keeps none some = mapped_cases n runs.0 (runs.1 ∙ e) No Yes (λ x o q called. keeps x.0 o q called) none some r runs.2

-- `position` over the items of a slice beside their places, of a test on both
beside : (xs : List ℕ) (k : ℕ) → k < length xs → get_or (enumerate_from 0 xs) k (0, 0) ≡ (k, get_or xs k 0)
beside xs k h = let place : 0 + k ≡ k = omega arith in get_or-enumerate_from 0 xs k (0, 0) h ∙ ap (λ i. (i, get_or xs k 0)) place

told_below : (xs : List ℕ) (test : ℕ → ℕ → Bool) (r : Option ℕ)
    → MatchOption r (AllWithin (λ p. test p.0 p.1 ≡ false) (enumerate_from 0 xs) 0 (length (enumerate_from 0 xs))) (λ i. (i < length (enumerate_from 0 xs)) × HoldsAt (λ p. test p.0 p.1 ≡ true) (enumerate_from 0 xs) i × AllWithin (λ p. test p.0 p.1 ≡ false) (enumerate_from 0 xs) 0 i)
    → MatchOption r ((k : ℕ) → 0 ≤ k → k < length xs → k < length xs → test k (get_or xs k 0) ≡ false) (λ i. (0 ≤ i) × (i < length xs) × (i < length xs → test i (get_or xs i 0) ≡ true) × ((k : ℕ) → 0 ≤ k → k < i → k < length xs → test k (get_or xs k 0) ≡ false))
told_below xs test None told = λ k low h within.
    subst (λ (p : ℕ × ℕ). test p.0 p.1 ≡ false) (beside xs k within) (told k (0, 0) low (omega (arith, length-enumerate_from 0 xs)))
told_below xs test (Some i) told =
    let here : i < length xs = omega (arith, told.0, length-enumerate_from 0 xs) in (
      omega arith,
      here,
      λ h. subst (λ (p : ℕ × ℕ). test p.0 p.1 ≡ true) (beside xs i h) (told.1 (0, 0)),
      λ k low h within. subst (λ (p : ℕ × ℕ). test p.0 p.1 ≡ false) (beside xs k within) (told.2 k (0, 0) low h),
    )

place_cases : (xs : List ℕ) (test : ℕ → ℕ → Bool) (r : Option ℕ)
    → MatchOption r (AllWithin (λ p. test p.0 p.1 ≡ false) (enumerate_from 0 xs) 0 (length (enumerate_from 0 xs))) (λ i. (i < length (enumerate_from 0 xs)) × HoldsAt (λ p. test p.0 p.1 ≡ true) (enumerate_from 0 xs) i × AllWithin (λ p. test p.0 p.1 ≡ false) (enumerate_from 0 xs) 0 i)
    → r ≡ found_to (length xs) (λ k. test k (get_or xs k 0))
place_cases xs test r told =
    found_cases (length xs) (λ k. test k (get_or xs k 0)) r (told_below xs test r told)

pub place_of : {F : Type 0} {g : Mut F ((ℕ × Bor ℕ) × Unit {0}) Bool} (xs : List ℕ) (test : ℕ → ℕ → Bool) {s : _} (u : _) (f : F) (r : Option ℕ)
    → FindsPosition (enumerate_steps fronts) g s f r u
    → iter_rest (enumerate_source s) ≡ xs → enumerate_count s ≡ 0
    → ((x : ℕ × Bor ℕ) (b : Bool) (q : F) → Called g f (x, tt) b q → (q ≡ f) × (b ≡ test x.0 x.1.now))
    → r ≡ found_to (length xs) (λ k. test k (get_or xs k 0))
place_of xs test u f r ran rest zero_count answers =
    place_cases xs test r
    (IsFirst-from_position u f r (λ p. test p.0 p.1 ≡ true) (λ p. test p.0 p.1 ≡ false) ran (YieldsList-from_enumerate (YieldsList-from_slice xs rest) zero_count)
    (λ x q called. sym (answers x true q called).1)
    (λ x q called. ((answers x false q called).0, sym (answers x false q called).1)))

-- `fold`: what holds of nothing and is kept by a turn holds at the end
folds : {F C : Type 0} (g : Mut F (C × (ℕ × Unit {0})) C) (J : ℕ → C → Type 0) (f : F) (n : ℕ)
    → ((k : ℕ) (a b : C) (q : F) → k < n → J k a → Called g f (a, (k, tt)) b q → (q ≡ f) × J (k + 1) b)
    → (xs : List ℕ) (s u : Range ℕ) (a r : C) (q : F)
    → s.end ≡ n → YieldsThen nat_range_steps s xs None u → FoldsTo {P = F × C} (FoldTurn g) (f, a) xs (q, r) → s.start ≤ n → J s.start a → J n r
folds g J f n turn [] s u a r q end runs folded within holds =
    let last : s ≡ runs.0 = runs.1 in
    let start : s.start ≡ n = omega (arith, ap (λ (t : Range ℕ). t.start) last, ap (λ (t : Range ℕ). t.end) last, runs.2.1.0) in
    let same : a ≡ r = ap (λ p. p.1) folded in
    subst (λ c. J n c) same (subst (λ k. J k a) start holds)
folds {F} {C} g J f n turn (x ∷ xs) s u a r q end runs folded within holds =
    let step = runs.1.1 in
    let here : x ≡ s.start = step.1.1 in
    let called : Called g f (a, (s.start, tt)) folded.0.1 folded.0.0 = subst (λ k. Called g f (a, (k, tt)) folded.0.1 folded.0.0) here folded.1 in
    let turned = turn s.start a folded.0.1 folded.0.0 (omega (arith, step.1.0)) holds called in
    folds g J f n turn xs runs.1.0 u folded.0.1 r q (step.0 ∙ end) (runs.0, runs.1.2, runs.2)
    (subst (λ h. FoldsTo {P = F × C} (FoldTurn g) (h, folded.0.1) xs (q, r)) turned.0 folded.2)
    (omega (arith, step.1.0, step.1.2))
    (subst (λ k. J k folded.0.1) (sym step.1.2) turned.1)

pub fold_of : {F C : Type 0} {g : Mut F (C × (ℕ × Unit {0})) C} (n : ℕ) (J : ℕ → C → Type 0) {s : Range ℕ} {f : F} {init r : C}
    → FoldsItems nat_range_steps g s f init r
    → s ≡ record { start = 0; end = n }
    → J 0 init
    → ((k : ℕ) (a b : C) (q : F) → k < n → J k a → Called g f (a, (k, tt)) b q → (q ≡ f) × J (k + 1) b)
    → J n r
fold_of {g = g} n J {s = s} {f = f} {init = init} {r = r} ran e holds turn =
    let start : 0 ≡ s.start = sym (ap (λ (k : Range ℕ). k.start) e) in
    folds g J f n turn ran.0 s ran.2.0 init r ran.1 (ap (λ (k : Range ℕ). k.end) e) ran.2.1 ran.3 (omega (arith, start)) (subst (λ k. J k init) start holds)
