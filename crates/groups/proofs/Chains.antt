-- What a chain over the numbers below a number answers, in the words of `Below` and `Among`.
use Rattle.std.proofs.Common.{◌≡◌, ℕ, zero, suc, ◌+◌, ◌/◌, ◌-◌, ◌<◌, ◌≤◌, min, Bool, true, false, cond, ◌||◌, List, [], ◌∷◌, ◌++◌, map, sum, Option, Some, None, refl, sym, ◌∙◌, ap, subst, ⊎_elim, add-one, arith}
use Rattle.std.specs.Fn.{Called, CalledAt}
use Rattle.std.specs.Iterator.{AlwaysYields, Drains, PicksByCmp}
use Rattle.std.specs.Iterator.Adapters.{map_source, map_callee, map_steps, filter_source, filter_callee, filter_steps}
use Rattle.std.specs.Iterator.Runs.{EachRunFrom}
use Rattle.std.specs.List.{range_with_len, reduce, filter, fold, All}
use Rattle.std.specs.Option.{unwrap_or, option_map}
use Rattle.std.specs.Ordering.{nat_cmp, min_by_ordering}
use Rattle.std.specs.declared.iter.Filter.{Filter}
use Rattle.std.specs.declared.iter.Map.{Map}
use Rattle.std.specs.declared.ops.Range.{Range}
use Rattle.std.proofs.iter.Yields.{nat_range_steps}
use Rattle.std.proofs.lemmas.Bool.{cases_Bool}
use Rattle.std.proofs.lemmas.Iterator.{YieldsList, YieldsList-from_range, maps}
use Rattle.std.proofs.lemmas.Iterator.Adapters.{option_map_id, at_most_from_yields_List, fits_from_length}
use Rattle.std.proofs.lemmas.Iterator.Consumers.{YieldsList-from_filter, YieldsList-at, min_from_yields_List, sum_from_yields_List}
use Rattle.std.proofs.lemmas.List.{map-append, map-id, append-nil}
use Rattle.std.proofs.lemmas.List.Elements.{filter-append, All-filter}
use Rattle.std.proofs.lemmas.List.FromFn.{length-range_with_len, get_or-range_with_len, map-range_with_len_more}
use Rattle.std.proofs.lemmas.List.Sums.{fold-append}
use Rattle.crossing.specs.Below.{sum_to}
use Rattle.groups.specs.Among.{some_to, least_among}
use Rattle.groups.proofs.Least.{among_none}
use denote.Param.Members.{Mut}
use denote.Ref.{Bor}

-- each number of the range is below its end
range_below : (n : ℕ) → All (λ x. x < n) (range_with_len 0 n)
range_below n = λ k d h. omega (arith, length-range_with_len 0 n, get_or-range_with_len 0 n k d)

mapped : {S A B F R : Type 0} (steps : S → Option A → S → Type 0) (v : A → B) (P : B → Type 0) (g : Mut F (A × Unit {0}) R) (h : B → R) (f : F)
    → ((x : A) (r : R) (q : F) → Called g f (x, tt) r q → (q ≡ f) × (P (v x) → r ≡ h (v x)))
    → (ys : List B) → All P ys → (s : Map S F) → map_callee s ≡ f → AlwaysYields steps v (map_source s) ys → AlwaysYields (maps steps g) (λ r. r) s (map h ys)
mapped steps v P g h f answers [] all s same runs = λ y j p. runs p.0 (map_source j) p.1
mapped {B = B} steps v P g h f answers (z ∷ ys) all s same runs = (
  (λ j p. runs.0 (map_source j) p.0),
  λ y j p.
      let turn = answers p.0 y (map_callee j) (subst (λ w. Called g w (p.0, tt) y (map_callee j)) same p.2) in
      let rest = runs.1 p.0 (map_source j) p.1 in
      let here : P (v p.0) = subst P (sym rest.0) (all 0 z (omega arith)) in
      (turn.1 here ∙ ap h rest.0, mapped steps v P g h f answers ys (λ k d within. all (suc k) d (omega arith)) j turn.0 rest.1),
)

-- `map`, where what the closure answers is known of the items that pass P
map_within : {S A B F R : Type 0} {steps : S → Option A → S → Type 0} {v : A → B} {ys : List B} {s : Map S F} (P : B → Type 0) (g : Mut F (A × Unit {0}) R) (h : B → R) {f : F}
    → All P ys → YieldsList steps v (map_source s) ys → map_callee s ≡ f
    → ((x : A) (r : R) (q : F) → Called g f (x, tt) r q → (q ≡ f) × (P (v x) → r ≡ h (v x)))
    → YieldsList (maps steps g) (λ r. r) s (map h ys)
map_within {steps = steps} {v = v} {ys = ys} {s = s} P g h {f = f} all source same answers = record { runs = mapped steps v P g h f answers ys all s same source.runs }

range_more : (n : ℕ) → range_with_len 0 (suc n) ≡ range_with_len 0 n ++ n ∷ []
range_more n = rw add-one at (simp map-id at (map-range_with_len_more (λ x. x) 0 n n (omega arith)))

sum_of_range : (n : ℕ) (figure : ℕ → ℕ) → sum (map figure (range_with_len 0 n)) ≡ sum_to n figure
unfolding sum_to
sum_of_range zero figure = refl
sum_of_range (suc n) figure =
    let more : map figure (range_with_len 0 (suc n)) ≡ map figure (range_with_len 0 n) ++ figure n ∷ [] =
    ap (map figure) (range_more n) ∙ map-append figure (range_with_len 0 n) (n ∷ []) in
    let push : sum (map figure (range_with_len 0 n) ++ figure n ∷ []) ≡ sum (map figure (range_with_len 0 n)) + figure n =
    fold-append (λ a x. a + x) 0 (map figure (range_with_len 0 n)) (figure n ∷ []) in
    omega (arith, ap sum more, push, sum_of_range n figure)

-- the lesser of a number and of one that may be there
lesser : Option ℕ → ℕ → ℕ
lesser None y = y
lesser (Some x) y = min x y

reduce_push : (xs : List ℕ) (y : ℕ) → reduce min (xs ++ y ∷ []) ≡ Some (lesser (reduce min xs) y)
unfolding lesser
reduce_push [] y = refl
reduce_push (x ∷ xs) y = ap Some (fold-append min x xs (y ∷ []))

passing_more : (n : ℕ) (test : ℕ → Bool) (figure : ℕ → ℕ) → map figure (filter test (range_with_len 0 (suc n))) ≡ map figure (filter test (range_with_len 0 n)) ++ map figure (filter test (n ∷ []))
passing_more n test figure =
    ap (λ xs. map figure (filter test xs)) (range_more n)
    ∙ ap (map figure) (filter-append test (range_with_len 0 n) (n ∷ []))
    ∙ map-append figure (filter test (range_with_len 0 n)) (filter test (n ∷ []))

-- the least of the figures of the numbers that pass a test, and none where none does
least_passing : (n : ℕ) (test : ℕ → Bool) (figure : ℕ → ℕ) → Option ℕ
least_passing n test figure = cond (some_to n test) (Some (least_among n test figure)) None

least_push : (found : Bool) (least new : ℕ) →
    Some (lesser (cond found (Some least) None) new) ≡ cond (true || found) (Some (cond true (cond found (min new least) new) least)) None
unfolding lesser
least_push true least new = ap Some (omega arith)
least_push false least new = refl

min_of_range : (n : ℕ) (test : ℕ → Bool) (figure : ℕ → ℕ) → reduce min (map figure (filter test (range_with_len 0 n))) ≡ least_passing n test figure
unfolding some_to least_among least_passing
min_of_range zero test figure = refl
min_of_range (suc n) test figure =
    let before = min_of_range n test figure in
    ap (reduce min) (passing_more n test figure) ∙ ⊎_elim
    (λ (here : test n ≡ true). rw here (reduce_push (map figure (filter test (range_with_len 0 n))) (figure n) ∙ rw before (least_push (some_to n test) (least_among n test figure) (figure n))))
    (λ (here : test n ≡ false). rw here (simp append-nil before))
    (cases_Bool (test n))

-- `filter`, `map`, `min`, and 0 where nothing passes
least_of_range : (n : ℕ) (test : ℕ → Bool) (figure : ℕ → ℕ) (r : Option ℕ) → option_map (λ x. x) r ≡ reduce min (map figure (filter test (range_with_len 0 n)))
    → unwrap_or r 0 ≡ least_among n test figure
unfolding least_passing
least_of_range n test figure r e =
    let is : r ≡ least_passing n test figure = sym (option_map_id r) ∙ e ∙ min_of_range n test figure in
    rw is (⊎_elim
    (λ (some : some_to n test ≡ true). rw some refl)
    (λ (none : some_to n test ≡ false). rw none (sym (among_none n test figure none)))
    (cases_Bool (some_to n test)))

below : {s : Range ℕ} (n : ℕ) → s ≡ record { start = 0; end = n } → YieldsList nat_range_steps (λ x. x) s (range_with_len 0 n)
below n e = YieldsList-from_range 0 n n e (omega arith)

-- `(0..n).map(..).sum()`
pub sum_of : {F : Type 0} {g : Mut F (ℕ × Unit {0}) ℕ} (n : ℕ) (figure : ℕ → ℕ) {s : Map (Range ℕ) F} {t : Range ℕ} {f : F} {r : ℕ}
    → ((xs : List ℕ) × (Unit {0} → Drains (map_steps nat_range_steps g) s xs) × (r ≡ fold (λ a x. a + x) 0 xs))
    → map_source s ≡ t → t ≡ record { start = 0; end = n } → map_callee s ≡ f
    → ((x r : ℕ) (q : F) → Called g f (x, tt) r q → (q ≡ f) × (x < n → r ≡ figure x))
    → r ≡ sum_to n figure
sum_of {g = g} n figure {s = s} {r = r} ran source range closure answers =
    sum_from_yields_List s r ran (map_within (λ x. x < n) g figure (range_below n) (YieldsList-at source (below n range)) closure answers)
    ∙ sum_of_range n figure

-- the sum fits, where there are at most `count` numbers and each figure fits in so many times
pub sum_fits : {F : Type 0} {g : Mut F (ℕ × Unit {0}) ℕ} (n count top : ℕ) {s : Map (Range ℕ) F} {t : Range ℕ} {f : F}
    → map_source s ≡ t → t ≡ record { start = 0; end = n } → map_callee s ≡ f → n ≤ count → 0 < top
    → ((x r : ℕ) (q : F) → Called g f (x, tt) r q → (q ≡ f) × (r ≤ (top - 1) / count))
    → EachRunFrom (map_steps nat_range_steps g) s (λ p. fold (λ a x. a + x) 0 p.items < top)
sum_fits {g = g} n count top {f = f} source range closure few some answers =
    fits_from_length g f count top (at_most_from_yields_List (YieldsList-at source (below n range)) (omega (arith, length-range_with_len 0 n))) closure some answers

-- `(0..n).filter(..).map(..).min().unwrap_or(0)`
pub least_of : {F G : Type 0} {p : Mut F (Bor ℕ × Unit {0}) Bool} {g : Mut G (ℕ × Unit {0}) ℕ} (n : ℕ) (test : ℕ → Bool) (figure : ℕ → ℕ)
    {s : Map (Filter (Range ℕ) F) G} {u : Filter (Range ℕ) F} {t : Range ℕ} {e : F} {f : G} (r : Option ℕ)
    → PicksByCmp (map_steps (filter_steps nat_range_steps p) g) min_by_ordering nat_cmp s r
    → map_source s ≡ u → map_callee s ≡ f → filter_source u ≡ t → filter_callee u ≡ e → t ≡ record { start = 0; end = n }
    → ((x : ℕ) (b : Bool) (q : F) → CalledAt p e x b q → (q ≡ e) × (b ≡ test x))
    → ((x r : ℕ) (q : G) → Called g f (x, tt) r q → (q ≡ f) × (x < n → r ≡ figure x))
    → unwrap_or r 0 ≡ least_among n test figure
least_of {p = p} {g = g} n test figure {s = s} r picks source closure inner passes range tests answers =
    least_of_range n test figure r
    (min_from_yields_List s r picks
    (map_within (λ x. x < n) g figure (All-filter test (λ x. x < n) (range_with_len 0 n) (range_below n))
    (YieldsList-at source (YieldsList-from_filter p test (YieldsList-at inner (below n range)) passes tests))
    closure answers))
