-- One plan more tried: what was found stays, or gives way to the new plan.
use Rattle.std.proofs.Common.{◌≡◌, ℕ, ◌≤◌, true, false, leb, ◌⊎◌, Some, None, Ok, Option, ⊎_elim, arith}
use Rattle.std.proofs.lemmas.Bool.{cases_Bool, leb-true, leb-false}
use Rattle.std.specs.Option.{option_and_then, option_or}
use Rattle.std.specs.Bool.{then_some}
use Rattle.crossing.specs.declared.junctions.Junction.{Junction}
use Rattle.crossing.specs.Taken.{site_of}
use Rattle.crossing.specs.Site.{Site, Greens}
use Rattle.crossing.specs.Good.{good, enough}
use Rattle.planning.specs.declared.tries.Found.{Found}
use Rattle.planning.specs.Alike.{Alike}
use Rattle.planning.specs.Tries.{greens_of, Right, RightSoFar, NoBetter, Further, AllTried}
use Rattle.planning.proofs.Same.{alike_back, same_good, same_enough, same_worst}

-- a plan that is not good, or in which not all can go, is no better than anything
no_better_bad : (j : Site) (best : Option Found) (q : Greens) → (good j q ≡ true → enough j q ≡ true → ⊥) → NoBetter j best q
no_better_bad j None q bad = bad
no_better_bad j (Some f) q bad = λ g e. absurd (bad g e)

-- a plan that is not good, or in which not all can go, changes nothing
pub stays : (j : Site) (best : Option Found) (p : Greens) → RightSoFar j best → (good j p ≡ true → enough j p ≡ true → ⊥) → Further j best best (Alike j.streams p)
stays j best p right bad =
    record {
      right = right;
      kept = λ q h. h;
      new = λ q alike. no_better_bad j best q (λ g e. bad (same_good j q p (alike_back j.streams p q alike) g) (same_enough j q p (alike_back j.streams p q alike) e));
    }

-- what was found is kept where it leaves as much to spare, and else gives way
abbrev pub kept : (found : Option Found) (spare : ℕ) → Option Found
kept found spare = option_and_then (λ f. then_some (leb spare f.spare) f) found

pub takes_or_keeps : (j : Site) (best : Option Found) (f : Found) → RightSoFar j best → Right j f →
    Further j best (option_or (kept best f.spare) (Some f)) (Alike j.streams (greens_of f))
takes_or_keeps j None f right new = record {
  right = new;
  kept = λ q none g e. absurd (none g e);
  new = λ q alike g e. omega (arith, new.spares, same_worst j (greens_of f) q alike);
}
takes_or_keeps j (Some old) f right new =
    ⊎_elim
    (λ (stays : leb f.spare old.spare ≡ true).
    rw stays
    (record {
      right = right;
      kept = λ q h. h;
      new = λ q alike g e. omega (arith, leb-true f.spare old.spare stays, new.spares, same_worst j (greens_of f) q alike);
    }))
    (λ (gives_way : leb f.spare old.spare ≡ false).
    rw gives_way
    (record {
      right = new;
      kept = λ q below g e. omega (arith, below g e, leb-false f.spare old.spare gives_way);
      new = λ q alike g e. omega (arith, new.spares, same_worst j (greens_of f) q alike);
    }))
    (cases_Bool (leb f.spare old.spare))

-- one after the other
pub further_then : (j : Site) (first next last : Option Found) (old new all : Greens → Type 0) →
    Further j first next old → Further j next last new → ((q : Greens) → all q → old q ⊎ new q) → Further j first last all
further_then j first next last old new all one two split =
    record {
      right = two.right;
      kept = λ q h. two.kept q (one.kept q h);
      new = λ q t. ⊎_elim (λ (o : old q). two.kept q (one.new q o)) (λ (n : new q). two.new q n) (split q t);
    }

no_better_if : (j : Site) (best : Option Found) (q : Greens) → (good j q ≡ true → NoBetter j best q) → NoBetter j best q
no_better_if j None q if_good = λ g e. if_good g g e
no_better_if j (Some f) q if_good = λ g e. if_good g g e

-- only good plans need to be tried
pub further_good : (j : Site) (first last : Option Found) (tried all : Greens → Type 0) →
    Further j first last tried → ((q : Greens) → good j q ≡ true → all q → tried q) → Further j first last all
further_good j first last tried all one among =
    record { right = one.right; kept = one.kept; new = λ q t. no_better_if j last q (λ g. one.new q (among q g t)) }

-- with every plan tried, what is found is best
pub all_tried : (j : Junction) (found : Option Found) (p : Greens) → j.count ≤ 3 → Further (site_of j) None found (Alike 0 p) → AllTried j (Ok found)
all_tried j None p few tried = (few, λ q. tried.new q (λ k h. absurd (omega arith)))
all_tried j (Some f) p few tried = (
  few,
  record {
    is_good = tried.right.is_good;
    all_go = tried.right.all_go;
    most = λ q g e. omega (arith, tried.new q (λ k h. absurd (omega arith)) g e, tried.right.spares);
  },
  tried.right.spares,
)
