-- One stream's greens tried one after the other: each beginning, and with each beginning each length.
use Rattle.std.proofs.Common.{◌≡◌, ℕ, ◌+◌, ◌<◌, ◌≤◌, List, length, set, Option, ◌∙◌, inl, inr, ⊎_elim, arith, get_or-set_other, get_or-set_same}
use Rattle.std.proofs.lemmas.Bool.{cases_eq}
use Rattle.greens.specs.declared.lights.Green.{Green}
use Rattle.greens.specs.Plans.{no_green, green_of}
use Rattle.crossing.specs.Site.{Site, Greens}
use Rattle.crossing.proofs.Good.{Fitting, good_out}
use Rattle.planning.specs.declared.tries.Found.{Found}
use Rattle.planning.specs.Alike.{Alike}
use Rattle.planning.specs.Tries.{Further}
use Rattle.planning.proofs.Progress.{further_then, further_good}

-- the plans that go on from p, in which stream n begins before a second
abbrev pub Begun : (p : Greens) (n from : ℕ) → Greens → Type 0
Begun p n from q = Alike n p q × ((q n).from < from)

-- the plans that go on from p, in which stream n begins in a second and is shorter than a length
abbrev pub Shorter : (p : Greens) (n from long : ℕ) → Greens → Type 0
Shorter p n from long q = Alike n p q × ((q n).from ≡ from) × ((q n).long < long)

-- a plan that goes on from a list of greens, with one green more
alike_more : (greens : List Green) (n : ℕ) (g : Green) (q : Greens) → n < length greens → Alike n (green_of greens) q → g ≡ q n → Alike (n + 1) (green_of (set greens n g)) q
alike_more greens n g q room alike here k h =
    ⊎_elim
    (λ (at : k ≡ n). rw at (get_or-set_same greens n g no_green room ∙ here))
    (λ (other : k ≡ n → ⊥). get_or-set_other greens n k g no_green other ∙ alike k (omega arith))
    (cases_eq k n)

module _ (j : Site) (greens : List Green) (n : ℕ) where
  -- one length more
  pub shorter_more : (first next last : Option Found) (from long : ℕ) (more : List Green) → n < length greens → more ≡ set greens n (record { from = from; long = long }) →
      Further j first next (Shorter (green_of greens) n from long) → Further j next last (Alike (n + 1) (green_of more)) →
      Further j first last (Shorter (green_of greens) n from (long + 1))
  shorter_more first next last from long more room is one two =
      further_then j first next last (Shorter (green_of greens) n from long) (Alike (n + 1) (green_of more)) (Shorter (green_of greens) n from (long + 1)) one two
      (λ q t.
      let begins : (q n).from ≡ from = t.1 in
      ⊎_elim
      (λ (same : (q n).long ≡ long).
      inr (rw is (alike_more greens n (record { from = from; long = long }) q room t.0 (rw (← begins, ← same)))))
      (λ (other : (q n).long ≡ long → ⊥). inl (t.0, begins, omega (arith, t.2)))
      (cases_eq (q n).long long))

  -- one beginning more, with all lengths up to the cycle
  pub begun_more : (first next last : Option Found) (from long : ℕ) → n < j.streams → j.cycle < long →
      Further j first next (Begun (green_of greens) n from) → Further j next last (Shorter (green_of greens) n from long) →
      Further j first last (Begun (green_of greens) n (from + 1))
  begun_more first next last from long there all one two =
      further_then j first next last (Begun (green_of greens) n from) (λ q. Alike n (green_of greens) q × ((q n).from ≡ from))
      (Begun (green_of greens) n (from + 1)) one
      (further_good j next last (Shorter (green_of greens) n from long) (λ q. Alike n (green_of greens) q × ((q n).from ≡ from)) two (λ q g t.
      let fit : Fitting j n (q n) = (good_out j q g).fitting n there in (t.0, t.1, omega (arith, fit.within))))
      (λ q t.
      ⊎_elim
      (λ (same : (q n).from ≡ from). inr (t.0, same))
      (λ (other : (q n).from ≡ from → ⊥). inl (t.0, omega (arith, t.1)))
      (cases_eq (q n).from from))

  -- all beginnings in the cycle, and so all plans that go on from the greens
  pub begun_all : (first last : Option Found) (from : ℕ) → n < j.streams → j.cycle ≤ from →
      Further j first last (Begun (green_of greens) n from) → Further j first last (Alike n (green_of greens))
  begun_all first last from there all one =
      further_good j first last (Begun (green_of greens) n from) (Alike n (green_of greens)) one (λ q g alike.
      let fit : Fitting j n (q n) = (good_out j q g).fitting n there in (alike, omega (arith, fit.begins)))
