-- Streams that are too close, looked for second by second and row by row.
use Rattle.std.proofs.Common.{◌≡◌, ℕ, ◌-◌, ◌<◌, true, false, not, ◌&&◌, eqb, ltb, List, Option, Some, None, refl, sym, ap, subst, ◌∙◌}
use Rattle.std.specs.Prelude.{MatchOption}
use Rattle.crossing.specs.declared.junctions.Junction.{Junction}
use Rattle.crossing.specs.Below.{found_to}
use Rattle.crossing.specs.Site.{Site, Greens}
use Rattle.crossing.specs.Good.{close}
use Rattle.crossing.specs.Taken.{site_of, row_in}
use Rattle.crossing.specs.Verdicts.{clash, row_clash, close_to, Calm, FirstClose}
use Rattle.crossing.proofs.Below.{found_says, found_same}
use Rattle.crossing.proofs.Rows.{row_there, row_holds}

-- a row of the table tells who is too close to its stream
row_same : (j : Junction) (p : Greens) (row : List ℕ) (a s : ℕ) → row ≡ row_in j a → a < j.count →
    (b : ℕ) → b < j.count → row_clash j.cycle.seconds row p a s b ≡ clash (site_of j) p a b s
row_same j p row a s is there b h = ap (λ x. ltb 0 x && (not (eqb a b) && close j.cycle.seconds (x - 1) (p a) (p b) s)) (row_holds j a b row is there h)

-- no stream is too close to a in a second, or b is the first that is
abbrev pub RowCalm : Site → Greens → (s a : ℕ) → Type 0
RowCalm j p s a = (y : ℕ) → y < j.streams → clash j p a y s ≡ false

abbrev pub RowClose : Site → Greens → (s a b : ℕ) → Type 0
RowClose j p s a b = (b < j.streams) × (clash j p a b s ≡ true) × ((y : ℕ) → y < b → clash j p a y s ≡ false)

-- so what is found by a row is the first that is too close to its stream
pub row_tells : (j : Junction) (p : Greens) (a s : ℕ) (r : Option ℕ) → a < j.count → r ≡ close_to j.cycle.seconds (row_in j a) p a s →
    MatchOption r (RowCalm (site_of j) p s a) (RowClose (site_of j) p s a)
row_tells j p a s r there told =
    let wide = row_there j a 0 (row_in j a) refl there in
    found_says j.count (λ b. clash (site_of j) p a b s) r
    (told
    ∙ (ap (λ n. found_to n (row_clash j.cycle.seconds (row_in j a) p a s)) wide
    ∙ found_same j.count (row_clash j.cycle.seconds (row_in j a) p a s) (λ b. clash (site_of j) p a b s) (row_same j p (row_in j a) a s refl there)))

-- and what is found by the rows is the first two in the second
pub rows_tell : (j : Site) (p : Greens) (s : ℕ) (r : Option (ℕ × ℕ)) →
    MatchOption r ((a : ℕ) → a < j.streams → RowCalm j p s a) (λ two. (i : ℕ) × (i < j.streams) × ((two.0 ≡ i) × RowClose j p s i two.1) × ((k : ℕ) → k < i → RowCalm j p s k)) →
    MatchOption r (Calm j p s) (λ two. FirstClose j p s two.0 two.1)
rows_tell j p s None told = told
rows_tell j p s (Some two) told =
    subst (λ a. FirstClose j p s a two.1) (sym told.2.0) (told.1, told.2.1.0, told.2.1.1, told.3, told.2.1.2)
