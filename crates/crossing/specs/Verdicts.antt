-- What is said of a plan that is judged. Assumes nothing: these are definitions.
use Rattle.std.specs.Prelude.{◌≡◌, Option, Ok, Err, Result, ℕ, ◌-◌, ◌<◌, Bool, true, false, not, ◌&&◌, nat_lt, List, length, ◌==◌, slice_index}
use Rattle.crossing.specs.declared.judging.Fault.{Fault}
use Rattle.crossing.specs.declared.judging.Fault.TheVariants.{Unfit, TooClose}
use Rattle.crossing.specs.declared.judging.Worth.{Worth}
use Rattle.crossing.specs.Below.{found_to}
use Rattle.crossing.specs.Site.{Site, Greens}
use Rattle.crossing.specs.Good.{close, fits, good, enough, worst}

-- in a second stream b is too close to stream a, which it crosses
abbrev pub clash : Site → Greens → (a b s : ℕ) → Bool
clash j p a b s = j.crosses a b && (not (a == b) && close j.cycle (j.clear a b) (p a) (p b) s)

-- what a judgement says of a plan
abbrev pub Judged : Site → Greens → Result Worth Fault → Type 0
-- it is good, with so much to spare in the stream that is worst off, and all can go or not
Judged j p (Ok worth) = (good j p ≡ true) × (worth.spare ≡ worst j p) × (worth.all_go ≡ enough j p)
-- a stream's green doesn't fit, and those of the streams before it do
Judged j p (Err (Unfit k)) = (k < j.streams) × (fits j k (p k) ≡ false) × ((i : ℕ) → i < k → fits j i (p i) ≡ true)
-- every green fits; in a second b is too close to a; in no second before it are any two too close, and in it no two before a and b, row by row
Judged j p (Err (TooClose s a b)) =
    ((i : ℕ) → i < j.streams → fits j i (p i) ≡ true)
    × (s < j.cycle)
    × (a < j.streams)
    × (b < j.streams)
    × (clash j p a b s ≡ true)
    × ((t : ℕ) → t < s → (x : ℕ) → x < j.streams → (y : ℕ) → y < j.streams → clash j p x y t ≡ false)
    × ((x : ℕ) → x < a → (y : ℕ) → y < j.streams → clash j p x y s ≡ false)
    × ((y : ℕ) → y < b → clash j p a y s ≡ false)

-- every green fits
abbrev pub AllFit : Site → Greens → Type 0
AllFit j p = (i : ℕ) → i < j.streams → fits j i (p i) ≡ true

-- in a second no two are too close
abbrev pub Calm : Site → Greens → (s : ℕ) → Type 0
Calm j p s = (x : ℕ) → x < j.streams → (y : ℕ) → y < j.streams → clash j p x y s ≡ false

-- in no second of the cycle are any two too close
abbrev pub AllApart : Site → Greens → Type 0
AllApart j p = (s : ℕ) → s < j.cycle → Calm j p s

-- in a second b is too close to a, and no two before them are, row by row
abbrev pub FirstClose : Site → Greens → (s a b : ℕ) → Type 0
FirstClose j p s a b =
    (a < j.streams)
    × (b < j.streams)
    × (clash j p a b s ≡ true)
    × ((x : ℕ) → x < a → (y : ℕ) → y < j.streams → clash j p x y s ≡ false)
    × ((y : ℕ) → y < b → clash j p a y s ≡ false)

-- by a's row of the table: stream b is too close to a in a second, and the first that is, if there is one
abbrev pub row_clash : (cycle : ℕ) (row : List ℕ) → Greens → (a s b : ℕ) → Bool
row_clash cycle row p a s b = nat_lt 0 (slice_index row b) && (not (a == b) && close cycle (slice_index row b - 1) (p a) (p b) s)

abbrev pub close_to : (cycle : ℕ) (row : List ℕ) → Greens → (a s : ℕ) → Option ℕ
close_to cycle row p a s = found_to (length row) (row_clash cycle row p a s)
