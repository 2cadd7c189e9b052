-- A junction laid out for the search of starts. Assumes nothing: these are definitions, and the proof that a ghost field needs.
use Rattle.std.specs.Prelude.{◌≡◌, ℕ, ◌+◌, ◌<◌, ◌≤◌, List, ◌≢◌, slice_index}
use Rattle.std.specs.Coded.{Coded-set, coded_ℕ, coded_bool, Π_prop, →_prop, ×_prop, le_prop}
use Rattle.crossing.specs.Site.{Site}
use Rattle.crossing.specs.Tables.{entry}
use Rattle.groups.specs.Groups.{asked}
use Rattle.placing.specs.declared.settings.Setting.{Setting}
use Rattle.placing.specs.Settings.{entry_of}
use Rattle.placing.specs.Starts.{Task}

-- a task is a junction's: as many greens, the same cycle, the same that crosses; each may begin in any second, but one stream, the anchor, perhaps only in second 0
pub record Laid (j : Site) (anchor : ℕ) (t : Task) : Type 0 where
  pub counted : t.count ≡ j.streams
  pub round : t.cycle ≡ j.cycle
  pub crossing : (a : ℕ) → a < j.streams → (b : ℕ) → b < j.streams → (t.crosses a b ≡ j.crosses a b) × (t.clear a b ≡ j.clear a b)
  pub low : (k : ℕ) → k < j.streams → t.lowest k ≡ 0
  pub high : (k : ℕ) → k < j.streams → (k ≢ anchor) → j.cycle ≤ t.highest k + 1

-- that can hold in one way only, so a ghost field may state it
pub Laid-prop : (j : Site) (anchor : ℕ) (t : Task) → IsProp (Laid j anchor t)
Laid-prop j anchor t one other =
    λ i. record {
      counted = Coded-set coded_ℕ t.count j.streams one.counted other.counted i;
      round = Coded-set coded_ℕ t.cycle j.cycle one.round other.round i;
      crossing = Π_prop (λ a. →_prop (Π_prop (λ b. →_prop (×_prop (Coded-set coded_bool (t.crosses a b) (j.crosses a b)) (Coded-set coded_ℕ (t.clear a b) (j.clear a b)))))) one.crossing other.crossing i;
      low = Π_prop (λ k. →_prop (Coded-set coded_ℕ (t.lowest k) 0)) one.low other.low i;
      high = Π_prop (λ k. →_prop (→_prop le_prop)) one.high other.high i;
    }

-- its greens are just as long as they have to be for w to spare, and that is no longer than the cycle
pub record Asked (j : Site) (w : ℕ) (t : Task) : Type 0 where
  pub long : (k : ℕ) → k < j.streams → t.long k ≡ asked j w k
  pub within : (k : ℕ) → k < j.streams → asked j w k ≤ j.cycle

-- a setting differs from another at most in its table
pub record SameButTable (s t : Setting) : Type 0 where
  pub cycle : t.cycle ≡ s.cycle
  pub count : t.count ≡ s.count
  pub lowest : t.lowest ≡ s.lowest
  pub highest : t.highest ≡ s.highest

-- of row a the first i numbers are written, and no other row is changed
pub record RowWritten (s t : Setting) (row : List ℕ) (a i : ℕ) : Type 0 where
  pub same : SameButTable s t
  pub here : (b : ℕ) → b < i → entry_of t a b ≡ slice_index row b
  pub other : (x : ℕ) → (x ≢ a) → (b : ℕ) → b < 12 → entry_of t x b ≡ entry_of s x b

-- the first i rows of a junction's table are written
pub record RowsWritten (s t : Setting) (n : ℕ) (table : List ℕ) (i : ℕ) : Type 0 where
  pub same : SameButTable s t
  pub rows : (a : ℕ) → a < i → (b : ℕ) → b < n → entry_of t a b ≡ entry n table a b

-- of the first i greens each but the anchor may begin up to a last second, and each from 0 on, if it was so before
pub record Opened (s t : Setting) (anchor last i : ℕ) : Type 0 where
  pub cycle : t.cycle ≡ s.cycle
  pub count : t.count ≡ s.count
  pub table : t.table ≡ s.table
  pub low : ((k : ℕ) → slice_index s.lowest k ≡ 0) → (k : ℕ) → slice_index t.lowest k ≡ 0
  pub high : (k : ℕ) → k < i → (k ≢ anchor) → slice_index t.highest k ≡ last

-- the first i greens of a setting are as long as they have to be for w to spare, and that is no longer than the cycle; nothing else is changed
pub record Lengthened (j : Site) (w : ℕ) (s t : Setting) (i : ℕ) : Type 0 where
  pub cycle : t.cycle ≡ s.cycle
  pub count : t.count ≡ s.count
  pub table : t.table ≡ s.table
  pub lowest : t.lowest ≡ s.lowest
  pub highest : t.highest ≡ s.highest
  pub long : (k : ℕ) → k < i → slice_index t.long k ≡ asked j w k
  pub within : (k : ℕ) → k < i → asked j w k ≤ j.cycle

-- some green would have to be longer than the cycle
abbrev pub Overlong : Site → (w : ℕ) → Type 0
Overlong j w = (k : ℕ) × (k < j.streams) × (j.cycle < asked j w k)
