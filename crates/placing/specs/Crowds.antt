-- Greens that share the cycle, with room before and after each that is its own. Assumes nothing: these are definitions.
use Rattle.std.specs.Prelude.{◌≡◌, ℕ, ◌+◌, ◌-◌, ◌<◌, ◌≤◌, Bool, true, false, ◌⊎◌, ◌≢◌, List, [], slice_index, slice_index_or}
use Rattle.placing.specs.declared.room.Bounds.{Bounds}
use Rattle.placing.specs.declared.shares.Group.{Group}
use Rattle.placing.specs.declared.shares.Margins.{Margins}
use Rattle.placing.specs.declared.shares.Spans.{Spans}
use Rattle.placing.specs.declared.spacing.Gaps.{Gaps}
use Rattle.placing.specs.Gaps.{gap_at, InOrder}
use Rattle.placing.specs.Bounds.{Obeys, Nobody}

-- by so much at least a begins before b, or before b's next turn if b comes first; by nothing for two that aren't tied
pub record Span (q : Gaps) (s : Bounds) (a b span : ℕ) : Type 0 where
  pub free : gap_at q a b ≡ 0 → span ≡ 0
  pub holds : (start : ℕ → ℕ) → InOrder q start → Obeys q s start → (start a + span ≤ start b) ⊎ ((start b + gap_at q b a ≤ start a) × (start a + span ≤ start b + q.cycle.seconds))

-- the span in row a, column b
abbrev pub span_at : Spans → ℕ → ℕ → ℕ
span_at d a b = slice_index (slice_index_or d.span a []) b

-- the spans of any two greens, as far as the bounds tell
abbrev pub Spread : Gaps → Bounds → Spans → Type 0
Spread q s d = (a : ℕ) → a < q.count → (b : ℕ) → b < q.count → Span q s a b (span_at d a b)

-- a green is in the group
abbrev pub member_of : Group → ℕ → Bool
member_of m k = slice_index_or m.member k false

-- the room that is a green's own, on one side of it
abbrev pub margin_of : Margins → ℕ → ℕ
margin_of m k = slice_index m.of k

-- room after a that is its own: no more than to any other of the group, nor than the cycle
pub record After (q : Gaps) (d : Spans) (m : Group) (a room : ℕ) : Type 0 where
  pub whole : room ≤ q.cycle.seconds
  pub least : (b : ℕ) → b < q.count → member_of m b ≡ true → (b ≢ a) → room ≤ span_at d a b

-- room after each of the group, none after others
pub record Afters (q : Gaps) (d : Spans) (m : Group) (out : Margins) : Type 0 where
  pub none : (a : ℕ) → a < q.count → member_of m a ≡ false → margin_of out a ≡ 0
  pub some : (a : ℕ) → a < q.count → member_of m a ≡ true → After q d m a (margin_of out a)

-- room before b that is its own: no more than what each other of the group leaves, nor than is left of the cycle
pub record Ahead (q : Gaps) (d : Spans) (m : Group) (out : Margins) (b room : ℕ) : Type 0 where
  pub whole : room ≤ q.cycle.seconds - margin_of out b
  pub least : (a : ℕ) → a < q.count → member_of m a ≡ true → (a ≢ b) → room ≤ span_at d a b - margin_of out a

-- room before each of the group, none before others
pub record Aheads (q : Gaps) (d : Spans) (m : Group) (out into : Margins) : Type 0 where
  pub none : (b : ℕ) → b < q.count → member_of m b ≡ false → margin_of into b ≡ 0
  pub some : (b : ℕ) → b < q.count → member_of m b ≡ true → Ahead q d m out b (margin_of into b)

-- a crowd of more than the cycle: nobody obeys
abbrev pub Crowding : Gaps → Bounds → (total : ℕ) → Type 0
Crowding q s total = q.cycle.seconds < total → Nobody q s

-- a row of them: those from a to each
pub record SpansFrom (q : Gaps) (s : Bounds) (a : ℕ) (row : List ℕ) : Type 0 where
  pub each : a < q.count → (b : ℕ) → b < q.count → Span q s a b (slice_index row b)
