-- What the lines of a junction say, one after the other. Assumes nothing: these are definitions.
use Rattle.std.specs.Prelude.{◌≡◌, ℕ, ◌+◌, cond, ◌&&◌, List, [], ◌∷◌, ◌++◌, map, is_some, Some, None, Ok, Err, vec_items, Option, Result, ◌==◌}
use Rattle.std.specs.Option.{option_map}
use Rattle.std.specs.List.{position, find, flat_map}
use Rattle.std.specs.Str.{bytes_eq}
use Rattle.texts.specs.declared.drafts.Clearing.{Clearing}
use Rattle.texts.specs.declared.drafts.Draft.{Draft}
use Rattle.texts.specs.declared.taking.Untaken.{Untaken}
use Rattle.texts.specs.declared.taking.Untaken.TheVariants.{Fault, Memory}
use Rattle.texts.specs.Words.{capped}
use Rattle.texts.specs.Lines.{Said, nothing, begins, lasts, stream, clears, unread}

-- what was said so far: the cycle, the streams' names, two numbers for each of them, and what has to be clear between which two
pub record Sofar : Type 0 where
  pub cycle : Option ℕ
  pub names : List (List ℕ)
  pub figures : List ℕ
  pub clearings : List Clearing

-- nothing was said yet
abbrev pub fresh : Sofar
fresh = record { cycle = None; names = []; figures = []; clearings = [] }

-- the place of a name among the streams', if it is there
abbrev pub place : List ℕ → List (List ℕ) → Option ℕ
place name names = position (λ n. bytes_eq n name) names

-- the table's number for two streams, in this order, if something was said of them
abbrev pub number_said : List Clearing → (a b : ℕ) → Option ℕ
number_said cs a b = option_map (λ c. c.number) (find (λ c. c.first == a && c.next == b) cs)

-- the cycle is said once
abbrev pub with_cycle : Sofar → ℕ → Option ℕ → Option Sofar
with_cycle s seconds None = Some (record { cycle = Some seconds; names = s.names; figures = s.figures; clearings = s.clearings })
with_cycle s seconds (Some said) = None

-- a stream's name is said once
abbrev pub with_stream : Sofar → (name : List ℕ) (least comes : ℕ) → Option Sofar
with_stream s name least comes =
    cond (is_some (place name s.names)) None
    (Some (record { cycle = s.cycle; names = s.names ++ (name ∷ []); figures = s.figures ++ (capped 255 least ∷ capped 255 comes ∷ []); clearings = s.clearings }))

-- two streams that were said, in this order, have one clearing: the table's number is one more than the seconds
abbrev pub with_pair : Sofar → (a b : Option ℕ) (seconds : ℕ) → Option Sofar
with_pair s None b seconds = None
with_pair s (Some a) None seconds = None
with_pair s (Some a) (Some b) seconds =
    cond (is_some (number_said s.clearings a b)) None
    (Some (record { cycle = s.cycle; names = s.names; figures = s.figures; clearings = s.clearings ++ (record { first = a; next = b; number = capped 254 seconds + 1 } ∷ []) }))

-- what is said with a line more, and nothing where the line can't be read there
abbrev pub with_line : Sofar → Said → Option Sofar
with_line s nothing = Some s
with_line s (begins name) = None
with_line s (lasts seconds) = with_cycle s seconds s.cycle
with_line s (stream name least comes) = with_stream s name least comes
with_line s (clears first seconds next) = with_pair s (place first s.names) (place next s.names) seconds
with_line s unread = None

-- what a draft holds
abbrev pub sofar_of : Draft → Sofar
sofar_of d = record { cycle = d.cycle; names = map (λ x. x.now) (vec_items d.names); figures = flat_map (λ x. x) (vec_items d.figures); clearings = vec_items d.clearings }

-- what is left of a line that was taken: it was said; or there was a fault, and nothing was; of a line that there was no memory for nothing is said
abbrev pub Took : Option Sofar → Result (Unit {0}) Untaken → (before after : Sofar) → Type 0
Took one (Ok _) before after = one ≡ Some after
Took one (Err (Fault fault)) before after = (one ≡ None) × (after ≡ before)
Took one (Err (Memory error)) before after = Unit {0}
