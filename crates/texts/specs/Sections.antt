-- What a whole text says: its junctions, one after the other. Assumes nothing: these are definitions.
use Rattle.std.specs.Prelude.{ℕ, ◌+◌, Bool, true, false, cond, ◌||◌, List, [], ◌∷◌, is_some, Some, None, Option}
use Rattle.std.specs.Option.{option_map}
use Rattle.texts.specs.declared.sections.Section.{Section}
use Rattle.texts.specs.declared.readers.Rest.{Rest}
use Rattle.texts.specs.declared.readers.Reader.{Reader}
use Rattle.texts.specs.Words.{lines, words}
use Rattle.texts.specs.Lines.{Said, nothing, begins, lasts, stream, clears, unread, line_in}
use Rattle.texts.specs.Drafts.{Sofar, fresh, with_line, sofar_of}

-- a junction of a text: its name, what its lines said, and the line at which it can't be read
pub record Told : Type 0 where
  pub name : Option (List ℕ)
  pub said : Sofar
  pub stop : Option ℕ

-- a junction that begins
abbrev pub opened : Option (List ℕ) → Told
opened name = record { name = name; said = fresh; stop = None }

-- a line more was said, or it is the first that can't be read
abbrev pub more_said : ℕ → Told → Option Sofar → Told
more_said line t None = record { name = t.name; said = t.said; stop = Some line }
more_said line t (Some s) = record { name = t.name; said = s; stop = t.stop }

-- what follows the first line that can't be read is passed over
abbrev pub unless_stopped : Told → Option ℕ → Told → Told
unless_stopped t None next = next
unless_stopped t (Some line) next = t

-- a junction with a line more
abbrev pub on_line : ℕ → Said → Told → Told
on_line line s t = unless_stopped t t.stop (more_said line t (with_line t.said s))

-- a junction with no cycle can't be read, at the line that ends it
abbrev pub need_cycle : ℕ → Told → Option ℕ → Told
need_cycle line t None = record { name = t.name; said = t.said; stop = Some line }
need_cycle line t (Some seconds) = t

abbrev pub closed : ℕ → Told → Told
closed line t = unless_stopped t t.stop (need_cycle line t t.said.cycle)

-- the name of the junction that a line begins, if it begins one
abbrev pub begin_name : Said → Option (List ℕ)
begin_name nothing = None
begin_name (begins name) = Some name
begin_name (lasts seconds) = None
begin_name (stream name least comes) = None
begin_name (clears first seconds next) = None
begin_name unread = None

abbrev pub by_begin : {X : Type 0} → Option (List ℕ) → (List ℕ → X) → X → X
by_begin None new other = other
by_begin (Some name) new other = new name

-- a line says something
abbrev pub says : Said → Bool
says nothing = false
says (begins name) = true
says (lasts seconds) = true
says (stream name least comes) = true
says (clears first seconds next) = true
says unread = true

-- the junctions that the lines from a certain one on give, after a junction that was begun: it counts if it has a name or some line said something
unfoldable pub told_from : (line : ℕ) (some : Bool) → Told → List (List ℕ) → List Told
told_from line some t [] = closed line t ∷ []
told_from line some t (l ∷ ls) =
    by_begin (begin_name (line_in (words l))) (λ name. cond some (closed line t ∷ told_from (line + 1) true (opened (Some name)) ls) (told_from (line + 1) true (opened (Some name)) ls))
    (told_from (line + 1) (some || says (line_in (words l))) (on_line line (line_in (words l)) t) ls)

-- the junctions of a text
abbrev pub told_in : List ℕ → List Told
told_in text = told_from 0 false (opened None) (lines text)

-- what a section holds
abbrev pub told_of : Section → Told
told_of s = record { name = option_map (λ x. x.now) s.name; said = sofar_of s.draft; stop = option_map (λ stop. stop.line) s.stop }

-- the junctions that are read from a line of a text on
abbrev pub told_after : Rest → List Told
told_after r = told_from r.line (is_some r.name) (opened (option_map (λ x. x.now) r.name)) (lines r.text.now)

-- the junctions that a reader has yet to give
abbrev pub left_at : Option Rest → List Told
left_at None = []
left_at (Some r) = told_after r

abbrev pub left_of : Reader → List Told
left_of r = left_at r.rest
