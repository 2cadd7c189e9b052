-- What a line says, by its words alone. Assumes nothing: these are definitions.
use Rattle.std.specs.Prelude.{ℕ, ◌-◌, ◌^◌, cond, ◌&&◌, List, [], ◌∷◌, Some, None, Ok, Err, codes, Option, Result}
use Rattle.std.specs.Str.{bytes_eq}
use Rattle.texts.specs.declared.saying.Fault.{Fault}
use Rattle.texts.specs.declared.saying.Line.{Line}
use Rattle.texts.specs.declared.saying.Line.TheVariants.{Nothing, Junction, Cycle, Stream, Pair}
use Rattle.texts.specs.Words.{number_in, capped}

-- what a line can say
pub data Said : Type 0 where
  -- nothing: it is passed over
  nothing : Said
  -- a junction begins, and this is its name
  begins : List ℕ → Said
  -- the cycle has so many seconds
  lasts : ℕ → Said
  -- a stream has this name, its green at least so many seconds, and so many come in a cycle
  stream : (name : List ℕ) (least comes : ℕ) → Said
  -- after the first stream's green so many seconds have to be clear before the other's
  clears : (first : List ℕ) (seconds : ℕ) (next : List ℕ) → Said
  -- nothing that can be read
  unread : Said

-- a number as it is held: none is wanted that is larger than a machine's
abbrev pub held : ℕ → ℕ
held n = capped (2 ^ 64 - 1) n

-- a line that is read if a word of it is a number
abbrev pub with_number : Option ℕ → (ℕ → Said) → Said
with_number None line = unread
with_number (Some n) line = line (held n)

-- a stream, if its words are numbers
abbrev pub numbered_stream : (name : List ℕ) (least comes : Option ℕ) → Said
numbered_stream name least comes = with_number least (λ l. with_number comes (λ c. stream name l c))

-- two words: `junction NAME` or `cycle SECONDS`
abbrev pub two_say : (a b : List ℕ) → Said
two_say a b = cond (bytes_eq a (codes "junction")) (begins b) (cond (bytes_eq a (codes "cycle")) (with_number (number_in b) lasts) unread)

-- three words: `NAME SECONDS NAME`
abbrev pub three_say : (a b c : List ℕ) → Said
three_say a b c = with_number (number_in b) (λ seconds. clears a seconds c)

-- five words: `NAME least SECONDS comes COUNT`
abbrev pub five_say : (a b c d e : List ℕ) → Said
five_say a b c d e = cond (bytes_eq b (codes "least") && bytes_eq d (codes "comes")) (numbered_stream a (number_in c) (number_in e)) unread

-- what the words of a line say: no words say nothing, and one, four or more than five can't be read
unfoldable pub line_in : List (List ℕ) → Said
line_in [] = nothing
line_in (a ∷ []) = unread
line_in (a ∷ b ∷ []) = two_say a b
line_in (a ∷ b ∷ c ∷ []) = three_say a b c
line_in (a ∷ b ∷ c ∷ d ∷ []) = unread
line_in (a ∷ b ∷ c ∷ d ∷ e ∷ []) = five_say a b c d e
line_in (a ∷ b ∷ c ∷ d ∷ e ∷ f ∷ rest) = unread

-- what a line that was read says
abbrev pub said : Line → Said
said Nothing = nothing
said (Junction name) = begins name.now
said (Cycle seconds) = lasts seconds
said (Stream name least comes) = stream name.now least comes
said (Pair first seconds next) = clears first.now seconds next.now

-- the same, and of a line at fault
abbrev pub line_said : Result Line Fault → Said
line_said (Ok line) = said line
line_said (Err fault) = unread
