-- A text as lines, a line as words, and a word as a number. Assumes nothing: these are definitions.
use Rattle.std.specs.Prelude.{ℕ, ◌+◌, ◌-◌, ◌*◌, min, Bool, cond, not, ◌&&◌, ◌||◌, List, [], ◌∷◌, ◌++◌, Some, None, Option, ◌==◌, nat_le}
use Rattle.std.specs.List.{onto_first, position_or_len}

-- the lines of a text: a line ends at a byte 10 or at the text's end
unfoldable pub lines : List ℕ → List (List ℕ)
lines [] = []
lines (b ∷ bs) = cond (b == 10) ([] ∷ lines bs) (onto_first b (lines bs))

-- blanks, tabs and carriage returns stand between words
abbrev pub blank : ℕ → Bool
blank b = b == 32 || (b == 9 || b == 13)

-- a word, if there is any of it
abbrev pub ended : List ℕ → List (List ℕ)
ended [] = []
ended (b ∷ bs) = (b ∷ bs) ∷ []

-- the words of a line, after the beginning of a word: what follows a # is passed over
unfoldable pub words_from : (word : List ℕ) → List ℕ → List (List ℕ)
words_from word [] = ended word
words_from word (b ∷ bs) = cond (b == 35) (ended word) (cond (blank b) (ended word ++ words_from [] bs) (words_from (word ++ (b ∷ [])) bs))

-- the words of a line
abbrev pub words : List ℕ → List (List ℕ)
words line = words_from [] line

-- how many blanks a line begins with
abbrev pub gap : List ℕ → ℕ
gap bs = position_or_len (λ b. not (blank b)) bs

-- how many bytes of a word a line begins with
abbrev pub word_end : List ℕ → ℕ
word_end bs = position_or_len (λ b. blank b || b == 35) bs

abbrev pub digit : ℕ → Bool
digit b = nat_le 48 b && nat_le b 57

-- the number that digits write after those that wrote n, and none where a byte is no digit
unfoldable pub digits_in : (n : ℕ) → List ℕ → Option ℕ
digits_in n [] = Some n
digits_in n (b ∷ bs) = cond (digit b) (digits_in (n * 10 + (b - 48)) bs) None

-- the number that a word writes: one or more digits, as many as you like
abbrev pub number_in : List ℕ → Option ℕ
number_in [] = None
number_in (b ∷ bs) = digits_in 0 (b ∷ bs)

-- a number as the machine holds it: one above the most that it can hold is held as that
abbrev pub capped : (most : ℕ) → ℕ → ℕ
capped most n = min most n
