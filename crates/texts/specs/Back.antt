-- An answer line read back. The theorem is a statement; a function's contract asks for its proof.
use Rattle.std.specs.Prelude.{◌≡◌, ℕ, ◌+◌, ◌-◌, ◌<◌, Bool, true, false, cond, not, ◌&&◌, ◌||◌, List, [], ◌∷◌, length, take, is_some, Some, None, codes, Option, ◌==◌, nat_lt}
use Rattle.std.specs.List.{list_all}
use Rattle.std.specs.Option.{unwrap_or}
use Rattle.std.specs.Str.{bytes_eq}
use Rattle.greens.specs.declared.lights.Green.{Green}
use Rattle.greens.specs.Plans.{no_green}
use Rattle.texts.specs.Words.{blank, words, number_in}
use Rattle.texts.specs.Answers.{answer_line}
use Rattle.texts.specs.Sections.{Told, told_in}

-- a stream's name and its green
pub record Shown : Type 0 where
  pub name : List ℕ
  pub green : Green

-- bytes without the last: a line without its end, a word without its comma
abbrev pub but_last : List ℕ → List ℕ
but_last bs = take (length bs - 1) bs

-- the green from one number to another
abbrev pub green_in : (from to : List ℕ) → Green
green_in from to = record { from = unwrap_or (number_in from) 0; long = unwrap_or (number_in to) 0 - unwrap_or (number_in from) 0 }

-- the words of an answer, two or four for each stream: `NAME never,` or `NAME FROM to END,`, and `spare COUNT` at the end
unfoldable pub greens_in : List (List ℕ) → List Shown
greens_in [] = []
greens_in (a ∷ []) = []
greens_in (a ∷ b ∷ []) = []
greens_in (a ∷ b ∷ c ∷ []) = []
greens_in (a ∷ b ∷ c ∷ d ∷ rest) =
    cond (bytes_eq b (codes "never,")) (record { name = a; green = no_green } ∷ greens_in (c ∷ d ∷ rest))
    (record { name = a; green = green_in b (but_last d) } ∷ greens_in rest)

-- the name of a junction is the first word
abbrev pub after_title : (titled : Bool) → List (List ℕ) → List (List ℕ)
after_title false all = all
after_title true [] = []
after_title true (title ∷ all) = all

-- what an answer line says
abbrev pub answer_in : (titled : Bool) → List ℕ → List Shown
answer_in titled line = greens_in (after_title titled (words (but_last line)))

-- a byte that words are made of, and a word
abbrev pub letter : ℕ → Bool
letter b = not (blank b || b == 35)

abbrev pub letters : List ℕ → Bool
letters w = list_all letter w

abbrev pub is_word : List ℕ → Bool
is_word w = nat_lt 0 (length w) && letters w

-- names that are words
abbrev pub are_words : List (List ℕ) → Bool
are_words names = list_all is_word names

abbrev pub title_is_word : Option (List ℕ) → Bool
title_is_word None = true
title_is_word (Some name) = is_word name

-- what is shown of a plan: a green of no seconds is none
abbrev pub shown : Green → Green
shown g = cond (g.long == 0) no_green g

unfoldable pub shown_from : List (List ℕ) → (k : ℕ) → (ℕ → Green) → List Shown
shown_from [] k plan = []
shown_from (name ∷ names) k plan = record { name = name; green = shown (plan k) } ∷ shown_from names (k + 1) plan

-- an answer line, read back, is the plan
abbrev pub ReadBack : Type 0
ReadBack =
    (title : Option (List ℕ)) (names : List (List ℕ)) (plan : ℕ → Green) (spare : ℕ) → title_is_word title ≡ true → are_words names ≡ true →
    ((k : ℕ) → ((plan k).from < 256) × ((plan k).long < 256)) → spare < 256 →
    answer_in (is_some title) (answer_line title names plan spare) ≡ shown_from names 0 plan

-- the names of a junction, and of all junctions, are words
abbrev pub told_words : Told → Bool
told_words t = title_is_word t.name && are_words t.said.names

abbrev pub all_words : List Told → Bool
all_words ts = list_all told_words ts

-- so it is in every text: the answers for its junctions can be read back
abbrev pub NamesAreWords : Type 0
NamesAreWords = (text : List ℕ) → all_words (told_in text) ≡ true
