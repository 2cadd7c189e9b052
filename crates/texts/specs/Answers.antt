-- The line that says a plan. Assumes nothing: these are definitions.
use Rattle.std.specs.Prelude.{ℕ, ◌+◌, cond, List, [], ◌∷◌, ◌++◌, Some, None, codes, decimal, Option, ◌==◌}
use Rattle.greens.specs.declared.lights.Green.{Green}

-- from which second to which, the end counted on past the cycle's end
abbrev pub span_words : Green → List ℕ
span_words g = decimal g.from ++ (codes " to " ++ decimal (g.from + g.long))

-- a green of no seconds is none: `never`
abbrev pub green_words : Green → List ℕ
green_words g = cond (g.long == 0) (codes "never") (span_words g)

-- a stream's name and its green: `north 0 to 4, `
abbrev pub stream_words : (name : List ℕ) → Green → List ℕ
stream_words name g = name ++ (codes " " ++ (green_words g ++ codes ", "))

-- a piece of text for each stream, by its name and its green, from the k-th stream on
unfoldable pub each_from : (piece : List ℕ → Green → List ℕ) → List (List ℕ) → (k : ℕ) → (ℕ → Green) → List ℕ
each_from piece [] k plan = []
each_from piece (name ∷ names) k plan = piece name (plan k) ++ each_from piece names (k + 1) plan

-- the streams and their greens, one after the other
abbrev pub streams_words : List (List ℕ) → (ℕ → Green) → List ℕ
streams_words names plan = each_from stream_words names 0 plan

-- what the plan has to spare, and the line's end: `spare 1`
abbrev pub spare_words : ℕ → List ℕ
spare_words spare = codes "spare " ++ (decimal spare ++ (10 ∷ []))

-- the name of a junction stands before its line: `bridge: `
abbrev pub title_words : Option (List ℕ) → List ℕ
title_words None = []
title_words (Some name) = name ++ codes ": "

-- the answer for a junction with a plan: `bridge: north 0 to 4, east 6 to 9, spare 1`
abbrev pub answer_line : (title : Option (List ℕ)) (names : List (List ℕ)) (plan : ℕ → Green) (spare : ℕ) → List ℕ
answer_line title names plan spare = title_words title ++ (streams_words names plan ++ spare_words spare)

-- the answer for a junction without one: `bridge: none`
abbrev pub none_line : (title : Option (List ℕ)) → List ℕ
none_line title = title_words title ++ (codes "none" ++ (10 ∷ []))
