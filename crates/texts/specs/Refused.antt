-- The line that says why a junction is refused. Assumes nothing: these are definitions.
use Rattle.std.specs.Prelude.{◌≡◌, ℕ, List, [], ◌∷◌, ◌++◌, codes, decimal, Option}
use Rattle.crossing.specs.declared.refusals.Refusal.{Refusal}
use Rattle.crossing.specs.Refusals.{number_of, place_of}
use Rattle.texts.specs.Answers.{title_words}

-- the number of the refusal and its place: `refused 2 at 3: `
abbrev pub refused_words : Refusal → List ℕ
refused_words e = codes "refused " ++ (decimal (number_of e) ++ (codes " at " ++ (decimal (place_of e) ++ codes ": ")))

-- a refusal's line: the junction's name, number and place, some sentence, and the line's end
pub record Says (before after : List ℕ) (title : Option (List ℕ)) (e : Refusal) : Type 0 where
  pub sentence : List ℕ
  pub is : after ≡ before ++ (title_words title ++ (refused_words e ++ (sentence ++ (10 ∷ []))))
