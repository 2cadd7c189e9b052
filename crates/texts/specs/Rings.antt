-- A plan as rows of signs, a sign a second. Assumes nothing: these are definitions.
use Rattle.std.specs.Prelude.{ℕ, zero, suc, ◌+◌, ◌-◌, ◌*◌, ◌/◌, max, Bool, not, cond, ◌&&◌, map, fold, count_by, List, [], ◌∷◌, ◌++◌, length, replicate, codes, decimal, nat_le, nat_lt}
use Rattle.std.specs.List.{range_with_len}
use Rattle.greens.specs.declared.lights.Green.{Green}
use Rattle.greens.specs.Greens.{on}
use Rattle.texts.specs.Answers.{each_from}

-- a byte that goes on with a sign begun by the byte before it
abbrev pub goes_on : ℕ → Bool
goes_on b = nat_le 128 b && nat_lt b 192

-- how many signs wide a name is: a byte that goes on with a sign adds none
unfoldable pub wide : List ℕ → ℕ
wide name = count_by (λ b. not (goes_on b)) name

-- the width of the widest name
unfoldable pub widest : List (List ℕ) → ℕ
widest names = fold (λ most name. max most (wide name)) 0 names

abbrev pub blanks : ℕ → List ℕ
blanks n = replicate n 32

-- the first n seconds of a green: `#` where it is on, `.` where not
unfoldable pub signs_to : (cycle : ℕ) → Green → (n : ℕ) → List ℕ
signs_to cycle g n = map (λ second. cond (on cycle g second) 35 46) (range_with_len 0 n)

-- a stream's row: its name, blanks up to the widest and one more, and a sign for each second of the cycle
abbrev pub ring_row : (width cycle : ℕ) (name : List ℕ) → Green → List ℕ
ring_row width cycle name g = name ++ (blanks (width - wide name) ++ (codes " " ++ (signs_to cycle g cycle ++ (10 ∷ []))))

-- the ten after 10 * n, beginning ten signs after it
abbrev pub mark : ℕ → List ℕ
mark n = blanks (10 - length (decimal (10 * n))) ++ decimal (10 * n + 10)

-- the tens from 10 to 10 * n, each beginning over its second
unfoldable pub marks_to : (n : ℕ) → List ℕ
marks_to zero = []
marks_to (suc n) = marks_to n ++ mark n

-- the scale above the rows: the tens below the cycle
abbrev pub scale_row : (width cycle : ℕ) → List ℕ
scale_row width cycle = blanks width ++ (codes " 0" ++ (marks_to ((cycle - 1) / 10) ++ (10 ∷ [])))

-- the scale, and a row for each stream
abbrev pub rings : (cycle : ℕ) (names : List (List ℕ)) (plan : ℕ → Green) → List ℕ
rings cycle names plan = scale_row (widest names) cycle ++ each_from (ring_row (widest names) cycle) names 0 plan
