-- The numbers of a junction that a text says, and what reading them answers. Assumes nothing: these are definitions.
use Rattle.std.specs.Prelude.{◌≡◌, ℕ, ◌*◌, ◌/◌, ◌%◌, cond, List, [], map, length, Some, None, Err, Option, Result, nat_lt}
use Rattle.std.specs.Option.{unwrap_or}
use Rattle.std.specs.List.{range_with_len}
use Rattle.crossing.specs.declared.junctions.Junction.{Junction}
use Rattle.crossing.specs.declared.refusals.Refusal.{Refusal}
use Rattle.crossing.specs.declared.refusals.Refusal.TheVariants.{Text}
use Rattle.crossing.specs.Taken.{Read}
use Rattle.texts.specs.declared.drafts.Clearing.{Clearing}
use Rattle.texts.specs.Drafts.{Sofar, number_said}
use Rattle.texts.specs.Sections.{Told}

-- a table's number for two streams: 0 where nothing was said of them
abbrev pub table_number : List Clearing → (a b : ℕ) → ℕ
table_number clearings a b = unwrap_or (number_said clearings a b) 0

-- the table for n streams, row by row: what was said of the row's stream and the column's; for more than 12 streams none is needed, since they are refused by their count
abbrev pub table_said : (n : ℕ) → List Clearing → List ℕ
table_said n clearings = cond (nat_lt 12 n) [] (map (λ k. table_number clearings (k / n) (k % n)) (range_with_len 0 (n * n)))

-- what a junction is answered that can be read: its numbers are read
abbrev pub Numbered : Sofar → Result Junction Refusal → Type 0
Numbered s r = Read (unwrap_or s.cycle 0) (length s.names) s.figures (table_said (length s.names) s.clearings) r

-- what a junction of a text is answered: refused as a text at the line at which it can't be read, or by its numbers
abbrev pub AnsweredBy : Option ℕ → Sofar → Result Junction Refusal → Type 0
AnsweredBy None s r = Numbered s r
AnsweredBy (Some line) s r = r ≡ Err (Text line)

abbrev pub Answered : Told → Result Junction Refusal → Type 0
Answered t r = AnsweredBy t.stop t.said r
