-- An answer line read back. Assumes nothing.
use Rattle.std.proofs.Common.{◌≡◌, ℕ, ◌+◌, ◌<◌, true, false, cond, eqb, List, [], ◌∷◌, ◌++◌, is_some, Some, None, codes, decimal, Option, sym, refl, ap, ◌∙◌, ⊎_elim, append_assoc, arith}
use Rattle.std.proofs.lemmas.Bool.{and_parts, cases_Bool}
use Rattle.greens.specs.declared.lights.Green.{Green}
use Rattle.greens.specs.Plans.{no_green}
use Rattle.texts.specs.Words.{words}
use Rattle.texts.specs.Answers.{span_words, green_words, stream_words, each_from, streams_words, title_words, answer_line}
use Rattle.texts.specs.Back.{but_last, greens_in, after_title, answer_in, is_word, are_words, title_is_word, shown_from, ReadBack}
use Rattle.texts.proofs.Spelled.{word_then, word_last, word_push, but_last_push, decimal_numeral, numeral_word, numeral_reads, not_never}

-- a green that bytes hold
abbrev Small : Green → Type 0
Small g = (g.from < 256) × (g.long < 256)

-- the words of a green and its comma
abbrev green_list : Green → List (List ℕ)
green_list g = cond (eqb g.long 0) (codes "never," ∷ []) (decimal g.from ∷ codes "to" ∷ (decimal (g.from + g.long) ++ (44 ∷ [])) ∷ [])

-- a span, its comma and what follows, cut at its blanks
span_cut : (g : Green) (rest : List ℕ) → (span_words g ++ codes ", ") ++ rest ≡ decimal g.from ++ (32 ∷ (codes "to" ++ (32 ∷ ((decimal (g.from + g.long) ++ (44 ∷ [])) ++ (32 ∷ rest)))))
span_cut g rest = simp append_assoc

-- the words of a span, and of never
span_spelled : (g : Green) (rest : List ℕ) → Small g → words ((span_words g ++ codes ", ") ++ rest) ≡ decimal g.from ∷ codes "to" ∷ (decimal (g.from + g.long) ++ (44 ∷ [])) ∷ words rest
span_spelled g rest small =
    let end : List ℕ = decimal (g.from + g.long) ++ (44 ∷ []) in
    ap words (span_cut g rest)
    ∙ word_then (decimal g.from) (codes "to" ++ (32 ∷ (end ++ (32 ∷ rest)))) (numeral_word (decimal g.from) (decimal_numeral g.from (omega arith)))
    ∙ ap (λ l. decimal g.from ∷ l) (word_then (codes "to") (end ++ (32 ∷ rest)) refl)
    ∙ ap (λ l. decimal g.from ∷ codes "to" ∷ l) (word_then end rest (word_push (decimal (g.from + g.long)) 44 (numeral_word (decimal (g.from + g.long)) (decimal_numeral (g.from + g.long) (omega arith))) refl))

never_spelled : (rest : List ℕ) → words ((codes "never" ++ codes ", ") ++ rest) ≡ codes "never," ∷ words rest
never_spelled rest = word_then (codes "never,") rest refl

green_spelled : (g : Green) (rest : List ℕ) → Small g → words ((green_words g ++ codes ", ") ++ rest) ≡ green_list g ++ words rest
green_spelled g rest small =
    ⊎_elim (λ (h : eqb g.long 0 ≡ true). rw h (never_spelled rest)) (λ (h : eqb g.long 0 ≡ false). rw h (span_spelled g rest small)) (cases_Bool (eqb g.long 0))

stream_spelled : (name : List ℕ) (g : Green) (rest : List ℕ) → is_word name ≡ true → Small g → words (stream_words name g ++ rest) ≡ name ∷ (green_list g ++ words rest)
stream_spelled name g rest is small =
    ap words (append_assoc name (codes " " ++ (green_words g ++ codes ", ")) rest)
    ∙ word_then name ((green_words g ++ codes ", ") ++ rest) is ∙ ap (λ l. name ∷ l) (green_spelled g rest small)

-- the words of the streams, and of what follows them
unfoldable list_from : List (List ℕ) → (k : ℕ) → (ℕ → Green) → List (List ℕ) → List (List ℕ)
list_from [] k plan tail = tail
list_from (name ∷ names) k plan tail = name ∷ (green_list (plan k) ++ list_from names (k + 1) plan tail)

streams_spelled : (names : List (List ℕ)) (k : ℕ) (plan : ℕ → Green) (rest : List ℕ) → are_words names ≡ true → ((i : ℕ) → Small (plan i)) → words (each_from stream_words names k plan ++ rest) ≡ list_from names k plan (words rest)
unfolding each_from list_from
streams_spelled [] k plan rest is small = refl
streams_spelled (name ∷ names) k plan rest is small =
    let both = and_parts (is_word name) (are_words names) is in
    ap words (append_assoc (stream_words name (plan k)) (each_from stream_words names (k + 1) plan) rest)
    ∙ stream_spelled name (plan k) (each_from stream_words names (k + 1) plan ++ rest) both.0 (small k)
    ∙ ap (λ l. name ∷ (green_list (plan k) ++ l)) (streams_spelled names (k + 1) plan rest both.1 small)

-- two words at least are at the end of every answer
abbrev Two : List (List ℕ) → Type 0
Two l = (x : List ℕ) × (y : List ℕ) × (r : List (List ℕ)) × (l ≡ x ∷ y ∷ r)

two_left : (names : List (List ℕ)) (k : ℕ) (plan : ℕ → Green) (a b : List ℕ) → Two (list_from names k plan (a ∷ b ∷ []))
unfolding list_from
two_left [] k plan a b = (a, b, [], refl)
two_left (name ∷ names) k plan a b =
    ⊎_elim (λ (h : eqb (plan k).long 0 ≡ true). (name, codes "never,", list_from names (k + 1) plan (a ∷ b ∷ []), rw h))
    (λ (h : eqb (plan k).long 0 ≡ false). (name, decimal (plan k).from, codes "to" ∷ (decimal ((plan k).from + (plan k).long) ++ (44 ∷ [])) ∷ list_from names (k + 1) plan (a ∷ b ∷ []), rw h))
    (cases_Bool (eqb (plan k).long 0))

-- the green of a stream read back
never_back : (name : List ℕ) (tail : List (List ℕ)) → Two tail → greens_in (name ∷ codes "never," ∷ tail) ≡ record { name = name; green = no_green } ∷ greens_in tail
unfolding greens_in
never_back name tail two = rw two.3

span_back : (name : List ℕ) (g : Green) (tail : List (List ℕ)) → Small g → greens_in (name ∷ decimal g.from ∷ codes "to" ∷ (decimal (g.from + g.long) ++ (44 ∷ [])) ∷ tail) ≡ record { name = name; green = g } ∷ greens_in tail
unfolding greens_in
span_back name g tail small =
    let from = decimal_numeral g.from (omega arith) in
    let end = decimal_numeral (g.from + g.long) (omega arith) in
    let one = numeral_reads (decimal g.from) from in
    let two = numeral_reads (decimal (g.from + g.long)) end in
    rw (not_never (decimal g.from) from.some from.first, but_last_push (decimal (g.from + g.long)) 44, one, two)
    (ap (λ long. record { name = name; green = record { from = g.from; long = long } } ∷ greens_in tail) (omega arith))

greens_back : (names : List (List ℕ)) (k : ℕ) (plan : ℕ → Green) (a b : List ℕ) → ((i : ℕ) → Small (plan i)) → greens_in (list_from names k plan (a ∷ b ∷ [])) ≡ shown_from names k plan
unfolding list_from greens_in shown_from
greens_back [] k plan a b small = refl
greens_back (name ∷ names) k plan a b small =
    let tail : List (List ℕ) = list_from names (k + 1) plan (a ∷ b ∷ []) in
    ⊎_elim
    (λ (h : eqb (plan k).long 0 ≡ true).
    rw h (never_back name tail (two_left names (k + 1) plan a b) ∙ ap (λ l. record { name = name; green = no_green } ∷ l) (greens_back names (k + 1) plan a b small)))
    (λ (h : eqb (plan k).long 0 ≡ false).
    rw h (span_back name (plan k) tail (small k) ∙ ap (λ l. record { name = name; green = plan k } ∷ l) (greens_back names (k + 1) plan a b small)))
    (cases_Bool (eqb (plan k).long 0))

-- the whole line
module _ (names : List (List ℕ)) (plan : ℕ → Green) (spare : ℕ) (named : are_words names ≡ true) (small : (k : ℕ) → Small (plan k)) (few : spare < 256) where
  line : List ℕ
  line = streams_words names plan ++ (codes "spare " ++ decimal spare)

  spare_spelled : words (codes "spare " ++ decimal spare) ≡ codes "spare" ∷ decimal spare ∷ []
  spare_spelled =
      word_then (codes "spare") (decimal spare) refl
      ∙ ap (λ l. codes "spare" ∷ l) (word_last (decimal spare) (numeral_word (decimal spare) (decimal_numeral spare (omega arith))))

  line_back : greens_in (words line) ≡ shown_from names 0 plan
  unfolding line
  line_back =
      ap greens_in (streams_spelled names 0 plan (codes "spare " ++ decimal spare) named small ∙ ap (list_from names 0 plan) spare_spelled)
      ∙ greens_back names 0 plan (codes "spare") (decimal spare) small

  line_ends : (title : Option (List ℕ)) → answer_line title names plan spare ≡ (title_words title ++ line) ++ (10 ∷ [])
  unfolding line
  line_ends title = simp append_assoc

  titled_back : (title : Option (List ℕ)) → title_is_word title ≡ true → greens_in (after_title (is_some title) (words (title_words title ++ line))) ≡ shown_from names 0 plan
  titled_back None is = line_back
  titled_back (Some name) is =
      ap (λ l. greens_in (after_title true l))
      (ap words (append_assoc name (codes ": ") line ∙ sym (append_assoc name (58 ∷ []) (32 ∷ line))) ∙ word_then (name ++ (58 ∷ [])) line (word_push name 58 is refl))
      ∙ line_back

  pub back : (title : Option (List ℕ)) → title_is_word title ≡ true → answer_in (is_some title) (answer_line title names plan spare) ≡ shown_from names 0 plan
  back title is =
      ap (λ l. greens_in (after_title (is_some title) (words l))) (ap but_last (line_ends title) ∙ but_last_push (title_words title ++ line) 10) ∙ titled_back title is

pub read_back : ReadBack
read_back title names plan spare is named small few = back names plan spare named small few title is
