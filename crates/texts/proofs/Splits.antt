-- The first line of a text and the first word of a line. Assumes nothing.
use Rattle.std.proofs.Common.{◌≡◌, ℕ, zero, suc, ◌+◌, ◌-◌, ◌<◌, ◌≤◌, Bool, true, false, not, eqb, ltb, ◌||◌, List, [], ◌∷◌, ◌++◌, length, take, drop, Option, Some, None, sym, refl, ap, ◌∙◌, ⊎_elim, append_assoc, append-nil, arith}
use Rattle.std.specs.List.{onto_first, position, position_or_len, before_first, after_first}
use Rattle.std.specs.Option.{unwrap_or}
use Rattle.std.proofs.lemmas.List.Sums.{prefix_len-le-length}
use Rattle.std.proofs.lemmas.List.{take_rest, take_all, drop_all}
use Rattle.std.proofs.lemmas.Option.{cond_some}
use Rattle.std.proofs.lemmas.Bool.{cases_Bool, or_left, or_right}
use Rattle.std.proofs.lemmas.Bool.Decides.{nat_tests}
use Rattle.texts.specs.Words.{lines, blank, gap, word_end, ended, words_from, words}

-- a cut at the first byte that passes a test, or after all where none does
module _ (p : ℕ → Bool) (bs : List ℕ) where
  at_first : (i : ℕ) (r : Option ℕ) → r ≡ position p bs → r ≡ Some i → i ≡ position_or_len p bs
  at_first i r is some = sym (cond_some (ltb (position_or_len p bs) (length bs)) (position_or_len p bs) i (sym is ∙ some)).1

  pub cut_some : (i : ℕ) (r : Option ℕ) → r ≡ position p bs → r ≡ Some i → (take i bs ≡ before_first p bs) × (take (length bs - (i + 1)) (drop (i + 1) bs) ≡ after_first p bs)
  cut_some i r is some =
      let here = at_first i r is some in (ap (λ n. take n bs) here, take_rest bs (i + 1) ∙ ap (λ n. drop (n + 1) bs) here)

  pub cut_none : (r : Option ℕ) → r ≡ position p bs → r ≡ None → (bs ≡ before_first p bs) × ([] ≡ after_first p bs)
  cut_none r is none =
      let past : length bs ≤ position_or_len p bs = grind (arith, nat_tests) in
      (sym (take_all (position_or_len p bs) bs past), sym (drop_all (position_or_len p bs + 1) bs (omega arith)))

  -- how many stand before it
  pub first_or_all : (n : ℕ) (r : Option ℕ) → r ≡ position p bs → n ≡ unwrap_or r (length bs) → n ≡ position_or_len p bs
  first_or_all n r is all =
      all ∙ ap (λ o. unwrap_or o (length bs)) is
      ∙ ⊎_elim (λ (h : ltb (position_or_len p bs) (length bs) ≡ true). rw h)
      (λ (h : ltb (position_or_len p bs) (length bs) ≡ false). rw h (grind (arith, nat_tests, prefix_len-le-length (λ b. not (p b)) bs)))
      (cases_Bool (ltb (position_or_len p bs) (length bs)))

  place_on : (b : ℕ) → p b ≡ false → position_or_len p (b ∷ bs) ≡ suc (position_or_len p bs)
  place_on b h = rw h (omega arith)

  before_on : (b : ℕ) → p b ≡ false → before_first p (b ∷ bs) ≡ b ∷ before_first p bs
  before_on b h = ap (λ n. take n (b ∷ bs)) (place_on b h)

  after_on : (b : ℕ) → p b ≡ false → after_first p (b ∷ bs) ≡ after_first p bs
  after_on b h = let long : position_or_len p (b ∷ bs) + 1 ≡ suc (position_or_len p bs + 1) = omega (arith, place_on b h) in ap (λ n. drop n (b ∷ bs)) long

-- a text that isn't empty is its first line and those after it
line_on : (b : ℕ) (bs : List ℕ) → eqb b 10 ≡ false → lines (b ∷ bs) ≡ onto_first b (lines bs)
unfolding lines
line_on b bs h = rw h

lines_cut : (bs : List ℕ) → 0 < length bs → lines bs ≡ before_first (λ b. eqb b 10) bs ∷ lines (after_first (λ b. eqb b 10) bs)
unfolding lines
lines_cut [] some = absurd (omega arith)
lines_cut (b ∷ []) some = ⊎_elim (λ (h : eqb b 10 ≡ true). rw h) (λ (h : eqb b 10 ≡ false). rw h) (cases_Bool (eqb b 10))
lines_cut (b ∷ c ∷ cs) some =
    ⊎_elim (λ (h : eqb b 10 ≡ true). rw h)
    (λ (h : eqb b 10 ≡ false).
    line_on b (c ∷ cs) h ∙ ap (onto_first b) (lines_cut (c ∷ cs) (omega arith))
    ∙ ap (λ l. l ∷ lines (after_first (λ b. eqb b 10) (c ∷ cs))) (sym (before_on (λ b. eqb b 10) (c ∷ cs) b h))
    ∙ ap (λ l. before_first (λ b. eqb b 10) (b ∷ c ∷ cs) ∷ lines l) (sym (after_on (λ b. eqb b 10) (c ∷ cs) b h)))
    (cases_Bool (eqb b 10))

pub line_cut : (bs line rest : List ℕ) → 0 < length bs → line ≡ before_first (λ b. eqb b 10) bs → rest ≡ after_first (λ b. eqb b 10) bs → lines bs ≡ line ∷ lines rest
line_cut bs line rest some one two = rw (one, two) (lines_cut bs some)

-- a byte that is blank is no #
blank_other : (b : ℕ) → blank b ≡ true → eqb b 35 ≡ false
blank_other b h = grind (arith, nat_tests)

nothing_more : (word : List ℕ) → ended word ≡ ended (word ++ []) ++ []
nothing_more word = ap ended (sym (append-nil word)) ∙ sym (append-nil (ended (word ++ [])))

module _ (b : ℕ) (bs word : List ℕ) where
  pub at_end : words_from word [] ≡ ended word
  unfolding words_from
  at_end = refl

  pub at_blank : blank b ≡ true → words_from word (b ∷ bs) ≡ ended word ++ words bs
  unfolding words_from
  at_blank h = rw (blank_other b h, h)

  pub at_hash : eqb b 35 ≡ true → words_from word (b ∷ bs) ≡ ended word
  unfolding words_from
  at_hash h = rw h

  pub at_letter : blank b ≡ false → eqb b 35 ≡ false → words_from word (b ∷ bs) ≡ words_from (word ++ (b ∷ [])) bs
  unfolding words_from
  at_letter h k = rw (k, h)

module _ (b : ℕ) (bs : List ℕ) where
  gap_on : blank b ≡ true → gap (b ∷ bs) ≡ suc (gap bs)
  gap_on h = place_on (λ b. not (blank b)) bs b (rw h)

  gap_over : blank b ≡ false → gap (b ∷ bs) ≡ 0
  gap_over h = rw h

  word_over : (blank b || eqb b 35) ≡ true → word_end (b ∷ bs) ≡ 0
  word_over h = rw h

  word_on : blank b ≡ false → eqb b 35 ≡ false → word_end (b ∷ bs) ≡ suc (word_end bs)
  word_on h k = place_on (λ b. blank b || eqb b 35) bs b (rw (h, k))

-- blanks in front don't matter
pub words_gap : (bs : List ℕ) → words bs ≡ words (drop (gap bs) bs)
words_gap [] = refl
words_gap (b ∷ bs) =
    ⊎_elim (λ (h : blank b ≡ true). rw (gap_on b bs h) (at_blank b bs [] h ∙ words_gap bs))
    (λ (h : blank b ≡ false). rw (gap_over b bs h)) (cases_Bool (blank b))

-- the word so far goes on with the word that a line begins with
pub words_end : (word bs : List ℕ) → words_from word bs ≡ ended (word ++ take (word_end bs) bs) ++ words (drop (word_end bs) bs)
words_end word [] = rw (at_end 0 [] word, at_end 0 [] []) (nothing_more word)
words_end word (b ∷ bs) =
    ⊎_elim
    (λ (h : blank b ≡ true).
    rw (word_over b bs (or_left (blank b) (eqb b 35) h), at_blank b bs word h, at_blank b bs [] h) (ap (λ w. ended w ++ words bs) (sym (append-nil word))))
    (λ (h : blank b ≡ false).
    ⊎_elim (λ (k : eqb b 35 ≡ true). rw (word_over b bs (or_right (blank b) (eqb b 35) k), at_hash b bs word k, at_hash b bs [] k) (nothing_more word))
    (λ (k : eqb b 35 ≡ false).
    rw (word_on b bs h k, at_letter b bs word h k)
    (words_end (word ++ (b ∷ [])) bs ∙ ap (λ w. ended w ++ words (drop (word_end bs) bs)) (append_assoc word (b ∷ []) (take (word_end bs) bs))))
    (cases_Bool (eqb b 35))) (cases_Bool (blank b))

-- where no word follows the blanks there is none
pub no_word : (bs : List ℕ) → word_end (drop (gap bs) bs) ≡ 0 → words bs ≡ []
no_word [] none = at_end 0 [] []
no_word (b ∷ bs) none =
    ⊎_elim
    (λ (h : blank b ≡ true). at_blank b bs [] h ∙ no_word bs (rw (gap_on b bs h) at none))
    (λ (h : blank b ≡ false).
    ⊎_elim (λ (k : eqb b 35 ≡ true). at_hash b bs [] k)
    (λ (k : eqb b 35 ≡ false).
    let zero : word_end (b ∷ bs) ≡ 0 = rw (gap_over b bs h) at none in absurd (omega (arith, word_on b bs h k))) (cases_Bool (eqb b 35))) (cases_Bool (blank b))

-- else the word that follows them is the first
first_word : (bs : List ℕ) (n : ℕ) → word_end bs ≡ n → 0 < n → words bs ≡ take n bs ∷ words (drop n bs)
first_word [] n long some = absurd (omega arith)
first_word (b ∷ bs) zero long some = absurd (omega arith)
first_word (b ∷ bs) (suc n) long some = words_end [] (b ∷ bs) ∙ rw long

pub one_word : (bs : List ℕ) (n : ℕ) → word_end (drop (gap bs) bs) ≡ n → 0 < n → words bs ≡ take n (drop (gap bs) bs) ∷ words (drop n (drop (gap bs) bs))
one_word bs n long some = words_gap bs ∙ first_word (drop (gap bs) bs) n long some

-- the same, as a line is cut at the word: `rest` is the line after its blanks
module _ (bs rest : List ℕ) (g e : ℕ) (is : g ≡ gap bs) (rests : rest ≡ take (length bs - g) (drop g bs)) (ends : e ≡ word_end rest) where
  rest_is : rest ≡ drop (gap bs) bs
  rest_is = rests ∙ take_rest bs g ∙ ap (λ n. drop n bs) is

  pub word_none : e ≡ 0 → words bs ≡ []
  word_none none = no_word bs (ap word_end (sym rest_is) ∙ sym ends ∙ none)

  pub word_cut : 0 < e → words bs ≡ take e rest ∷ words (take (length rest - e) (drop e rest))
  word_cut some =
      rw (take_rest rest e)
      (rw (sym rest_is) at (one_word bs e (ap word_end (sym rest_is) ∙ sym ends) some))

-- an empty text has no lines
pub no_lines : (bs : List ℕ) → length bs ≡ 0 → lines bs ≡ []
unfolding lines
no_lines [] none = refl
no_lines (b ∷ bs) none = absurd (omega arith)
