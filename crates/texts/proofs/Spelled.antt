-- The words of an answer line. Assumes nothing.
use Rattle.std.proofs.Common.{◌≡◌, ℕ, ◌+◌, ◌-◌, ◌*◌, ◌/◌, ◌%◌, ◌^◌, ◌<◌, ◌≤◌, true, false, ◌||◌, eqb, ltb, List, [], ◌∷◌, ◌++◌, length, get_or, Some, None, codes, decimal, Option, sym, refl, ap, ◌∙◌, ⊎_elim, append_assoc, append-nil, arith}
use Rattle.std.specs.Str.{bytes_eq}
use Rattle.std.proofs.lemmas.Fmt.{decimal_by_steps}
use Rattle.std.proofs.lemmas.List.Folds.{list_all-append}
use Rattle.std.proofs.lemmas.List.{length_push, take_at, get_or_append_left}
use Rattle.std.proofs.lemmas.Bool.{and_parts, and_from, not-true, or_parts, lt-ltb, ltb-true, ne_eqb, cases_Bool}
use Rattle.std.proofs.lemmas.Bool.Decides.{nat_tests}
use Rattle.texts.specs.Words.{blank, ended, words_from, words, digit, digits_in, number_in}
use Rattle.texts.specs.Back.{but_last, letter, letters, is_word}
use Rattle.texts.proofs.Figures.{number_some}
use Rattle.texts.proofs.Splits.{at_end, at_blank, at_letter}

-- a word goes on with letters up to the next blank, or to the line's end
pub words_on : (word w rest : List ℕ) → letters w ≡ true → words_from word (w ++ (32 ∷ rest)) ≡ ended (word ++ w) ++ words rest
words_on word [] rest all = at_blank 32 rest word refl ∙ ap (λ v. ended v ++ words rest) (sym (append-nil word))
words_on word (b ∷ w) rest all =
    let both = and_parts (letter b) (letters w) all in
    let plain = or_parts (blank b) (eqb b 35) (not-true (blank b || eqb b 35) both.0) in
    at_letter b (w ++ (32 ∷ rest)) word plain.0 plain.1 ∙ words_on (word ++ (b ∷ [])) w rest both.1
    ∙ ap (λ v. ended v ++ words rest) (append_assoc word (b ∷ []) w)

pub words_off : (word w : List ℕ) → letters w ≡ true → words_from word w ≡ ended (word ++ w)
words_off word [] all = at_end 0 [] word ∙ ap ended (sym (append-nil word))
words_off word (b ∷ w) all =
    let both = and_parts (letter b) (letters w) all in
    let plain = or_parts (blank b) (eqb b 35) (not-true (blank b || eqb b 35) both.0) in
    at_letter b w word plain.0 plain.1 ∙ words_off (word ++ (b ∷ [])) w both.1 ∙ ap ended (append_assoc word (b ∷ []) w)

pub word_then : (w rest : List ℕ) → is_word w ≡ true → words (w ++ (32 ∷ rest)) ≡ w ∷ words rest
word_then [] rest is = absurd (omega (arith, ltb-true 0 0 (and_parts (ltb 0 0) (letters []) is).0))
word_then (b ∷ w) rest is = words_on [] (b ∷ w) rest (and_parts (ltb 0 (length (b ∷ w))) (letters (b ∷ w)) is).1

pub word_last : (w : List ℕ) → is_word w ≡ true → words w ≡ w ∷ []
word_last [] is = absurd (omega (arith, ltb-true 0 0 (and_parts (ltb 0 0) (letters []) is).0))
word_last (b ∷ w) is = words_off [] (b ∷ w) (and_parts (ltb 0 (length (b ∷ w))) (letters (b ∷ w)) is).1

-- a letter more is still a word
pub letters_push : (w : List ℕ) (b : ℕ) → letters w ≡ true → letter b ≡ true → letters (w ++ (b ∷ [])) ≡ true
letters_push w b all one = rw (list_all-append, all, one)

pub word_push : (w : List ℕ) (b : ℕ) → is_word w ≡ true → letter b ≡ true → is_word (w ++ (b ∷ [])) ≡ true
word_push w b is one =
    let both = and_parts (ltb 0 (length w)) (letters w) is in
    and_from (ltb 0 (length (w ++ (b ∷ [])))) (letters (w ++ (b ∷ []))) (lt-ltb _ _ (omega (arith, length_push w b))) (letters_push w b both.1 one)

-- the last is taken off again
pub but_last_push : (w : List ℕ) (b : ℕ) → but_last (w ++ (b ∷ [])) ≡ w
but_last_push w b = take_at w (b ∷ []) (length (w ++ (b ∷ [])) - 1) (omega (arith, length_push w b))

-- a number's digits are a word, and the number that they write is that number
pub record Numeral (n : ℕ) (ds : List ℕ) : Type 0 where
  pub some : 0 < length ds
  pub all : letters ds ≡ true
  pub first : get_or ds 0 0 < 58
  pub reads : digits_in 0 ds ≡ Some n

digits_push : (m v d : ℕ) (ds : List ℕ) → digits_in m ds ≡ Some v → digit d ≡ true → digits_in m (ds ++ (d ∷ [])) ≡ Some (v * 10 + (d - 48))
unfolding digits_in
digits_push m v d [] e is = rw is (grind arith)
digits_push m v d (b ∷ ds) e is =
    ⊎_elim
    (λ (h : digit b ≡ true). rw h (digits_push (m * 10 + (b - 48)) v d ds (rw h at e) is))
    (λ (h : digit b ≡ false). let none : ◌≡◌ {A = Option ℕ} None (Some v) = rw h at e in absurd (grind arith)) (cases_Bool (digit b))

one_digit : (n : ℕ) → n < 10 → Numeral n ((48 + n) ∷ [])
unfolding digits_in
one_digit n small = record {
  some = omega arith;
  all = grind (arith, nat_tests);
  first = omega arith;
  reads = (let is : digit (48 + n) ≡ true = grind (arith, nat_tests) in rw is (ap Some (omega arith)));
}

more_digits : (n : ℕ) (ds : List ℕ) → 10 ≤ n → Numeral (n / 10) ds → Numeral n (ds ++ ((48 + n % 10) ∷ []))
more_digits n ds big old = record {
  some = omega (arith, length_push ds (48 + n % 10));
  all = letters_push ds (48 + n % 10) old.all (grind (arith, nat_tests));
  first = (let same = get_or_append_left ds ((48 + n % 10) ∷ []) 0 0 old.some in omega (arith, same, old.first));
  reads = digits_push 0 (n / 10) (48 + n % 10) ds old.reads (grind (arith, nat_tests)) ∙ ap Some (omega arith);
}

pub decimal_numeral : (n : ℕ) → n < 2 ^ 64 → Numeral n (decimal n)
decimal_numeral n small = decimal_by_steps Numeral one_digit more_digits n small

module _ {n : ℕ} (ds : List ℕ) (is : Numeral n ds) where
  pub numeral_word : is_word ds ≡ true
  numeral_word = and_from (ltb 0 (length ds)) (letters ds) (lt-ltb _ _ is.some) is.all

  pub numeral_reads : number_in ds ≡ Some n
  numeral_reads = number_some ds is.some ∙ is.reads

pub not_never : (ds : List ℕ) → 0 < length ds → get_or ds 0 0 < 58 → bytes_eq ds (codes "never,") ≡ false
not_never [] some first = refl
not_never (b ∷ ds) some first = let other : eqb b 110 ≡ false = ne_eqb b 110 (λ e. omega arith) in rw other
