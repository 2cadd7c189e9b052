-- The names that a text says are words. Assumes nothing.
use Rattle.std.proofs.Common.{◌≡◌, ℕ, ◌+◌, Bool, true, false, cond, ◌&&◌, ◌||◌, eqb, ltb, List, [], ◌∷◌, ◌++◌, length, is_some, Some, None, codes, Option, sym, refl, subst, ⊎_elim, arith}
use Rattle.std.specs.Str.{bytes_eq}
use Rattle.std.proofs.lemmas.List.Folds.{list_all-append}
use Rattle.std.proofs.lemmas.Bool.{and_parts, and_from, cases_Bool, cond_both, lt-ltb, not_from_false, or_from}
use Rattle.texts.specs.Words.{blank, ended, words_from, words, lines, number_in}
use Rattle.texts.specs.Lines.{Said, nothing, begins, lasts, stream, clears, unread, with_number, numbered_stream, line_in}
use Rattle.texts.specs.Drafts.{Sofar, with_cycle, with_pair, with_line, place, number_said}
use Rattle.texts.specs.Sections.{Told, opened, more_said, unless_stopped, on_line, need_cycle, closed, begin_name, by_begin, says, told_from}
use Rattle.texts.specs.Back.{letters, is_word, are_words, title_is_word, told_words, all_words, NamesAreWords}
use Rattle.texts.proofs.Spelled.{letters_push}
use Rattle.texts.proofs.Splits.{at_end, at_blank, at_hash, at_letter}

are_append : (xs ys : List (List ℕ)) → are_words xs ≡ true → are_words ys ≡ true → are_words (xs ++ ys) ≡ true
are_append xs ys one two = rw (list_all-append, one, two)

are_ended : (word : List ℕ) → letters word ≡ true → are_words (ended word) ≡ true
are_ended [] all = refl
are_ended (b ∷ bs) all = and_from (is_word (b ∷ bs)) true (and_from (ltb 0 (length (b ∷ bs))) (letters (b ∷ bs)) (lt-ltb 0 (length (b ∷ bs)) (omega arith)) all) refl

-- what a line is cut into
are_from : (word bs : List ℕ) → letters word ≡ true → are_words (words_from word bs) ≡ true
are_from word [] all = subst (λ l. are_words l ≡ true) (sym (at_end 0 [] word)) (are_ended word all)
are_from word (b ∷ bs) all =
    ⊎_elim
    (λ (h : blank b ≡ true).
    subst (λ l. are_words l ≡ true) (sym (at_blank b bs word h)) (are_append (ended word) (words bs) (are_ended word all) (are_from [] bs refl)))
    (λ (h : blank b ≡ false).
    ⊎_elim (λ (k : eqb b 35 ≡ true). subst (λ l. are_words l ≡ true) (sym (at_hash b bs word k)) (are_ended word all))
    (λ (k : eqb b 35 ≡ false).
    subst (λ l. are_words l ≡ true) (sym (at_letter b bs word h k))
    (are_from (word ++ (b ∷ [])) bs (letters_push word b all (not_from_false (blank b || eqb b 35) (or_from (blank b) (eqb b 35) h k)))))
    (cases_Bool (eqb b 35)))
    (cases_Bool (blank b))

-- a name that a line gives
abbrev said_word : Said → Bool
said_word nothing = true
said_word (begins name) = is_word name
said_word (lasts seconds) = true
said_word (stream name least comes) = is_word name
said_word (clears first seconds next) = true
said_word unread = true

numbered_word : (n : Option ℕ) (line : ℕ → Said) → ((k : ℕ) → said_word (line k) ≡ true) → said_word (with_number n line) ≡ true
numbered_word None line all = refl
numbered_word (Some n) line all = all _

line_word : (ws : List (List ℕ)) → are_words ws ≡ true → said_word (line_in ws) ≡ true
unfolding line_in
line_word [] is = refl
line_word (a ∷ []) is = refl
line_word (a ∷ b ∷ []) is =
    let second = (and_parts (is_word b) true (and_parts (is_word a) (is_word b && true) is).1).0 in
    cond_both (bytes_eq a (codes "junction")) (begins b) (cond (bytes_eq a (codes "cycle")) (with_number (number_in b) lasts) unread) (λ s. said_word s ≡ true)
    (λ _. second)
    (λ _. cond_both (bytes_eq a (codes "cycle")) (with_number (number_in b) lasts) unread (λ s. said_word s ≡ true) (λ _. numbered_word (number_in b) lasts (λ _. refl)) (λ _. refl))
line_word (a ∷ b ∷ c ∷ []) is = numbered_word (number_in b) (λ seconds. clears a seconds c) (λ _. refl)
line_word (a ∷ b ∷ c ∷ d ∷ []) is = refl
line_word (a ∷ b ∷ c ∷ d ∷ e ∷ []) is =
    let first = (and_parts (is_word a) (is_word b && (is_word c && (is_word d && (is_word e && true)))) is).0 in
    cond_both (bytes_eq b (codes "least") && bytes_eq d (codes "comes")) (numbered_stream a (number_in c) (number_in e)) unread (λ s. said_word s ≡ true)
    (λ _. numbered_word (number_in c) (λ l. with_number (number_in e) (λ m. stream a l m)) (λ l. numbered_word (number_in e) (λ m. stream a l m) (λ _. first)))
    (λ _. refl)
line_word (a ∷ b ∷ c ∷ d ∷ e ∷ f ∷ rest) is = refl

-- a line more keeps the names words
abbrev Kept : Option Sofar → Type 0
Kept None = Unit {0}
Kept (Some s) = are_words s.names ≡ true

cycle_kept : (s : Sofar) (seconds : ℕ) (o : Option ℕ) → are_words s.names ≡ true → Kept (with_cycle s seconds o)
cycle_kept s seconds None are = are
cycle_kept s seconds (Some c) are = tt

pair_kept : (s : Sofar) (a b : Option ℕ) (seconds : ℕ) → are_words s.names ≡ true → Kept (with_pair s a b seconds)
pair_kept s None b seconds are = tt
pair_kept s (Some a) None seconds are = tt
pair_kept s (Some a) (Some b) seconds are = cond_both (is_some (number_said s.clearings a b)) None _ Kept (λ _. tt) (λ _. are)

line_kept : (s : Sofar) (line : Said) → are_words s.names ≡ true → said_word line ≡ true → Kept (with_line s line)
line_kept s nothing are is = are
line_kept s (begins name) are is = tt
line_kept s (lasts seconds) are is = cycle_kept s seconds s.cycle are
line_kept s (stream name least comes) are is =
    cond_both (is_some (place name s.names)) None _ Kept (λ _. tt) (λ _. are_append s.names (name ∷ []) are (and_from (is_word name) true is refl))
line_kept s (clears first seconds next) are is = pair_kept s (place first s.names) (place next s.names) seconds are
line_kept s unread are is = tt

-- a junction more, a line more, an end
module _ (n : ℕ) (t : Told) (good : told_words t ≡ true) where
  unless_good : (o : Option ℕ) (next : Told) → told_words next ≡ true → told_words (unless_stopped t o next) ≡ true
  unless_good None next is = is
  unless_good (Some line) next is = good

  said_good : (o : Option Sofar) → Kept o → told_words (more_said n t o) ≡ true
  said_good None is = good
  said_good (Some s) is = and_from (title_is_word t.name) (are_words s.names) (and_parts (title_is_word t.name) (are_words t.said.names) good).0 is

  on_good : (s : Said) → said_word s ≡ true → told_words (on_line n s t) ≡ true
  on_good s is =
      unless_good t.stop (more_said n t (with_line t.said s))
      (said_good (with_line t.said s) (line_kept t.said s (and_parts (title_is_word t.name) (are_words t.said.names) good).1 is))

  cycle_good : (o : Option ℕ) → told_words (need_cycle n t o) ≡ true
  cycle_good None = good
  cycle_good (Some seconds) = good

  closed_good : told_words (closed n t) ≡ true
  closed_good = unless_good t.stop (need_cycle n t t.said.cycle) (cycle_good t.said.cycle)

begin_word : (s : Said) → said_word s ≡ true → title_is_word (begin_name s) ≡ true
begin_word nothing is = refl
begin_word (begins name) is = is
begin_word (lasts seconds) is = refl
begin_word (stream name least comes) is = refl
begin_word (clears first seconds next) is = refl
begin_word unread is = refl

by_begin_all : (o : Option (List ℕ)) (new : List ℕ → List Told) (other : List Told) → title_is_word o ≡ true → ((name : List ℕ) → is_word name ≡ true → all_words (new name) ≡ true) → all_words other ≡ true → all_words (by_begin o new other) ≡ true
by_begin_all None new other is one two = two
by_begin_all (Some name) new other is one two = one name is

all_from : (n : ℕ) (some : Bool) (t : Told) (ls : List (List ℕ)) → told_words t ≡ true → all_words (told_from n some t ls) ≡ true
unfolding told_from
all_from n some t [] good = and_from (told_words (closed n t)) true (closed_good n t good) refl
all_from n some t (l ∷ ls) good =
    let is : said_word (line_in (words l)) ≡ true = line_word (words l) (are_from [] l refl) in
    by_begin_all (begin_name (line_in (words l))) _ _ (begin_word (line_in (words l)) is)
    (λ name named.
    let later : all_words (told_from (n + 1) true (opened (Some name)) ls) ≡ true = all_from (n + 1) true (opened (Some name)) ls (and_from (is_word name) (are_words []) named refl) in
    cond_both some (closed n t ∷ told_from (n + 1) true (opened (Some name)) ls) (told_from (n + 1) true (opened (Some name)) ls) (λ ts. all_words ts ≡ true)
    (λ _. and_from (told_words (closed n t)) (all_words (told_from (n + 1) true (opened (Some name)) ls)) (closed_good n t good) later) (λ _. later))
    (all_from (n + 1) (some || says (line_in (words l))) (on_line n (line_in (words l)) t) ls (on_good n t good (line_in (words l)) is))

pub names_are_words : NamesAreWords
names_are_words text = all_from 0 false (opened None) (lines text) (and_from true (are_words []) refl refl)
