-- One line more of a text. Assumes nothing.
use Rattle.std.proofs.Common.{◌≡◌, ℕ, ◌+◌, Bool, true, false, ◌||◌, List, [], ◌∷◌, Option, Some, None, is_some, sym, refl, ap, ◌∙◌}
use Rattle.std.proofs.Math.Bool.{or-false, or-true}
use Rattle.std.specs.Option.{unwrap_or}
use Rattle.texts.specs.Words.{words}
use Rattle.texts.specs.Lines.{Said, nothing, begins, lasts, stream, clears, unread, line_in}
use Rattle.texts.specs.declared.sections.Section.{Section}
use Rattle.texts.specs.Sections.{Told, opened, unless_stopped, on_line, closed, begin_name, says, told_from, told_of}

pub told_end : (line : ℕ) (some : Bool) (t : Told) (ls : List (List ℕ)) → ls ≡ [] → told_from line some t ls ≡ closed line t ∷ []
unfolding told_from
told_end line some t ls none = rw none

module _ (line : ℕ) (some : Bool) (t : Told) (l : List ℕ) (ls : List (List ℕ)) where
  pub told_close : (name : List ℕ) → begin_name (line_in (words l)) ≡ Some name → some ≡ true → told_from line some t (l ∷ ls) ≡ closed line t ∷ told_from (line + 1) true (opened (Some name)) ls
  unfolding told_from
  told_close name is counts = rw (is, counts)

  pub told_begin : (name : List ℕ) → begin_name (line_in (words l)) ≡ Some name → some ≡ false → told_from line some t (l ∷ ls) ≡ told_from (line + 1) true (opened (Some name)) ls
  unfolding told_from
  told_begin name is counts = rw (is, counts)

  pub told_more : begin_name (line_in (words l)) ≡ None → told_from line some t (l ∷ ls) ≡ told_from (line + 1) (some || says (line_in (words l))) (on_line line (line_in (words l)) t) ls
  unfolding told_from
  told_more on = rw on

-- a line that says nothing leaves a junction as it is
unless_same : (o : Option ℕ) (t : Told) → unless_stopped t o t ≡ t
unless_same None t = refl
unless_same (Some line) t = refl

-- a junction that was begun, or the first of a text, which begins with its first line
abbrev pub begun : Option Section → Told
begun None = opened None
begun (Some s) = told_of s

pub begun_or : (o : Option Section) (new : Section) → told_of new ≡ opened None → told_of (unwrap_or o new) ≡ begun o
begun_or None new is = is
begun_or (Some s) new is = refl

says_nothing : (s : Said) → says s ≡ false → s ≡ nothing
says_nothing nothing none = refl
says_nothing (begins name) none = cc
says_nothing (lasts seconds) none = cc
says_nothing (stream name least comes) none = cc
says_nothing (clears first seconds next) none = cc
says_nothing unread none = cc

-- a reader goes on by a line: what was left of the text is its first line and what follows
module _ (whole : List Told) (n : ℕ) (was : Option Section) (text after : List (List ℕ)) (l : List ℕ) (s : Said) (left : whole ≡ told_from n (is_some was) (begun was) text) (cut : text ≡ l ∷ after) (is : s ≡ line_in (words l)) where
  first : whole ≡ told_from n (is_some was) (begun was) (l ∷ after)
  first = left ∙ ap (told_from n (is_some was) (begun was)) cut

  more : begin_name s ≡ None → whole ≡ told_from (n + 1) (is_some was || says s) (on_line n s (begun was)) after
  more none = first ∙ told_more n (is_some was) (begun was) l after (ap begin_name (sym is) ∙ none) ∙ rw (sym is)

  pub reader_closes : (name : List ℕ) (section : Section) (t : Told) → Some name ≡ begin_name s → was ≡ Some section → t ≡ closed n (told_of section) → whole ≡ t ∷ told_from (n + 1) true (opened (Some name)) after
  reader_closes name section t named there closes =
      first ∙ told_close n (is_some was) (begun was) l after name (ap begin_name (sym is) ∙ sym named) (ap is_some there)
      ∙ ap (λ t. t ∷ told_from (n + 1) true (opened (Some name)) after) (ap (λ o. closed n (begun o)) there ∙ sym closes)

  pub reader_begins : (name : List ℕ) (new : Section) (now : Option Section) → Some name ≡ begin_name s → was ≡ None → told_of new ≡ opened (Some name) → now ≡ Some new → whole ≡ told_from (n + 1) (is_some now) (begun now) after
  reader_begins name new now named none opens goes =
      first ∙ told_begin n (is_some was) (begun was) l after name (ap begin_name (sym is) ∙ sym named) (ap is_some none)
      ∙ ap (λ t. told_from (n + 1) true t after) (sym opens) ∙ ap (λ o. told_from (n + 1) (is_some o) (begun o) after) (sym goes)

  pub reader_passes : (now : Option Section) → None ≡ begin_name s → says s ≡ false → now ≡ was → whole ≡ told_from (n + 1) (is_some now) (begun now) after
  reader_passes now none says goes =
      more (sym none) ∙ rw (says_nothing s says) (rw (unless_same (begun was).stop (begun was), or-false (is_some was)) (ap (λ o. told_from (n + 1) (is_some o) (begun o) after) (sym goes)))

  pub reader_goes : (old new : Section) (now : Option Section) → None ≡ begin_name s → says s ≡ true → told_of old ≡ begun was → told_of new ≡ on_line n s (told_of old) → now ≡ Some new → whole ≡ told_from (n + 1) (is_some now) (begun now) after
  reader_goes old new now none says held takes goes =
      more (sym none) ∙ rw (says, or-true (is_some was)) (ap (λ t. told_from (n + 1) true (on_line n s t) after) (sym held)
      ∙ ap (λ t. told_from (n + 1) true t after) (sym takes) ∙ ap (λ o. told_from (n + 1) (is_some o) (begun o) after) (sym goes))
