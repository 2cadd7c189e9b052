-- A number read digit by digit. Assumes nothing.
use Rattle.std.proofs.Common.{◌≡◌, ℕ, ◌+◌, ◌-◌, ◌*◌, ◌<◌, ◌≤◌, true, false, cond, List, [], ◌∷◌, length, get_or, drop, Some, None, refl, arith}
use Rattle.std.proofs.lemmas.List.{at_drop_more, at_drop_all}
use Rattle.texts.specs.Words.{digit, digits_in, number_in}

-- a word of some bytes is read from the first on
pub number_some : (bs : List ℕ) → 0 < length bs → number_in bs ≡ digits_in 0 bs
number_some [] some = absurd (omega arith)
number_some (b ∷ bs) some = refl

module _ (bs : List ℕ) (i v : ℕ) (within : i < length bs) where
  pub digits_more : digit (get_or bs i 0) ≡ true → digits_in v (drop i bs) ≡ digits_in (v * 10 + (get_or bs i 0 - 48)) (drop (i + 1) bs)
  unfolding digits_in
  digits_more is =
      let step : digits_in v (drop i bs) ≡ cond (digit (get_or bs i 0)) (digits_in (v * 10 + (get_or bs i 0 - 48)) (drop (i + 1) bs)) None = at_drop_more (digits_in v) bs i 0 within in
      rw is at step

  pub digits_stop : digit (get_or bs i 0) ≡ false → digits_in v (drop i bs) ≡ None
  unfolding digits_in
  digits_stop is =
      let step : digits_in v (drop i bs) ≡ cond (digit (get_or bs i 0)) (digits_in (v * 10 + (get_or bs i 0 - 48)) (drop (i + 1) bs)) None = at_drop_more (digits_in v) bs i 0 within in
      rw is at step

pub digits_all : (bs : List ℕ) (i v : ℕ) → length bs ≤ i → digits_in v (drop i bs) ≡ Some v
unfolding digits_in
digits_all bs i v past = at_drop_all (digits_in v) bs i past
