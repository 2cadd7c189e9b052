-- Two of which the other is no stream. Assumes nothing.
use Rattle.std.proofs.Common.{◌≡◌, ℕ, Option, Some, None, refl}
use Rattle.texts.specs.Drafts.{Sofar, with_pair}

pub pair_unknown : (s : Sofar) (a b : Option ℕ) (seconds : ℕ) → b ≡ None → with_pair s a b seconds ≡ None
pair_unknown s None b seconds is = refl
pair_unknown s (Some a) b seconds is = rw is
