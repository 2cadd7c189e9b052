-- Plans that begin alike. Assumes nothing: this is a definition.
use Rattle.std.specs.Prelude.{◌≡◌, ℕ, ◌<◌}
use Rattle.crossing.specs.Site.{Greens}

-- two plans have the same greens in the streams below n
abbrev pub Alike : (n : ℕ) → Greens → Greens → Type 0
Alike n p q = (k : ℕ) → k < n → p k ≡ q k
