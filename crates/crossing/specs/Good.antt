-- What makes a plan good, what it has to spare, and which is best. Assumes nothing: these are definitions.
use Rattle.std.specs.Prelude.{◌≡◌, ℕ, ◌+◌, ◌-◌, ◌≤◌, Bool, true, not, ◌&&◌, ◌||◌, nat_le, ◌==◌, ◌≢◌, nat_lt}
use Rattle.greens.specs.declared.lights.Green.{Green}
use Rattle.greens.specs.Circle.{after}
use Rattle.greens.specs.Greens.{on}
use Rattle.crossing.specs.Below.{all_to, least_to}
use Rattle.crossing.specs.Site.{Site, Greens}

-- in a second the green h is too close to g: g has seconds, h is on, and g is on too or ended less than the seconds to clear ago
unfoldable pub close : (cycle clear : ℕ) (g h : Green) (s : ℕ) → Bool
close cycle clear g h s = nat_lt 0 g.long && (on cycle h s && nat_lt (after cycle g.from s) (g.long + clear))

-- h keeps apart from g: it is too close in no second of the cycle
unfoldable pub apart : (cycle clear : ℕ) (g h : Green) → Bool
apart cycle clear g h = all_to cycle (λ s. not (close cycle clear g h s))

-- a green fits its stream: it begins in the cycle, is as long as it has to be at least, and at most the cycle
unfoldable pub fits : Site → (stream : ℕ) → Green → Bool
fits j k g = nat_lt g.from j.cycle && (nat_le (j.least k) g.long && nat_le g.long j.cycle)

-- a plan is good: every green fits, and of any two streams that cross each keeps apart from the other
unfoldable pub good : Site → Greens → Bool
good j p =
    all_to j.streams (λ k. fits j k (p k))
    && all_to j.streams (λ a. all_to j.streams (λ b. not (j.crosses a b) || (a == b || apart j.cycle (j.clear a b) (p a) (p b))))

-- all can go: every green is at least as long as how many come, one of whom goes in each green second
unfoldable pub enough : Site → Greens → Bool
enough j p = all_to j.streams (λ k. nat_le (j.comes k) (p k).long)

-- what a stream has to spare: by how much its green is longer than how many come
unfoldable pub spare : Site → Greens → (stream : ℕ) → ℕ
spare j p k = (p k).long - j.comes k

-- what the stream that is worst off has to spare
unfoldable pub worst : Site → Greens → ℕ
worst j p = least_to j.streams (spare j p) j.cycle

-- a plan is best: it is good, all can go, and in no other such plan has the worst-off stream more to spare
pub record Best (j : Site) (p : Greens) : Type 0 where
  pub is_good : good j p ≡ true
  pub all_go : enough j p ≡ true
  pub most : (q : Greens) → good j q ≡ true → enough j q ≡ true → worst j q ≤ worst j p

-- no plan at all is good and lets all go
abbrev pub NoPlan : Site → Type 0
NoPlan j = (q : Greens) → good j q ≡ true → enough j q ≢ true
