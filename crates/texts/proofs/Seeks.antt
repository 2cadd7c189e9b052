-- A place in a list of references is one in the list of what they refer to. Assumes nothing.
use Rattle.std.proofs.Common.{◌≡◌, ℕ, ◌+◌, Bool, not, cond, List, [], ◌∷◌, map, sym, refl, ap, Bor}
use lib.ListN.{length-map}
use Rattle.std.specs.List.{position, position_or_len}

pub seen : (test : List ℕ → Bool) (names : List (Bor (List ℕ))) → position_or_len (λ n. test n.now) names ≡ position_or_len test (map (λ x. x.now) names)
seen test [] = refl
seen test (n ∷ names) = ap (λ k. cond (not (test n.now)) (1 + k) 0) (seen test names)

pub position_seen : (test : List ℕ → Bool) (names : List (Bor (List ℕ))) → position (λ n. test n.now) names ≡ position test (map (λ x. x.now) names)
position_seen test names = rw (seen test names, sym (length-map names (λ x. x.now)))
