-- A junction that was read asks for what its numbers ask for.
use Rattle.std.proofs.Common.{◌≡◌, ℕ, ◌+◌, ◌-◌, ◌*◌, ◌<◌, ◌≤◌, ltb, List, length, get_or, ◌∙◌, ⊎_elim, arith}
use Rattle.std.proofs.lemmas.List.{get_or_past}
use Rattle.std.proofs.lemmas.Bool.{cases_lt}
use Rattle.crossing.specs.declared.junctions.Stream.{Stream}
use Rattle.crossing.specs.Site.{Site}
use Rattle.crossing.specs.Tables.{entry, crossing}
use Rattle.crossing.specs.Numbers.{site_in}
use Rattle.crossing.specs.Taken.{no_stream, stream_in}

-- what a junction of these parts asks for
abbrev made : (n c : ℕ) (streams : List Stream) (table : List ℕ) → Site
made n c streams table = record {
  streams = n;
  cycle = c;
  least = λ k. (get_or streams k no_stream).least;
  comes = λ k. (get_or streams k no_stream).comes;
  crosses = crossing n table;
  clear = λ a b. entry n table a b - 1;
}

module _ (n : ℕ) (pairs : List ℕ) (streams : List Stream) (paired : length pairs ≡ 2 * n) (few : n ≤ 12) (twelve : length streams ≡ 12)
    (each : (k : ℕ) → k < 12 → get_or streams k no_stream ≡ stream_in pairs k) where
  -- a stream is what its two numbers say, also past the last, where both are nothing
  pub stream_same : (k : ℕ) → get_or streams k no_stream ≡ stream_in pairs k
  stream_same k =
      ⊎_elim (λ (within : k < 12). each k within)
      (λ (past : 12 ≤ k).
      let first = get_or_past pairs (2 * k) 0 (omega arith) in
      let second = get_or_past pairs (2 * k + 1) 0 (omega arith) in
      get_or_past streams k no_stream (omega arith) ∙ rw (first, second))
      (cases_lt k 12)

module _ (n : ℕ) (pairs : List ℕ) (streams : List Stream) (same : (k : ℕ) → get_or streams k no_stream ≡ stream_in pairs k) where
  pub site_same : (seconds c : ℕ) (copy table : List ℕ) → seconds ≡ c → ((i : ℕ) → get_or copy i 0 ≡ get_or table i 0) → made n seconds streams copy ≡ site_in c n pairs table
  site_same seconds c copy table cycles entries = λ i. record {
    streams = n;
    cycle = cycles i;
    least = λ k. (same k i).least;
    comes = λ k. (same k i).comes;
    crosses = λ a b. ltb 0 (entries (a * n + b) i);
    clear = λ a b. entries (a * n + b) i - 1;
  }
