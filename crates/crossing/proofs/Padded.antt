-- Numbers with zeros behind them. Assumes nothing.
use Rattle.std.proofs.Common.{◌≡◌, ℕ, ◌+◌, ◌-◌, ◌*◌, ◌<◌, ◌≤◌, List, ◌++◌, length, drop, replicate, get_or, refl, sym, ◌∙◌, ⊎_elim, arith}
use Rattle.std.proofs.lemmas.Bool.{cases_lt}
use Rattle.std.proofs.lemmas.List.{get_or_append_left, get_or-append_right, get_or-drop, get_or-replicate, get_or_past, length-replicate}
use Rattle.crossing.specs.Taken.{stream_in}

zeros : (n i : ℕ) → get_or {A = ℕ} (replicate {A = ℕ} n 0) i 0 ≡ 0
zeros n i =
    ⊎_elim (λ (within : i < n). get_or-replicate n i 0 0 within)
    (λ (past : n ≤ i). get_or_past (replicate {A = ℕ} n 0) i 0 (omega (arith, length-replicate {A = ℕ} n 0))) (cases_lt i n)

-- a number past the others is 0, as it is past a list's end
pub padded : (numbers : List ℕ) (most i : ℕ) → get_or (numbers ++ drop (length numbers) (replicate {A = ℕ} most 0)) i 0 ≡ get_or numbers i 0
padded numbers most i =
    ⊎_elim (λ (within : i < length numbers). get_or_append_left numbers (drop (length numbers) (replicate {A = ℕ} most 0)) 0 i within)
    (λ (past : length numbers ≤ i).
    get_or-append_right numbers (drop (length numbers) (replicate {A = ℕ} most 0)) (length numbers) i 0 refl past
    ∙ get_or-drop (length numbers) (replicate {A = ℕ} most 0) (i - length numbers) 0
    ∙ zeros most (length numbers + (i - length numbers))
    ∙ sym (get_or_past numbers i 0 past))
    (cases_lt i (length numbers))

-- so a stream past the others asks for nothing, as one past a list's end
pub padded_stream : (numbers : List ℕ) (most k : ℕ) → stream_in (numbers ++ drop (length numbers) (replicate {A = ℕ} most 0)) k ≡ stream_in numbers k
padded_stream numbers most k = rw (padded numbers most (2 * k), padded numbers most (2 * k + 1))
