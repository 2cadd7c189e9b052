-- From seconds to orders and back: greens are placed exactly if they are in order.
use Rattle.std.proofs.Common.{◌≡◌, ℕ, ◌+◌, ◌<◌, ◌≤◌, true, false, ◌⊎◌, inl, inr, ⊎_elim, arith}
use Rattle.std.proofs.lemmas.Bool.{ltb-false, cases_lt, le-ltb}
use Rattle.greens.specs.declared.lights.Green.{Green}
use Rattle.greens.specs.Circle.{after}
use Rattle.greens.specs.Greens.{on}
use Rattle.greens.proofs.Circle.{after_cases}
use Rattle.crossing.specs.Good.{apart}
use Rattle.crossing.proofs.Good.{apart_out, apart_in}

-- h keeps apart from g: it comes after g and what has to be clear and is over before g's next turn, or it is over before g, which ends and clears before its next turn
abbrev pub Keeps : (c x : ℕ) (g h : Green) → Type 0
Keeps c x g h =
    ((g.from + g.long + x ≤ h.from) × (h.from + h.long ≤ g.from + c)) ⊎ ((h.from + h.long ≤ g.from) × (g.from + g.long + x ≤ h.from + c))

off_out : (c s : ℕ) (h : Green) → on c h s ≡ false → h.long ≤ after c h.from s
unfolding on
off_out c s h e = ltb-false (after c h.from s) h.long e

pub off_in : (c s : ℕ) (h : Green) → h.long ≤ after c h.from s → on c h s ≡ false
unfolding on
off_in c s h e = le-ltb (after c h.from s) h.long e

pub keeps_out : (c x : ℕ) (g h : Green) → g.from < c → h.from < c → 1 ≤ g.long → 1 ≤ h.long → apart c x g h ≡ true → Keeps c x g h
keeps_out c x g h gc hc gl hl e =
    let late : g.long + x ≤ after c g.from h.from =
    ⊎_elim
    (λ (soon : after c g.from h.from < g.long + x).
    let off : h.long ≤ after c h.from h.from = off_out c h.from h (apart_out c x g h e h.from hc gl soon) in
    absurd (omega (arith, after_cases c h.from h.from hc hc)))
    (λ (fine : g.long + x ≤ after c g.from h.from). fine)
    (cases_lt (after c g.from h.from) (g.long + x))
    in
    let over : h.long ≤ after c h.from g.from = off_out c g.from h (apart_out c x g h e g.from gc gl (omega (arith, after_cases c g.from g.from gc gc))) in
    ⊎_elim
    (λ (early : h.from < g.from). inr (omega (arith, after_cases c g.from h.from gc hc, after_cases c h.from g.from hc gc), omega (arith, after_cases c g.from h.from gc hc, after_cases c h.from g.from hc gc)))
    (λ (later : g.from ≤ h.from). inl (omega (arith, after_cases c g.from h.from gc hc, after_cases c h.from g.from hc gc), omega (arith, after_cases c g.from h.from gc hc, after_cases c h.from g.from hc gc)))
    (cases_lt h.from g.from)

pub keeps_in : (c x : ℕ) (g h : Green) → g.from < c → h.from < c → Keeps c x g h → apart c x g h ≡ true
keeps_in c x g h gc hc k =
    apart_in c x g h (λ s sc some soon. off_in c s h (
    ⊎_elim
    (λ (q : (g.from + g.long + x ≤ h.from) × (h.from + h.long ≤ g.from + c)). omega (arith, after_cases c g.from s gc sc, after_cases c h.from s hc sc))
    (λ (q : (h.from + h.long ≤ g.from) × (g.from + g.long + x ≤ h.from + c)). omega (arith, after_cases c g.from s gc sc, after_cases c h.from s hc sc))
    k))
