-- What is too much to spare: more than the cycle leaves to a stream, or to a group.
use Rattle.std.proofs.Common.{◌≡◌, ℕ, ◌+◌, ◌-◌, ◌<◌, ◌≤◌, max, Bool, true, false, cond, Option, Some, None, not, ◌&&◌, ◌||◌, ltb, ⊎_elim, arith}
use Rattle.std.proofs.lemmas.Bool.{and_parts, ltb-true, cases_lt}
use Rattle.crossing.specs.Below.{all_to}
use Rattle.crossing.specs.Site.{Site, Greens}
use Rattle.crossing.specs.Good.{good, enough, spare, worst}
use Rattle.crossing.proofs.Below.{all_out, least_out, least_bound}
use Rattle.crossing.proofs.Good.{good_out, enough_out}
use Rattle.groups.specs.Groups.{all_cross, need, asked, wants, overfull}
use Rattle.groups.specs.Spares.{Under, AtMost}
use Rattle.std.specs.Option.{SomeIff}
use Rattle.groups.proofs.Claims.{shares}

-- if the worst-off stream has w to spare, every green is as long as that asks
asked_out : (j : Site) (q : Greens) (w : ℕ) → good j q ≡ true → enough j q ≡ true → w ≤ worst j q → (k : ℕ) → k < j.streams → asked j w k ≤ (q k).long
unfolding worst spare
asked_out j q w is_good all_go much k h =
    let least_long = ((good_out j q is_good).fitting k h).least_long in
    omega (arith, enough_out j q all_go k h, least_out j.streams (spare j q) j.cycle k h)

-- what a group that is overfull is
pub record Overfull (j : Site) (w : ℕ) (member : ℕ → Bool) : Type 0 where
  pub is_group : all_cross j member ≡ true
  pub some : (k : ℕ) → k < j.streams → member k ≡ true → 1 ≤ asked j w k
  pub more : j.cycle < need j (asked j w) member

pub overfull_out : (j : Site) (w : ℕ) (member : ℕ → Bool) → overfull j w member ≡ true → Overfull j w member
unfolding overfull
overfull_out j w member e =
    let parts = and_parts (all_cross j member) (all_to j.streams (wants j w member) && ltb j.cycle (need j (asked j w) member)) e in
    let rest = and_parts (all_to j.streams (wants j w member)) (ltb j.cycle (need j (asked j w) member)) parts.1 in
    record {
      is_group = parts.0;
      some = λ k h mk.
          let here : (not (member k) || ltb 0 (asked j w k)) ≡ true = all_out j.streams (wants j w member) rest.0 k h in
          let some : ltb 0 (asked j w k) ≡ true = rw mk at here in
          omega (arith, ltb-true 0 (asked j w k) some);
      more = ltb-true j.cycle (need j (asked j w) member) rest.1;
    }

-- no good plan in which all can go leaves everybody as much as makes a group overfull
pub too_much : (j : Site) (w : ℕ) (member : ℕ → Bool) → overfull j w member ≡ true → Under j w
too_much j w member e =
    let full = overfull_out j w member e in
    record {
      each = λ q is_good all_go.
          ⊎_elim
          (λ (less : worst j q < w). less)
          (λ (much : w ≤ worst j q).
          let long = asked_out j q w is_good all_go much in
          absurd (omega (
            arith,
            full.more,
            shares j q (asked j w) member
                (record { is_good = is_good; is_group = full.is_group; some = λ k h mk. omega (arith, long k h, full.some k h mk) })
                (λ k h mk. long k h),
          )))
          (cases_lt (worst j q) w);
    }

-- nobody has more to spare than the cycle
pub under_cycle : (j : Site) → Under j (j.cycle + 1)
unfolding worst
under_cycle j = record { each = λ q is_good all_go. omega (arith, least_bound j.streams (spare j q) j.cycle) }

-- nor than what the cycle leaves to any of the streams
pub under_stream : (j : Site) (k : ℕ) → k < j.streams → Under j (j.cycle - j.comes k + 1)
unfolding worst spare
under_stream j k h = record {
  each = λ q is_good all_go.
      let whole = ((good_out j q is_good).fitting k h).within in
      omega (arith, least_out j.streams (spare j q) j.cycle k h);
}

-- a stream to which the cycle is too short: there is no plan
pub under_short : (j : Site) (k : ℕ) → k < j.streams → j.cycle < max (j.least k) (j.comes k) → Under j 0
under_short j k h short = record {
  each = λ q is_good all_go.
      let whole = ((good_out j q is_good).fitting k h).within in
      let least_long = ((good_out j q is_good).fitting k h).least_long in
      absurd (omega (arith, enough_out j q all_go k h));
}

-- what cannot be had leaves one less, or no plan
pub under_most : (j : Site) (w : ℕ) (r : Option ℕ) → Under j w → SomeIff r (1 ≤ w) (w - 1) → AtMost j r
under_most j w None under none = λ q is_good all_go. none (omega (arith, under.each q is_good all_go))
under_most j w (Some most) under is = λ q is_good all_go. omega (arith, under.each q is_good all_go, is.0, is.1)

-- nobody has more to spare than what the cycle leaves to a stream
pub most_stream : (j : Site) (k cycle comes : ℕ) (r : Option ℕ) → k < j.streams → SomeIff r (comes ≤ cycle) (cycle - comes) → cycle ≡ j.cycle → comes ≡ j.comes k → AtMost j r
most_stream j k cycle comes None h none whole come = λ q is_good all_go. none (
    ⊎_elim
    (λ (short : cycle < comes). absurd (omega (arith, (under_short j k h (omega arith)).each q is_good all_go)))
    (λ (long : comes ≤ cycle). long)
    (cases_lt cycle comes))
most_stream j k cycle comes (Some most) h is whole come = λ q is_good all_go. omega (arith, (under_stream j k h).each q is_good all_go, is.0, is.1)

-- one of two bounds
pub most_either : (j : Site) (b : Bool) (r s : Option ℕ) → AtMost j r → AtMost j s → AtMost j (cond b r s)
most_either j true r s one other = one
most_either j false r s one other = other
