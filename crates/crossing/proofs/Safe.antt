-- In a good plan two streams that cross are never green together, nor one too soon after the other, wherever the plan begins.
use Rattle.std.proofs.Common.{◌≡◌, ℕ, ◌+◌, ◌%◌, ◌<◌, ◌≤◌, true, refl, mod-lt, arith}
use Rattle.std.proofs.lemmas.Bool.{ltb-true}
use Rattle.greens.specs.declared.lights.Green.{Green}
use Rattle.greens.specs.Circle.{after}
use Rattle.greens.specs.Greens.{on}
use Rattle.greens.specs.Rounds.{later}
use Rattle.greens.proofs.Circle.{after_below}
use Rattle.greens.proofs.Turns.{after_turned}
use Rattle.crossing.specs.Good.{apart, spare, worst}
use Rattle.crossing.specs.Laws.{NeverTogether, Cleared, Turned}
use Rattle.crossing.proofs.Good.{apart_out, apart_in, good_out, good_in}

pub cleared : Cleared
cleared j p a b s is_good ha hb crosses differ within some soon =
    apart_out j.cycle (j.clear a b) (p a) (p b) ((good_out j p is_good).keeps a ha b hb crosses differ) s within some soon

pub never_together : NeverTogether
unfolding on
never_together j p a b s is_good ha hb crosses differ within green =
    let going : after j.cycle (p a).from s < (p a).long = ltb-true _ _ green in
    cleared j p a b s is_good ha hb crosses differ within (omega arith) (omega arith)

-- greens that keep apart do so when both begin so many seconds later
apart_later : (c clear n : ℕ) (g h : Green) → 1 ≤ c → g.from < c → h.from < c → apart c clear g h ≡ true → apart c clear (later c n g) (later c n h) ≡ true
unfolding on
apart_later c clear n g h some begins starts is =
    apart_in c clear (later c n g) (later c n h)
    (λ s within green soon.
    let first = after_turned c g.from n s some begins within in
    let next = after_turned c h.from n s some starts within in
    rw next (apart_out c clear g h is (after c (n % c) s) (after_below c (n % c) s some) green (omega arith)))

pub turned : Turned
unfolding worst spare
turned j p n some is_good =
    let plan = good_out j p is_good in (
      good_in j (λ k. later j.cycle n (p k))
          (record {
            fitting = λ k h. record {
              begins = mod-lt ((p k).from + n) (omega arith);
              least_long = (plan.fitting k h).least_long;
              within = (plan.fitting k h).within;
            };
            keeps = λ a ha b hb crosses differ.
                apart_later j.cycle (j.clear a b) n (p a) (p b) some (plan.fitting a ha).begins (plan.fitting b hb).begins (plan.keeps a ha b hb crosses differ);
          }),
      refl,
    )
