-- Plans that give the streams of a junction the same greens are as good, and leave as much to spare.
use Rattle.std.proofs.Common.{◌≡◌, ℕ, zero, suc, ◌-◌, ◌<◌, true, sym, refl, ap, ◌∙◌, subst, arith}
use Rattle.greens.specs.declared.lights.Green.{Green}
use Rattle.crossing.specs.Below.{least_to}
use Rattle.crossing.specs.Site.{Site, Greens}
use Rattle.crossing.specs.Good.{good, enough, spare, worst, Best}
use Rattle.crossing.proofs.Good.{GoodPlan, good_out, good_in, enough_out, enough_in}
use Rattle.planning.specs.Alike.{Alike}
use Rattle.planning.specs.Lengths.{Leaves}

pub alike_back : (n : ℕ) (p q : Greens) → Alike n p q → Alike n q p
alike_back n p q alike = λ k h. sym (alike k h)

pub same_good : (j : Site) (p q : Greens) → Alike j.streams p q → good j p ≡ true → good j q ≡ true
same_good j p q same e =
    let parts : GoodPlan j p = good_out j p e in
    good_in j q (record {
      fitting = λ k h. rw (← same k h) (parts.fitting k h);
      keeps = λ a ha b hb crosses differ. rw (← same a ha, ← same b hb) (parts.keeps a ha b hb crosses differ);
    })

pub same_enough : (j : Site) (p q : Greens) → Alike j.streams p q → enough j p ≡ true → enough j q ≡ true
same_enough j p q same e = enough_in j q (λ k h. rw (← same k h) (enough_out j p e k h))

same_least : (n : ℕ) (f g : ℕ → ℕ) (bound : ℕ) → ((k : ℕ) → k < n → f k ≡ g k) → least_to n f bound ≡ least_to n g bound
unfolding least_to
same_least zero f g bound same = refl
same_least (suc n) f g bound same = omega (arith, same n (omega arith), same_least n f g bound (λ k h. same k (omega arith)))

pub same_worst : (j : Site) (p q : Greens) → Alike j.streams p q → worst j p ≡ worst j q
unfolding worst spare
same_worst j p q same =
    same_least j.streams (λ k. (p k).long - j.comes k) (λ k. (q k).long - j.comes k) j.cycle (λ k h. ap (λ (g : Green). g.long - j.comes k) (same k h))

pub same_leaves : (j : Site) (w : ℕ) (p q : Greens) → Alike j.streams p q → Leaves j w p → Leaves j w q
same_leaves j w p q same l =
    record {
      is_good = same_good j p q same l.is_good;
      all_go = same_enough j p q same l.all_go;
      spares = omega (arith, l.spares, same_worst j p q same);
    }

pub same_best : (j : Site) (p q : Greens) → Alike j.streams p q → Best j p → Best j q
same_best j p q same best =
    record {
      is_good = same_good j p q same best.is_good;
      all_go = same_enough j p q same best.all_go;
      most = λ r g e. omega (arith, best.most r g e, same_worst j p q same);
    }

-- what was found for a junction that was read is best for its numbers, where it was written
pub same_found : (read given : Site) (p q : Greens) (w : ℕ) → read ≡ given → Alike read.streams p q → Best read p → w ≡ worst read p → Best given q × (w ≡ worst given q)
same_found read given p q w is same best spares =
    subst (λ (j : Site). Best j q × (w ≡ worst j q)) is (same_best read p q same best, spares ∙ same_worst read p q same)
