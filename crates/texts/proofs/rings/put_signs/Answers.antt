use Rattle.std.proofs.Common.{ℕ, cond, rules, tests, ap, arith}
use Rattle.std.proofs.lemmas.Iterator.{YieldsList-from_map, YieldsList-from_range}
use Rattle.greens.specs.Greens.{on}
use Rattle.texts.specs.Rings.{signs_to}
use Rattle.texts.proofs.Extends.{adds_items}
use Rattle.texts.proofs.rings.put_signs.Goals as goal

pub returns : goal.returns
unfolding signs_to
returns c =
    let ran = c.extend.ensures.ran in
    adds_items _ ran.0 _ _ _ c.extend.result ran.1 _ ran.3.0 ran.4
    (YieldsList-from_map {s = ran.0} _ (λ (second : ℕ). cond {A = ℕ} (on c.args.cycle.seconds c.args.green second) 35 46)
    (YieldsList-from_range 0 c.args.cycle.seconds c.args.cycle.seconds (cc) (omega arith)) (ap (λ x. x.f) ran.2) (λ second sign q called. search (rules, tests)))
