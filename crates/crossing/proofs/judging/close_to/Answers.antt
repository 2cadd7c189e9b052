use Rattle.std.proofs.Common.{rules, tests, ℕ, Bool, ◌-◌, not, ◌&&◌, eqb, ltb}
use Rattle.greens.specs.Plans.{green_of}
use Rattle.crossing.specs.Good.{close}
use Rattle.crossing.proofs.Ranges.{place_of}
use Rattle.crossing.proofs.judging.close_to.Goals as goal

pub returns : goal.returns
returns c =
    let greens = green_of c.args.plan.now.greens in
    let near : ℕ → ℕ → Bool = λ b number. ltb 0 number && (not (eqb c.args.a b) && close c.args.cycle.seconds (number - 1) (greens c.args.a) (greens b) c.args.second) in
    place_of c.args.row.now near _ _ c.position.result c.position.ensures.ran (cc) (cc) (λ x b q k. search (rules, tests))
