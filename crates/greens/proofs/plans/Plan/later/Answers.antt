use Rattle.std.proofs.Common.{◌≡◌, rules}
use Rattle.greens.specs.Plans.{no_green, green_of}
use Rattle.greens.specs.Rounds.{later}
use Rattle.greens.proofs.Made.{made_of}
use Rattle.greens.proofs.plans.Plan.later.Goals as goal

pub returns : goal.returns
returns c = λ k within.
    made_of _ (λ stream green. green ≡ later c.args.cycle.seconds c.args.by (green_of c.args.self.now.greens stream)) _ c.from_fn.result (λ stream green q called. search rules) 12 c.from_fn.ensures.items k no_green within
