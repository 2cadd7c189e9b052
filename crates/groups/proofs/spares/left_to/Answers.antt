use Rattle.std.proofs.Common.{◌≡◌, arith}
use Rattle.crossing.specs.Taken.{site_of}
use Rattle.groups.proofs.Spare.{under_short, most_stream}
use Rattle.groups.proofs.spares.left_to.Goals as goal

pub returns-then-ends-cycle : goal.returns-then-ends-cycle
returns-then-ends-cycle c = λ there q is_good all_go.
    let whole : c.seconds-cycle.result ≡ (site_of c.args.junction.now).cycle = cc in
    let least : c.stream-ends.result.least ≡ (site_of c.args.junction.now).least c.args.stream = cc in
    absurd (omega (arith, (under_short (site_of c.args.junction.now) c.args.stream there (omega arith)).each q is_good all_go))

pub returns-else-ends-cycle : goal.returns-else-ends-cycle
returns-else-ends-cycle c = λ there. most_stream (site_of c.args.junction.now) c.args.stream _ _ c.checked_sub.result there c.checked_sub.ensures (cc) (cc)
