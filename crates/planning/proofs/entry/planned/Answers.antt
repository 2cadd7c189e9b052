use Rattle.std.proofs.Common.{sym, arith, rules}
use Rattle.greens.specs.Plans.{green_of}
use Rattle.crossing.specs.Numbers.{site_in}
use Rattle.crossing.specs.Taken.{site_of}
use Rattle.crossing.proofs.Refused.{room_taken}
use Rattle.planning.specs.Entry.{plan_in}
use Rattle.planning.proofs.Same.{same_found}
use Rattle.planning.proofs.entry.planned.Goals as goal

pub returns : goal.returns
returns c =
    let room = room_taken c.in_ok-junction.junction.count c.args.room.now (search rules) in
    let found = same_found (site_of c.in_ok-junction.junction) (site_in c.args.cycle c.args.streams c.args.pairs.now c.args.table.now)
    (green_of c.in-Some.found.plan.greens) (plan_in c.write_plan.new.room) c.in-Some.found.spare c.in_ok-junction.ensures.1
    (λ k h. sym (c.write_plan.ensures k (omega (arith, room)))) c.in-Some.ensures.0 c.in-Some.ensures.1
    in
    (search rules, search rules, found.0, found.1)
