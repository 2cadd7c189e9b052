use Rattle.std.proofs.Common.{sym, ◌∙◌}
use Rattle.crossing.specs.Taken.{site_of}
use Rattle.groups.specs.Members.{member_of}
use Rattle.groups.proofs.Spare.{too_much, under_most}
use Rattle.groups.proofs.spares.LeastBoundQuest.look.Goals as goal

pub returns-in-Some : goal.returns-in-Some
returns-in-Some c =
    under_most (site_of c.args.crowd.now.junction.now) c.in-Some.spare c.checked_sub.result
    (too_much (site_of c.args.crowd.now.junction.now) c.in-Some.spare (member_of c.args.crowd.now.group) (sym c.is_overfull.ensures ∙ c.if-is_overfull.true))
    c.checked_sub.ensures
