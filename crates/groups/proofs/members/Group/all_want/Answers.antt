use Rattle.std.proofs.Common.{rules}
use Rattle.crossing.specs.Taken.{site_of}
use Rattle.crossing.proofs.Ranges.{all_of}
use Rattle.groups.specs.Groups.{wants}
use Rattle.groups.specs.Members.{member_of}
use Rattle.groups.proofs.members.Group.all_want.Goals as goal

pub returns : goal.returns
returns c =
    all_of c.args.junction.now.count (wants (site_of c.args.junction.now) c.args.spare (member_of c.args.self.now))
    c.all.ensures.ran (search rules) (λ x b q k. search rules)
