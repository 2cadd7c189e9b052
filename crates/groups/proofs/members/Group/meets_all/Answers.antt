use Rattle.std.proofs.Common.{rules}
use Rattle.crossing.specs.Taken.{site_of}
use Rattle.crossing.proofs.Ranges.{all_of}
use Rattle.groups.specs.Groups.{meets}
use Rattle.groups.specs.Members.{member_of}
use Rattle.groups.proofs.members.Group.meets_all.Goals as goal

pub returns : goal.returns
returns c = λ there.
    all_of c.args.junction.now.count (meets (site_of c.args.junction.now) (member_of c.args.self.now) c.args.stream)
    c.all.ensures.ran (search rules) (λ x b q k. search rules)
