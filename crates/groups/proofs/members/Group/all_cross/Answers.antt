use Rattle.std.proofs.Common.{rules}
use Rattle.crossing.specs.Below.{all_to}
use Rattle.crossing.specs.Taken.{site_of}
use Rattle.crossing.proofs.Ranges.{all_of}
use Rattle.groups.specs.Groups.{meets, all_cross}
use Rattle.groups.specs.Members.{member_of}
use Rattle.groups.proofs.members.Group.all_cross.Goals as goal

pub returns : goal.returns
unfolding all_cross
returns c =
    all_of c.args.junction.now.count (λ a. all_to c.args.junction.now.count (meets (site_of c.args.junction.now) (member_of c.args.self.now) a))
    c.all.ensures.ran (search rules) (λ x b q k. search rules)
