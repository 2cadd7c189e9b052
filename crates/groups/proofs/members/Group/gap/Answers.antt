use Rattle.std.proofs.Common.{◌∙◌, rules, tests}
use Rattle.crossing.specs.Taken.{site_of}
use Rattle.groups.specs.Groups.{other, gap}
use Rattle.groups.specs.Members.{member_of}
use Rattle.groups.proofs.Chains.{least_of}
use Rattle.groups.proofs.members.Group.gap.Goals as goal

pub returns : goal.returns
unfolding gap
returns c = λ there.
    c.unwrap_or.ensures ∙ least_of c.args.junction.now.count (other (member_of c.args.self.now) c.args.stream) ((site_of c.args.junction.now).clear c.args.stream)
    c.min.result c.min.ensures.ran c.map.ensures.source c.map.ensures.closure c.filter.ensures.source c.filter.ensures.closure (search rules)
    (λ x b q k. search (rules, tests)) (λ x r q k. search rules)
