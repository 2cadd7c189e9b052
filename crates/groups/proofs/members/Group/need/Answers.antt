use Rattle.std.proofs.Common.{rules, tests, arith}
use Rattle.crossing.specs.Taken.{site_of}
use Rattle.groups.specs.Groups.{need, asked, share}
use Rattle.groups.specs.Members.{member_of}
use Rattle.groups.proofs.Chains.{sum_of, sum_fits}
use Rattle.groups.proofs.members.Group.need.Goals as goal

-- at most twelve shares of at most 765
pub sum-requires-clause-fits : goal.sum-requires-clause-fits
sum-requires-clause-fits c =
    sum_fits c.args.junction.now.count 12 _ c.map.ensures.source (search rules) c.map.ensures.closure (omega arith) (omega arith) (λ x r q k. search (rules, tests))

pub returns : goal.returns
unfolding need
returns c =
    sum_of c.args.junction.now.count (share (site_of c.args.junction.now) (asked (site_of c.args.junction.now) c.args.spare) (member_of c.args.self.now))
    c.sum.ensures.ran c.map.ensures.source (search rules) c.map.ensures.closure (λ x r q k. search rules)
