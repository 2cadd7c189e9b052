use Rattle.greens.specs.Plans.{green_of}
use Rattle.crossing.specs.Taken.{site_of}
use Rattle.placing.specs.Searches.{start_of}
use Rattle.planning.specs.Lengths.{plan_for}
use Rattle.planning.proofs.Reach.{overlong_none, reached, unreached}
use Rattle.planning.proofs.Same.{same_leaves}
use Rattle.planning.proofs.laying.Ground.leaving.Goals as goal

pub returns-in_err-setting : goal.returns-in_err-setting
returns-in_err-setting c = rw c.from_residual.ensures (overlong_none (site_of c.args.self.now.junction.now) c.args.spare c.in_err-setting.ensures)

pub returns-in_err-starts : goal.returns-in_err-starts
returns-in_err-starts c =
    rw c.from_residual-in_err-starts.ensures
    (unreached (site_of c.args.self.now.junction.now) c.args.spare c.args.self.now.anchor c.args.self.now.setting c.in_ok-setting.setting c.args.self.now.laid
    c.in_ok-setting.ensures c.args.self.now.there c.in_err-starts.ensures)

pub returns : goal.returns
returns c =
    same_leaves (site_of c.args.self.now.junction.now) c.args.spare (plan_for (site_of c.args.self.now.junction.now) c.args.spare (start_of c.in_ok-starts.starts))
    (green_of c.plan_from.result.greens) c.plan_from.ensures
    (reached (site_of c.args.self.now.junction.now) c.args.spare c.args.self.now.anchor c.args.self.now.setting c.in_ok-setting.setting c.args.self.now.laid
    c.in_ok-setting.ensures (start_of c.in_ok-starts.starts) c.args.self.now.junction.now.few.0 c.in_ok-starts.ensures)
