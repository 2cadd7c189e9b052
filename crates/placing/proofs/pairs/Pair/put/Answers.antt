use Rattle.std.proofs.Common.{refl, arith}
use Rattle.placing.proofs.Searches.{put_from}
use Rattle.placing.proofs.pairs.Pair.put.Goals as goal

pub returns : goal.returns
returns c =
    put_from c.args.self.now.gaps.now c.args.bounds c.raise.new.self _ c.args.self.now.first c.args.self.now.second _ c.args.self.now.one c.args.self.now.other (omega arith) refl refl refl _ c.in_ok-raise.ensures
