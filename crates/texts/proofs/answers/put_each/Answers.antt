use Rattle.std.proofs.Common.{is_ok, ap, arith}
use Rattle.greens.specs.Plans.{green_of}
use Rattle.texts.proofs.Puts.{each_put, each_all}
use Rattle.texts.proofs.answers.put_each.Goals as goal

pub loop-stream-preserved : goal.loop-stream-preserved
loop-stream-preserved g c piece puts =
    each_put piece c.args.names.now (green_of c.args.plan.now.greens) c.loop-stream.stream puts _ _ _ _ c.put_piece.result _ c.put_piece.ensures (ap is_ok c.in_ok-put_piece.was) c.green.ensures (omega arith) (c.loop-stream.invariant piece puts)

pub returns : goal.returns
returns g c = λ piece puts. record { is = each_all piece c.args.names.now (green_of c.args.plan.now.greens) c.loop-stream.stream _ _ (omega arith) (c.loop-stream.invariant piece puts) }
