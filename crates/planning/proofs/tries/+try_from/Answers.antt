use Rattle.std.proofs.Common.{◌+◌, ◌<◌, length, ap, arith}
use Rattle.greens.specs.declared.seconds.Cycle.{Cycle}
use Rattle.crossing.specs.Taken.{site_of}
use Rattle.planning.proofs.Turns.{shorter_more, begun_more, begun_all}
use Rattle.planning.proofs.tries.+try_from.Goals as goal
use Rattle.planning.proofs.tries.+try_from.Goals.{else-loop-long-test, then-loop-long-test+else-long-cycle}

pub loop-from-preserved : goal.loop-from-preserved
loop-from-preserved t c =
    let seconds = ap (λ (cycle : Cycle). cycle.seconds) c.cycle.ensures in
    elim c.loop-long-test.branch [
      | else-loop-long-test w ↦
          rw w.best-is
          (begun_more (site_of c.args.junction.now) c.args.plan.greens c.args.stream c.args.best c.loop-from.best c.loop-long.best
          c.loop-from.from c.loop-long.long (omega arith) (omega (arith, seconds)) c.loop-from.invariant c.loop-long.invariant)
      | then-loop-long-test+else-long-cycle w ↦
          let room : c.args.stream < length c.args.plan.greens = omega (arith, c.args.plan.twelve) in
          rw w.best-is
          (begun_more (site_of c.args.junction.now) c.args.plan.greens c.args.stream c.args.best c.loop-from.best w.try_from-best.result
          c.loop-from.from (c.loop-long.long + 1) (omega arith) (omega (arith, seconds)) c.loop-from.invariant
          (shorter_more (site_of c.args.junction.now) c.args.plan.greens c.args.stream c.loop-from.best c.loop-long.best w.try_from-best.result
          c.loop-from.from c.loop-long.long w.set.new.self.greens room w.set.ensures c.loop-long.invariant w.try_from-best.ensures))
    ]

pub returns : goal.returns
returns t c =
    let seconds = ap (λ (cycle : Cycle). cycle.seconds) c.cycle.ensures in
    begun_all (site_of c.args.junction.now) c.args.plan.greens c.args.stream c.args.best c.loop-from.best c.loop-from.from (omega arith)
    (omega (arith, seconds)) c.loop-from.invariant
