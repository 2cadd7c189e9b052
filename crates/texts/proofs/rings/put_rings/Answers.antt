use Rattle.std.proofs.Common.{rules}
use Rattle.texts.specs.Rings.{ring_row}
use Rattle.texts.proofs.Puts.{then_put}
use Rattle.texts.proofs.rings.put_rings.Goals as goal

pub returns : goal.returns
returns c =
    rw (← c.widest_of-width.ensures)
    (then_put c.put_each.result _ _ c.in_ok-put_scale.ensures (c.put_each.ensures (ring_row c.widest_of-width.result c.args.cycle.seconds) (λ old name green result new put. search rules)))
