use Rattle.std.proofs.Common.{rules, ◌≡◌, sym, ◌∙◌, subst}
use Rattle.std.specs.Prelude.{Err}
use Rattle.greens.specs.declared.seconds.Cycle.{Cycle}
use Rattle.crossing.specs.Taken.{Read}
use Rattle.crossing.proofs.Refused.{cycle_err, cycle_ok, cycle_taken, streams_taken, table_taken, faultless_both}
use Rattle.crossing.proofs.SameSite.{stream_same, site_same}
use Rattle.crossing.proofs.junctions.Junction.read.Goals as goal

pub returns-in_err-seconds : goal.returns-in_err-seconds
returns-in_err-seconds c =
    let refused = c.in_err-seconds.field-0.0 in
    let answer : c.from_residual.result ≡ Err refused = search rules in
    subst (λ r. Read c.args.cycle c.args.streams c.args.pairs.now c.args.table.now r) (sym answer)
    (cycle_err (λ (cycle : Cycle). cycle.seconds) c.args.cycle c.args.streams c.args.pairs.now c.args.table.now c.new.result refused c.new.ensures (sym c.in_err-seconds.ensures.value))

pub returns-in_err-check_streams : goal.returns-in_err-check_streams
returns-in_err-check_streams c =
    let refused = c.in_err-check_streams.field-0.0 in
    let answer : c.from_residual-in_err-check_streams.result ≡ Err refused = search rules in
    let cycle = cycle_ok (λ (cycle : Cycle). cycle.seconds) c.args.cycle c.new.result c.in_ok-seconds.seconds c.new.ensures (sym c.in_ok-seconds.ensures.value) c.in_ok-seconds.seconds.fits in
    subst (λ r. Read c.args.cycle c.args.streams c.args.pairs.now c.args.table.now r) (sym answer)
    (cycle_taken c.args.cycle c.args.streams c.args.pairs.now c.args.table.now cycle.1 cycle.2
    ∙ rw (sym c.in_err-check_streams.ensures))

pub returns-in_err-check_table : goal.returns-in_err-check_table
returns-in_err-check_table c =
    let refused = c.in_err-check_table.field-0.0 in
    let answer : c.from_residual-in_err-check_table.result ≡ Err refused = search rules in
    let cycle = cycle_ok (λ (cycle : Cycle). cycle.seconds) c.args.cycle c.new.result c.in_ok-seconds.seconds c.new.ensures (sym c.in_ok-seconds.ensures.value) c.in_ok-seconds.seconds.fits in
    subst (λ r. Read c.args.cycle c.args.streams c.args.pairs.now c.args.table.now r) (sym answer)
    (cycle_taken c.args.cycle c.args.streams c.args.pairs.now c.args.table.now cycle.1 cycle.2
    ∙ rw (sym c.in_ok-check_streams.ensures, sym c.in_err-check_table.ensures))

pub invariant_of-result : goal.invariant_of-result
invariant_of-result c =
    let streams = streams_taken c.args.streams c.args.pairs.now (sym c.in_ok-check_streams.ensures) in
    let table = table_taken c.args.streams c.args.table.now (sym c.in_ok-check_table.ensures) in
    record {
      few = (streams.some, streams.few);
      sized = (c.streams_in.ensures.len, c.table_in.ensures.len);
      both = faultless_both c.args.streams c.args.table.now c.table_in.result table.faultless c.table_in.ensures.each;
    }

pub returns : goal.returns
returns c =
    let streams = streams_taken c.args.streams c.args.pairs.now (sym c.in_ok-check_streams.ensures) in
    let cycle = cycle_ok (λ (cycle : Cycle). cycle.seconds) c.args.cycle c.new.result c.in_ok-seconds.seconds c.new.ensures (sym c.in_ok-seconds.ensures.value) c.in_ok-seconds.seconds.fits in (
      cycle_taken c.args.cycle c.args.streams c.args.pairs.now c.args.table.now cycle.1 cycle.2
          ∙ rw (sym c.in_ok-check_streams.ensures, sym c.in_ok-check_table.ensures),
      site_same c.args.streams c.args.pairs.now c.streams_in.result
          (stream_same c.args.streams c.args.pairs.now c.streams_in.result streams.paired streams.few c.streams_in.ensures.len c.streams_in.ensures.each)
          c.in_ok-seconds.seconds.seconds c.args.cycle c.table_in.result c.args.table.now cycle.0 c.table_in.ensures.each,
    )
