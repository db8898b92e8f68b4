use Rattle.rm_base.proofs.Stopping.{stops-on}
use Rattle.rm_transit.proofs.EventRows.{one_refused, one_more, all_read}
use Rattle.rm_transit.proofs.event_file.read_rows.Goals as goal

pub returns-in-Err-clause-stops : goal.returns-in-Err-clause-stops
returns-in-Err-clause-stops c =
    let lt = rw c.rows-i-end.ensures at c.loop-i-test.true in
    let stops = c.in-Err.ensures.stops in
    stops-on _ _ c.in-Err.fault
    (λ refusal some. one_refused c.args.case.now c.args.table.now c.loop-i.i c.loop-i.events.items c.loop-i.invariant c.row.result refusal lt c.row.ensures some)
    stops

pub loop-i-preserved : goal.loop-i-preserved
loop-i-preserved c =
    let lt = rw c.rows-i-end.ensures at c.loop-i-test.true in
    let passes = c.in-Ok-read_event.ensures.passes in
    let told = c.in-Ok-read_event.ensures.event in
    let pushed = rw c.if-is_err.ensures.negation at c.push.ensures.items in
    rw pushed (one_more c.args.case.now c.args.table.now c.loop-i.i c.loop-i.events.items c.loop-i.invariant c.row.result c.in-Ok-read_event.event lt c.row.ensures passes told c.in-Ok-read_event.ensures.known)

pub returns-clause-passes : goal.returns-clause-passes
returns-clause-passes c =
    let end = rw c.rows-i-end.ensures at c.loop-i-test.false in
    (all_read c.args.case.now c.args.table.now c.loop-i.i c.loop-i.events.items c.loop-i.invariant end).0

pub returns-clause-events : goal.returns-clause-events
returns-clause-events c =
    let end = rw c.rows-i-end.ensures at c.loop-i-test.false in
    (all_read c.args.case.now c.args.table.now c.loop-i.i c.loop-i.events.items c.loop-i.invariant end).1
