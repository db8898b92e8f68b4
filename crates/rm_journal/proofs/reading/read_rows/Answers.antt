use Rattle.std.proofs.Common.{arith}
use Rattle.rm_journal.proofs.Read.{all-read, one-more, one-refused}
use Rattle.rm_journal.proofs.reading.read_rows.Goals as goal

pub returns-in-Err-clause-stops : goal.returns-in-Err-clause-stops
returns-in-Err-clause-stops c =
    let lt = rw c.rows-i-end.ensures at c.loop-i-test.true in
    one-refused c.args.case.now c.args.table.now c.loop-i.i c.loop-i.entries.items c.loop-i.invariant c.row.result lt c.row.ensures c.in-Err.fault c.in-Err.ensures.stops

pub loop-i-preserved : goal.loop-i-preserved
loop-i-preserved c =
    let lt = rw c.rows-i-end.ensures at c.loop-i-test.true in
    let told = c.in-Ok.ensures in
    let pushed = rw c.if-is_err.ensures.negation at c.push.ensures.items in
    one-more c.args.case.now c.args.table.now c.loop-i.i c.loop-i.entries.items c.loop-i.invariant c.row.result lt c.row.ensures c.in-Ok.entry c.push.new.self.items told.passes told.entry told.contracts pushed

pub returns-clause-reads : goal.returns-clause-reads
returns-clause-reads c = all-read c.args.case.now c.args.table.now c.loop-i.i c.loop-i.entries.items c.loop-i.invariant (omega arith)
