use Rattle.std.proofs.Common.{◌<◌, length, arith}
use Rattle.rm_report.proofs.ListedCounts.{listed-fits}
use Rattle.rm_report.proofs.check.listed_count.Goals as goal

pub overflow_add-count : goal.overflow_add-count
overflow_add-count c =
    let low : c.loop-d.d < length c.listed-listed.result.now = rw c.len-d-end.ensures.len at c.loop-d-test.true in
    omega (arith, listed-fits c.args.case.now c.listed-listed.result.now c.loop-d.d c.loop-d.count c.list.result.now c.listed-listed.ensures.case c.listed-listed.ensures.listed low c.loop-d.invariant c.list.ensures)
