use Rattle.std.proofs.Common.{◌≡◌, ◌<◌, ◌+◌, ◌-◌, sym, length, arith}
use Rattle.csv.proofs.RecordFacts.{prev-first, prev-next}
use Rattle.rm_table.proofs.packed_cells.start_of.Goals as goal

pub returns-then-i-eq0 : goal.returns-then-i-eq0
returns-then-i-eq0 c = rw c.if-i-eq0.true (sym (prev-first c.args.ends.now))

pub returns : goal.returns
returns c =
    let one : (c.args.i - 1) + 1 ≡ c.args.i = omega arith in
    let lt : (c.args.i - 1) + 1 < length c.args.ends.now = rw one c.requires in
    sym (rw one at (prev-next 0 c.args.ends.now (c.args.i - 1) 0 lt))
