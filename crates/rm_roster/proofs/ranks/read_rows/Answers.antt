use Rattle.std.proofs.Common.{◌∙◌, arith}
use Rattle.rm_roster.proofs.RankRows.{none-read, one-read, one-refused, all-read, unbegun-empty}
use Rattle.rm_base.proofs.Stopping.{stops-on}
use Rattle.rm_roster.proofs.ranks.read_rows.Goals as goal

pub loop-i-init : goal.loop-i-init
loop-i-init c = rw c.in-Ok.ensures (none-read c.args.hospitals.now c.args.doctors.now c.args.table.now c.len.result c.len-2.result c.len.ensures.count c.len-2.ensures.count)

pub read_rank-requires : goal.read_rank-requires
read_rank-requires c =
    let r = c.loop-i.invariant in
    record {
      room = omega (arith, r.all_lists);
      empty = unbegun-empty c.args.hospitals.now c.args.doctors.now c.args.table.now c.loop-i.i c.loop-i.lists r;
      items = omega (arith, r.items_is);
      limit = r.limit_is;
    }

pub returns-in-Err : goal.returns-in-Err
returns-in-Err c =
    let lt = rw c.rows-i-end.ensures at c.loop-i-test.true in
    stops-on _ _ c.in-Err.fault (λ refusal some. one-refused c.args.hospitals.now c.args.doctors.now c.args.table.now c.loop-i.i c.loop-i.lists c.row.result refusal c.loop-i.invariant lt c.row.ensures some)
    c.in-Err.ensures.stops

pub loop-i-preserved : goal.loop-i-preserved
loop-i-preserved c =
    let lt = rw c.rows-i-end.ensures at c.loop-i-test.true in
    let told = c.in-Ok-read_rank.ensures in
    one-read c.args.hospitals.now c.args.doctors.now c.args.table.now c.loop-i.i c.loop-i.lists c.read_rank.new.lists c.row.result _ c.loop-i.invariant lt c.row.ensures told.passes told.lists.0 told.lists.1 told.lists.2

pub returns : goal.returns
returns c =
    let all = all-read c.args.hospitals.now c.args.doctors.now c.args.table.now c.loop-i.i c.loop-i.lists c.loop-i.invariant (omega arith) in
    (all.0, c.in-Ok-finish.ensures.lists ∙ all.1)
