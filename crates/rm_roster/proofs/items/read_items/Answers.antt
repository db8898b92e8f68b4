use Rattle.std.proofs.Common.{◌≡◌, ◌∙◌, sym, arith, true, false, ◌==◌, length, refl}
use Rattle.std.proofs.lemmas.Result.{err_from_is_err_and}
use Rattle.rm_roster.proofs.ItemCells.{none-read, one-read, one-refused, all-read}
use Rattle.rm_base.proofs.Stopping.{stops-on}
use Rattle.rm_roster.proofs.items.read_items.Goals as goal

pub loop-j-init : goal.loop-j-init
loop-j-init c = none-read c.args.file c.args.limit c.args.i c.args.names.now c.args.row.now c.args.lists.now

pub loop-j-preserved-then-is_empty : goal.loop-j-preserved-then-is_empty
loop-j-preserved-then-is_empty c =
    let lt = rw c.len-j-end.ensures at c.loop-j-test.true in
    let empty : (length c.cell-cell.result.now == 0) ≡ true = sym c.is_empty.ensures ∙ c.if-is_empty.true in
    one-read c.args.file c.args.limit c.args.i c.args.names.now c.args.row.now c.loop-j.j c.args.lists.now c.loop-j.lists c.loop-j.lists c.cell-cell.result.now c.loop-j.invariant lt c.cell-cell.ensures
    c.requires.begun c.requires.within c.requires.empty (rw empty refl) (rw empty refl)

pub returns-in_err-push_item : goal.returns-in_err-push_item
returns-in_err-push_item c =
    let p = err_from_is_err_and c.from_residual.result c.from_residual.ensures.1 in
    let lt = rw c.len-j-end.ensures at c.loop-j-test.true in
    let filled : (length c.cell-cell.result.now == 0) ≡ false = sym c.is_empty.ensures ∙ c.if-is_empty.false in
    rw (p.1, p.2) (stops-on _ _ c.in_err-push_item.field-0.0
    (λ refusal some. one-refused c.args.file c.args.limit c.args.i c.args.names.now c.args.row.now c.loop-j.j c.args.lists.now c.loop-j.lists c.cell-cell.result.now refusal c.loop-j.invariant lt c.cell-cell.ensures
    c.requires.begun c.requires.within c.requires.empty (rw (filled, ← c.find-item.ensures) some))
    c.in_err-push_item.ensures)

pub loop-j-preserved : goal.loop-j-preserved
loop-j-preserved c =
    let lt = rw c.len-j-end.ensures at c.loop-j-test.true in
    let filled : (length c.cell-cell.result.now == 0) ≡ false = sym c.is_empty.ensures ∙ c.if-is_empty.false in
    let told = c.in_ok-push_item.ensures in
    one-read c.args.file c.args.limit c.args.i c.args.names.now c.args.row.now c.loop-j.j c.args.lists.now c.loop-j.lists c.push_item.new.lists c.cell-cell.result.now c.loop-j.invariant lt c.cell-cell.ensures
    c.requires.begun c.requires.within c.requires.empty (rw (filled, ← c.find-item.ensures) told.0) (rw (filled, ← c.find-item.ensures) told.1)

pub returns : goal.returns
returns c = all-read c.args.file c.args.limit c.args.i c.args.names.now c.args.row.now c.loop-j.j c.args.lists.now c.loop-j.lists c.loop-j.invariant (omega arith)
