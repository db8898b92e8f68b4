use Rattle.std.proofs.Common.{arith}
use Rattle.std.proofs.lemmas.Result.{err_from_is_err_and}
use Rattle.rm_board.proofs.ListedOrders.{order-fault, all-read-is, none-missing, one-missing}
use Rattle.rm_board.proofs.listing.listed_order.Goals as goal

pub returns-in_err-listing : goal.returns-in_err-listing
returns-in_err-listing c =
    let p = err_from_is_err_and c.from_residual.result c.from_residual.ensures.1 in
    rw (p.1, p.2) (order-fault c.args.contracts.now c.args.pairs.now c.in_err-listing.field-0.0 c.in_err-listing.ensures.elements)

pub overflow_cast-x : goal.overflow_cast-x
overflow_cast-x c = omega (arith, c.in-Some.ensures.within, c.deref.ensures.len, c.in_ok-listing.ensures.elements.2.contracts, c.in_ok-listing.listing.named.ok.0, c.read_elements.ensures.few)

pub returns-in-Some : goal.returns-in-Some
returns-in-Some c =
    let all = all-read-is _ _ _ _ _ _ c.in_ok-listing.ensures.elements in
    one-missing c.args.contracts.now c.args.pairs.now _ _ c.in-Some.x c.doctor.result c.hospital.result all (rw c.deref.ensures.value at c.in-Some.ensures.first) c.doctor.ensures c.hospital.ensures.hospital

pub returns : goal.returns
returns c =
    let all = all-read-is _ _ _ _ _ _ c.in_ok-listing.ensures.elements in
    none-missing c.args.contracts.now c.args.pairs.now _ _ all (rw c.deref.ensures.value at c.in_default.ensures.first)
