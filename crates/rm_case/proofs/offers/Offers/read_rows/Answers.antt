use Rattle.std.proofs.Common.{◌≡◌, ◌∙◌, [], None, replicate, arith, rules}
use Rattle.rm_market.specs.Board.{contract_count}
use Rattle.rm_case.specs.Case.{market}
use Rattle.rm_case.specs.Own.{offer_checks, row_contract}
use Rattle.rm_base.proofs.Stopping.{stops-on}
use Rattle.rm_case.proofs.NumberedRows.{all-numbered, none-numbered, one-more, one-refused}
use Rattle.rm_case.proofs.OfferRows.{checks-at}
use Rattle.rm_case.proofs.offers.Offers.read_rows.Goals as goal

pub loop-i-init : goal.loop-i-init
loop-i-init c =
    let rows : c.in-Ok.rows.items ≡ replicate c.contracts.result None = search rules in
    let count : c.contracts.result ≡ contract_count (market c.args.case.now).board = search rules in
    let none : c.new-contracts.result.items ≡ [] = search rules in
    rw (rows, none) (none-numbered (offer_checks c.args.case.now) (row_contract c.args.case.now) (contract_count (market c.args.case.now).board) c.args.table.now c.contracts.result count)

pub returns-in-Err-clause-reads : goal.returns-in-Err-clause-reads
returns-in-Err-clause-reads c =
    let lt = rw c.rows-i-end.ensures at c.loop-i-test.true in
    let stops = rw c.deref.ensures.value at c.in-Err.ensures.stops in
    let checks = checks-at c.args.case.now c.args.table.now c.loop-i.i c.loop-i.rows.items c.loop-i.contracts.items c.row.result c.loop-i.invariant in
    stops-on _ _ c.in-Err.fault
    (λ refusal some. one-refused (offer_checks c.args.case.now) (row_contract c.args.case.now) (contract_count (market c.args.case.now).board) c.args.table.now c.loop-i.i
    c.loop-i.rows.items c.loop-i.contracts.items c.loop-i.invariant c.row.result refusal lt c.row.ensures (checks ∙ some))
    stops

pub loop-i-preserved : goal.loop-i-preserved
loop-i-preserved c =
    let lt = rw c.rows-i-end.ensures at c.loop-i-test.true in
    let passes = rw c.deref.ensures.value at c.in-Ok-read_offer.ensures.passes in
    let told = rw c.deref.ensures.value at c.in-Ok-read_offer.ensures.contract in
    let pushed = rw c.if-is_err.ensures.negation at c.push.ensures.items in
    let checks = checks-at c.args.case.now c.args.table.now c.loop-i.i c.loop-i.rows.items c.loop-i.contracts.items c.row.result c.loop-i.invariant in
    rw pushed (one-more (offer_checks c.args.case.now) (row_contract c.args.case.now) (contract_count (market c.args.case.now).board) c.args.table.now c.loop-i.i
    c.loop-i.rows.items c.loop-i.contracts.items c.loop-i.invariant c.row.result c.in-Ok-read_offer.x lt c.row.ensures (checks ∙ passes) told.0 told.1 told.2)

pub returns-clause-reads : goal.returns-clause-reads
returns-clause-reads c =
    all-numbered (offer_checks c.args.case.now) (row_contract c.args.case.now) (contract_count (market c.args.case.now).board) c.args.table.now c.loop-i.i
    c.loop-i.rows.items c.loop-i.contracts.items c.loop-i.invariant (omega arith)
