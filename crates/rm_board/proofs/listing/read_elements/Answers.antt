use Rattle.std.proofs.Common.{get_or, refl, arith}
use Rattle.rm_market.specs.Ties.{contract_of_pair}
use Rattle.rm_board.proofs.ListedOrders.{no_pair, none-read, few-read, one-read, one-bad, all-read, fault-on}
use Rattle.rm_board.proofs.listing.read_elements.Goals as goal

pub loop-i-init : goal.loop-i-init
loop-i-init c = let e = c.in-Ok.ensures.none in none-read _ _ _ _ _ _ e.0 e.1 e.2 e.3

pub check_element-requires-clause-few : goal.check_element-requires-clause-few
check_element-requires-clause-few c = omega (arith, few-read _ _ _ _ _ _ _ c.loop-i.invariant, c.no_element.ensures.few)

pub returns-in-Err-clause-elements : goal.returns-in-Err-clause-elements
returns-in-Err-clause-elements c =
    let r = c.loop-i.invariant in
    fault-on _ _ (contract_of_pair c.args.contracts.now (get_or c.args.pairs.now c.loop-i.i no_pair)) c.args.contracts.now c.args.pairs.now c.in-Err.fault (λ f bad. one-bad _ _ _ _ _ _ _ r _ no_pair f c.loop-i-test.true refl bad) (c.in-Err.ensures.element r.before r.listing)

pub add_element-requires-clause-few : goal.add_element-requires-clause-few
add_element-requires-clause-few c = omega (arith, few-read _ _ _ _ _ _ _ c.loop-i.invariant, c.no_element.ensures.few)

pub loop-i-preserved : goal.loop-i-preserved
loop-i-preserved c =
    let r = c.loop-i.invariant in
    let e = c.in-Ok-check_element.ensures in
    let h = e.element r.before r.listing in
    let a = c.in-Ok-add_element.ensures in
    one-read _ _ _ _ _ _ _ r _ no_pair c.in-Ok-check_element.x _ _ _ _ c.loop-i-test.true refl h.0 h.1 e.below.0 e.new e.above a.order a.named a.last a.greatest

pub returns-clause-elements : goal.returns-clause-elements
returns-clause-elements c = all-read _ _ _ _ _ _ _ c.loop-i.invariant c.loop-i-test.false
