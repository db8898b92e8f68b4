use Rattle.std.proofs.Common.{◌≡◌, ◌<◌, ◌^◌, ◌∙◌, [], length, get_or, filter_map, ap, sym, arith}
use Rattle.std.proofs.lemmas.List.{take_all}
use Rattle.rm_market.specs.Board.{number_of}
use Rattle.rm_market.specs.Market.{listed_of}
use Rattle.rm_board.proofs.ListedContracts.{one-listed, few-listed, distinct-contracts}
use Rattle.rm_board.proofs.wishes.listed.Goals as goal

pub push-requires-clause-few : goal.push-requires-clause-few
push-requires-clause-few c =
    let lt : c.loop-d.d < length c.args.lists.now = omega (arith, c.loop-d-test.true, c.len-d-end.ensures.len) in
    let few : length c.args.lists.now < 2 ^ 32 = omega (arith, c.len-d-end.ensures.len, c.len-d-end.type_inv) in
    rw c.loop-d.invariant (few-listed c.args.contracts.now c.args.lists.now c.loop-d.d lt few)

pub push-requires-clause-distinct : goal.push-requires-clause-distinct
push-requires-clause-distinct c =
    let lt : c.loop-d.d < length c.args.lists.now = omega (arith, c.loop-d-test.true, c.len-d-end.ensures.len) in
    let own : c.deref.result.now ≡ filter_map (number_of c.args.contracts.now c.loop-d.d) (get_or c.args.lists.now c.loop-d.d []) =
    c.deref.ensures.value ∙ (rw (c.clear.ensures.items, c.list.ensures) at c.in_ok-add_found.ensures) in
    rw own (distinct-contracts c.args.contracts.now c.loop-d.d (get_or c.args.lists.now c.loop-d.d []) (c.len-d-end.ensures.distinct c.loop-d.d [] lt))

pub loop-d-preserved : goal.loop-d-preserved
loop-d-preserved c =
    let lt : c.loop-d.d < length c.args.lists.now = omega (arith, c.loop-d-test.true, c.len-d-end.ensures.len) in
    let own : c.deref.result.now ≡ filter_map (number_of c.args.contracts.now c.loop-d.d) (get_or c.args.lists.now c.loop-d.d []) =
    c.deref.ensures.value ∙ (rw (c.clear.ensures.items, c.list.ensures) at c.in_ok-add_found.ensures) in
    c.in_ok-push.ensures.lists ∙ (rw (c.loop-d.invariant, own) (sym (one-listed c.args.contracts.now c.args.lists.now c.loop-d.d lt)))

pub returns : goal.returns
returns c = c.loop-d.invariant ∙ ap (listed_of c.args.contracts.now) (take_all c.loop-d.d c.args.lists.now (omega (arith, c.loop-d-test.false, c.len-d-end.ensures.len)))
