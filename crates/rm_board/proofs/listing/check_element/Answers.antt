use Rattle.std.proofs.Common.{◌∙◌}
use Rattle.rm_board.proofs.ListedOrders.{against-read}
use Rattle.rm_board.proofs.listing.check_element.Goals as goal

pub returns-then-index-x-clause-element : goal.returns-then-index-x-clause-element
returns-then-index-x-clause-element c before l =
    against-read _ before _ _ _ _ l c.args.pair.now c.in-Some.x c.hospital-h.result c.index-former.result.now c.index.result.now c.index-then-index-x.result.now c.len.result
    c.in-Some.ensures.below.0 c.in-Some.ensures.contract c.requires.wide c.hospital-h.ensures.hospital c.hospital-h.ensures.below c.index-former.ensures c.if-former-ne0.false c.index.ensures c.if-index-x.true
    c.index-then-index-x.ensures (c.len.ensures ∙ c.args.listing.now.order.ok.0)
