use Rattle.std.proofs.Common.{length}
use Rattle.rm_market.specs.Best.{IsBest, values_of}
use Rattle.rm_case.specs.Case.{market}
use Rattle.rm_top.proofs.Chosen.{best_of_same, rows_within, set_below}
use Rattle.rm_top.proofs.choosing.offers_text.Goals as goal

pub best_subset-requires-clause-offered : goal.best_subset-requires-clause-offered
best_subset-requires-clause-offered c =
    rw (c.board.ensures.board, c.deref.ensures.value) (set_below _ _ c.args.offers.now c.in_ok-offered.ensures.same c.requires c.in_ok-offered.ensures.set)

pub certificate_text-requires : goal.certificate_text-requires
certificate_text-requires c =
    let b = (market c.args.case.now).board in
    let best : IsBest (values_of b) c.args.offers.now c.in_ok-chosen.chosen.items =
    best_of_same (values_of b) c.in_ok-offered.offered.items c.args.offers.now _ c.in_ok-offered.ensures.same (rw (c.board.ensures.board, c.deref.ensures.value) at c.in_ok-chosen.ensures) in
    rw (c.deref-3.ensures.value, c.in_ok-rows.ensures.rows, c.board-2.ensures.board, c.contracts.ensures.contracts, c.deref-2.ensures.value)
    (rows_within (length c.args.case.now.roster.lists) b _ c.args.offers.now c.board.ensures.case.market.board c.requires best)
