use Rattle.std.proofs.Common.{◌≡◌, ◌∙◌, ◌<◌, length, get_or, Some, None, sym, ap, subst, arith}
use Rattle.std.proofs.lemmas.Option.{get_or_from_slice_get}
use Rattle.rm_market.specs.Board.{contract_of, contract_count}
use Rattle.rm_case.specs.Case.{market}
use Rattle.rm_audit.proofs.Marks.{marks_stay, unranked_place, marked_more, all_marked}
use Rattle.rm_audit.proofs.Walkable.{place_low}
use Rattle.rm_audit.proofs.finding.marks_of.Goals as goal

pub find-requires : goal.find-requires
find-requires c =
    let place = get_or_from_slice_get c.args.places.now c.loop-d.d c.get.result None c.get.ensures ∙ c.in-Some.is in
    subst (λ b. c.in-Some.h < length b.ranks) (sym c.board-board.ensures.board) (place_low c.args.case.now c.args.places.now c.loop-d.d c.in-Some.h c.board-board.ensures.case c.requires place).0

pub loop-d-preserved-in_default-find : goal.loop-d-preserved-in_default-find
loop-d-preserved-in_default-find c =
    let place = get_or_from_slice_get c.args.places.now c.loop-d.d c.get.result None c.get.ensures ∙ c.in-Some.is in
    let unranked = sym c.find.ensures ∙ c.in_default-find.is in
    marks_stay c.board-board.result.now c.args.places.now c.loop-d.d c.loop-d.marks.items (unranked_place c.board-board.result.now c.args.places.now c.loop-d.d c.in-Some.h place unranked) c.loop-d.invariant

pub index_mut-requires : goal.index_mut-requires
index_mut-requires c =
    let b = c.board-board.result.now in
    let place = get_or_from_slice_get c.args.places.now c.loop-d.d c.get.result None c.get.ensures ∙ c.in-Some.is in
    let is = sym c.find.ensures ∙ c.in-Some-find.is in
    let low = (place_low c.args.case.now c.args.places.now c.loop-d.d c.in-Some.h c.board-board.ensures.case c.requires place).1 c.in-Some-find.x (subst (λ e. contract_of e c.loop-d.d c.in-Some.h ≡ Some c.in-Some-find.x) c.board-board.ensures.board is) in
    let all = c.loop-d.invariant.all ∙ ap contract_count c.board-board.ensures.board in
    let long = c.loop-d.marks.ok.0 in
    omega arith

pub loop-d-preserved : goal.loop-d-preserved
loop-d-preserved c =
    let b = c.board-board.result.now in
    let place = get_or_from_slice_get c.args.places.now c.loop-d.d c.get.result None c.get.ensures ∙ c.in-Some.is in
    let is = sym c.find.ensures ∙ c.in-Some-find.is in
    let low = (place_low c.args.case.now c.args.places.now c.loop-d.d c.in-Some.h c.board-board.ensures.case c.requires place).1 c.in-Some-find.x (subst (λ e. contract_of e c.loop-d.d c.in-Some.h ≡ Some c.in-Some-find.x) c.board-board.ensures.board is) in
    let all = c.loop-d.invariant.all ∙ ap contract_count c.board-board.ensures.board in
    marked_more b c.args.places.now c.loop-d.d c.loop-d.marks.items c.in-Some.h c.in-Some-find.x place is (omega arith) c.loop-d.invariant

pub returns-clause-marks : goal.returns-clause-marks
returns-clause-marks c =
    let past = c.loop-d-test.false in
    let all = c.len-d-end.ensures in
    all_marked (market c.args.case.now) c.board-board.result.now c.args.places.now c.loop-d.d c.loop-d.marks.items c.board-board.ensures.board (omega arith) c.loop-d.invariant
