use Rattle.std.proofs.Common.{◌≡◌, ◌∙◌, Some, [], get_or, sym, ap, arith, false}
use Rattle.std.specs.Option.{option_map_or}
use Rattle.rm_sets.specs.Sets.{has}
use Rattle.rm_market.specs.Board.{contract_of}
use Rattle.rm_market.specs.Market.{wishes_of}
use Rattle.rm_market.specs.Stable.{list_of}
use Rattle.rm_case.specs.Case.{market}
use Rattle.rm_audit.proofs.PlacedRows.{as_many_ranks, as_many_lists}
use Rattle.rm_audit.proofs.placement.is_listed.Goals as goal

pub find-requires : goal.find-requires
find-requires c = let m = as_many_ranks c.args.case.now c.board.result.now c.board.ensures.case c.board.ensures.board in let lt = c.requires.hospital in omega arith

pub list-requires : goal.list-requires
list-requires c = let m = as_many_lists c.args.case.now c.listed.result.now c.listed.ensures.case c.listed.ensures.listed in let lt = c.requires.doctor in omega arith

pub returns-in-Some : goal.returns-in-Some
returns-in-Some c =
    let w = wishes_of (market c.args.case.now) in
    let found : contract_of (market c.args.case.now).board c.args.d c.args.h ≡ Some c.in-Some.x = ap (λ b. contract_of b c.args.d c.args.h) (sym c.board.ensures.board) ∙ (sym c.find.ensures ∙ c.in-Some.is) in
    let list : c.list.result.now ≡ list_of w c.args.d = c.list.ensures ∙ ap (λ L. get_or L c.args.d []) c.listed.ensures.listed in
    c.holds.ensures ∙ (ap (has c.in-Some.x) list ∙ sym (ap (λ o. option_map_or (λ x. has x (list_of w c.args.d)) o false) found))
