use Rattle.std.proofs.Common.{sym, subst, arith, ◌∙◌}
use Rattle.std.proofs.lemmas.List.{length-take-le}
use Rattle.std.specs.Prelude.{not}
use Rattle.rm_sets.specs.Sets.{IsSetBelow, has, minus}
use Rattle.rm_sets.proofs.Members.{IsSetBelow-smaller, IsSetBelow-filter}
use Rattle.rm_sets.proofs.Sizes.{length_below}
use Rattle.rm_market.specs.Board.{contract_count}
use Rattle.rm_verdict_laws.proofs.Over.{feasible_from_none}
use Rattle.rm_valuation.proofs.Taken.{outside}
use Rattle.rm_exchange.proofs.FirstChange.{verdict_over}
use Rattle.rm_exchange.proofs.verdicts.verdict.Goals as goal

pub count_all-requires-clause-chosen : goal.count_all-requires-clause-chosen
count_all-requires-clause-chosen c = IsSetBelow-smaller (contract_count c.args.board.now) c.args.chosen.now c.args.offered.now c.requires.offered c.requires.chosen c.requires.within

pub returns-in-Some-clause-verdict : goal.returns-in-Some-clause-verdict
returns-in-Some-clause-verdict c =
    verdict_over c.args.board.now c.args.offered.now c.args.chosen.now c.in-Some.node (sym (c.first_over.ensures c.args.chosen.now c.count_all.ensures.counts) ∙ c.in-Some.is)

pub write_refused-refused-requires-clause-space : goal.write_refused-refused-requires-clause-space
write_refused-refused-requires-clause-space c =
    let short = length_below (contract_count c.args.board.now) c.args.offered.now c.requires.offered in
    let space = c.requires.list in
    omega (arith, short, space)

pub slice_bounds-first_change-end : goal.slice_bounds-first_change-end
slice_bounds-first_change-end c =
    let short = length_below (contract_count c.args.board.now) c.args.offered.now c.requires.offered in
    let space = c.requires.list in
    let within = c.write_refused-refused.ensures.within in
    let same = c.write_refused-refused.ensures.length in
    omega (arith, short, space, within, same)

pub slice_bounds-first_change-end-2 : goal.slice_bounds-first_change-end-2
slice_bounds-first_change-end-2 c =
    let short = length_below (contract_count c.args.board.now) c.args.offered.now c.requires.offered in
    let space = c.requires.list in
    let within = c.write_refused-refused.ensures.within in
    let same = c.write_refused-refused.ensures.length in
    sym (length-take-le c.write_refused-refused.result c.write_refused-refused.new.list (omega (arith, short, space, within, same)))

pub first_change-requires-clause-chosen : goal.first_change-requires-clause-chosen
first_change-requires-clause-chosen c = record {
  board = c.requires.board;
  set = IsSetBelow-smaller (contract_count c.args.board.now) c.args.chosen.now c.args.offered.now c.requires.offered c.requires.chosen c.requires.within;
  feasible = feasible_from_none c.args.board.now c.args.chosen.now (sym (c.first_over.ensures c.args.chosen.now c.count_all.ensures.counts) ∙ c.in_default.is);
}

pub first_change-requires-clause-refused : goal.first_change-requires-clause-refused
unfolding minus
first_change-requires-clause-refused c =
    subst (IsSetBelow (contract_count c.args.board.now)) (sym c.write_refused-refused.ensures.written) (IsSetBelow-filter (contract_count c.args.board.now) (λ x. not (has x c.args.chosen.now)) c.args.offered.now c.requires.offered)

pub first_change-requires-clause-outside : goal.first_change-requires-clause-outside
first_change-requires-clause-outside c = outside _ c.args.offered.now c.args.chosen.now c.write_refused-refused.ensures.written
