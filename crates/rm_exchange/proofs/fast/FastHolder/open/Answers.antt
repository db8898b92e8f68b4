use Rattle.std.proofs.Common.{◌∙◌, All, map, replicate, None, ◌<◌, ap, sym, subst}
use Rattle.std.specs.Prelude.{◌^◌}
use Rattle.rm_market.specs.Board.{contract_count}
use Rattle.rm_valuation_laws.proofs.BestOf.{board_best}
use Rattle.rm_exchange.specs.Holding.{held_in}
use Rattle.rm_exchange.proofs.Opening.{has_hospitals, none_held, none_best, opened}
use Rattle.rm_exchange.proofs.fast.FastHolder.open.Goals as goal

pub nothing-requires : goal.nothing-requires
nothing-requires c = subst (λ widths. All (λ w. w < 2 ^ 40) widths) (sym c.deref.ensures.value) c.in_ok-at.ensures.few

pub invariant_of-result : goal.invariant_of-result
invariant_of-result c =
    let b = c.args.board.now in
    let at = c.in_ok-at.ensures in
    let plan = has_hospitals c.requires.0 b c.requires.1 at.hospitals at.own c.in_ok-holding.ensures.hospitals in
    let h = c.in_ok-holding.holding in
    record {
      concave = plan.concave;
      leaves = plan.leaves;
      settled = none_best b (held_in b h) plan (none_held (contract_count b) h.marks.items c.in_ok-holding.ensures.marks);
      kept = ∣ opened b c.in_ok-at.at.places.items c.in_ok-at.at.widths.items h plan at.small at.wide at.placed c.in_ok-holding.ensures.counts c.in_ok-holding.ensures.nexts c.in_ok-holding.ensures.marks c.in_ok-holding.ensures.leaves
          (c.in_ok-holding.ensures.rivals ∙ ap (λ widths. map (λ width. replicate width None) widths) c.deref.ensures.value) ∣₁;
    }

pub returns-clause-held : goal.returns-clause-held
returns-clause-held c = none_held (contract_count c.args.board.now) c.in_ok-holding.holding.marks.items c.in_ok-holding.ensures.marks

pub returns-clause-best : goal.returns-clause-best
returns-clause-best c = λ X x. board_best c.requires.0 c.args.board.now X c.requires.1 x
