use Rattle.std.proofs.Common.{◌<◌, length, sym, ap, subst, ◌∙◌}
use Rattle.rm_sets.proofs.Members.{members_from_All}
use Rattle.rm_market.specs.Board.{contract_count}
use Rattle.rm_valuation.specs.Counts.{AreCounts}
use Rattle.rm_verdict_laws.proofs.OneCertificate.{certificate_says}
use Rattle.rm_exchange.specs.Counted.{IsChosen}
use Rattle.rm_exchange.specs.RowsBelow.{AreLasts, AreRowsBelow}
use Rattle.rm_exchange.proofs.Rows.{best_below, no_row, rows_are, written_back}
use Rattle.rm_exchange.proofs.certificates.certificate.Goals as goal

pub count_all-requires-clause-chosen : goal.count_all-requires-clause-chosen
count_all-requires-clause-chosen c = best_below c.args.board.now c.args.offered.now c.args.chosen.now c.requires.offered c.requires.best

pub first_rows-requires-clause-chosen : goal.first_rows-requires-clause-chosen
first_rows-requires-clause-chosen c = record {
  board = c.requires.board;
  set = best_below c.args.board.now c.args.offered.now c.args.chosen.now c.requires.offered c.requires.best;
  feasible = c.requires.best.feasible;
}

pub lasts-requires : goal.lasts-requires
lasts-requires c = best_below c.args.board.now c.args.offered.now c.args.chosen.now c.requires.offered c.requires.best

pub returns-clause-rows : goal.returns-clause-rows
returns-clause-rows c =
    let b = c.args.board.now in
    let S = c.args.chosen.now in
    let chosen : IsChosen b S = record {
      board = c.requires.board;
      set = best_below b c.args.offered.now S c.requires.offered c.requires.best;
      feasible = c.requires.best.feasible;
    } in
    let counts : AreCounts b S c.deref_mut-2.result.now =
    c.count_all.ensures.counts
    ∙ sym (c.deref_mut-2.ensures.value ∙ written_back c.in_ok-counts.counts.len c.count_all.new.counts c.in_ok-counts.counts.items c.in_ok-counts.counts.ok.0 (c.count_all.auto.counts ∙ ap length c.deref_mut.ensures.value)) in
    let lasts : AreLasts b S c.deref-2.result.now = subst (AreLasts b S) (sym c.deref-2.ensures.value) c.in_ok-lasts.ensures.lasts in
    let first : AreRowsBelow b S 0 c.args.offered.now c.deref_mut-3.result.now = subst (AreRowsBelow b S 0 c.args.offered.now) (sym c.deref_mut-3.ensures.value) c.in_ok-rows.ensures.rows in
    let rows = c.try_leaves.ensures.rows S chosen counts lasts first in
    written_back c.in_ok-rows.rows.len c.try_leaves.new.rows c.in_ok-rows.rows.items c.in_ok-rows.rows.ok.0 (rows.long ∙ sym c.in_ok-rows.ensures.rows.long)
    ∙ rows_are b S c.args.offered.now _ c.try_leaves.new.rows no_row chosen (members_from_All (λ x. x < contract_count b) c.args.offered.now c.requires.offered) lasts.all rows

pub returns-clause-says : goal.returns-clause-says
returns-clause-says c =
    let b = c.args.board.now in
    let below = members_from_All (λ x. x < contract_count b) c.args.offered.now c.requires.offered in
    (certificate_says c.requires.board.0 b c.args.chosen.now c.args.offered.now _ c.requires.board.1 (best_below b c.args.offered.now c.args.chosen.now c.requires.offered c.requires.best) c.requires.best.feasible below).0 (sym (returns-clause-rows c))
