use Rattle.std.proofs.Common.{ap, filter, subst, sym, ◌∙◌}
use Rattle.std.proofs.lemmas.Result.{IfOk-weaker}
use Rattle.rm_sets.specs.Sets.{has}
use Rattle.rm_market.specs.Best.{IsBest, values_of}
use Rattle.rm_market.specs.Board.{contract_count}
use Rattle.rm_top.proofs.Offered.{members_in_order}
use Rattle.rm_top.proofs.choosing.best_subset.Goals as goal

pub returns : goal.returns
returns c =
    let v = values_of c.args.board.now in
    let X = c.args.offered.now in
    let best = c.in_ok-holder.ensures.best X c.requires.offered in
    IfOk-weaker c.held_among.result _ (λ chosen. IsBest v X chosen.items)
    (λ chosen same. subst (IsBest v X)
    (sym (same ∙ (ap (λ S. filter (λ x. has x S) X) c.offer_all.ensures.held ∙ members_in_order (contract_count c.args.board.now) _ X best.set c.requires.offered best.within))) best)
    c.held_among.ensures
