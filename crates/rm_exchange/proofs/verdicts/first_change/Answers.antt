use Rattle.std.proofs.Common.{Some, None, sym, ◌∙◌}
use Rattle.rm_exchange.proofs.FirstChange.{verdict_removal, verdict_addition, verdict_swap}
use Rattle.rm_exchange.proofs.verdicts.first_change.Goals as goal

pub returns-in-Some-clause-verdict : goal.returns-in-Some-clause-verdict
returns-in-Some-clause-verdict c = λ X e.
    verdict_removal c.args.board.now X c.args.chosen.now c.in-Some.z c.requires.chosen.feasible (sym c.first_removal.ensures ∙ c.in-Some.is)

pub returns-in-Some-first_addition-clause-verdict : goal.returns-in-Some-first_addition-clause-verdict
returns-in-Some-first_addition-clause-verdict c = λ X e.
    verdict_addition c.args.board.now X c.args.chosen.now c.in-Some-first_addition.x c.requires.chosen.feasible (sym c.first_removal.ensures ∙ c.in_default.is)
    (sym (c.first_addition.ensures X c.args.chosen.now e c.requires.chosen c.requires.counts) ∙ c.in-Some-first_addition.is)

pub returns-in_default-first_swap-clause-verdict : goal.returns-in_default-first_swap-clause-verdict
returns-in_default-first_swap-clause-verdict c = λ X e.
    verdict_swap c.args.board.now X c.args.chosen.now None c.requires.chosen.feasible (sym c.first_removal.ensures ∙ c.in_default.is)
    (sym (c.first_addition.ensures X c.args.chosen.now e c.requires.chosen c.requires.counts) ∙ c.in_default-first_addition.is)
    (sym (c.first_swap.ensures.swap X e) ∙ c.in_default-first_swap.is)

pub returns-clause-verdict : goal.returns-clause-verdict
returns-clause-verdict c = λ X e.
    verdict_swap c.args.board.now X c.args.chosen.now (Some (c.in-Some-first_swap.x, c.in-Some-first_swap.z)) c.requires.chosen.feasible (sym c.first_removal.ensures ∙ c.in_default.is)
    (sym (c.first_addition.ensures X c.args.chosen.now e c.requires.chosen c.requires.counts) ∙ c.in_default-first_addition.is)
    (sym (c.first_swap.ensures.swap X e) ∙ c.in-Some-first_swap.is)
