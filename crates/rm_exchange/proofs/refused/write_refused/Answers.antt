use Rattle.std.proofs.Common.{arith, ap, ◌∙◌}
use Rattle.std.specs.Prelude.{filter, not}
use Rattle.std.proofs.lemmas.List.{take_all}
use Rattle.rm_sets.specs.Sets.{has, minus}
use Rattle.rm_exchange.proofs.refused.write_refused.Goals as goal

pub returns-clause-written : goal.returns-clause-written
unfolding minus
returns-clause-written c =
    let past = c.loop-i-test.false in
    c.loop-i.invariant.written ∙ ap (filter (λ y. not (has y c.args.chosen.now))) (take_all c.loop-i.i c.args.offered.now (omega arith))
