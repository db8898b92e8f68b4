use Rattle.std.proofs.Common.{[], take, get_or, sym, ap, subst}
use Rattle.rm_sets.proofs.Members.{IsIn-get_or}
use Rattle.rm_audit.specs.Placed.{AreCheapest}
use Rattle.rm_audit.proofs.Entering.{none_entered, next_taken}
use Rattle.rm_audit.proofs.placed.enter_all.Goals as goal

pub loop-i-init : goal.loop-i-init
loop-i-init c = none_entered c.args.board.now c.args.contracts.now c.args.cheapest.now c.requires.none

pub enter-requires-clause-contract : goal.enter-requires-clause-contract
enter-requires-clause-contract c = c.requires.set.below _ (IsIn-get_or c.args.contracts.now c.loop-i.i 0 c.loop-i-test.true)

pub loop-i-preserved : goal.loop-i-preserved
loop-i-preserved c =
    let S = c.args.contracts.now in
    let i = c.loop-i.i in
    subst (λ L. AreCheapest c.args.board.now S L c.enter.new.cheapest) (sym (next_taken i S c.loop-i-test.true)) (c.enter.ensures.entered S (take i S) c.requires.counts c.loop-i.invariant)
