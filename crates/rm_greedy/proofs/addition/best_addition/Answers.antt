use Rattle.std.proofs.Common.{get_or, take, subst, arith}
use Rattle.std.proofs.lemmas.List.{take_all}
use Rattle.rm_sets.proofs.Sizes.{length_below}
use Rattle.rm_sets.proofs.Members.{IsIn-get_or}
use Rattle.rm_market.specs.Board.{contract_count}
use Rattle.rm_greedy.specs.Additions.{IsFirstOf}
use Rattle.rm_greedy.proofs.FirstOfHeads.{contracts_at, first_at_heads, none_looked, one_looked}
use Rattle.rm_greedy.proofs.addition.best_addition.Goals as goal

pub prove-unreachable-requires : goal.prove-unreachable-requires
prove-unreachable-requires c =
    let short = length_below (contract_count c.args.board.now) c.args.offered.now c.requires.offered in
    omega (arith, short)

pub loop-i-init : goal.loop-i-init
loop-i-init c = none_looked c.args.board.now c.args.offered.now c.args.heads.now c.args.counts.now c.args.marks.now c.requires.heads

pub candidate-requires-clause-contract : goal.candidate-requires-clause-contract
candidate-requires-clause-contract c = c.requires.offered.below _ (IsIn-get_or c.args.offered.now c.first_open-place.result 0 c.first_open-place.ensures.within)

pub candidate-requires-clause-marks : goal.candidate-requires-clause-marks
candidate-requires-clause-marks c =
    let lt = c.requires.offered.below _ (IsIn-get_or c.args.offered.now c.first_open-place.result 0 c.first_open-place.ensures.within) in
    let space = c.requires.marks in
    omega (arith, lt, space)

pub loop-i-preserved : goal.loop-i-preserved
loop-i-preserved c =
    let b = c.args.board.now in
    let X = c.args.offered.now in
    let x = get_or X c.first_open-place.result 0 in
    let same = c.loop-i.invariant.long in
    let inside = c.loop-i-test.true in
    one_looked b X c.args.heads.now c.loop-i.heads c.args.counts.now c.args.marks.now c.loop-i.i c.first_open-place.result c.loop-i.best c.better-best.result c.loop-i.invariant (omega (arith, same, inside)) c.first_open-place.ensures
    (λ S fits a m first.
    c.better-best.ensures b S (contracts_at X (take c.loop-i.i c.loop-i.heads)) x first
    (c.candidate.ensures S fits a (m x (IsIn-get_or X c.first_open-place.result 0 c.first_open-place.ensures.within))))

pub returns-clause-heads : goal.returns-clause-heads
returns-clause-heads c = c.loop-i.invariant.reached

pub returns-clause-first : goal.returns-clause-first
returns-clause-first c = λ S fits a m h.
    let look = c.loop-i.invariant in
    let long = look.long in
    let past = c.loop-i-test.false in
    first_at_heads c.args.board.now c.args.offered.now S c.loop-i.heads c.args.marks.now c.loop-i.best c.requires.ranked c.requires.offered m (look.reached S m h) (λ r lt. look.opened r (omega (arith, long, past, lt)))
    (subst (λ Y. IsFirstOf c.args.board.now S (contracts_at c.args.offered.now Y) c.loop-i.best) (take_all c.loop-i.i c.loop-i.heads (omega (arith, long, past))) (look.first S fits a m))
