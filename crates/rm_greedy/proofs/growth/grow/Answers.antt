use Rattle.std.proofs.Common.{◌∙◌, refl, arith}
use Rattle.std.proofs.lemmas.List.{length-set}
use Rattle.rm_greedy.proofs.Steps.{growing_first, growing_more, growing_stop, growing_full}
use Rattle.rm_greedy.proofs.growth.grow.Goals as goal

pub loop-i-init : goal.loop-i-init
loop-i-init c = (refl, growing_first c.args.board.now c.args.offered.now c.args.heads.now c.args.counts.now c.args.marks.now c.requires.valuation c.requires.counts c.requires.marks c.requires.heads c.requires.nodes c.requires.space)

pub returns-in_default-clause-best : goal.returns-in_default-clause-best
returns-in_default-clause-best c =
    let g = c.loop-i.invariant.1 in
    growing_stop c.args.board.now c.args.offered.now c.loop-i.i c.loop-i.heads c.loop-i.counts c.loop-i.marks c.requires.valuation c.requires.offered g
    (c.in_default.ensures.first g.S g.so_far.is_feasible.passes g.counted g.marked g.reached)

pub bounds-marks-next : goal.bounds-marks-next
bounds-marks-next c =
    let g = c.loop-i.invariant.1 in
    let first = c.in-Some.ensures.first g.S g.so_far.is_feasible.passes g.counted g.marked g.reached in
    let lt = c.requires.offered.below c.in-Some.next.contract first.member in
    let space = g.space in
    omega (arith, lt, space)

pub loop-i-preserved : goal.loop-i-preserved
loop-i-preserved c =
    let g = c.loop-i.invariant.1 in
    let same = length-set c.loop-i.marks c.in-Some.next.contract 1 in (
      same ∙ c.loop-i.invariant.0,
      growing_more c.args.board.now c.args.offered.now c.loop-i.i c.loop-i.heads c.loop-i.counts c.loop-i.marks c.in-Some.next c.best_addition.new.heads c.count_in.new.counts c.requires.valuation c.requires.offered g
          (c.in-Some.ensures.first g.S g.so_far.is_feasible.passes g.counted g.marked g.reached)
          (c.in-Some.ensures.heads g.S g.marked g.reached)
          c.count_in.ensures.counts c.count_in.ensures.nodes same,
    )

pub returns-clause-best : goal.returns-clause-best
returns-clause-best c =
    let past = c.loop-i-test.false in
    growing_full c.args.board.now c.args.offered.now c.loop-i.i c.loop-i.heads c.loop-i.counts c.loop-i.marks c.requires.valuation c.requires.offered c.loop-i.invariant.1 (omega (arith, past))
