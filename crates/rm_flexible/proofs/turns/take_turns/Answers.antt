use Rattle.std.proofs.Common.{◌+◌, subst, arith, ◌∙◌, sym}
use Rattle.std.specs.Prelude.{fold}
use Rattle.rm_market.specs.Flexible.{after_seat}
use Rattle.rm_flexible.specs.Counts.{IsInRound}
use Rattle.rm_flexible.proofs.Rounds.{after_rounds, round_more, rounds_stop, rounds_end}
use Rattle.rm_flexible.proofs.turns.take_turns.Goals as goal

pub returns-then-total-before-clause-kept : goal.returns-then-total-before-clause-kept
returns-then-total-before-clause-kept c = λ b X offered first.
    let r = c.args.region.now in
    let a = c.loop-round.invariant.taken b X offered first in
    let next = c.take_round-total.ensures.taken b X (after_rounds b r X c.loop-round.round) offered a in
    let lt = c.loop-round-test.true in
    let g = c.greatest_capacity-round-end.ensures in
    rounds_stop b r X c.loop-round.round c.loop-round.counts c.take_round-total.new.counts c.loop-round.total (omega (arith, lt, g)) a
    (subst (λ t. IsInRound b r X (fold (after_seat b r X) (after_rounds b r X c.loop-round.round) r.seats) (c.loop-round.round + 1) 0 c.take_round-total.new.counts t) c.if-total-before.true next)

pub loop-round-preserved : goal.loop-round-preserved
loop-round-preserved c = record {
  long = c.take_round-total.ensures.length ∙ c.loop-round.invariant.long;
  others = λ h out. c.take_round-total.ensures.others h out ∙ c.loop-round.invariant.others h out;
  taken = λ b X offered first.
      let r = c.args.region.now in
      subst (λ K. IsInRound b r X K (c.loop-round.round + 1) 0 c.take_round-total.new.counts c.take_round-total.result) (sym (round_more b r X c.loop-round.round))
      (c.take_round-total.ensures.taken b X (after_rounds b r X c.loop-round.round) offered (c.loop-round.invariant.taken b X offered first));
}

pub returns-clause-kept : goal.returns-clause-kept
returns-clause-kept c = λ b X offered first.
    let r = c.args.region.now in
    let past = c.loop-round-test.false in
    let end = c.loop-round.auto.round-end in
    let g = c.greatest_capacity-round-end.ensures in
    rounds_end b r X c.loop-round.round c.loop-round.counts c.loop-round.total (omega (arith, past, end, g)) (c.loop-round.invariant.taken b X offered first)
