use Rattle.rm_flexible.proofs.Rounds.{IsGoing}
use Rattle.rm_flexible.proofs.turns.take_round.Given as goal

abbrev pub invariant-loop-i : goal.invariant-loop-i
invariant-loop-i l = IsGoing l.region l.initial.counts l.initial.total l.round l.i l.counts l.total
