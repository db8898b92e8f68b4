use Rattle.rm_valuation.proofs.Counted.{IsGained}
use Rattle.rm_valuation.proofs.gain.Given as goal

abbrev pub invariant-loop-i : goal.invariant-loop-i
invariant-loop-i l = IsGained l.board l.counts l.chain l.i l.sum
