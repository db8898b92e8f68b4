use Rattle.rm_exchange.specs.Holding.{held_in}
use Rattle.rm_exchange.proofs.Walked.{IsWalked}
use Rattle.rm_exchange.proofs.prospects.walk.Given as goal

abbrev pub invariant-loop-i : goal.invariant-loop-i
invariant-loop-i l = IsWalked l.board (held_in l.board l.holding) l.x l.chain l.i l.gain l.swap
