use Rattle.std.proofs.Common.{take}
use Rattle.rm_audit.specs.Placed.{AreCheapest}
use Rattle.rm_audit.proofs.placed.enter_all.Given as goal

abbrev pub invariant-loop-i : goal.invariant-loop-i
invariant-loop-i l = AreCheapest l.board l.contracts (take l.i l.contracts) l.cheapest
