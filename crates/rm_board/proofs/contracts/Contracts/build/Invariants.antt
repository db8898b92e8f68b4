use Rattle.rm_board.proofs.Numbering.{AreNumbered}
use Rattle.rm_board.proofs.Runs.{AreBegun}
use Rattle.rm_board.proofs.contracts.Contracts.build.Given as goal

abbrev pub invariant-loop-h : goal.invariant-loop-h
invariant-loop-h l = record { numbered : AreNumbered l.ranks l.h l.by_hospital; begun : AreBegun l.ranks l.h l.by_hospital.runs.items }
