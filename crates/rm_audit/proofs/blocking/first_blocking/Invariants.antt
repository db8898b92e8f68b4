use Rattle.std.proofs.Common.{ℕ, List}
use Rattle.rm_market.specs.Board.{contract_count}
use Rattle.rm_audit.specs.Blocking.{AreMarks, IsWeighed, IsLeastOfThem, IsReachedIn}
use Rattle.rm_audit.proofs.blocking.first_blocking.Given as goal

abbrev pub invariant-loop-d : goal.invariant-loop-d
invariant-loop-d l = (S : List ℕ) → IsWeighed l.board S l.counts l.cheapest → AreMarks (contract_count l.board) S l.marks
    → IsLeastOfThem l.board S (IsReachedIn S l.listed l.d) l.end l.least
