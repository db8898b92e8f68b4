use Rattle.std.proofs.Common.{◌≡◌, ◌<◌, ℕ, List, get_or, false}
use Rattle.rm_sets.specs.Sets.{has}
use Rattle.rm_market.specs.Board.{contract_count}
use Rattle.rm_audit.specs.Blocking.{AreMarks, IsWeighed, IsLeastOfThem, IsReachedBy}
use Rattle.rm_audit.proofs.blocking.least_of_list.Given as goal

abbrev pub invariant-loop-i : goal.invariant-loop-i
invariant-loop-i l = (S : List ℕ) → IsWeighed l.board S l.counts l.cheapest → AreMarks (contract_count l.board) S l.marks
    → ((j : ℕ) → j < l.i → has (get_or l.list j 0) S ≡ false) × IsLeastOfThem l.board S (IsReachedBy S l.list l.i) l.initial.least l.least
