use Rattle.std.proofs.Common.{◌≡◌, List, ℕ, take, None, eqb}
use Rattle.std.specs.Prelude.{find}
use Rattle.rm_market.specs.Board.{cap_of, node_at, count_at}
use Rattle.rm_valuation.specs.Counts.{AreCounts}
use Rattle.rm_exchange.proofs.certificates.innermost_full.Given as goal

abbrev pub invariant-loop-i : goal.invariant-loop-i
invariant-loop-i l = (S : List ℕ) → AreCounts l.board S l.counts → find (λ k. eqb (count_at l.board S k) (cap_of (node_at l.board k))) (take l.i l.chain) ≡ None
