-- The least node over its cap.
use Rattle.std.proofs.Common.{◌≡◌, ℕ, ◌<◌, ◌≤◌, List, length, true, Some, None, refl, ⊎_elim}
use Rattle.std.proofs.lemmas.Bool.{le-ltb, lt-ltb, cases_lt}
use Rattle.std.proofs.lemmas.List.{length-map}
use Rattle.rm_sets.specs.Sets.{below}
use Rattle.rm_sets.proofs.Sets.{not_both, below-all_below}
use Rattle.rm_sets.proofs.Members.{IsIn-all_below}
use Rattle.rm_market.specs.Board.{Board, cap_of, node_at, count_at, sets_of}
use Rattle.rm_market.specs.Certificate.{over_cap}
use Rattle.rm_verdict_laws.specs.Verdicts.{is_over}
use Rattle.rm_verdict_laws.proofs.First.{none_found}
use Rattle.rm_verdict_laws.proofs.Over.{over_found}

pub node_count : (b : Board) → length (sets_of b) ≡ length b.nodes
node_count b = simp length-map

pub node_over : (b : Board) (S : List ℕ) (k : ℕ) → k < length b.nodes → cap_of (node_at b k) < count_at b S k → ((j : ℕ) → j < k → count_at b S j ≤ cap_of (node_at b j)) → over_cap b S ≡ Some k
node_over b S k lt over kept = over_found b S k (record {
  member = IsIn-all_below (length b.nodes) (λ j. true) k lt refl;
  passes = lt-ltb (cap_of (node_at b k)) (count_at b S k) over;
  least = λ j i t. ⊎_elim
      (λ l. absurd (not_both (is_over b S j) t (le-ltb (cap_of (node_at b j)) (count_at b S j) (kept j l))))
      (λ g. g)
      (cases_lt j k);
})

pub no_node_over : (b : Board) (S : List ℕ) → ((j : ℕ) → j < length b.nodes → count_at b S j ≤ cap_of (node_at b j)) → over_cap b S ≡ None
no_node_over b S kept = none_found (is_over b S) (below (length b.nodes)) (λ j i. le-ltb (cap_of (node_at b j)) (count_at b S j) (kept j (below-all_below (length b.nodes) (λ k. true) j i).0))
