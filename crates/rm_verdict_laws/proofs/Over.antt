-- A set is feasible exactly where no node is over its cap.
use Rattle.std.proofs.Common.{◌≡◌, ℕ, ◌<◌, ◌≤◌, List, length, true, false, Some, None, IsFalse, refl, ⊎_elim}
use Rattle.std.proofs.lemmas.Bool.{cases_Bool, ltb-false, le-ltb}
use Rattle.std.proofs.lemmas.List.Elements.{All-from_get_or}
use Rattle.std.specs.Prelude.{◌↔◌}
use Rattle.rm_sets.specs.Sets.{IsIn, below}
use Rattle.rm_sets.proofs.Sets.{not_both, below-all_below, IsSet-all_below}
use Rattle.rm_sets.proofs.Members.{IsIn-all_below}
use Rattle.rm_sets.proofs.Search.{cases_some, least_member}
use Rattle.rm_market.specs.Board.{Board, count, cap_of, is_feasible, no_node, node_at, count_at}
use Rattle.rm_market.specs.Certificate.{over_cap}
use Rattle.rm_valuation_laws.proofs.LaminarExchange.{caps_from_feasible, feasible_from_caps}
use Rattle.rm_verdict_laws.specs.Verdicts.{is_over, IsLeastOver}
use Rattle.rm_verdict_laws.proofs.First.{none_passes, none_found, least_found, found_least}

pub cap_kept : (b : Board) (S : List ℕ) → is_feasible b S ≡ true → (k : ℕ) → k < length b.nodes → count_at b S k ≤ cap_of (node_at b k)
cap_kept b S f k lt = caps_from_feasible b S f k no_node lt

pub feasible_from_kept : (b : Board) (S : List ℕ) → ((k : ℕ) → k < length b.nodes → count_at b S k ≤ cap_of (node_at b k)) → is_feasible b S ≡ true
feasible_from_kept b S kept = feasible_from_caps b S (All-from_get_or (λ n. count b n.leaves S ≤ length n.steps) b.nodes no_node kept)

none_over : (b : Board) (S : List ℕ) → is_feasible b S ≡ true → (k : ℕ) → IsIn k (below (length b.nodes)) → is_over b S k ≡ false
none_over b S f k i = le-ltb (cap_of (node_at b k)) (count_at b S k) (cap_kept b S f k (below-all_below (length b.nodes) (λ x. true) k i).0)

pub over_none : (b : Board) (S : List ℕ) → is_feasible b S ≡ true → over_cap b S ≡ None
over_none b S f = none_found (is_over b S) (below (length b.nodes)) (none_over b S f)

pub feasible_from_none : (b : Board) (S : List ℕ) → over_cap b S ≡ None → is_feasible b S ≡ true
feasible_from_none b S e =
    feasible_from_kept b S (λ k lt. ltb-false (cap_of (node_at b k)) (count_at b S k) (none_passes (is_over b S) (below (length b.nodes)) e k (IsIn-all_below (length b.nodes) (λ x. true) k lt refl)))

pub over_found : (b : Board) (S : List ℕ) (k : ℕ) → IsLeastOver b S k → over_cap b S ≡ Some k
over_found b S k h = least_found (is_over b S) (below (length b.nodes)) k (IsSet-all_below (length b.nodes) (λ x. true)) h

pub found_over : (b : Board) (S : List ℕ) (k : ℕ) → over_cap b S ≡ Some k → IsLeastOver b S k
found_over b S k e = found_least (is_over b S) (below (length b.nodes)) k (IsSet-all_below (length b.nodes) (λ x. true)) e

-- a set over some cap isn't feasible, and only such a set isn't
pub infeasible_over : (b : Board) (S : List ℕ) → IsFalse (is_feasible b S) ↔ ((k : ℕ) × IsLeastOver b S k)
infeasible_over b S = (λ f. some f, λ h. none h.0 h.1)
  where
    some : is_feasible b S ≡ false → (k : ℕ) × IsLeastOver b S k
    some f =
        ⊎_elim
        (λ h. least_member (is_over b S) (below (length b.nodes)) (IsSet-all_below (length b.nodes) (λ x. true)) h.0 h.1 h.2)
        (λ none. absurd (not_both (is_feasible b S) (feasible_from_none b S (none_found (is_over b S) (below (length b.nodes)) none)) f))
        (cases_some (is_over b S) (below (length b.nodes)))

    none : (k : ℕ) → IsLeastOver b S k → is_feasible b S ≡ false
    none k h = ⊎_elim (λ f. absurd (not_both (is_over b S k) h.passes (none_over b S f k h.member))) (λ f. f) (cases_Bool (is_feasible b S))
