-- The finding on a placement says what holds, and no other one does.
use Rattle.std.proofs.Common.{◌≡◌, ℕ, ◌<◌, List, length, true, Some, None, refl, sym, subst, ⊎_elim}
use Rattle.std.specs.Prelude.{◌↔◌}
use Rattle.rm_sets.specs.Sets.{IsSetBelow, without}
use Rattle.rm_sets.proofs.Sets.{not_both}
use Rattle.rm_sets.proofs.Members.{within_refl}
use Rattle.rm_market.specs.Board.{contract_count, is_feasible}
use Rattle.rm_market.specs.Best.{values_of, is_better}
use Rattle.rm_market.specs.Stable.{IsPlacement}
use Rattle.rm_market.specs.Market.{Market, IsMarket, wishes_of, Best}
use Rattle.rm_market.specs.Certificate.{over_cap, better_without, blocking, finding_of}
use Rattle.rm_market.specs.declared.Finding.{Finding}
use Rattle.rm_market.specs.declared.Finding.TheVariants as findings
use Rattle.rm_valuation_laws.proofs.Market.{market_board_laws}
use Rattle.rm_verdict_laws.specs.Verdicts.{NoRemoval}
use Rattle.rm_verdict_laws.specs.Findings.{IsFinding}
use Rattle.rm_verdict_laws.proofs.Changes.{no_removal, best_from_changes}
use Rattle.rm_verdict_laws.proofs.Over.{over_none, feasible_from_none, over_found, found_over}
use Rattle.rm_verdict_laws.proofs.Swaps.{cases_option}
use Rattle.rm_verdict_laws.proofs.Verdict.{no_removal_found, no_removal_from, removal_found, found_removal}
use Rattle.rm_verdict_laws.proofs.Blocking.{owners_count, found_blocking, blocking_found, unblocked, none_blocking}

-- a feasible set from which no removal is better is the best subset of itself
pub own_best : (m : Market) (S : List ℕ) → IsMarket m → IsSetBelow (contract_count m.board) S → is_feasible m.board S ≡ true → NoRemoval (values_of m.board) S → Best m S S
own_best m S ok sS f none =
    best_from_changes (contract_count m.board) (values_of m.board) S S (market_board_laws (length m.lists) m.board ok.board) sS sS.ascending (within_refl S) f none
    (λ x i out. absurd (out i))
    (λ x z i out j. absurd (out i))

-- ---- what the definition gives

at_over : (m : Market) (S : List ℕ) (k : ℕ) → over_cap m.board S ≡ Some k → finding_of m.board (wishes_of m) S ≡ findings.OverCap k
unfolding finding_of
at_over m S k e = rw e refl

at_removal : (m : Market) (S : List ℕ) (z : ℕ) → over_cap m.board S ≡ None → better_without (values_of m.board) S ≡ Some z → finding_of m.board (wishes_of m) S ≡ findings.Unwanted z
unfolding finding_of
at_removal m S z e r = rw (e, r) refl

at_block : (m : Market) (S : List ℕ) (x : ℕ) → over_cap m.board S ≡ None → better_without (values_of m.board) S ≡ None → blocking m.board (wishes_of m) S ≡ Some x →
    finding_of m.board (wishes_of m) S ≡ findings.Blocks x
unfolding finding_of
at_block m S x e r s = rw (e, r, s) refl

at_stable : (m : Market) (S : List ℕ) → over_cap m.board S ≡ None → better_without (values_of m.board) S ≡ None → blocking m.board (wishes_of m) S ≡ None →
    finding_of m.board (wishes_of m) S ≡ findings.Stable
unfolding finding_of
at_stable m S e r s = rw (e, r, s) refl

-- ---- the law

pub placed_below : (m : Market) (S : List ℕ) → IsPlacement (wishes_of m) S → IsSetBelow (contract_count m.board) S
placed_below m S p = subst (λ n. IsSetBelow n S) (owners_count m) p.set

says : (m : Market) (S : List ℕ) → IsMarket m → IsPlacement (wishes_of m) S → IsFinding m S (finding_of m.board (wishes_of m) S)
says m S ok p =
    let sS = placed_below m S p in
    let v = values_of m.board in
    ⊎_elim
    (λ e.
    let f = feasible_from_none m.board S e in
    ⊎_elim
    (λ r.
    let b = own_best m S ok sS f (no_removal_from v S r) in
    ⊎_elim
    (λ s. subst (IsFinding m S) (sym (at_stable m S e r s)) (record {
      placement = p;
      kept = b;
      unblocked = λ x lt t. unblocked m S ok sS b s x (subst (λ n. x < n) (owners_count m) lt) t;
    }))
    (λ x. subst (IsFinding m S) (sym (at_block m S x.0 e r x.1)) (b, found_blocking m S x.0 ok sS b x.1))
    (cases_option (blocking m.board (wishes_of m) S)))
    (λ z.
    let h = found_removal v S z.0 sS.ascending z.1 in
    subst (IsFinding m S) (sym (at_removal m S z.0 e z.1))
    (f, λ b. not_both (is_better v (without S z.0) S) h.passes (no_removal v S S b z.0 h.member), h))
    (cases_option (better_without v S)))
    (λ k. subst (IsFinding m S) (sym (at_over m S k.0 k.1)) (found_over m.board S k.0 k.1))
    (cases_option (over_cap m.board S))

only : (m : Market) (S : List ℕ) (finding : Finding) → IsMarket m → IsPlacement (wishes_of m) S → IsFinding m S finding → finding_of m.board (wishes_of m) S ≡ finding
only m S findings.Stable ok p h =
    let v = values_of m.board in
    at_stable m S (over_none m.board S h.kept.feasible) (no_removal_found v S (no_removal v S S h.kept))
    (none_blocking m S (λ x lt t. h.unblocked x (subst (λ n. x < n) (sym (owners_count m)) lt) t))
only m S (findings.OverCap k) ok p h = at_over m S k (over_found m.board S k h)
only m S (findings.Unwanted z) ok p h = at_removal m S z (over_none m.board S h.0) (removal_found (values_of m.board) S z (placed_below m S p).ascending h.2)
only m S (findings.Blocks x) ok p h =
    let v = values_of m.board in
    at_block m S x (over_none m.board S h.0.feasible) (no_removal_found v S (no_removal v S S h.0)) (blocking_found m S x ok (placed_below m S p) h.0 h.1)

pub finding_says : (m : Market) (S : List ℕ) (finding : Finding) → IsMarket m → IsPlacement (wishes_of m) S → (finding_of m.board (wishes_of m) S ≡ finding) ↔ IsFinding m S finding
finding_says m S finding ok p = (λ e. subst (IsFinding m S) e (says m S ok p), only m S finding ok p)
