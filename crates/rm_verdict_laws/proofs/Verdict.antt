-- The verdict on a choice says what holds, and no other one does.
use Rattle.std.proofs.Common.{◌≡◌, ℕ, List, true, false, Some, None, refl, sym, subst, inl, inr, ⊎_elim, arith}
use Rattle.std.proofs.lemmas.Bool.{cases_Bool, cases_order}
use Rattle.std.specs.Prelude.{◌↔◌}
use Rattle.rm_sets.specs.Sets.{has, IsIn, IsSet, IsSetBelow, IsWithin, with_one, without, minus}
use Rattle.rm_sets.proofs.Sets.{not_both, IsSet-minus}
use Rattle.rm_sets.proofs.Members.{IsIn-minus, IsIn-from_minus, not_in_from}
use Rattle.rm_market.specs.Board.{Board, IsBoard, contract_count}
use Rattle.rm_market.specs.Best.{Values, values_of, is_better, swapped}
use Rattle.rm_market.specs.Certificate.{over_cap, better_without, better_with, better_for, better_swap, verdict_of}
use Rattle.rm_market.specs.declared.Verdict.{Verdict}
use Rattle.rm_market.specs.declared.Verdict.TheVariants as verdicts
use Rattle.rm_valuation_laws.proofs.Market.{market_board_laws}
use Rattle.rm_verdict_laws.specs.Verdicts.{NoRemoval, NoAddition, NoSwap, IsLeastRemoval, IsLeastSwap, IsVerdict}
use Rattle.rm_verdict_laws.proofs.First.{none_passes, none_found, least_found, found_least}
use Rattle.rm_verdict_laws.proofs.Changes.{no_removal, no_addition, no_swap, best_from_changes}
use Rattle.rm_verdict_laws.proofs.Over.{over_none, feasible_from_none, over_found, found_over}
use Rattle.rm_verdict_laws.proofs.Swaps.{cases_option, no_pair, none_of, pair_found, found_pair}

-- ---- removals

pub no_removal_found : (v : Values) (S : List ℕ) → NoRemoval v S → better_without v S ≡ None
no_removal_found v S none = none_found (λ z. is_better v (without S z) S) S none

pub no_removal_from : (v : Values) (S : List ℕ) → better_without v S ≡ None → NoRemoval v S
no_removal_from v S e = none_passes (λ z. is_better v (without S z) S) S e

pub removal_found : (v : Values) (S : List ℕ) (z : ℕ) → IsSet S → IsLeastRemoval v S z → better_without v S ≡ Some z
removal_found v S z s h = least_found (λ y. is_better v (without S y) S) S z s h

pub found_removal : (v : Values) (S : List ℕ) (z : ℕ) → IsSet S → better_without v S ≡ Some z → IsLeastRemoval v S z
found_removal v S z s e = found_least (λ y. is_better v (without S y) S) S z s e

-- ---- additions

no_addition_found : (v : Values) (X S : List ℕ) → NoAddition v X S → better_with v X S ≡ None
no_addition_found v X S none =
    none_found (λ x. is_better v (with_one S x) S) (minus X S)
    (λ x i. let parts = IsIn-from_minus X S x i in none x parts.0 (λ h. not_both (has x S) h parts.1))

no_addition_from : (v : Values) (X S : List ℕ) → better_with v X S ≡ None → NoAddition v X S
no_addition_from v X S e x i out = none_passes (λ y. is_better v (with_one S y) S) (minus X S) e x (IsIn-minus X S x i (not_in_from x S out))

-- ---- swaps

-- no contract of S is better replaced by x
abbrev NoPlace : Values → List ℕ → ℕ → Type 0
NoPlace v S x = (z : ℕ) → IsIn z S → is_better v (swapped S x z) S ≡ false

pub no_place_found : (v : Values) (S : List ℕ) (x : ℕ) → NoPlace v S x → better_for v S x ≡ None
no_place_found v S x none = none_found (λ z. is_better v (swapped S x z) S) S none

pub no_place_from : (v : Values) (S : List ℕ) (x : ℕ) → better_for v S x ≡ None → NoPlace v S x
no_place_from v S x e = none_passes (λ z. is_better v (swapped S x z) S) S e

no_swap_found : (v : Values) (X S : List ℕ) → NoSwap v X S → better_swap v X S ≡ None
no_swap_found v X S none =
    no_pair (better_for v S) (minus X S)
    (λ x i. let parts = IsIn-from_minus X S x i in no_place_found v S x (λ z j. none x z parts.0 (λ h. not_both (has x S) h parts.1) j))

no_swap_from : (v : Values) (X S : List ℕ) → better_swap v X S ≡ None → NoSwap v X S
no_swap_from v X S e x z i out j = no_place_from v S x (none_of (better_for v S) (minus X S) e x (IsIn-minus X S x i (not_in_from x S out))) z j

swap_found : (v : Values) (X S : List ℕ) (x z : ℕ) → IsSet X → IsSet S → IsLeastSwap v X S x z → better_swap v X S ≡ Some (x, z)
swap_found v X S x z sX sS h =
    pair_found (better_for v S) (minus X S) x z (IsSet-minus X S sX) (IsIn-minus X S x h.offered (not_in_from x S h.outside))
    (least_found (λ y. is_better v (swapped S x y) S) S z sS (record {
      member = h.inside;
      passes = h.better;
      least = λ y i t. ⊎_elim (λ lt. absurd (omega arith)) (λ both. both.1) (h.least x y h.offered h.outside i t);
    }))
    (λ y i lt.
    let parts = IsIn-from_minus X S y i in
    no_place_found v S y (λ w j. ⊎_elim
    (λ t. absurd (⊎_elim (λ up. omega arith) (λ both. let e = both.0 in omega arith) (h.least y w parts.0 (λ k. not_both (has y S) k parts.1) j t)))
    (λ f. f)
    (cases_Bool (is_better v (swapped S y w) S))))

found_swap : (v : Values) (X S : List ℕ) (x z : ℕ) → IsSet X → IsSet S → better_swap v X S ≡ Some (x, z) → IsLeastSwap v X S x z
found_swap v X S x z sX sS e =
    let h = found_pair (better_for v S) (minus X S) x z (IsSet-minus X S sX) e in
    let parts = IsIn-from_minus X S x h.0 in
    let place = found_least (λ y. is_better v (swapped S x y) S) S z sS h.1 in
    record {
      offered = parts.0;
      outside = λ i. not_both (has x S) i parts.1;
      inside = place.member;
      better = place.passes;
      least = λ y w i out j t. ⊎_elim
          (λ same. inr (same, place.least w j (subst (λ u. is_better v (swapped S u w) S ≡ true) (sym same) t)))
          (λ rest. ⊎_elim
          (λ up. inl up)
          (λ down. absurd (not_both (is_better v (swapped S y w) S) t (no_place_from v S y (h.2 y (IsIn-minus X S y i (not_in_from y S out)) down) w j)))
          rest)
          (cases_order x y);
    }

-- ---- what the definition gives

at_over : (b : Board) (X S : List ℕ) (k : ℕ) → over_cap b S ≡ Some k → verdict_of b X S ≡ verdicts.OverCap k
unfolding verdict_of
at_over b X S k e = rw e refl

at_removal : (b : Board) (X S : List ℕ) (z : ℕ) → over_cap b S ≡ None → better_without (values_of b) S ≡ Some z → verdict_of b X S ≡ verdicts.Remove z
unfolding verdict_of
at_removal b X S z e r = rw (e, r) refl

at_addition : (b : Board) (X S : List ℕ) (x : ℕ) → over_cap b S ≡ None → better_without (values_of b) S ≡ None → better_with (values_of b) X S ≡ Some x → verdict_of b X S ≡ verdicts.Add x
unfolding verdict_of
at_addition b X S x e r a = rw (e, r, a) refl

at_swap : (b : Board) (X S : List ℕ) (x z : ℕ) → over_cap b S ≡ None → better_without (values_of b) S ≡ None → better_with (values_of b) X S ≡ None → better_swap (values_of b) X S ≡ Some (x, z) →
    verdict_of b X S ≡ verdicts.Swap x z
unfolding verdict_of
at_swap b X S x z e r a s = rw (e, r, a, s) refl

at_best : (b : Board) (X S : List ℕ) → over_cap b S ≡ None → better_without (values_of b) S ≡ None → better_with (values_of b) X S ≡ None → better_swap (values_of b) X S ≡ None →
    verdict_of b X S ≡ verdicts.Best
unfolding verdict_of
at_best b X S e r a s = rw (e, r, a, s) refl

-- ---- the law

says : (doctors : ℕ) (b : Board) (X S : List ℕ) → IsBoard doctors b → IsSetBelow (contract_count b) X → IsSet S → IsWithin S X → IsVerdict b X S (verdict_of b X S)
says doctors b X S ok sX sS w =
    let v = values_of b in
    ⊎_elim
    (λ e.
    let f = feasible_from_none b S e in
    ⊎_elim
    (λ r.
    let none = no_removal_from v S r in
    ⊎_elim
    (λ a.
    let alone = no_addition_from v X S a in
    ⊎_elim
    (λ s. subst (IsVerdict b X S) (sym (at_best b X S e r a s))
    (best_from_changes (contract_count b) v X S (market_board_laws doctors b ok) sX sS w f none alone (no_swap_from v X S s)))
    (λ p. subst (IsVerdict b X S) (sym (at_swap b X S p.0.0 p.0.1 e r a p.1)) (f, none, alone, found_swap v X S p.0.0 p.0.1 sX.ascending sS p.1))
    (cases_option (better_swap v X S)))
    (λ x. subst (IsVerdict b X S) (sym (at_addition b X S x.0 e r x.1))
    (f, none, found_least (λ y. is_better v (with_one S y) S) (minus X S) x.0 (IsSet-minus X S sX.ascending) x.1))
    (cases_option (better_with v X S)))
    (λ z. subst (IsVerdict b X S) (sym (at_removal b X S z.0 e z.1)) (f, found_removal v S z.0 sS z.1))
    (cases_option (better_without v S)))
    (λ k. subst (IsVerdict b X S) (sym (at_over b X S k.0 k.1)) (found_over b S k.0 k.1))
    (cases_option (over_cap b S))

only : (b : Board) (X S : List ℕ) (verdict : Verdict) → IsSet X → IsSet S → IsVerdict b X S verdict → verdict_of b X S ≡ verdict
only b X S verdicts.Best sX sS h =
    let v = values_of b in
    at_best b X S (over_none b S h.feasible) (no_removal_found v S (no_removal v X S h)) (no_addition_found v X S (no_addition v X S h)) (no_swap_found v X S (no_swap v X S h))
only b X S (verdicts.OverCap k) sX sS h = at_over b X S k (over_found b S k h)
only b X S (verdicts.Remove z) sX sS h = at_removal b X S z (over_none b S h.0) (removal_found (values_of b) S z sS h.1)
only b X S (verdicts.Add x) sX sS h =
    at_addition b X S x (over_none b S h.0) (no_removal_found (values_of b) S h.1)
    (least_found (λ y. is_better (values_of b) (with_one S y) S) (minus X S) x (IsSet-minus X S sX) h.2)
only b X S (verdicts.Swap x z) sX sS h =
    let v = values_of b in
    at_swap b X S x z (over_none b S h.0) (no_removal_found v S h.1) (no_addition_found v X S h.2) (swap_found v X S x z sX sS h.3)

pub verdict_says : (doctors : ℕ) (b : Board) (X S : List ℕ) (verdict : Verdict) → IsBoard doctors b → IsSetBelow (contract_count b) X → IsSet S → IsWithin S X →
    (verdict_of b X S ≡ verdict) ↔ IsVerdict b X S verdict
verdict_says doctors b X S verdict ok sX sS w = (λ e. subst (IsVerdict b X S) e (says doctors b X S ok sX sS w), only b X S verdict sX.ascending sS)
