-- What a removal, an addition or a swap does to the worth decides whether it is better.
use Rattle.std.proofs.Common.{◌≡◌, ℕ, ◌<◌, ◌≤◌, List, FitsSigned, w64, int_lt, true, false, ltb, ℤ, pos, ◌-ℤ◌, ◌≤ℤ◌, ◌<ℤ◌, Some, None, sym, subst, inl, inr, ⊎_elim, arith, ◌∙◌}
use Rattle.std.proofs.lemmas.Int.{ints}
use Rattle.std.proofs.lemmas.Bool.{cases_Bool, cases_lt, lt-ltb, le-ltb}
use lib.Signed.{le_z}
use Rattle.std.specs.Prelude.{◌^◌}
use Rattle.rm_sets.specs.Sets.{has, IsIn, IsSetBelow, with_one, without}
use Rattle.rm_sets.proofs.Sets.{not_both}
use Rattle.rm_sets.proofs.Members.{not_in_from, not_in_without, without_within, with_one-without, IsSetBelow-without}
use Rattle.rm_market.specs.Board.{Board, contract_count, is_feasible, worth}
use Rattle.rm_market.specs.Best.{Values, values_of, is_better, swapped, IsValuation}
use Rattle.rm_valuation.specs.Counts.{AreCounts, IsGain}
use Rattle.rm_valuation_laws.specs.Scores.{score, place}
use Rattle.rm_valuation_laws.proofs.Score.{cases_int, better_from_higher, higher_from_better, infeasible_not_better}
use Rattle.rm_valuation_laws.proofs.Leads.{score_by_worth, score_of_addition, place_same}
use Rattle.rm_valuation_laws.proofs.Decision.{swap_over_held, held_over_swap}
use Rattle.rm_valuation_laws.proofs.Market.{market_board_laws}
use Rattle.rm_valuation_laws.proofs.Moves.{apart}
use Rattle.rm_exchange.specs.Counted.{IsChosen, IsTakenOut, IsSwapChange}

pub laws_of : (b : Board) (S : List ℕ) → IsChosen b S → IsValuation (contract_count b) (values_of b)
laws_of b S c = market_board_laws c.board.0 b c.board.1

pub not_lower : (v : Values) (S T : List ℕ) → v.feasible T ≡ true → score v S <ℤ score v T → is_better v S T ≡ false
not_lower v S T f lt =
    ⊎_elim
    (λ t. let up = higher_from_better v S T f t in absurd (omega (arith, ints, lt, up)))
    (λ h. h)
    (cases_Bool (is_better v S T))

int_lt-true : (a b : ℤ) → int_lt a b ≡ true → a <ℤ b
int_lt-true a b h = grind (arith, ints)

int_lt-false : (a b : ℤ) → int_lt a b ≡ false → b ≤ℤ a
int_lt-false a b h = grind (arith, ints)

pub fits_i64 : (z : ℤ) → (pos 0 -ℤ pos (2 ^ 62)) <ℤ z → z <ℤ pos (2 ^ 62) → FitsSigned w64 z
fits_i64 z low high = omega (arith, ints)

-- ---- removals

pub without_feasible : (b : Board) (S : List ℕ) (z : ℕ) → IsChosen b S → is_feasible b (without S z) ≡ true
without_feasible b S z c = (laws_of b S c).fewer (without S z) S (IsSetBelow-without (contract_count b) S z c.set) c.set (without_within S z) c.feasible

pub removal_better : (b : Board) (S : List ℕ) (z : ℕ) (loss : ℤ) → IsChosen b S → loss ≡ worth b S -ℤ worth b (without S z) → loss <ℤ pos 0 → is_better (values_of b) (without S z) S ≡ true
removal_better b S z loss c e low =
    better_from_higher (values_of b) (without S z) S (without_feasible b S z c) (score_by_worth (values_of b) (without S z) S (omega (arith, ints, e, low)))

pub removal_no_better : (b : Board) (S : List ℕ) (z : ℕ) (loss : ℤ) → IsChosen b S → IsIn z S → loss ≡ worth b S -ℤ worth b (without S z) → pos 0 ≤ℤ loss → is_better (values_of b) (without S z) S ≡ false
removal_no_better b S z loss c i e up =
    let back = with_one-without S z c.set.ascending i in
    let le : worth b (without S z) ≤ℤ worth b S = omega (arith, ints, e, up) in
    not_lower (values_of b) (without S z) S c.feasible
    (subst (λ T. score (values_of b) (without S z) <ℤ score (values_of b) T) back
    (score_of_addition (values_of b) (without S z) z (not_in_without S z) (((laws_of b S c).ties_all z).1 (c.set.below z i)) (subst (λ T. worth b (without S z) ≤ℤ worth b T) (sym back) le)))

-- ---- additions

pub addition_better : (b : Board) (S : List ℕ) (x : ℕ) (gain : ℤ) → IsChosen b S → x < contract_count b → has x S ≡ false → IsGain b S x (Some gain) → pos 0 ≤ℤ gain → is_better (values_of b) (with_one S x) S ≡ true
addition_better b S x gain c lt out g up =
    let e = g.1 in
    better_from_higher (values_of b) (with_one S x) S g.0
    (score_of_addition (values_of b) S x out (((laws_of b S c).ties_all x).1 lt) (omega (arith, ints, e, up)))

pub addition_no_better : (b : Board) (S : List ℕ) (x : ℕ) (gain : ℤ) → IsChosen b S → IsGain b S x (Some gain) → gain <ℤ pos 0 → is_better (values_of b) (with_one S x) S ≡ false
addition_no_better b S x gain c g low =
    let e = g.1 in
    not_lower (values_of b) (with_one S x) S c.feasible (score_by_worth (values_of b) S (with_one S x) (omega (arith, ints, e, low)))

pub addition_decides : (b : Board) (S : List ℕ) (x : ℕ) (gain : ℤ) → IsChosen b S → x < contract_count b → has x S ≡ false → IsGain b S x (Some gain) → is_better (values_of b) (with_one S x) S ≡ le_z (pos 0) gain
addition_decides b S x gain c lt out g =
    ⊎_elim
    (λ t. addition_better b S x gain c lt out g (at_least t) ∙ sym t)
    (λ f. addition_no_better b S x gain c g (less f) ∙ sym f)
    (cases_Bool (le_z (pos 0) gain))
  where
    at_least : le_z (pos 0) gain ≡ true → pos 0 ≤ℤ gain
    at_least t = grind (arith, ints)

    less : le_z (pos 0) gain ≡ false → gain <ℤ pos 0
    less f = grind (arith, ints)

pub addition_unfit : (b : Board) (S : List ℕ) (x : ℕ) → IsGain b S x None → is_better (values_of b) (with_one S x) S ≡ false
addition_unfit b S x h = infeasible_not_better (values_of b) (with_one S x) S h

-- ---- swaps

pub still_outside : (S : List ℕ) (z x : ℕ) → has x S ≡ false → has x (without S z) ≡ false
still_outside S z x out = not_in_from x (without S z) (λ i. not_both (has x S) (without_within S z x i) out)

pub swap_changed : (b : Board) (S : List ℕ) (x z : ℕ) (counts : List ℕ) (loss gain : ℤ) → IsTakenOut b S z counts loss → IsGain b (without S z) x (Some gain) → IsSwapChange b S x z (Some (gain -ℤ loss))
swap_changed b S x z counts loss gain t g =
    let e = g.1 in
    let l = t.lost in
    (g.0, omega (arith, ints, e, l))

pub swap_raises : (b : Board) (S : List ℕ) (x z : ℕ) (change : ℤ) → IsIn z S → has x S ≡ false → IsSwapChange b S x z (Some change) → pos 0 <ℤ change → is_better (values_of b) (swapped S x z) S ≡ true
swap_raises b S x z change i out h up =
    let e = h.1 in
    better_from_higher (values_of b) (swapped S x z) S h.0 (swap_over_held (values_of b) S z x i out (inl (omega (arith, ints, e, up))))

pub swap_lowers : (b : Board) (S : List ℕ) (x z : ℕ) (change : ℤ) → IsChosen b S → IsIn z S → has x S ≡ false → IsSwapChange b S x z (Some change) → change <ℤ pos 0 → is_better (values_of b) (swapped S x z) S ≡ false
swap_lowers b S x z change c i out h low =
    let e = h.1 in
    not_lower (values_of b) (swapped S x z) S c.feasible (held_over_swap (values_of b) S z x i out (inl (omega (arith, ints, e, low))))

pub swap_ties : (b : Board) (S : List ℕ) (x z : ℕ) → IsChosen b S → IsIn z S → has x S ≡ false → x < contract_count b → IsSwapChange b S x z (Some (pos 0)) →
    is_better (values_of b) (swapped S x z) S ≡ ltb (place b.ties x) (place b.ties z)
swap_ties b S x z c i out lt h =
    let v = values_of b in
    let e = h.1 in
    let same : worth b (swapped S x z) ≡ worth b S = omega (arith, ints, e) in
    ⊎_elim
    (λ less. better_from_higher v (swapped S x z) S h.0 (swap_over_held v S z x i out (inr (same, less))) ∙ sym (lt-ltb (place b.ties x) (place b.ties z) less))
    (λ le.
    let differ : place b.ties x ≡ place b.ties z → ⊥ = λ q. apart S z x i out (sym (place_same b.ties x z (((laws_of b S c).ties_all x).1 lt) q)) in
    let less : place b.ties z < place b.ties x = strict (place b.ties z) (place b.ties x) le (λ q. differ (sym q)) in
    not_lower v (swapped S x z) S c.feasible (held_over_swap v S z x i out (inr (sym same, less))) ∙ sym (le-ltb (place b.ties x) (place b.ties z) le))
    (cases_lt (place b.ties x) (place b.ties z))
  where
    strict : (m n : ℕ) → m ≤ n → (m ≡ n → ⊥) → m < n
    strict m n le ne = ⊎_elim (λ l. l) (λ g. let e : m ≡ n = omega arith in absurd (ne e)) (cases_lt m n)

pub swap_decides : (b : Board) (S : List ℕ) (x z : ℕ) (change : ℤ) → IsChosen b S → IsIn z S → has x S ≡ false → IsSwapChange b S x z (Some change) → (change ≡ pos 0 → ⊥) → is_better (values_of b) (swapped S x z) S ≡ int_lt (pos 0) change
swap_decides b S x z change c i out h ne =
    ⊎_elim
    (λ t. swap_raises b S x z change i out h (int_lt-true (pos 0) change t) ∙ sym t)
    (λ f. swap_lowers b S x z change c i out h (below_zero change (int_lt-false (pos 0) change f) ne) ∙ sym f)
    (cases_Bool (int_lt (pos 0) change))
  where
    below_zero : (z : ℤ) → z ≤ℤ pos 0 → (z ≡ pos 0 → ⊥) → z <ℤ pos 0
    below_zero z le ne = ⊎_elim (λ l. l) (λ rest. ⊎_elim (λ e. absurd (ne e)) (λ g. absurd (omega (arith, ints))) rest) (cases_int z (pos 0))

pub swap_unfit : (b : Board) (S : List ℕ) (x z : ℕ) → IsSwapChange b S x z None → is_better (values_of b) (swapped S x z) S ≡ false
swap_unfit b S x z h = infeasible_not_better (values_of b) (swapped S x z) S h

-- ---- one contract out and in again

pub put_back : (b : Board) (S : List ℕ) (z : ℕ) (counts more : List ℕ) (loss : ℤ) → IsTakenOut b S z counts loss →
    ((T : List ℕ) → IsSetBelow (contract_count b) T → has z T ≡ false → AreCounts b T counts → AreCounts b (with_one T z) more) → AreCounts b S more
put_back b S z counts more loss t h =
    subst (λ T. AreCounts b T more) (with_one-without S z t.chosen.set.ascending t.member)
    (h (without S z) (IsSetBelow-without (contract_count b) S z t.chosen.set) (not_in_without S z) t.counted)
