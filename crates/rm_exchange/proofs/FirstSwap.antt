-- The first swap that improves a choice.
use Rattle.std.proofs.Common.{◌≡◌, ℕ, ◌<◌, ◌≤◌, List, [], ◌∷◌, ◌++◌, length, get_or, true, false, Option, Some, None, position, take, refl, sym, ap, subst, ⊎_elim, arith}
use Rattle.std.proofs.lemmas.Bool.{cases_lt}
use Rattle.std.proofs.lemmas.List.{get_or-take, length-take-le}
use Rattle.std.proofs.lemmas.List.Quantifiers.{position-Some}
use Rattle.rm_sets.specs.Sets.{IsIn, IsSet, minus}
use Rattle.rm_sets.proofs.Sets.{IsIn-cases}
use Rattle.rm_sets.proofs.Members.{not_in_nil, IsIn-append_cases, IsIn-get_or, place_from_IsIn}
use Rattle.rm_market.specs.Best.{Values, is_better, swapped}
use Rattle.rm_market.specs.Certificate.{better_for, better_swap}
use Rattle.rm_verdict_laws.proofs.First.{none_found}
use Rattle.rm_verdict_laws.proofs.Swaps.{first_pair, no_pair, pair_found}
use Rattle.rm_board_laws.proofs.Searches.{position_nowhere}
use Rattle.rm_exchange.specs.Swaps.{NoneBefore, IsFirstSwap}
use Rattle.rm_valuation.proofs.Taken.{some_stays, some_last, rising}

last_one : (x y : ℕ) (Y : List ℕ) (P : ℕ → Type 0) → IsIn x (Y ++ y ∷ []) → (IsIn x Y → P x) → P y → P x
last_one x y Y P i old new = ⊎_elim old (λ h. ⊎_elim (λ e. subst P (sym e) new) (λ n. absurd (not_in_nil x n)) (IsIn-cases x y [] h)) (IsIn-append_cases Y (y ∷ []) x i)

-- none of the refused contracts up to `end` is better in the place of z
pub none_for : (v : Values) (S refused Z : List ℕ) (end z : ℕ) (swap : Option (ℕ × ℕ)) → end ≤ length refused → IsFirstSwap v S refused Z end swap →
    position (λ x. is_better v (swapped S x z) S) (take end refused) ≡ None → IsFirstSwap v S refused (Z ++ z ∷ []) end swap
none_for v S refused Z end z swap le f none = at swap f
  where
    before : NoneBefore v S refused Z end → NoneBefore v S refused (Z ++ z ∷ []) end
    before h j w lt i =
        last_one w z Z (λ u. is_better v (swapped S (get_or refused j 0) u) S ≡ false) i (h j w lt)
        (subst (λ x. is_better v (swapped S x z) S ≡ false) (get_or-take end refused j 0 lt)
        (position_nowhere (λ x. is_better v (swapped S x z) S) (take end refused) 0 none j (subst (λ n. j < n) (sym (length-take-le end refused le)) lt)))

    at : (swap : Option (ℕ × ℕ)) → IsFirstSwap v S refused Z end swap → IsFirstSwap v S refused (Z ++ z ∷ []) end swap
    at None f = (before f.0, f.1)
    at (Some p) f = (before f.0, f.1, f.2, some_stays (λ u. is_better v (swapped S p.0 u) S) Z (z ∷ []) p.1 f.3)

-- the one at this place is, and none before it
pub some_for : (v : Values) (S refused Z : List ℕ) (end z place : ℕ) (swap : Option (ℕ × ℕ)) → end ≤ length refused → IsFirstSwap v S refused Z end swap →
    position (λ x. is_better v (swapped S x z) S) (take end refused) ≡ Some place → (place < end) × IsFirstSwap v S refused (Z ++ z ∷ []) place (Some (get_or refused place 0, z))
some_for v S refused Z end z place swap le f found =
    let before = before_of swap f in
    let h = position-Some (λ x. is_better v (swapped S x z) S) (take end refused) place 0 found in
    let lt : place < end = subst (λ n. place < n) (length-take-le end refused le) h.0 in
    let better : is_better v (swapped S (get_or refused place 0) z) S ≡ true = subst (λ x. is_better v (swapped S x z) S ≡ true) (get_or-take end refused place 0 lt) h.1 in (
      lt,
      (
        (λ j w less i. last_one w z Z (λ u. is_better v (swapped S (get_or refused j 0) u) S ≡ false) i (before j w (omega arith))
            (subst (λ x. is_better v (swapped S x z) S ≡ false) (get_or-take end refused j 0 (omega arith)) (h.2 j less))),
        omega arith,
        refl,
        some_last (λ u. is_better v (swapped S (get_or refused place 0) u) S) Z z (none_found (λ u. is_better v (swapped S (get_or refused place 0) u) S) Z (λ w i. before place w lt i)) better,
      ),
    )
  where
    before_of : (swap : Option (ℕ × ℕ)) → IsFirstSwap v S refused Z end swap → NoneBefore v S refused Z end
    before_of None f = f.0
    before_of (Some p) f = f.0

not_above : (S : List ℕ) (k j : ℕ) → IsSet S → k ≤ j → j < length S → get_or S j 0 < get_or S k 0 → ⊥
not_above S k j s le lt less =
    let up = rising S s k j le lt in
    omega (arith, up, less)

earlier : (S : List ℕ) (j k : ℕ) → IsSet S → get_or S j 0 < get_or S k 0 → j < length S → j < k
earlier S j k s less lt = ⊎_elim (λ l. l) (λ le. absurd (not_above S k j s le lt less)) (cases_lt j k)

pair_is : (p : ℕ × ℕ) (x : ℕ) → x ≡ p.0 → (x, p.1) ≡ p
pair_is p x e = ap (λ y. (y, p.1)) e

pub first_swap_is : (v : Values) (X S refused : List ℕ) (end : ℕ) (swap : Option (ℕ × ℕ)) → refused ≡ minus X S → IsSet refused → IsFirstSwap v S refused S end swap → swap ≡ better_swap v X S
first_swap_is v X S refused end swap e s f = subst (λ L. swap ≡ first_pair (better_for v S) L) e (at swap f)
  where
    none_before : (x : ℕ) (j : ℕ) → get_or refused j 0 ≡ x → j < end → NoneBefore v S refused S end → better_for v S x ≡ None
    none_before x j at lt h = none_found (λ z. is_better v (swapped S x z) S) S (λ z i. subst (λ y. is_better v (swapped S y z) S ≡ false) at (h j z lt i))

    at : (swap : Option (ℕ × ℕ)) → IsFirstSwap v S refused S end swap → swap ≡ first_pair (better_for v S) refused
    at None f =
        sym (no_pair (better_for v S) refused (λ x i.
        let p = place_from_IsIn refused x 0 i in
        none_before x p.0 p.2 (subst (λ n. p.0 < n) (sym f.1) p.1) f.0))
    at (Some p) f =
        let x : ℕ = get_or refused end 0 in
        subst (λ q. Some q ≡ first_pair (better_for v S) refused) (pair_is p x f.2)
        (sym (pair_found (better_for v S) refused x p.1 s (IsIn-get_or refused end 0 f.1) (subst (λ y. better_for v S y ≡ Some p.1) (sym f.2) f.3)
        (λ y i less.
        let q = place_from_IsIn refused y 0 i in
        none_before y q.0 q.2 (earlier refused q.0 end s (subst (λ u. u < x) (sym q.2) less) q.1) f.0)))
