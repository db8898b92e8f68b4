-- The last contract of a set at each leaf, as the set grows.
use Rattle.std.proofs.Common.{◌≡◌, ◌⊎◌, ℕ, ◌<◌, ◌≤◌, List, [], ◌∷◌, ◌++◌, length, Option, Some, None, get_or, set, refl, sym, ap, subst, inl, inr, ⊎_elim, arith, ◌∙◌}
use Rattle.std.proofs.lemmas.Bool.{cases_eq}
use Rattle.std.proofs.lemmas.List.{get_or-set_same, get_or-set_other, length-set}
use Rattle.rm_sets.specs.Sets.{IsIn}
use Rattle.rm_sets.proofs.Sets.{IsIn-here, IsIn-cases}
use Rattle.rm_sets.proofs.Members.{not_in_nil, IsIn-append_left, IsIn-append_right, IsIn-append_cases}
use Rattle.rm_market.specs.Board.{Board, leaf_of}
use Rattle.rm_valuation_laws.specs.Scores.{place}
use Rattle.rm_exchange.specs.RowsBelow.{IsLastAt}

pub old_or_last : (x y : ℕ) (Y : List ℕ) → IsIn x (Y ++ y ∷ []) → IsIn x Y ⊎ (x ≡ y)
old_or_last x y Y i = ⊎_elim (λ h. inl h) (λ h. ⊎_elim (λ e. inr e) (λ n. absurd (not_in_nil x n)) (IsIn-cases x y [] h)) (IsIn-append_cases Y (y ∷ []) x i)

last_here : (S : List ℕ) (z : ℕ) → IsIn z (S ++ z ∷ [])
last_here S z = IsIn-append_right S (z ∷ []) z (IsIn-here z [])

pub last_alone : (b : Board) (S : List ℕ) (z : ℕ) → IsLastAt b S (leaf_of b z) None → IsLastAt b (S ++ z ∷ []) (leaf_of b z) (Some z)
last_alone b S z none = (
  last_here S z,
  refl,
  λ y i e. ⊎_elim
      (λ old. absurd (none y old e))
      (λ same. let p : place b.ties y ≡ place b.ties z = ap (place b.ties) same in omega (arith, p))
      (old_or_last y z S i),
)

pub last_stays : (b : Board) (S : List ℕ) (z y : ℕ) → IsLastAt b S (leaf_of b z) (Some y) → place b.ties z ≤ place b.ties y → IsLastAt b (S ++ z ∷ []) (leaf_of b z) (Some y)
last_stays b S z y h le = (
  IsIn-append_left S (z ∷ []) y h.0,
  h.1,
  λ w i e. ⊎_elim
      (λ old. h.2 w old e)
      (λ same. subst (λ u. place b.ties u ≤ place b.ties y) (sym same) le)
      (old_or_last w z S i),
)

pub last_replaced : (b : Board) (S : List ℕ) (z y : ℕ) → IsLastAt b S (leaf_of b z) (Some y) → place b.ties y ≤ place b.ties z → IsLastAt b (S ++ z ∷ []) (leaf_of b z) (Some z)
last_replaced b S z y h le = (
  last_here S z,
  refl,
  λ w i e. ⊎_elim
      (λ old. let up = h.2 w old e in omega (arith, up, le))
      (λ same. let p : place b.ties w ≡ place b.ties z = ap (place b.ties) same in omega (arith, p))
      (old_or_last w z S i),
)

other_leaf : (b : Board) (S : List ℕ) (z leaf : ℕ) (last : Option ℕ) → (leaf_of b z ≡ leaf → ⊥) → IsLastAt b S leaf last → IsLastAt b (S ++ z ∷ []) leaf last
other_leaf b S z leaf None ne h = λ y i e. ⊎_elim (λ old. h y old e) (λ same. ne (ap (leaf_of b) (sym same) ∙ e)) (old_or_last y z S i)
other_leaf b S z leaf (Some y) ne h = (
  IsIn-append_left S (z ∷ []) y h.0,
  h.1,
  λ w i e. ⊎_elim (λ old. h.2 w old e) (λ same. absurd (ne (ap (leaf_of b) (sym same) ∙ e))) (old_or_last w z S i),
)

-- the table of all leaves, after one more contract
pub lasts_more : (b : Board) (S : List ℕ) (z : ℕ) (lasts : List (Option ℕ)) (last : ℕ) → leaf_of b z < length lasts → ((leaf : ℕ) (d : Option ℕ) → leaf < length lasts → IsLastAt b S leaf (get_or lasts leaf d)) →
    IsLastAt b (S ++ z ∷ []) (leaf_of b z) (Some last) → (leaf : ℕ) (d : Option ℕ) → leaf < length (set lasts (leaf_of b z) (Some last)) → IsLastAt b (S ++ z ∷ []) leaf (get_or (set lasts (leaf_of b z) (Some last)) leaf d)
lasts_more b S z lasts last lt h new leaf d less =
    ⊎_elim
    (λ e. subst (λ o. IsLastAt b (S ++ z ∷ []) leaf o) (sym (ap (λ l. get_or (set lasts (leaf_of b z) (Some last)) l d) e ∙ get_or-set_same lasts (leaf_of b z) (Some last) d lt)) (subst (λ l. IsLastAt b (S ++ z ∷ []) l (Some last)) (sym e) new))
    (λ ne. subst (λ o. IsLastAt b (S ++ z ∷ []) leaf o) (sym (get_or-set_other lasts (leaf_of b z) leaf (Some last) d ne))
    (other_leaf b S z leaf (get_or lasts leaf d) (λ e. ne (sym e)) (h leaf d (subst (λ n. leaf < n) (length-set lasts (leaf_of b z) (Some last)) less))))
    (cases_eq leaf (leaf_of b z))
