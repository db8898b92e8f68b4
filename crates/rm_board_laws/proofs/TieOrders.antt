-- The tie orders by hospital and by rank are strict orders that agree with the rank lists.
use Rattle.std.specs.List.{IsDistinct}
use Rattle.std.proofs.Common.{◌≡◌, ◌⊎◌, ℕ, zero, suc, ◌+◌, ◌-◌, ◌<◌, ◌≤◌, true, cond, List, [], ◌∷◌, ◌++◌, length, get_or, eqb, map, filter, max, refl, sym, ap, ◌∙◌, subst, inl, inr, ⊎_elim, arith, eq-eqb, ne_eqb, eqb-true, true≢false}
use Rattle.std.specs.Prelude.{flat_map, fold}
use Rattle.std.proofs.Math.ListN.{get_or-append}
use Rattle.std.proofs.Math.Seq.{get_or-append_right}
use Rattle.std.proofs.lemmas.Bool.{cases_lt, cases_eq}
use Rattle.std.proofs.lemmas.List.{length-append, append-nil}
use Rattle.std.proofs.lemmas.List.Concat.{flat_map-append}
use Rattle.rm_sets.specs.Sets.{has, IsIn, IsSet, below}
use Rattle.rm_sets.proofs.Sets.{IsIn-cases, not_both, IsSet-tail, IsSet-first, IsSet-all_below, IsSet-filter, below-all_below}
use Rattle.rm_sets.proofs.Members.{not_in_nil, IsIn-all_below, IsIn-filter, IsIn-from_filter, IsIn-append_left, IsIn-append_right, IsIn-append_cases, IsIn-get_or}
use Rattle.rm_market.specs.Board.{pairs_from, pairs_of, stands_before, IsTieOrder}
use Rattle.rm_market.specs.Ties.{rank_places, by_hospital, by_rank}
use Rattle.rm_board_laws.proofs.Contracts.{pair_in}
use Rattle.rm_sets.proofs.Once.{length-below, get_or-below, distinct_of_set, distinct_append, distinct_none, distinct_first, distinct_rest}

-- ---- what stands before what

before_cons : (x y z : ℕ) (L : List ℕ) → (z ≡ x → IsIn y L) → ((z ≡ x → ⊥) → stands_before x y L ≡ true) → stands_before x y (z ∷ L) ≡ true
before_cons x y z L here later =
    ⊎_elim
    (λ e. ap (λ c. cond c (has y L) (stands_before x y L)) (eq-eqb z x e) ∙ here e)
    (λ ne. ap (λ c. cond c (has y L) (stands_before x y L)) (ne_eqb z x ne) ∙ later ne)
    (cases_eq z x)

from_before_cons : (x y z : ℕ) (L : List ℕ) → stands_before x y (z ∷ L) ≡ true → ((z ≡ x) × IsIn y L) ⊎ (((z ≡ x → ⊥) × (stands_before x y L ≡ true)))
from_before_cons x y z L h =
    ⊎_elim
    (λ e. inl (e, sym (ap (λ c. cond c (has y L) (stands_before x y L)) (eq-eqb z x e)) ∙ h))
    (λ ne. inr (ne, sym (ap (λ c. cond c (has y L) (stands_before x y L)) (ne_eqb z x ne)) ∙ h))
    (cases_eq z x)

-- in an ascending list the lesser stands before
pub before_in_set : (L : List ℕ) (x y : ℕ) → IsSet L → IsIn x L → IsIn y L → x < y → stands_before x y L ≡ true
before_in_set [] x y s ix iy lt = absurd (not_in_nil x ix)
before_in_set (z ∷ L) x y s ix iy lt =
    before_cons x y z L
    (λ e. ⊎_elim (λ same. absurd (omega arith)) (λ later. later) (IsIn-cases y z L iy))
    (λ ne.
    let jx : IsIn x L = ⊎_elim (λ same. absurd (ne (sym same))) (λ later. later) (IsIn-cases x z L ix) in
    let low = IsSet-first z L s x jx in
    before_in_set L x y (IsSet-tail z L s) jx (⊎_elim (λ same. absurd (omega arith)) (λ later. later) (IsIn-cases y z L iy)) lt)

-- in two lists joined
pub before_left : (A B : List ℕ) (x y : ℕ) → stands_before x y A ≡ true → stands_before x y (A ++ B) ≡ true
before_left [] B x y h = absurd (true≢false (sym h))
before_left (z ∷ A) B x y h =
    ⊎_elim
    (λ c. before_cons x y z (A ++ B) (λ e. IsIn-append_left A B y c.1) (λ ne. absurd (ne c.0)))
    (λ c. before_cons x y z (A ++ B) (λ e. absurd (c.0 e)) (λ ne. before_left A B x y c.1))
    (from_before_cons x y z A h)

pub before_across : (A B : List ℕ) (x y : ℕ) → IsIn x A → IsIn y B → stands_before x y (A ++ B) ≡ true
before_across [] B x y ix iy = absurd (not_in_nil x ix)
before_across (z ∷ A) B x y ix iy =
    before_cons x y z (A ++ B) (λ e. IsIn-append_right A B y iy)
    (λ ne. before_across A B x y (⊎_elim (λ same. absurd (ne (sym same))) (λ later. later) (IsIn-cases x z A ix)) iy)

-- by places, where each stands once
pub before_at : (L : List ℕ) (i j : ℕ) → IsDistinct eqb L → i < j → j < length L → stands_before (get_or L i 0) (get_or L j 0) L ≡ true
before_at [] i j o lt ll = absurd (omega arith)
before_at (z ∷ L) zero zero o lt ll = absurd (omega arith)
before_at (z ∷ L) zero (suc j) o lt ll = before_cons z (get_or L j 0) z L (λ e. IsIn-get_or L j 0 (omega arith)) (λ ne. absurd (ne refl))
before_at (z ∷ L) (suc i) zero o lt ll = absurd (omega arith)
before_at (z ∷ L) (suc i) (suc j) o lt ll =
    before_cons (get_or L i 0) (get_or L j 0) z L
    (λ e. absurd (not_both (has z L) (subst (λ w. IsIn w L) (sym e) (IsIn-get_or L i 0 (omega arith))) (distinct_first z L o)))
    (λ ne. before_at L i j (distinct_rest z L o) (omega arith) (omega arith))

-- ---- by hospital

pub hospital_ties : (ranks : List (List ℕ)) → IsTieOrder ranks (by_hospital ranks)
hospital_ties ranks =
    let n = length (pairs_of ranks) in
    let s = IsSet-all_below n (λ k. true) in
    record {
      once = distinct_of_set (below n) s;
      all = λ x. ((λ i. (below-all_below n (λ k. true) x i).0), (λ lt. IsIn-all_below n (λ k. true) x lt refl));
      agrees = λ x y lt ly e. before_in_set (below n) x y s (IsIn-all_below n (λ k. true) x (omega arith) refl) (IsIn-all_below n (λ k. true) y ly refl) lt;
    }

-- ---- by rank

max_over : (a : ℕ) (L : List ℕ) → a ≤ fold max a L
max_over a [] = omega arith
max_over a (y ∷ L) = let rest = max_over (max a y) L in omega arith

-- the contracts of one rank list
abbrev own_pairs : ℕ → List ℕ → List (ℕ × ℕ)
own_pairs h rank = map (λ d. (d, h)) rank

own_hospital : (h : ℕ) (L : List ℕ) (k : ℕ) → k < length L → (get_or (own_pairs h L) k (0, 0)).1 ≡ h
own_hospital h [] k lk = absurd (omega arith)
own_hospital h (d ∷ L) zero lk = refl
own_hospital h (d ∷ L) (suc k) lk = own_hospital h L k (omega arith)

long_rank : (h : ℕ) (rank : List ℕ) → length (own_pairs h rank) ≡ length rank
long_rank h [] = refl
long_rank h (d ∷ rank) = ap suc (long_rank h rank)

-- the place of a contract in its rank list is less than the longest list
pub place_bound : (a h : ℕ) (ranks : List (List ℕ)) (x : ℕ) → x < length (pairs_from h ranks) → get_or (rank_places ranks) x 0 < fold max a (map length ranks)
place_bound a h [] x lt = absurd (omega arith)
place_bound a h (rank ∷ ranks) x lt =
    let l = length-append (own_pairs h rank) (pairs_from (h + 1) ranks) in
    let lr = long_rank h rank in
    let u = length-below (length rank) in
    ⊎_elim
    (λ less.
    let e : get_or (rank_places (rank ∷ ranks)) x 0 ≡ x = get_or-append (below (length rank)) (rank_places ranks) 0 x (omega arith) ∙ get_or-below (length rank) x 0 less in
    let m = max_over (max a (length rank)) (map length ranks) in
    omega arith)
    (λ le.
    let e : get_or (rank_places (rank ∷ ranks)) x 0 ≡ get_or (rank_places ranks) (x - length (below (length rank))) 0 = get_or-append_right (below (length rank)) (rank_places ranks) x 0 (omega arith) in
    let same = ap (λ k. get_or (rank_places ranks) (x - k) 0) u in
    let rest = place_bound (max a (length rank)) (h + 1) ranks (x - length rank) (omega arith) in
    omega arith)
    (cases_lt x (length rank))

-- at one hospital the places are in the order of the numbers
places_rise : (h : ℕ) (ranks : List (List ℕ)) (x y : ℕ) → x < y → y < length (pairs_from h ranks) → (get_or (pairs_from h ranks) x (0, 0)).1 ≡ (get_or (pairs_from h ranks) y (0, 0)).1 → get_or (rank_places ranks) x 0 < get_or (rank_places ranks) y 0
places_rise h [] x y lt ly e = absurd (omega arith)
places_rise h (rank ∷ ranks) x y lt ly e =
    let own = own_pairs h rank in
    let l = length-append own (pairs_from (h + 1) ranks) in
    let lr : length own ≡ length rank = long_rank h rank in
    let u = length-below (length rank) in
    ⊎_elim
    (λ lessY.
    let ex : get_or (rank_places (rank ∷ ranks)) x 0 ≡ x = get_or-append (below (length rank)) (rank_places ranks) 0 x (omega arith) ∙ get_or-below (length rank) x 0 (omega arith) in
    let ey : get_or (rank_places (rank ∷ ranks)) y 0 ≡ y = get_or-append (below (length rank)) (rank_places ranks) 0 y (omega arith) ∙ get_or-below (length rank) y 0 lessY in
    omega arith)
    (λ leY.
    let py : (get_or (pairs_from h (rank ∷ ranks)) y (0, 0)).1 ≡ (get_or (pairs_from (h + 1) ranks) (y - length own) (0, 0)).1 = ap (λ p. p.1) (get_or-append_right own (pairs_from (h + 1) ranks) y (0, 0) (omega arith)) in
    let iny = pair_in (h + 1) ranks (y - length own) (omega arith) in
    let lowy = iny.0 in
    ⊎_elim
    (λ lessX.
    let px : (get_or (pairs_from h (rank ∷ ranks)) x (0, 0)).1 ≡ h = ap (λ p. p.1) (get_or-append own (pairs_from (h + 1) ranks) (0, 0) x (omega arith)) ∙ own_hospital h rank x lessX in
    absurd (omega arith))
    (λ leX.
    let px : (get_or (pairs_from h (rank ∷ ranks)) x (0, 0)).1 ≡ (get_or (pairs_from (h + 1) ranks) (x - length own) (0, 0)).1 = ap (λ p. p.1) (get_or-append_right own (pairs_from (h + 1) ranks) x (0, 0) (omega arith)) in
    let rest = places_rise (h + 1) ranks (x - length own) (y - length own) (omega arith) (omega arith) (sym px ∙ (e ∙ py)) in
    let ex : get_or (rank_places (rank ∷ ranks)) x 0 ≡ get_or (rank_places ranks) (x - length (below (length rank))) 0 = get_or-append_right (below (length rank)) (rank_places ranks) x 0 (omega arith) in
    let ey : get_or (rank_places (rank ∷ ranks)) y 0 ≡ get_or (rank_places ranks) (y - length (below (length rank))) 0 = get_or-append_right (below (length rank)) (rank_places ranks) y 0 (omega arith) in
    let same : length (below (length rank)) ≡ length own = omega arith in
    let sx = ap (λ k. get_or (rank_places ranks) (x - k) 0) same in
    let sy = ap (λ k. get_or (rank_places ranks) (y - k) 0) same in
    omega arith)
    (cases_lt x (length rank)))
    (cases_lt y (length rank))

module _ (ranks : List (List ℕ)) where
  abbrev class : ℕ → List ℕ
  class k = filter (λ x. eqb (get_or (rank_places ranks) x 0) k) (below (length (pairs_of ranks)))

  abbrev classes : ℕ → List ℕ
  classes m = flat_map class (below m)

  classes_more : (m : ℕ) → classes (suc m) ≡ classes m ++ class m
  classes_more m = flat_map-append class (below m) (m ∷ []) ∙ ap (λ T. classes m ++ T) (append-nil (class m))

  in_class : (x : ℕ) → x < length (pairs_of ranks) → IsIn x (class (get_or (rank_places ranks) x 0))
  in_class x lt = IsIn-filter (λ y. eqb (get_or (rank_places ranks) y 0) (get_or (rank_places ranks) x 0)) (below (length (pairs_of ranks))) x (IsIn-all_below (length (pairs_of ranks)) (λ k. true) x lt refl) (eq-eqb (get_or (rank_places ranks) x 0) (get_or (rank_places ranks) x 0) refl)

  from_class : (k x : ℕ) → IsIn x (class k) → (x < length (pairs_of ranks)) × (get_or (rank_places ranks) x 0 ≡ k)
  from_class k x i =
      let a = IsIn-from_filter (λ y. eqb (get_or (rank_places ranks) y 0) k) (below (length (pairs_of ranks))) x i in
      ((below-all_below (length (pairs_of ranks)) (λ j. true) x a.0).0, eqb-true (get_or (rank_places ranks) x 0) k a.1)

  from_classes : (m x : ℕ) → IsIn x (classes m) → (x < length (pairs_of ranks)) × (get_or (rank_places ranks) x 0 < m)
  from_classes zero x i = absurd (not_in_nil x i)
  from_classes (suc m) x i =
      ⊎_elim
      (λ old. let a = from_classes m x old in let lt = a.1 in (a.0, omega arith))
      (λ new. let a = from_class m x new in let e = a.1 in (a.0, omega arith))
      (IsIn-append_cases (classes m) (class m) x (subst (λ T. IsIn x T) (classes_more m) i))

  in_classes : (m x : ℕ) → x < length (pairs_of ranks) → get_or (rank_places ranks) x 0 < m → IsIn x (classes m)
  in_classes zero x lt lm = absurd (omega arith)
  in_classes (suc m) x lt lm =
      subst (λ T. IsIn x T) (sym (classes_more m))
      (⊎_elim
      (λ less. IsIn-append_left (classes m) (class m) x (in_classes m x lt less))
      (λ le. let e : get_or (rank_places ranks) x 0 ≡ m = omega arith in IsIn-append_right (classes m) (class m) x (subst (λ k. IsIn x (class k)) e (in_class x lt)))
      (cases_lt (get_or (rank_places ranks) x 0) m))

  once_classes : (m : ℕ) → IsDistinct eqb (classes m)
  once_classes zero = distinct_none
  once_classes (suc m) =
      subst (IsDistinct eqb) (sym (classes_more m))
      (distinct_append (classes m) (class m) (once_classes m)
      (distinct_of_set (class m) (IsSet-filter (λ y. eqb (get_or (rank_places ranks) y 0) m) (below (length (pairs_of ranks))) (IsSet-all_below (length (pairs_of ranks)) (λ k. true))))
      (λ x i j. let a = (from_classes m x i).1 in let e = (from_class m x j).1 in absurd (omega arith)))

  before_classes : (m x y : ℕ) → x < length (pairs_of ranks) → y < length (pairs_of ranks) → get_or (rank_places ranks) x 0 < get_or (rank_places ranks) y 0 → get_or (rank_places ranks) y 0 < m → stands_before x y (classes m) ≡ true
  before_classes zero x y lx ly lt lm = absurd (omega arith)
  before_classes (suc m) x y lx ly lt lm =
      subst (λ T. stands_before x y T ≡ true) (sym (classes_more m))
      (⊎_elim
      (λ less. before_left (classes m) (class m) x y (before_classes m x y lx ly lt less))
      (λ le.
      let e : get_or (rank_places ranks) y 0 ≡ m = omega arith in
      before_across (classes m) (class m) x y (in_classes m x lx (omega arith)) (subst (λ k. IsIn y (class k)) e (in_class y ly)))
      (cases_lt (get_or (rank_places ranks) y 0) m))

  pub rank_ties : IsTieOrder ranks (by_rank ranks)
  unfolding by_rank
  rank_ties =
      let m = fold max 0 (map length ranks) in record {
        once = once_classes m;
        all = λ x. ((λ i. (from_classes m x i).0), (λ lt. in_classes m x lt (place_bound 0 0 ranks x lt)));
        agrees = λ x y lt ly e. before_classes m x y (omega arith) ly (places_rise 0 ranks x y lt ly e) (place_bound 0 0 ranks y ly);
      }
