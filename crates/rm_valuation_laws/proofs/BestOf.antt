-- The plain program that tries all subsets finds the best one.
use Rattle.std.proofs.Common.{◌≡◌, ℕ, ◌<◌, List, [], ◌∷◌, ◌++◌, length, map, true, false, ◌⊎◌, refl, sym, ap, subst, inl, inr, ⊎_elim, arith}
use Rattle.std.proofs.lemmas.Bool.{cond_both, cases_eq}
use Rattle.std.specs.Prelude.{fold, if◌then◌else◌}
use Rattle.rm_sets.specs.Sets.{IsIn, IsSet, IsSetBelow, IsWithin}
use Rattle.rm_sets.proofs.Sets.{IsIn-here, IsIn-later, IsIn-cases, IsSet-nil, IsSet-tail, IsSet-first, IsSet-cons, not_both}
use Rattle.rm_sets.proofs.Members.{not_in_nil, within_nil}
use Rattle.rm_sets.proofs.Search.{cases_same}
use Rattle.rm_market.specs.Board.{Board, IsBoard, contract_count}
use Rattle.rm_market.specs.Best.{IsChoice, Values, is_better, IsBest, IsValuation, values_of, subsets, best_of}
use Rattle.rm_valuation_laws.specs.Choice.{greedy}
use Rattle.rm_valuation_laws.specs.Scores.{score}
use Rattle.rm_valuation_laws.proofs.Best.{best_by_greedy, best_unique, choice_from_bests}
use Rattle.rm_valuation_laws.proofs.GreedySteps.{none_beats_best}
use Rattle.rm_valuation_laws.specs.Changes.{IsConcaveBoard}
use Rattle.rm_valuation_laws.proofs.LaminarExchange.{board_laws}
use Rattle.rm_valuation_laws.proofs.Market.{market_board_laws}

-- ---- the subsets of a set

pub record IsPart (X T : List ℕ) : Type 0 where
  pub ascending : IsSet T
  pub within : IsWithin T X

abbrev pub Each : (List ℕ → Type 0) → List (List ℕ) → Type 0
Each P [] = Unit {0}
Each P (T ∷ L) = P T × Each P L

abbrev pub Occurs : List ℕ → List (List ℕ) → Type 0
Occurs B [] = ⊥
Occurs B (T ∷ L) = (T ≡ B) ⊎ Occurs B L

each_append : (P : List ℕ → Type 0) (K L : List (List ℕ)) → Each P K → Each P L → Each P (K ++ L)
each_append P [] L k l = l
each_append P (T ∷ K) L k l = (k.0, each_append P K L k.1 l)

each_more : (P Q : List ℕ → Type 0) (L : List (List ℕ)) → ((T : List ℕ) → P T → Q T) → Each P L → Each Q L
each_more P Q [] f e = tt
each_more P Q (T ∷ L) f e = (f T e.0, each_more P Q L f e.1)

each_map : (P Q : List ℕ → Type 0) (x : ℕ) (L : List (List ℕ)) → ((T : List ℕ) → P T → Q (x ∷ T)) → Each P L → Each Q (map (λ S. x ∷ S) L)
each_map P Q x [] f e = tt
each_map P Q x (T ∷ L) f e = (f T e.0, each_map P Q x L f e.1)

occurs_left : (B : List ℕ) (K L : List (List ℕ)) → Occurs B K → Occurs B (K ++ L)
occurs_left B [] L h = absurd h
occurs_left B (T ∷ K) L h = ⊎_elim (λ e. inl e) (λ r. inr (occurs_left B K L r)) h

occurs_right : (B : List ℕ) (K L : List (List ℕ)) → Occurs B L → Occurs B (K ++ L)
occurs_right B [] L h = h
occurs_right B (T ∷ K) L h = inr (occurs_right B K L h)

occurs_map : (B : List ℕ) (x : ℕ) (L : List (List ℕ)) → Occurs B L → Occurs (x ∷ B) (map (λ S. x ∷ S) L)
occurs_map B x [] h = absurd h
occurs_map B x (T ∷ L) h = ⊎_elim (λ e. inl (ap (λ S. x ∷ S) e)) (λ r. inr (occurs_map B x L r)) h

pub each_part : (X : List ℕ) → IsSet X → Each (IsPart X) (subsets X)
each_part [] s = (record { ascending = IsSet-nil; within = within_nil [] }, tt)
each_part (x ∷ X) s =
    let rest = each_part X (IsSet-tail x X s) in
    each_append (IsPart (x ∷ X)) (subsets X) (map (λ S. x ∷ S) (subsets X))
    (each_more (IsPart X) (IsPart (x ∷ X)) (subsets X) (λ T p. record { ascending = p.ascending; within = λ y i. IsIn-later y x X (p.within y i) }) rest)
    (each_map (IsPart X) (IsPart (x ∷ X)) x (subsets X)
    (λ T p. record {
      ascending = IsSet-cons x T (λ y i. IsSet-first x X s y (p.within y i)) p.ascending;
      within = λ y i. ⊎_elim (λ e. subst (λ z. IsIn z (x ∷ X)) (sym e) (IsIn-here x X)) (λ j. IsIn-later y x X (p.within y j)) (IsIn-cases y x T i);
    })
    rest)

pub part_occurs : (X T : List ℕ) → IsSet X → IsSet T → IsWithin T X → Occurs T (subsets X)
part_occurs [] [] sX sT w = inl refl
part_occurs [] (t ∷ T) sX sT w = absurd (not_in_nil t (w t (IsIn-here t T)))
part_occurs (x ∷ X) [] sX sT w = occurs_left [] (subsets X) (map (λ S. x ∷ S) (subsets X)) (part_occurs X [] (IsSet-tail x X sX) IsSet-nil (within_nil X))
part_occurs (x ∷ X) (t ∷ T) sX sT w =
    ⊎_elim
    (λ e. subst (λ z. Occurs (z ∷ T) (subsets (x ∷ X))) (sym e)
    (occurs_right (x ∷ T) (subsets X) (map (λ S. x ∷ S) (subsets X))
    (occurs_map T x (subsets X) (part_occurs X T (IsSet-tail x X sX) (IsSet-tail t T sT)
    (λ y i. ⊎_elim
    (λ same. let lt : t < y = IsSet-first t T sT y i in absurd (omega arith))
    (λ j. j)
    (IsIn-cases y x X (w y (IsIn-later y t T i))))))))
    (λ ne.
    let t_in_X : IsIn t X = ⊎_elim (λ e. absurd (ne e)) (λ j. j) (IsIn-cases t x X (w t (IsIn-here t T))) in
    let above : x < t = IsSet-first x X sX t t_in_X in
    occurs_left (t ∷ T) (subsets X) (map (λ S. x ∷ S) (subsets X))
    (part_occurs X (t ∷ T) (IsSet-tail x X sX) sT
    (λ y i. ⊎_elim
    (λ same. absurd (⊎_elim
    (λ first. omega arith)
    (λ later. let lt : t < y = IsSet-first t T sT y later in omega arith)
    (IsIn-cases y t T i)))
    (λ j. j)
    (IsIn-cases y x X (w y i)))))
    (cases_eq t x)

-- ---- the search

abbrev step : Values → List ℕ → List ℕ → List ℕ
step v S T = if is_better v T S then T else S

finds : (v : Values) (X B : List ℕ) → IsBest v X B → (L : List (List ℕ)) → Each (IsPart X) L → (S : List ℕ) → IsPart X S → (S ≡ B) ⊎ Occurs B L → fold (step v) S L ≡ B
finds v X B b [] e S s now = ⊎_elim (λ h. h) (λ h. absurd h) now
finds v X B b (T ∷ L) e S s now =
    cond_both (is_better v T S) T S (λ R. fold (step v) R L ≡ B)
    (λ better. finds v X B b L e.1 T e.0
    (⊎_elim
    (λ same. absurd (not_both (is_better v T B) (subst (λ R. is_better v T R ≡ true) same better) (none_beats_best v X B T b e.0.ascending e.0.within)))
    (λ h. h)
    now))
    (λ worse. finds v X B b L e.1 S s
    (⊎_elim
    (λ same. inl same)
    (λ h. ⊎_elim
    (λ found. ⊎_elim
    (λ same. inl same)
    (λ ne. absurd (not_both (is_better v B S) (b.beats S s.ascending s.within ne) (subst (λ R. is_better v R S ≡ false) found worse)))
    (cases_same S B))
    (λ later. inr later)
    h)
    now))

pub best_of_is : (n : ℕ) (v : Values) (X : List ℕ) → IsValuation n v → IsSetBelow n X → IsBest v X (best_of v X)
unfolding best_of
best_of_is n v X laws x =
    let B : List ℕ = greedy v.feasible (score v) X in
    let b : IsBest v X B = best_by_greedy n v X laws x in
    subst (IsBest v X)
    (sym (finds v X B b (subsets X) (each_part X x.ascending) [] (record { ascending = IsSet-nil; within = within_nil X }) (inr (part_occurs X B x.ascending b.set b.within))))
    b

-- ---- a market's board

pub board_best : (doctors : ℕ) (b : Board) (X : List ℕ) → IsBoard doctors b → IsSetBelow (contract_count b) X → IsBest (values_of b) X (best_of (values_of b) X)
board_best doctors b X ok x = best_of_is (contract_count b) (values_of b) X (market_board_laws doctors b ok) x

pub board_only : (doctors : ℕ) (b : Board) (X S : List ℕ) → IsBoard doctors b → IsSetBelow (contract_count b) X → IsBest (values_of b) X S → best_of (values_of b) X ≡ S
board_only doctors b X S ok x s = best_unique (contract_count b) (values_of b) X (best_of (values_of b) X) S x (board_best doctors b X ok x) s

pub board_choice : (doctors : ℕ) (b : Board) → IsBoard doctors b → IsChoice (contract_count b) (best_of (values_of b))
board_choice doctors b ok = choice_from_bests (contract_count b) (values_of b) (best_of (values_of b)) (market_board_laws doctors b ok) (λ X x. board_best doctors b X ok x)

-- what the values of a concave board alone say
pub concave_choice : (b : Board) → IsConcaveBoard b → length b.leaves ≡ contract_count b → IsChoice (contract_count b) (best_of (values_of b))
concave_choice b concave leaves =
    let laws : IsValuation (contract_count b) (values_of b) = subst (λ n. IsValuation n (values_of b)) leaves (board_laws b concave) in
    choice_from_bests (contract_count b) (values_of b) (best_of (values_of b)) laws (λ X x. best_of_is (contract_count b) (values_of b) X laws x)
