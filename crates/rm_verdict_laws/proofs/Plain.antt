-- The plain programs find exactly the stable sets and the optimal ones.
use Rattle.std.proofs.Common.{◌≡◌, ℕ, ◌<◌, List, length, eqb, Bool, true, not, ◌&&◌, ◌||◌, IsTrue, refl, sym, ◌∙◌, subst, ⊎_elim, eqb-true, eq-eqb}
use Rattle.std.proofs.lemmas.Bool.{cases_Bool, and_parts, and_from, or_left, or_right, or_cases, not-true, not_from_false}
use Rattle.std.proofs.lemmas.List.{length-map}
use Rattle.std.proofs.lemmas.List.FromFn.{length-enumerate_from}
use Rattle.std.proofs.lemmas.Slice.Eq.{bytes_eq-Decides}
use Rattle.std.specs.Prelude.{◌↔◌}
use Rattle.std.specs.Str.{bytes_eq}
use Rattle.std.specs.List.{list_all, enumerate_from, Contains}
use Rattle.rm_sets.specs.Sets.{IsIn, IsSetBelow, with_one, all_below}
use Rattle.rm_sets.proofs.Sets.{not_both, below-all_below, IsSetBelow-all_below}
use Rattle.rm_sets.proofs.Members.{IsIn-all_below, IsSetBelow-with_one, IsSetBelow-smaller}
use Rattle.rm_sets.proofs.Search.{from_list_all, into_list_all}
use Rattle.rm_market.specs.Board.{contract_count}
use Rattle.rm_market.specs.Best.{values_of, best_of, subsets}
use Rattle.rm_market.specs.Stable.{IsPlacement, owner, is_listed, wants, at, prefers_place}
use Rattle.rm_market.specs.Market.{Market, IsMarket, wishes_of, listed_contracts, Best, IsStableIn, IsOptimalIn, is_stable, stable_sets, optimal_sets}
use Rattle.rm_valuation_laws.proofs.BestOf.{IsPart, Occurs, each_part, part_occurs, board_best, board_only}
use Rattle.rm_verdict_laws.proofs.Blocking.{owners_count}
use Rattle.rm_verdict_laws.proofs.Finding.{placed_below}
use Rattle.rm_verdict_laws.proofs.Lists.{all_occur, occur_all, each_occurs, occurs_filter, from_filter, occurs_from_Contains, Contains-from_occurs}

-- ---- the best subset, by test

abbrev chosen : Market → List ℕ → List ℕ
chosen m X = best_of (values_of m.board) X

best_from_test : (m : Market) (X S : List ℕ) → IsMarket m → IsSetBelow (contract_count m.board) X → bytes_eq (chosen m X) S ≡ true → Best m X S
best_from_test m X S ok sX t = subst (Best m X) ((bytes_eq-Decides (chosen m X) S).0 t) (board_best (length m.lists) m.board X ok.board sX)

test_from_best : (m : Market) (X S : List ℕ) → IsMarket m → IsSetBelow (contract_count m.board) X → Best m X S → bytes_eq (chosen m X) S ≡ true
test_from_best m X S ok sX b = (bytes_eq-Decides (chosen m X) S).1 (board_only (length m.lists) m.board X S ok.board sX b)

-- ---- the three tests of a stable set

abbrev is_alone : Market → List ℕ → ℕ → ℕ → Bool
is_alone m S x y = (eqb x y) || not (eqb (owner (wishes_of m) x) (owner (wishes_of m) y))

abbrev is_placed_well : Market → List ℕ → ℕ → Bool
is_placed_well m S x = is_listed (wishes_of m) x && list_all (is_alone m S x) S

abbrev is_kept_out : Market → List ℕ → ℕ → Bool
is_kept_out m S x = not (wants (wishes_of m) S x) || bytes_eq (chosen m (with_one S x)) S

abbrev all_contracts : Market → List ℕ
all_contracts m = all_below (contract_count m.board) (λ d. true)

abbrev tests : Market → List ℕ → Bool
tests m S = (list_all (is_placed_well m S) S && bytes_eq (chosen m S) S) && list_all (is_kept_out m S) (all_contracts m)

is_stable_tests : (m : Market) (S : List ℕ) → is_stable m S ≡ tests m S
unfolding is_stable
is_stable_tests m S = refl

placement_from_test : (m : Market) (S : List ℕ) → IsSetBelow (contract_count m.board) S → list_all (is_placed_well m S) S ≡ true → IsPlacement (wishes_of m) S
placement_from_test m S sS t =
    let one : (x : ℕ) → IsIn x S → (is_listed (wishes_of m) x ≡ true) × (list_all (is_alone m S x) S ≡ true) =
    λ x i. and_parts (is_listed (wishes_of m) x) (list_all (is_alone m S x) S) (from_list_all (is_placed_well m S) S t x i) in
    record {
      set = subst (λ n. IsSetBelow n S) (sym (owners_count m)) sS;
      once = λ x y i j e. ⊎_elim
          (λ same. eqb-true x y same)
          (λ other. absurd (not_both (eqb (owner (wishes_of m) x) (owner (wishes_of m) y)) (eq-eqb (owner (wishes_of m) x) (owner (wishes_of m) y) e) (not-true (eqb (owner (wishes_of m) x) (owner (wishes_of m) y)) other)))
          (or_cases (eqb x y) (not (eqb (owner (wishes_of m) x) (owner (wishes_of m) y))) (from_list_all (is_alone m S x) S (one x i).1 y j));
      listed = λ x i. (one x i).0;
    }

test_from_placement : (m : Market) (S : List ℕ) → IsPlacement (wishes_of m) S → list_all (is_placed_well m S) S ≡ true
test_from_placement m S p =
    into_list_all (is_placed_well m S) S (λ x i.
    and_from (is_listed (wishes_of m) x) (list_all (is_alone m S x) S) (p.listed x i)
    (into_list_all (is_alone m S x) S (λ y j.
    ⊎_elim
    (λ same. or_left (eqb x y) (not (eqb (owner (wishes_of m) x) (owner (wishes_of m) y))) (eq-eqb x y (p.once x y i j (eqb-true (owner (wishes_of m) x) (owner (wishes_of m) y) same))))
    (λ other. or_right (eqb x y) (not (eqb (owner (wishes_of m) x) (owner (wishes_of m) y))) (not_from_false (eqb (owner (wishes_of m) x) (owner (wishes_of m) y)) other))
    (cases_Bool (eqb (owner (wishes_of m) x) (owner (wishes_of m) y))))))

kept_out_from : (m : Market) (S : List ℕ) (x : ℕ) → IsMarket m → IsSetBelow (contract_count m.board) S → x < contract_count m.board → is_kept_out m S x ≡ true → wants (wishes_of m) S x ≡ true → Best m (with_one S x) S
kept_out_from m S x ok sS lt t want =
    ⊎_elim
    (λ not_wanted. absurd (not_both (wants (wishes_of m) S x) want (not-true (wants (wishes_of m) S x) not_wanted)))
    (λ same. best_from_test m (with_one S x) S ok (IsSetBelow-with_one (contract_count m.board) S x sS lt) same)
    (or_cases (not (wants (wishes_of m) S x)) (bytes_eq (chosen m (with_one S x)) S) t)

kept_out_test : (m : Market) (S : List ℕ) (x : ℕ) → IsMarket m → IsSetBelow (contract_count m.board) S → x < contract_count m.board → (wants (wishes_of m) S x ≡ true → Best m (with_one S x) S) → is_kept_out m S x ≡ true
kept_out_test m S x ok sS lt keeps =
    ⊎_elim
    (λ want. or_right (not (wants (wishes_of m) S x)) (bytes_eq (chosen m (with_one S x)) S) (test_from_best m (with_one S x) S ok (IsSetBelow-with_one (contract_count m.board) S x sS lt) (keeps want)))
    (λ f. or_left (not (wants (wishes_of m) S x)) (bytes_eq (chosen m (with_one S x)) S) (not_from_false (wants (wishes_of m) S x) f))
    (cases_Bool (wants (wishes_of m) S x))

stable_from_test : (m : Market) (S : List ℕ) → IsMarket m → IsSetBelow (contract_count m.board) S → is_stable m S ≡ true → IsStableIn m S
stable_from_test m S ok sS t =
    let p = and_parts (list_all (is_placed_well m S) S && bytes_eq (chosen m S) S) (list_all (is_kept_out m S) (all_contracts m)) (sym (is_stable_tests m S) ∙ t) in
    let q = and_parts (list_all (is_placed_well m S) S) (bytes_eq (chosen m S) S) p.0 in
    record {
      placement = placement_from_test m S sS q.0;
      kept = best_from_test m S S ok sS q.1;
      unblocked = λ x lt want.
          let low : x < contract_count m.board = subst (λ n. x < n) (owners_count m) lt in
          kept_out_from m S x ok sS low (from_list_all (is_kept_out m S) (all_contracts m) p.1 x (IsIn-all_below (contract_count m.board) (λ d. true) x low refl)) want;
    }

test_from_stable : (m : Market) (S : List ℕ) → IsMarket m → IsStableIn m S → is_stable m S ≡ true
test_from_stable m S ok h =
    let sS = placed_below m S h.placement in
    is_stable_tests m S
    ∙ and_from (list_all (is_placed_well m S) S && bytes_eq (chosen m S) S) (list_all (is_kept_out m S) (all_contracts m))
    (and_from (list_all (is_placed_well m S) S) (bytes_eq (chosen m S) S) (test_from_placement m S h.placement) (test_from_best m S S ok sS h.kept))
    (into_list_all (is_kept_out m S) (all_contracts m) (λ x i.
    let lt = (below-all_below (contract_count m.board) (λ d. true) x i).0 in
    kept_out_test m S x ok sS lt (λ want. h.unblocked x (subst (λ n. x < n) (sym (owners_count m)) lt) want)))

pub stable_test : (m : Market) (S : List ℕ) → IsMarket m → IsSetBelow (contract_count m.board) S → IsTrue (is_stable m S) ↔ IsStableIn m S
stable_test m S ok sS = (stable_from_test m S ok sS, test_from_stable m S ok)

-- ---- all stable sets

abbrev listed_ones : Market → List ℕ
listed_ones m = all_below (contract_count m.board) (is_listed (wishes_of m))

stable_occurs : (m : Market) (S : List ℕ) → IsMarket m → IsStableIn m S → Occurs S (stable_sets m)
unfolding stable_sets
stable_occurs m S ok h =
    let sS = placed_below m S h.placement in
    occurs_filter (is_stable m) (subsets (listed_ones m)) S
    (part_occurs (listed_ones m) S (IsSetBelow-all_below (contract_count m.board) (is_listed (wishes_of m))).ascending sS.ascending
    (λ x i. IsIn-all_below (contract_count m.board) (is_listed (wishes_of m)) x (sS.below x i) (h.placement.listed x i)))
    (test_from_stable m S ok h)

stable_from_occurs : (m : Market) (S : List ℕ) → IsMarket m → Occurs S (stable_sets m) → IsStableIn m S
unfolding stable_sets
stable_from_occurs m S ok o =
    let h = from_filter (is_stable m) (subsets (listed_ones m)) S o in
    let below = IsSetBelow-all_below (contract_count m.board) (is_listed (wishes_of m)) in
    let part = each_occurs (IsPart (listed_ones m)) (subsets (listed_ones m)) (each_part (listed_ones m) below.ascending) S h.0 in
    stable_from_test m S ok (IsSetBelow-smaller (contract_count m.board) S (listed_ones m) below part.ascending part.within) h.1

pub all_stable : (m : Market) (S : List ℕ) → IsMarket m → Contains (stable_sets m) S ↔ IsStableIn m S
all_stable m S ok =
    (λ c. stable_from_occurs m S ok (occurs_from_Contains (stable_sets m) S c), λ h. Contains-from_occurs (stable_sets m) S (stable_occurs m S ok h))

-- ---- all optimal sets

lists_count : (m : Market) → length (wishes_of m).listed ≡ length m.lists
lists_count m = length-map (enumerate_from 0 m.lists) (λ e. listed_contracts m.board.ranks e.0 e.1) ∙ length-enumerate_from 0 m.lists

abbrev is_no_worse : Market → List ℕ → List ℕ → ℕ → Bool
is_no_worse m S T d = not (prefers_place (wishes_of m) d (at (wishes_of m) d T) (at (wishes_of m) d S))

abbrev doctors_of : Market → List ℕ
doctors_of m = all_below (length m.lists) (λ d. true)

abbrev is_best_liked : Market → List ℕ → Bool
is_best_liked m S = list_all (λ T. list_all (is_no_worse m S T) (doctors_of m)) (stable_sets m)

optimal_occurs : (m : Market) (S : List ℕ) → IsMarket m → IsOptimalIn m S → Occurs S (optimal_sets m)
unfolding optimal_sets
optimal_occurs m S ok h =
    occurs_filter (is_best_liked m) (stable_sets m) S (stable_occurs m S ok h.stable)
    (occur_all (λ T. list_all (is_no_worse m S T) (doctors_of m)) (stable_sets m) (λ T o.
    into_list_all (is_no_worse m S T) (doctors_of m) (λ d i.
    let lt = (below-all_below (length m.lists) (λ k. true) d i).0 in
    not_from_false (prefers_place (wishes_of m) d (at (wishes_of m) d T) (at (wishes_of m) d S))
    (h.best_for_all T d (stable_from_occurs m T ok o) (subst (λ n. d < n) (sym (lists_count m)) lt)))))

optimal_from_occurs : (m : Market) (S : List ℕ) → IsMarket m → Occurs S (optimal_sets m) → IsOptimalIn m S
unfolding optimal_sets
optimal_from_occurs m S ok o =
    let h = from_filter (is_best_liked m) (stable_sets m) S o in
    record {
      stable = stable_from_occurs m S ok h.0;
      best_for_all = λ T d t lt.
          let low : d < length m.lists = subst (λ n. d < n) (lists_count m) lt in
          not-true (prefers_place (wishes_of m) d (at (wishes_of m) d T) (at (wishes_of m) d S))
          (from_list_all (is_no_worse m S T) (doctors_of m)
          (all_occur (λ U. list_all (is_no_worse m S U) (doctors_of m)) (stable_sets m) h.1 T (stable_occurs m T ok t)) d (IsIn-all_below (length m.lists) (λ k. true) d low refl));
    }

pub all_optimal : (m : Market) (S : List ℕ) → IsMarket m → Contains (optimal_sets m) S ↔ IsOptimalIn m S
all_optimal m S ok =
    (λ c. optimal_from_occurs m S ok (occurs_from_Contains (optimal_sets m) S c), λ h. Contains-from_occurs (optimal_sets m) S (optimal_occurs m S ok h))
