-- A wanted contract blocks a set that is its own best subset exactly where adding it, or putting it in the place of another one, is better.
use Rattle.std.proofs.Common.{◌≡◌, ℕ, ◌<◌, List, length, Bool, true, false, not, ◌&&◌, ◌||◌, Some, None, refl, sym, ap, subst, ⊎_elim}
use Rattle.std.proofs.lemmas.Bool.{cases_Bool, and_parts, and_from, or_parts, or_cases, not-true}
use Rattle.std.proofs.lemmas.List.{length-map}
use Rattle.std.specs.Option.{is_some}
use Rattle.rm_sets.specs.Sets.{has, IsIn, IsSet, IsSetBelow, with_one, below}
use Rattle.rm_sets.proofs.Sets.{not_both, below-all_below, IsSet-all_below, IsIn-with_one_cases}
use Rattle.rm_sets.proofs.Members.{IsIn-all_below, IsIn-with_one_new, IsSetBelow-with_one, within-with_one}
use Rattle.rm_market.specs.Board.{contract_count}
use Rattle.rm_market.specs.Best.{Values, values_of, is_better, swapped, IsBest, IsValuation}
use Rattle.rm_market.specs.Stable.{Wishes, wants}
use Rattle.rm_market.specs.Market.{Market, IsMarket, wishes_of, Best}
use Rattle.rm_market.specs.Certificate.{better_for, blocking}
use Rattle.rm_valuation_laws.proofs.Market.{market_board_laws}
use Rattle.rm_verdict_laws.specs.Findings.{IsBlocking, IsLeastBlocking}
use Rattle.rm_verdict_laws.proofs.First.{none_passes, none_found, least_found, found_least}
use Rattle.rm_verdict_laws.proofs.Changes.{no_removal, no_addition, no_swap, best_from_changes}
use Rattle.rm_verdict_laws.proofs.Swaps.{cases_option}
use Rattle.rm_verdict_laws.proofs.Verdict.{no_place_found, no_place_from}

-- ---- one contract, on any valuation

-- adding x, or putting it in the place of a contract of S, is better
abbrev pub is_taken : Values → List ℕ → ℕ → Bool
is_taken v S x = is_better v (with_one S x) S || is_some (better_for v S x)

pub not_best_from_taken : (v : Values) (S : List ℕ) (x : ℕ) → has x S ≡ false → is_taken v S x ≡ true → IsBest v (with_one S x) S → ⊥
not_best_from_taken v S x out t b =
    ⊎_elim
    (λ add. not_both (is_better v (with_one S x) S) add (no_addition v (with_one S x) S b x (IsIn-with_one_new S x) (λ i. not_both (has x S) i out)))
    (λ place.
    let none = no_place_found v S x (λ z i. no_swap v (with_one S x) S b x z (IsIn-with_one_new S x) (λ j. not_both (has x S) j out) i) in
    not_both (is_some (better_for v S x)) place (ap is_some none))
    (or_cases (is_better v (with_one S x) S) (is_some (better_for v S x)) t)

no_place_from_test : (v : Values) (S : List ℕ) (x : ℕ) → is_some (better_for v S x) ≡ false → better_for v S x ≡ None
no_place_from_test v S x f = ⊎_elim (λ e. e) (λ s. absurd (not_both (is_some (better_for v S x)) (ap is_some s.1) f)) (cases_option (better_for v S x))

pub best_from_not_taken : (n : ℕ) (v : Values) (S : List ℕ) (x : ℕ) → IsValuation n v → IsSetBelow n S → x < n → IsBest v S S → is_taken v S x ≡ false → IsBest v (with_one S x) S
best_from_not_taken n v S x laws sS lt b f =
    let parts = or_parts (is_better v (with_one S x) S) (is_some (better_for v S x)) f in
    let none = no_place_from v S x (no_place_from_test v S x parts.1) in
    let only : (y : ℕ) → IsIn y (with_one S x) → ¬ IsIn y S → x ≡ y = λ y i out. ⊎_elim (λ old. absurd (out old)) (λ e. sym e) (IsIn-with_one_cases y S x i) in
    best_from_changes n v (with_one S x) S laws (IsSetBelow-with_one n S x sS lt) sS.ascending (within-with_one S x) b.feasible
    (no_removal v S S b)
    (λ y i out. subst (λ w. is_better v (with_one S w) S ≡ false) (only y i out) parts.0)
    (λ y z i out j. subst (λ w. is_better v (swapped S w z) S ≡ false) (only y i out) (none z j))

-- ---- in a market

pub owners_count : (m : Market) → length (wishes_of m).owners ≡ contract_count m.board
owners_count m = simp length-map

abbrev pub is_blocking : Market → List ℕ → ℕ → Bool
is_blocking m S x = wants (wishes_of m) S x && is_taken (values_of m.board) S x

pub unheld : (w : Wishes) (S : List ℕ) (x : ℕ) → wants w S x ≡ true → has x S ≡ false
unheld w S x t = not-true (has x S) (and_parts (not (has x S)) _ t).0

pub blocking_from_test : (m : Market) (S : List ℕ) (x : ℕ) → x < contract_count m.board → is_blocking m S x ≡ true → IsBlocking m S x
blocking_from_test m S x lt t =
    let parts = and_parts (wants (wishes_of m) S x) (is_taken (values_of m.board) S x) t in
    record { contract = lt; wanted = parts.0; unkept = not_best_from_taken (values_of m.board) S x (unheld (wishes_of m) S x parts.0) parts.1 }

pub test_from_blocking : (m : Market) (S : List ℕ) (x : ℕ) → IsMarket m → IsSetBelow (contract_count m.board) S → Best m S S → IsBlocking m S x → is_blocking m S x ≡ true
test_from_blocking m S x ok sS b h =
    and_from (wants (wishes_of m) S x) (is_taken (values_of m.board) S x) h.wanted
    (⊎_elim
    (λ t. t)
    (λ f. absurd (h.unkept (best_from_not_taken (contract_count m.board) (values_of m.board) S x (market_board_laws (length m.lists) m.board ok.board) sS h.contract b f)))
    (cases_Bool (is_taken (values_of m.board) S x)))

-- ---- the search

abbrev all_of : Market → List ℕ
all_of m = below (length (wishes_of m).owners)

below_count : (m : Market) (x : ℕ) → IsIn x (all_of m) → x < contract_count m.board
below_count m x i = subst (λ n. x < n) (owners_count m) (below-all_below (length (wishes_of m).owners) (λ k. true) x i).0

count_below : (m : Market) (x : ℕ) → x < contract_count m.board → IsIn x (all_of m)
count_below m x lt = IsIn-all_below (length (wishes_of m).owners) (λ k. true) x (subst (λ n. x < n) (sym (owners_count m)) lt) refl

all_is_set : (m : Market) → IsSet (all_of m)
all_is_set m = IsSet-all_below (length (wishes_of m).owners) (λ k. true)

pub found_blocking : (m : Market) (S : List ℕ) (x : ℕ) → IsMarket m → IsSetBelow (contract_count m.board) S → Best m S S → blocking m.board (wishes_of m) S ≡ Some x → IsLeastBlocking m S x
found_blocking m S x ok sS b e =
    let h = found_least (is_blocking m S) (all_of m) x (all_is_set m) e in
    record {
      blocks = blocking_from_test m S x (below_count m x h.member) h.passes;
      least = λ y g. h.least y (count_below m y g.contract) (test_from_blocking m S y ok sS b g);
    }

pub blocking_found : (m : Market) (S : List ℕ) (x : ℕ) → IsMarket m → IsSetBelow (contract_count m.board) S → Best m S S → IsLeastBlocking m S x → blocking m.board (wishes_of m) S ≡ Some x
blocking_found m S x ok sS b h =
    least_found (is_blocking m S) (all_of m) x (all_is_set m)
    (record {
      member = count_below m x h.blocks.contract;
      passes = test_from_blocking m S x ok sS b h.blocks;
      least = λ y i t. h.least y (blocking_from_test m S y (below_count m y i) t);
    })

-- where none blocks, S stays the best subset with any wanted contract
pub unblocked : (m : Market) (S : List ℕ) → IsMarket m → IsSetBelow (contract_count m.board) S → Best m S S → blocking m.board (wishes_of m) S ≡ None →
    (x : ℕ) → x < contract_count m.board → wants (wishes_of m) S x ≡ true → Best m (with_one S x) S
unblocked m S ok sS b e x lt t =
    best_from_not_taken (contract_count m.board) (values_of m.board) S x (market_board_laws (length m.lists) m.board ok.board) sS lt b
    (⊎_elim
    (λ taken. absurd (not_both (is_blocking m S x) (and_from (wants (wishes_of m) S x) (is_taken (values_of m.board) S x) t taken) (none_passes (is_blocking m S) (all_of m) e x (count_below m x lt))))
    (λ f. f)
    (cases_Bool (is_taken (values_of m.board) S x)))

pub none_blocking : (m : Market) (S : List ℕ) → ((x : ℕ) → x < contract_count m.board → wants (wishes_of m) S x ≡ true → Best m (with_one S x) S) → blocking m.board (wishes_of m) S ≡ None
none_blocking m S keeps =
    none_found (is_blocking m S) (all_of m)
    (λ x i. ⊎_elim
    (λ t. let h = blocking_from_test m S x (below_count m x i) t in absurd (h.unkept (keeps x h.contract h.wanted)))
    (λ f. f)
    (cases_Bool (is_blocking m S x)))
