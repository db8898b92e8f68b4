-- The best subset of some offers, and the rows that tell of it.
use Rattle.std.proofs.Common.{◌≡◌, ◌<◌, ◌↔◌, ℕ, Bool, true, false, List, [], ◌∷◌, length, All, Option, Some, None, IfSome, refl, ⊎_elim}
use Rattle.std.proofs.lemmas.List.Elements.{All-nil, All-cons}
use Rattle.rm_sets.specs.Sets.{IsIn, IsSet, IsSetBelow, with_one}
use Rattle.rm_sets.proofs.Members.{members_from_All}
use Rattle.rm_sets.proofs.Sets.{IsIn-here, IsIn-later}
use Rattle.rm_market.specs.Board.{Board, IsBoard, contract_count, is_feasible}
use Rattle.rm_market.specs.Best.{Values, IsBest, values_of}
use Rattle.rm_market.specs.Certificate.{certificate}
use Rattle.rm_market.specs.declared.CertRow.{CertRow}
use Rattle.rm_market.specs.declared.SwapRow.{SwapRow}
use Rattle.rm_verdict_laws.specs.Rows.{IsKeptRow, IsRefusedRow, IsSwapCell, AreRowsOf}
use Rattle.rm_verdict_laws.proofs.Certificate.{rows_say}
use Rattle.rm_report.specs.Texts.{IsRowOf}

-- what is the best of a set is the best of its members in any order
pub best_of_same : (v : Values) (X Y S : List ℕ) → ((x : ℕ) → IsIn x X ↔ IsIn x Y) → IsBest v X S → IsBest v Y S
best_of_same v X Y S same best = record {
  set = best.set;
  within = λ x i. (same x).0 (best.within x i);
  feasible = best.feasible;
  beats = λ T set within ne. best.beats T set (λ x i. (same x).1 (within x i)) ne;
}

-- a set of the members of a list of numbers below n
pub set_below : (n : ℕ) (S X : List ℕ) → ((x : ℕ) → IsIn x S ↔ IsIn x X) → All (λ x. x < n) X → (set : IsSet S) → IsSetBelow n S
set_below n S X same below set = record { ascending = set; below = λ x i. members_from_All (λ y. y < n) X below x ((same x).0 i) }

-- ---- the contracts and the node of each row are those of the board

swap_within : (b : Board) (S : List ℕ) (x : ℕ) (o : Option SwapRow) → IsSetBelow (contract_count b) S → IsSwapCell (values_of b) S x o → IfSome o (λ s. s.out < contract_count b)
swap_within b S x None set cell = tt
swap_within b S x (Some row) set cell = set.below row.out cell.0.member

kept_within : (b : Board) (S : List ℕ) (x : ℕ) (row : CertRow) → IsKeptRow b S x row → x < contract_count b → IsRowOf b row
kept_within b S x row k lt = record { contract = rw k.contract lt; full = rw k.full tt; swap = rw k.swap tt }

full_within : (b : Board) (S : List ℕ) (x : ℕ) (row : CertRow) → IsRefusedRow b S x row → (t : Bool) → is_feasible b (with_one S x) ≡ t → IfSome row.full (λ k. k < length b.nodes)
full_within b S x row r true fits = rw (r.fits fits).1 tt
full_within b S x row r false fits = let k = (r.full fits).1 in rw k.1 k.2.node.node

refused_within : (b : Board) (S : List ℕ) (x : ℕ) (row : CertRow) → IsSetBelow (contract_count b) S → IsRefusedRow b S x row → x < contract_count b → IsRowOf b row
refused_within b S x row set r lt = record { contract = rw r.contract lt; full = full_within b S x row r (is_feasible b (with_one S x)) refl; swap = swap_within b S x row.swap set r.swap }

all_within : (b : Board) (S offers : List ℕ) (rows : List CertRow) → IsSetBelow (contract_count b) S → ((x : ℕ) → IsIn x offers → x < contract_count b) → AreRowsOf b S offers rows → All (IsRowOf b) rows
all_within b S [] [] set below are = All-nil (IsRowOf b)
all_within b S [] (row ∷ rows) set below are = absurd are
all_within b S (x ∷ offers) [] set below are = absurd are
all_within b S (x ∷ offers) (row ∷ rows) set below are =
    let lt = below x (IsIn-here x offers) in
    All-cons (IsRowOf b) row rows
    (⊎_elim (λ k. kept_within b S x row k lt) (λ r. refused_within b S x row set r lt) are.0)
    (all_within b S offers rows set (λ y i. below y (IsIn-later y x offers i)) are.1)

pub rows_within : (doctors : ℕ) (b : Board) (S offers : List ℕ) → IsBoard doctors b → All (λ x. x < contract_count b) offers → IsBest (values_of b) offers S → All (IsRowOf b) (certificate b offers S)
rows_within doctors b S offers ok below best =
    let offered = members_from_All (λ x. x < contract_count b) offers below in
    let set : IsSetBelow (contract_count b) S = record { ascending = best.set; below = λ x i. offered x (best.within x i) } in
    all_within b S offers (certificate b offers S) set offered (rows_say doctors b S offers ok set best.feasible offered)
