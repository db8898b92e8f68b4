-- The rows of offers, read one after another.
use Rattle.std.specs.List.{IsDistinct}
use Rattle.std.proofs.Common.{◌≡◌, ◌+◌, ◌<◌, ◌==◌, ◌∙◌, ◌&&◌, eqb, ◌↔◌, ℕ, List, length, get_or, Option, option_and_then, Some, None, refl, ap, sym, subst, arith}
use Rattle.std.proofs.lemmas.List.Sorted.{IsPermutation-sym, Contains-permutation, IsNonDecreasingBy-from_sort}
use Rattle.std.proofs.lemmas.Map.Keys.{IsDistinct-IsPermutation, IsStrictlyIncreasing-from_distinct}
use Rattle.std.specs.List.Sorted.{IsPermutation, IsSorted}
use Rattle.std.specs.Ordering.{nat_cmp}
use Rattle.rm_base.specs.Checks.{first_of}
use Rattle.rm_base.specs.Codes.{refuse}
use Rattle.rm_base.specs.declared.codes.TheConstants.{OWN_FILE, NOT_CONTRACT, REPEATED_CONTRACT}
use Rattle.rm_board_laws.proofs.Searches.{position_bound}
use Rattle.rm_table.specs.Rows.{Row}
use Rattle.rm_market.specs.Board.{number_of, contract_of, contract_count, pairs_of, Board}
use Rattle.rm_roster.specs.Cells.{field}
use Rattle.rm_sets.specs.Sets.{IsIn, IsSet}
use Rattle.rm_sets.proofs.Members.{IsIn-from_Contains, Contains-from_IsIn}
use Rattle.rm_case.specs.Case.{CaseData, market}
use Rattle.rm_case.specs.Own.{doctor_in, hospital_in, row_contract, row_checks, row_of_contract, offer_checks}
use Rattle.rm_case.proofs.NumberedRows.{AreNumbered, board-ranks, eqb-flips, mark-at, ranks-of, row-at}

-- ---- one row

module _ (c : CaseData) (i : ℕ) (former : ℕ → Option ℕ) (row : Row) where
  -- its contract, if it has one
  pub contract-is : (d h : ℕ) → doctor_in c (field 1 row) ≡ Some d → hospital_in c (field 2 row) ≡ Some h → row_contract c row ≡ number_of c.roster.ranks d h
  contract-is d h e f = rw (e, f) refl

  pub no-contract : (d h : ℕ) → doctor_in c (field 1 row) ≡ Some d → hospital_in c (field 2 row) ≡ Some h → number_of c.roster.ranks d h ≡ None
      → first_of (row_checks c i former row) ≡ Some (refuse NOT_CONTRACT OWN_FILE i 2)
  no-contract d h e f n = rw (e, f, n) refl

  pub repeated : (d h x k : ℕ) → doctor_in c (field 1 row) ≡ Some d → hospital_in c (field 2 row) ≡ Some h → number_of c.roster.ranks d h ≡ Some x → former x ≡ Some k
      → first_of (row_checks c i former row) ≡ Some (refuse REPEATED_CONTRACT OWN_FILE i k)
  repeated d h x k e f n r = rw (e, f, n, r) refl

  pub accepted : (d h x : ℕ) → doctor_in c (field 1 row) ≡ Some d → hospital_in c (field 2 row) ≡ Some h → number_of c.roster.ranks d h ≡ Some x → former x ≡ None
      → first_of (row_checks c i former row) ≡ None
  accepted d h x e f n r = rw (e, f, n, r) refl

number-low : (ranks : List (List ℕ)) (d h x : ℕ) → number_of ranks d h ≡ Some x → x < length (pairs_of ranks)
number-low ranks d h x e = let lt = position_bound (λ p. (p.0 == d) && (p.1 == h)) 0 (pairs_of ranks) x e in omega (arith, lt)

-- the contract that the board of a case finds
pub found-number : (c : CaseData) (b : Board) → b ≡ (market c).board → (d h : ℕ) (o p : Option ℕ) → o ≡ contract_of b d h → o ≡ p → number_of c.roster.ranks d h ≡ p
found-number c b same d h o p e is = subst (λ ranks. number_of ranks d h ≡ p) (board-ranks c b same) (sym e ∙ is)

pub contract-low : (c : CaseData) (d h x : ℕ) → number_of c.roster.ranks d h ≡ Some x → x < contract_count (market c).board
contract-low c d h x e = subst (λ ranks. x < length (pairs_of ranks)) (sym (ranks-of c)) (number-low c.roster.ranks d h x e)

-- ---- the rows before row i, each with its contract

abbrev pub AreOffered : CaseData → List Row → ℕ → List (Option ℕ) → List ℕ → Type 0
AreOffered c rows i marks contracts = AreNumbered (offer_checks c) (row_contract c) (contract_count (market c).board) rows i marks contracts

then-same : (o : Option ℕ) (f g : ℕ → Option ℕ) → ((x : ℕ) → o ≡ Some x → f x ≡ g x) → option_and_then f o ≡ option_and_then g o
then-same None f g same = refl
then-same (Some x) f g same = same x refl

checks-by : (c : CaseData) (i j : ℕ) (f g : ℕ → Option ℕ) (row : Row) → i ≡ j → ((x : ℕ) → row_contract c row ≡ Some x → f x ≡ g x)
    → first_of (row_checks c i f row) ≡ first_of (row_checks c j g row)
checks-by c i j f g row e same =
    subst (λ k. first_of (row_checks c i f row) ≡ first_of (row_checks c k g row)) e (rw (then-same (row_contract c row) f g same) refl)

row-low : (ranks : List (List ℕ)) (doctor hospital : Option ℕ) (x : ℕ) → option_and_then (λ d. option_and_then (number_of ranks d) hospital) doctor ≡ Some x → x < length (pairs_of ranks)
row-low ranks None hospital x e = absurd (cc e)
row-low ranks (Some d) None x e = absurd (cc e)
row-low ranks (Some d) (Some h) x e = number-low ranks d h x e

-- the checks of a row by the marks are those by the rows before
pub checks-at : (c : CaseData) (rows : List Row) (i : ℕ) (marks : List (Option ℕ)) (contracts : List ℕ) (row : Row) (r : AreOffered c rows i marks contracts)
    → first_of (offer_checks c r.before row) ≡ first_of (row_checks c i (λ x. get_or marks x None) row)
checks-at c rows i marks contracts row r =
    checks-by c (length r.before + 1) i (row_of_contract c r.before) (λ x. get_or marks x None) row
    (row-at (offer_checks c) (row_contract c) (contract_count (market c).board) rows i marks contracts r)
    (λ x is.
    let low : x < length (pairs_of c.roster.ranks) = row-low c.roster.ranks (doctor_in c (field 1 row)) (hospital_in c (field 2 row)) x is in
    let as_many : contract_count (market c).board ≡ length (pairs_of c.roster.ranks) = ap (λ L. length (pairs_of L)) (ranks-of c) in
    sym (mark-at (offer_checks c) (row_contract c) (contract_count (market c).board) rows i marks contracts r x (omega (arith, low, as_many))))

-- ---- the offers, sorted

pub sorted-set : (xs ys : List ℕ) → IsDistinct eqb xs → IsPermutation xs ys → IsSorted nat_cmp ys → IsSet ys
sorted-set xs ys once moves sorted =
    IsStrictlyIncreasing-from_distinct ys (IsNonDecreasingBy-from_sort (λ x. x) ys sorted)
    (IsDistinct-IsPermutation eqb eqb-flips xs ys moves once)

pub same-members : (xs ys : List ℕ) → IsPermutation xs ys → (x : ℕ) → IsIn x ys ↔ IsIn x xs
same-members xs ys moves x = (
  (λ i. IsIn-from_Contains xs x (Contains-permutation ys xs x (IsPermutation-sym xs ys moves) (Contains-from_IsIn ys x i))),
  (λ i. IsIn-from_Contains ys x (Contains-permutation xs ys x moves (Contains-from_IsIn xs x i))),
)
