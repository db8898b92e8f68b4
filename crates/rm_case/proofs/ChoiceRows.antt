-- The rows of choices, read one after another.
use Rattle.std.proofs.Common.{◌≡◌, ◌∙◌, ◌+◌, ◌==◌, ℕ, Bool, List, length, get_or, position, Option, option_map, is_some, Some, None, refl, ap, sym}
use Rattle.rm_base.specs.Checks.{first_of}
use Rattle.rm_base.specs.Codes.{refuse}
use Rattle.rm_base.specs.declared.codes.TheConstants.{OWN_FILE, REPEATED_CHOICE, UNKNOWN_HOSPITAL}
use Rattle.rm_table.specs.Rows.{Row}
use Rattle.rm_roster.specs.Cells.{field}
use Rattle.rm_sets.specs.Sets.{has}
use Rattle.rm_case.specs.Case.{CaseData, IsCase, market}
use Rattle.rm_case.specs.Choices.{choice_checks, hospital_checks, hospitals_in_rows, row_hospital}
use Rattle.rm_case.proofs.NumberedRows.{AreNumbered, has-place, hospital-low, mark-at, row-at}

-- ---- one row

module _ (i : ℕ) (former : ℕ → Option ℕ) (hospital : Option ℕ) where
  pub unknown : hospital ≡ None → first_of (hospital_checks i (λ h. is_some (former h)) hospital) ≡ Some (refuse UNKNOWN_HOSPITAL OWN_FILE i 1)
  unknown e = rw e refl

  pub repeated : (h k : ℕ) → hospital ≡ Some h → former h ≡ Some k
      → first_of (hospital_checks i (λ h. is_some (former h)) hospital) ≡ Some (refuse REPEATED_CHOICE OWN_FILE i 1)
  repeated h k e f = rw (e, f) refl

  pub accepted : (h : ℕ) → hospital ≡ Some h → former h ≡ None → first_of (hospital_checks i (λ h. is_some (former h)) hospital) ≡ None
  accepted h e f = rw (e, f) refl

-- ---- the rows before row i, each with its hospital

abbrev pub AreChosen : CaseData → List Row → ℕ → List (Option ℕ) → List ℕ → Type 0
AreChosen c rows i marks hospitals = AreNumbered (choice_checks c) (row_hospital c) (length (market c).board.ranks) rows i marks hospitals

marked : (o : Option ℕ) → is_some (option_map (λ k. k + 1) o) ≡ is_some o
marked None = refl
marked (Some k) = refl

checks-by : (i j : ℕ) (f g : ℕ → Bool) (hospital : Option ℕ) → i ≡ j → ((h : ℕ) → hospital ≡ Some h → f h ≡ g h)
    → first_of (hospital_checks i f hospital) ≡ first_of (hospital_checks j g hospital)
checks-by i j f g None e same = rw e refl
checks-by i j f g (Some h) e same = rw (e, same h refl) refl

-- the checks of a row by the marks are those by the rows before
pub checks-at : (c : CaseData) (rows : List Row) (i : ℕ) (marks : List (Option ℕ)) (hospitals : List ℕ) (row : Row) (r : AreChosen c rows i marks hospitals) → IsCase c
    → first_of (choice_checks c r.before row) ≡ first_of (hospital_checks i (λ h. is_some (get_or marks h None)) (row_hospital c row))
checks-at c rows i marks hospitals row r ok =
    let n = length (market c).board.ranks in
    checks-by (length r.before + 1) i (λ h. has h (hospitals_in_rows c r.before)) (λ h. is_some (get_or marks h None)) (row_hospital c row)
    (row-at (choice_checks c) (row_hospital c) n rows i marks hospitals r)
    (λ h is.
    sym (has-place (hospitals_in_rows c r.before) h)
    ∙ sym (marked (position (λ k. k == h) (hospitals_in_rows c r.before)))
    ∙ ap (λ (o : Option ℕ). is_some o) (sym (mark-at (choice_checks c) (row_hospital c) n rows i marks hospitals r h (hospital-low c (market c).board refl h (field 1 row) ok is))))
