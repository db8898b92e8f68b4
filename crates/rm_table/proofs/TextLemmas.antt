-- Rows of text, and the first row that isn't.
use Rattle.std.proofs.Common.{◌≡◌, ◌+◌, ◌∙◌, ℕ, suc, true, false, cond, not, List, [], ◌∷◌, ◌++◌, length, inl, inr, Option, Some, None, refl, ap, sym, arith}
use Rattle.std.proofs.Math.Dec.{ltb}
use Rattle.std.proofs.lemmas.List.{append-nil}
use Rattle.std.specs.List.{list_all, position_or_len}
use Rattle.std.specs.Str.{is_utf8}
use Rattle.std.proofs.lemmas.Str.{IsUtf8-from_is_utf8, is_utf8-from_IsUtf8}
use Rattle.std.proofs.lemmas.Bool.{and_parts, and_from, cases_Bool, cases_lt, lt-ltb, le-ltb}
use Rattle.csv.specs.Records.{AllText}
use Rattle.rm_table.specs.Rows.{Row, bad_text, is_text}

-- the test of a row says whether it is text
pub test-true : (row : Row) → AllText row → is_text row ≡ true
unfolding AllText
test-true [] h = refl
test-true (cell ∷ cells) h = and_from (is_utf8 cell) (list_all is_utf8 cells) (is_utf8-from_IsUtf8 cell h.0) (test-true cells h.1)

from-test : (row : Row) → is_text row ≡ true → AllText row
unfolding AllText
from-test [] h = tt
from-test (cell ∷ cells) h =
    let p = and_parts (is_utf8 cell) (list_all is_utf8 cells) h in
    (IsUtf8-from_is_utf8 cell p.0, from-test cells p.1)

pub test-false : (row : Row) → ¬ (AllText row) → is_text row ≡ false
test-false row h = elim (cases_Bool (is_text row)) [
  | inl pass ↦ absurd (h (from-test row pass))
  | inr fails ↦ fails
]

-- a row that is no text is the first such row
pub bad-first : (bad : Row) (after : List Row) → ¬ (AllText bad) → bad_text (bad ∷ after) ≡ Some 0
unfolding bad_text
bad-first bad after fails = rw (test-false bad fails, lt-ltb 0 (length (bad ∷ after)) (omega arith)) refl

-- a place among later rows
later : ℕ → Option ℕ → Option ℕ
later n None = None
later n (Some k) = Some (n + k)

later-place : (k n : ℕ) → cond (ltb (1 + k) (suc n)) (Some (1 + k)) None ≡ later 1 (cond (ltb k n) (Some k) None)
unfolding later
later-place k n = elim (cases_lt k n) [
  | inl lt ↦ rw (lt-ltb (1 + k) (suc n) (omega (arith, lt)), lt-ltb k n lt) refl
  | inr ge ↦ rw (le-ltb (1 + k) (suc n) (omega (arith, ge)), le-ltb k n ge) refl
]

bad-after : (row : Row) (rows : List Row) → is_text row ≡ true → bad_text (row ∷ rows) ≡ later 1 (bad_text rows)
unfolding bad_text
bad-after row rows text = rw text (later-place (position_or_len (λ (r : Row). not (is_text r)) rows) (length rows))

later-suc : (n : ℕ) (o : Option ℕ) → later 1 (later n o) ≡ later (suc n) o
unfolding later
later-suc n None = refl
later-suc n (Some k) = ap Some (omega arith)

later-none : (o : Option ℕ) → o ≡ later 0 o
unfolding later
later-none None = refl
later-none (Some k) = ap Some (omega arith)

bad-behind : (given coming : List Row) → list_all is_text given ≡ true → bad_text (given ++ coming) ≡ later (length given) (bad_text coming)
bad-behind [] coming texts = later-none (bad_text coming)
bad-behind (row ∷ given) coming texts =
    let parts = and_parts (is_text row) (list_all is_text given) texts in
    bad-after row (given ++ coming) parts.0 ∙ ap (later 1) (bad-behind given coming parts.1) ∙ later-suc (length given) (bad_text coming)

-- behind rows of text there is none, or the next one is no text
pub no-bad-text : (rows : List Row) → list_all is_text rows ≡ true → bad_text rows ≡ None
unfolding bad_text later
no-bad-text rows texts = ap bad_text (sym (append-nil rows)) ∙ bad-behind rows [] texts

pub next-bad-text : (given coming : List Row) → list_all is_text given ≡ true → bad_text coming ≡ Some 0 → bad_text (given ++ coming) ≡ Some (length given)
unfolding later
next-bad-text given coming texts bad = bad-behind given coming texts ∙ rw bad (ap Some (omega arith))
