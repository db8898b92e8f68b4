-- Plain cells and rows: nothing is dropped of them.
use Rattle.std.proofs.Common.{◌≡◌, ◌-◌, ◌<◌, ◌==◌, ℕ, Bool, true, false, not, List, [], ◌∷◌, length, map, get_or, None, refl, arith}
use Rattle.std.specs.List.{list_all, prefix_len, suffix_len}
use Rattle.std.specs.Char.{is_ascii_alphanumeric}
use Rattle.std.proofs.lemmas.Bool.{and_from, and_parts, not-true}
use Rattle.std.proofs.lemmas.List.{take_all}
use Rattle.std.proofs.lemmas.List.Recursion.{and_at}
use Rattle.std.proofs.lemmas.List.Sums.{suffix_len_is}
use Rattle.std.proofs.lemmas.Str.{IsUtf8-from_ascii}
use Rattle.csv.specs.Reading.{strip_bom}
use Rattle.csv.specs.Records.{AllText}
use Rattle.rm_base.specs.Text.{Text}
use Rattle.rm_table.proofs.TextLemmas.{no-bad-text, test-true}
use Rattle.rm_table.specs.Rows.{Row, bad_text, is_blank, is_empty_cell, is_text, cell_of, row_of, rows_from, has_cell}
use Rattle.rm_drill_laws.specs.Plain.{is_plain_cell, is_plain_row}
use Rattle.rm_drill_laws.specs.Written.{written}
use Rattle.rm_drill_laws.proofs.Bytes.{all_weaker, ascii, no_blanks, no_quotes, plain_byte, plain_bytes}

-- ---- what is dropped at the ends of a list

no_front : {X : Type 0} (p : X → Bool) (xs : List X) → list_all (λ x. not (p x)) xs ≡ true → prefix_len p xs ≡ 0
no_front p [] fail = refl
no_front p (x ∷ xs) fail = rw (not-true (p x) (and_parts (not (p x)) (list_all (λ y. not (p y)) xs) fail).0) refl

no_end : {X : Type 0} (p : X → Bool) (xs : List X) → list_all (λ x. not (p x)) xs ≡ true → suffix_len p xs ≡ 0
no_end p [] fail = refl
no_end {X = X} p (x ∷ xs) fail =
    let ys : List X = x ∷ xs in
    let fails = λ (some : 0 < length ys). not-true (p (get_or ys (length ys - 1) x))
    (and_at (list_all (λ y. not (p y))) (λ y. not (p y)) refl (λ _ _. refl) ys (length ys - 1) x (omega (arith, some)) fail) in
    omega (arith, suffix_len_is p ys (length ys) x (omega arith) (λ k low high. absurd (omega (arith, low, high))) fails)

-- ---- cells

cell_kept : (cell : Text) → is_plain_cell cell ≡ true → cell_of cell ≡ cell
cell_kept cell is =
    let none = no_blanks cell (plain_bytes cell is) in
    rw (no_front is_blank cell none, no_end is_blank cell none) (take_all (length cell - 0 - 0) cell (omega arith))

cells_kept : (row : Row) → list_all is_plain_cell row ≡ true → map cell_of row ≡ row
cells_kept [] is = refl
cells_kept (cell ∷ cells) is =
    let p = and_parts (is_plain_cell cell) (list_all is_plain_cell cells) is in
    rw (cell_kept cell p.0, cells_kept cells p.1) refl

no_empty : (row : Row) → list_all is_plain_cell row ≡ true → list_all (λ cell. not (is_empty_cell cell)) row ≡ true
no_empty row is = all_weaker is_plain_cell (λ cell. not (is_empty_cell cell)) (λ cell plain. (and_parts (not (is_empty_cell cell)) (list_all is_ascii_alphanumeric cell) plain).0) row is

-- ---- rows

row_kept : (row : Row) → list_all is_plain_cell row ≡ true → row_of row ≡ row
row_kept row is = rw (cells_kept row is, no_end is_empty_cell row (no_empty row is)) (take_all (length row - 0) row (omega arith))

pub rows_kept : (rows : List Row) → list_all is_plain_row rows ≡ true → rows_from rows ≡ rows
rows_kept [] is = refl
rows_kept (row ∷ rows) is =
    let p = and_parts (is_plain_row row) (list_all is_plain_row rows) is in
    let q = and_parts (has_cell row) (list_all is_plain_cell row) p.0 in
    rw (row_kept row q.1, q.0, rows_kept rows p.1) refl

-- ---- UTF-8

text_row : (row : Row) → list_all is_plain_cell row ≡ true → AllText row
unfolding AllText
text_row [] is = tt
text_row (cell ∷ cells) is =
    let p = and_parts (is_plain_cell cell) (list_all is_plain_cell cells) is in
    (IsUtf8-from_ascii cell (ascii cell (plain_bytes cell p.0)), text_row cells p.1)

text_rows : (rows : List Row) → list_all is_plain_row rows ≡ true → list_all is_text rows ≡ true
text_rows [] is = refl
text_rows (row ∷ rows) is =
    let p = and_parts (is_plain_row row) (list_all is_plain_row rows) is in
    and_from (is_text row) (list_all is_text rows) (test-true row (text_row row (and_parts (has_cell row) (list_all is_plain_cell row) p.0).1)) (text_rows rows p.1)

pub all_text : (rows : List Row) → list_all is_plain_row rows ≡ true → bad_text rows ≡ None
all_text rows is = no-bad-text rows (text_rows rows is)

-- ---- the byte order mark

-- a text that begins with another byte is not cut
not_cut : (b : ℕ) (rest : List ℕ) → (b == 0xEF) ≡ false → strip_bom (b ∷ rest) ≡ b ∷ rest
unfolding strip_bom
not_cut b [] other = refl
not_cut b (c ∷ []) other = refl
not_cut b (c ∷ d ∷ rest) other = rw other refl

pub no_mark : (rows : List Row) → list_all is_plain_row rows ≡ true → strip_bom (written rows) ≡ written rows
unfolding written strip_bom
no_mark [] is = refl
no_mark ([] ∷ rows) is = absurd (cc is)
no_mark (([] ∷ cells) ∷ rows) is = absurd (cc is)
no_mark (((b ∷ bytes) ∷ cells) ∷ rows) is =
    let p = and_parts (is_plain_cell (b ∷ bytes)) (list_all is_plain_cell cells) (and_parts (is_plain_row ((b ∷ bytes) ∷ cells)) (list_all is_plain_row rows) is).0 in
    let q = plain_bytes (b ∷ bytes) p.0 in
    rw (no_quotes (b ∷ bytes) q) (not_cut b _ (plain_byte b (and_parts (is_ascii_alphanumeric b) (list_all is_ascii_alphanumeric bytes) q).0).no_mark)
