-- The bytes of plain cells.
use Rattle.std.proofs.Common.{◌≡◌, ◌<◌, ◌≤◌, ◌==◌, ◌&&◌, ℕ, Bool, true, false, not, List, [], ◌∷◌, length, refl, arith, IsAscii, nat_le}
use Rattle.std.specs.List.{list_all}
use Rattle.std.specs.Char.{is_ascii_alphanumeric}
use Rattle.std.proofs.lemmas.Bool.{and_from, and_parts, le-leb, or_from}
use Rattle.std.proofs.lemmas.Bool.Decides.{nat_tests}
use Rattle.std.proofs.lemmas.Str.Ascii.{IsAscii-cons, IsAscii-nil}
use Rattle.csv.specs.Writing.{needs_byte, needs_quotes}
use Rattle.rm_base.specs.Text.{Text, is_name, is_printed}
use Rattle.rm_base.specs.declared.codes.TheConstants.{MOST_NAME_BYTES}
use Rattle.rm_table.specs.Rows.{is_blank, is_empty_cell}
use Rattle.rm_drill_laws.specs.Plain.{is_plain_cell}
use Rattle.rm_drill_laws.specs.Written.{flexible_writer}

-- a letter or digit is no blank, calls for no quotes, is ASCII and printed, and begins no byte order mark
pub record IsPlainByte (b : ℕ) : Type 0 where
  pub no_blank : not (is_blank b) ≡ true
  pub no_quotes : needs_byte flexible_writer b ≡ false
  pub ascii : b < 128
  pub printed : is_printed b ≡ true
  pub no_mark : (b == 0xEF) ≡ false

pub plain_byte : (b : ℕ) → is_ascii_alphanumeric b ≡ true → IsPlainByte b
plain_byte b is = record {
  no_blank = grind (arith, nat_tests);
  no_quotes = grind (arith, nat_tests);
  ascii = grind (arith, nat_tests);
  printed = grind (arith, nat_tests);
  no_mark = grind (arith, nat_tests);
}

-- where all elements pass a test, all pass a weaker one
pub all_weaker : {X : Type 0} (p q : X → Bool) → ((x : X) → p x ≡ true → q x ≡ true) → (xs : List X) → list_all p xs ≡ true → list_all q xs ≡ true
all_weaker p q weaker [] all = refl
all_weaker p q weaker (x ∷ xs) all =
    let a = and_parts (p x) (list_all p xs) all in
    and_from (q x) (list_all q xs) (weaker x a.0) (all_weaker p q weaker xs a.1)

pub plain_bytes : (cell : Text) → is_plain_cell cell ≡ true → list_all is_ascii_alphanumeric cell ≡ true
plain_bytes cell is = (and_parts (not (is_empty_cell cell)) (list_all is_ascii_alphanumeric cell) is).1

pub no_blanks : (bytes : Text) → list_all is_ascii_alphanumeric bytes ≡ true → list_all (λ b. not (is_blank b)) bytes ≡ true
no_blanks bytes is = all_weaker is_ascii_alphanumeric (λ b. not (is_blank b)) (λ b plain. (plain_byte b plain).no_blank) bytes is

pub no_quotes : (bytes : Text) → list_all is_ascii_alphanumeric bytes ≡ true → needs_quotes flexible_writer bytes ≡ false
no_quotes [] is = refl
no_quotes (b ∷ rest) is =
    let p = and_parts (is_ascii_alphanumeric b) (list_all is_ascii_alphanumeric rest) is in
    or_from (needs_byte flexible_writer b) (needs_quotes flexible_writer rest) (plain_byte b p.0).no_quotes (no_quotes rest p.1)

pub ascii : (bytes : Text) → list_all is_ascii_alphanumeric bytes ≡ true → IsAscii bytes
ascii [] is = IsAscii-nil
ascii (b ∷ rest) is =
    let p = and_parts (is_ascii_alphanumeric b) (list_all is_ascii_alphanumeric rest) is in
    IsAscii-cons b rest (plain_byte b p.0).ascii (ascii rest p.1)

pub may_be_name : (cell : Text) → is_plain_cell cell ≡ true → length cell ≤ MOST_NAME_BYTES → is_name cell ≡ true
may_be_name [] is short = absurd (cc is)
may_be_name (b ∷ rest) is short =
    let cell : Text = b ∷ rest in
    let some = le-leb 1 (length cell) (omega arith) in
    let few = le-leb (length cell) MOST_NAME_BYTES short in
    and_from (nat_le 1 (length cell) && nat_le (length cell) MOST_NAME_BYTES) (list_all is_printed cell)
    (and_from (nat_le 1 (length cell)) (nat_le (length cell) MOST_NAME_BYTES) some few)
    (all_weaker is_ascii_alphanumeric is_printed (λ c plain. (plain_byte c plain).printed) cell (plain_bytes cell is))
