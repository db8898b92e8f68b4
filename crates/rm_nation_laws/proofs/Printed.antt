-- A nation's policy, as `toml` prints it, and read back.
use Rattle.std.proofs.Common.{◌≡◌, nat_lt, ◌∙◌, ◌+◌, ◌*◌, ◌≤◌, ◌==◌, ℕ, Bool, true, false, List, [], ◌∷◌, ◌++◌, map, flat_map, drop, length, decimal, codes, pos, refl, sym, ap, subst, arith, length-append, IsAscii, FitsSigned}
use Rattle.std.specs.Int.{w64}
use Rattle.std.specs.List.{list_all, list_any}
use Rattle.std.specs.Char.{is_ascii_alphanumeric}
use Rattle.std.proofs.lemmas.Bool.{and_from, and_parts, or_from}
use Rattle.std.proofs.lemmas.Bool.Decides.{nat_tests}
use Rattle.std.proofs.lemmas.Fmt.{decimal_digit, length-decimal-le}
use Rattle.std.proofs.lemmas.List.{append_assoc, append-nil}
use Rattle.std.proofs.lemmas.List.Folds.{list_all-append}
use Rattle.std.proofs.lemmas.Str.{IsUtf8-from_ascii}
use Rattle.std.proofs.lemmas.Str.Ascii.{IsAscii-cons, IsAscii-nil}
use Rattle.toml_parser.specs.Lexical.{line_feed, quote, backslash}
use Rattle.toml_writer.specs.Text.{encoding_of, escaped, is_control, key_text, needs_escape, quotes_after, string_text}
use Rattle.toml.specs.Data.{Data, string, integer, items_depth, items_have_valid_dates, items_are_sorted}
use Rattle.toml.specs.Tables.{Expression, key_value}
use Rattle.toml.specs.Text.{IsDocumentText, IsLinesText, are_tables, elements, expressions}
use Rattle.toml.specs.View.{items_of}
use Rattle.toml.proofs.ReadBack.{parse_document-printed}
use Rattle.rm_sets.specs.Sets.{below}
use Rattle.rm_base.specs.Text.{Text}
use Rattle.rm_policy.proofs.DocumentLemmas.{document-some}
use Rattle.rm_drill_laws.proofs.Bytes.{all_weaker, plain_bytes}
use Rattle.rm_drill_laws.proofs.Names.{fills_width, name_plain}
use Rattle.rm_drill_laws.proofs.Numbers.{decimal_plain}
use Rattle.rm_drill_laws.specs.Numbered.{in_digits}
use Rattle.rm_drill.specs.Files.{cap, entry_text, policy_head, policy_text, prefecture_name}
use Rattle.rm_drill.specs.Hospitals.{prefecture_count}
use Rattle.rm_nation_laws.specs.Document.{AreCaps, entry_data, nation_members, policy_members, IsPrinted, IsReadBack, IsShort}

-- ---- a text of letters and digits as a string

plain_escape : (c : ℕ) → is_ascii_alphanumeric c ≡ true → needs_escape false 0 c ≡ false
unfolding needs_escape
plain_escape c is = grind (arith, nat_tests)

pub record IsPlainChar (c : ℕ) : Type 0 where
  pub control : is_control c ≡ false
  pub no_quote : (c == quote) ≡ false
  pub no_backslash : (c == backslash) ≡ false
  pub no_feed : (c == line_feed) ≡ false

plain_char : (c : ℕ) → is_ascii_alphanumeric c ≡ true → IsPlainChar c
plain_char c is = record { control = grind (arith, nat_tests); no_quote = grind (arith, nat_tests); no_backslash = grind (arith, nat_tests); no_feed = grind (arith, nat_tests) }

escaped_same : (s : Text) → list_all is_ascii_alphanumeric s ≡ true → escaped false 0 s ≡ s
unfolding escaped quotes_after
escaped_same [] is = refl
escaped_same (c ∷ s) is =
    let p = and_parts (is_ascii_alphanumeric c) (list_all is_ascii_alphanumeric s) is in
    rw (plain_escape c p.0, (plain_char c p.0).no_quote, escaped_same s p.1) refl

none : (f : ℕ → Bool) → ((c : ℕ) → is_ascii_alphanumeric c ≡ true → f c ≡ false) → (s : Text) → list_all is_ascii_alphanumeric s ≡ true → list_any f s ≡ false
none f each [] is = refl
none f each (c ∷ s) is =
    let p = and_parts (is_ascii_alphanumeric c) (list_all is_ascii_alphanumeric s) is in
    or_from (f c) (list_any f s) (each c p.0) (none f each s p.1)

string_plain : (s : Text) → list_all is_ascii_alphanumeric s ≡ true → string_text s ≡ quote ∷ (s ++ quote ∷ [])
unfolding string_text encoding_of
string_plain s is =
    rw (
      none is_control (λ c p. (plain_char c p).control) s is,
      none (λ x. x == backslash) (λ c p. (plain_char c p).no_backslash) s is,
      none (λ x. x == quote) (λ c p. (plain_char c p).no_quote) s is,
      none (λ x. x == line_feed) (λ c p. (plain_char c p).no_feed) s is,
      escaped_same s is,
    ) refl

-- ---- bytes below 128

abbrev is_low : ℕ → Bool
is_low b = nat_lt b 128

plain_low : (b : ℕ) → is_ascii_alphanumeric b ≡ true → is_low b ≡ true
plain_low b is = grind (arith, nat_tests)

low : (s : Text) → list_all is_low s ≡ true → IsAscii s
low [] is = IsAscii-nil
low (b ∷ s) is =
    let p = and_parts (is_low b) (list_all is_low s) is in
    IsAscii-cons b s (grind (arith, nat_tests, p.0)) (low s p.1)

both_low : (a b : Text) → list_all is_low a ≡ true → list_all is_low b ≡ true → list_all is_low (a ++ b) ≡ true
both_low a b first second = list_all-append is_low a b ∙ and_from (list_all is_low a) (list_all is_low b) first second

-- ---- the entries

module _ (capacities targets : List ℕ) (caps : AreCaps capacities targets) where
  abbrev entries : List ℕ → List Data
  entries qs = map (entry_data capacities targets) qs

  abbrev texts : List ℕ → Text
  texts qs = flat_map (entry_text capacities targets) qs

  abbrev are_few : List ℕ → Bool
  are_few qs = list_all (λ q. nat_lt q 47) qs

  letters : (q : ℕ) → nat_lt q 47 ≡ true → list_all is_ascii_alphanumeric (prefecture_name q) ≡ true
  letters q few = plain_bytes (prefecture_name q) (name_plain (codes "P") 2 (q + 1) refl (grind (arith, nat_tests)))

  fits : (c : ℕ) → c ≤ 1000000 → FitsSigned w64 (pos c)
  fits c small = omega arith

  entry_lines : (qs : List ℕ) → are_few qs ≡ true → IsLinesText false true (elements ([], codes "prefecture") (items_of (entries qs))) (texts qs)
  unfolding key_text
  entry_lines [] few = refl
  entry_lines (q ∷ qs) few =
      let p = and_parts (nat_lt q 47) (are_few qs) few in
      let name : Text = prefecture_name q in
      let digits : Text = decimal (cap capacities targets q) in
      let rest : Text = texts qs in
      let cap_line : Text = codes "cap = " ++ (digits ++ codes "\n") in
      let name_line : Text = codes "name = \"" ++ (name ++ codes "\"\n") in
      let whole : entry_text capacities targets q ++ rest ≡ codes "\n[[prefecture]]\n" ++ (cap_line ++ (name_line ++ rest)) =
      ap (λ (t : Text). codes "\n[[prefecture]]\ncap = " ++ t)
      (append_assoc digits (codes "\nname = \"" ++ (name ++ codes "\"\n")) rest ∙ sym (append_assoc digits (codes "\n") (name_line ++ rest))) in
      let quoted : name_line ≡ codes "name = " ++ (quote ∷ (name ++ quote ∷ []) ++ line_feed ∷ []) =
      ap (λ (t : Text). codes "name = \"" ++ t) (sym (append_assoc name (quote ∷ []) (line_feed ∷ []))) in (
        codes "\n[[prefecture]]\n",
        cap_line ++ (name_line ++ rest),
        whole,
        refl,
        (
          cap_line,
          name_line ++ rest,
          refl,
          (digits, refl, (refl, fits (cap capacities targets q) (caps q))),
          (name_line, rest, refl, (quote ∷ (name ++ quote ∷ []), quoted, sym (string_plain name (letters q p.0))), entry_lines qs p.1),
        ),
      )

  all_tables : (qs : List ℕ) → are_tables (items_of (entries qs)) ≡ true
  all_tables [] = refl
  all_tables (q ∷ qs) = all_tables qs

  -- the lines of the whole, of a list of prefectures that isn't empty
  abbrev head_lines : List Expression
  head_lines = (([], codes "kind"), key_value (string (codes "flexible"))) ∷ (([], codes "version"), key_value (integer (pos 1))) ∷ []

  all_lines : (q : ℕ) (qs : List ℕ)
      → expressions (policy_members (entries (q ∷ qs))) ≡ head_lines ++ elements ([], codes "prefecture") (items_of (entries (q ∷ qs)))
  all_lines q qs = rw (all_tables (q ∷ qs)) (ap (λ (es : List Expression). head_lines ++ es) (append-nil (elements ([], codes "prefecture") (items_of (entries (q ∷ qs))))))

  head_text : (es : List Expression) (rest : Text) → IsLinesText false true es rest → IsLinesText false false (head_lines ++ es) (policy_head ++ rest)
  unfolding key_text string_text encoding_of escaped needs_escape quotes_after
  head_text es rest lines = (
    codes "kind = \"flexible\"\n",
    codes "version = 1\n" ++ rest,
    refl,
    (codes "\"flexible\"", refl, refl),
    (codes "version = 1\n", rest, refl, (codes "1", refl, (sym (decimal_digit 1 (omega arith)), fits 1 (omega arith))), lines),
  )

  document_text : (q : ℕ) (qs : List ℕ) → are_few (q ∷ qs) ≡ true → IsDocumentText false (policy_members (entries (q ∷ qs))) (policy_head ++ texts (q ∷ qs))
  document_text q qs few =
      subst (λ (es : List Expression). IsLinesText false false es (policy_head ++ texts (q ∷ qs))) (sym (all_lines q qs))
      (head_text (elements ([], codes "prefecture") (items_of (entries (q ∷ qs)))) (texts (q ∷ qs)) (entry_lines (q ∷ qs) few))

  pub printed : IsPrinted capacities targets
  printed = document_text 0 (drop 1 (below prefecture_count)) refl

  -- ---- read back

  shallow : (qs : List ℕ) → items_depth (items_of (entries qs)) ≤ 1
  shallow [] = omega arith
  shallow (q ∷ qs) = grind (arith, nat_tests, shallow qs)

  no_dates : (qs : List ℕ) → items_have_valid_dates (items_of (entries qs)) ≡ true
  no_dates [] = refl
  no_dates (q ∷ qs) = no_dates qs

  sorted : (qs : List ℕ) → items_are_sorted (items_of (entries qs)) ≡ true
  sorted [] = refl
  sorted (q ∷ qs) = sorted qs

  digits_low : (q : ℕ) → list_all is_low (decimal (cap capacities targets q)) ≡ true
  digits_low q =
      let is = decimal_plain (cap capacities targets q) (omega (arith, caps q)) in
      all_weaker is_ascii_alphanumeric is_low plain_low (decimal (cap capacities targets q)) (plain_bytes (decimal (cap capacities targets q)) is)

  texts_low : (qs : List ℕ) → are_few qs ≡ true → list_all is_low (texts qs) ≡ true
  texts_low [] few = refl
  texts_low (q ∷ qs) few =
      let p = and_parts (nat_lt q 47) (are_few qs) few in
      let name : Text = prefecture_name q in
      let digits : Text = decimal (cap capacities targets q) in
      let name_low = all_weaker is_ascii_alphanumeric is_low plain_low name (letters q p.0) in
      both_low (entry_text capacities targets q) (texts qs)
      (both_low digits (codes "\nname = \"" ++ (name ++ codes "\"\n")) (digits_low q) (both_low name (codes "\"\n") name_low refl)) (texts_low qs p.1)

  text_low : list_all is_low (policy_text capacities targets) ≡ true
  text_low = texts_low (below prefecture_count) refl

  pub read_back : IsReadBack capacities targets
  read_back =
      document-some (policy_text capacities targets) (nation_members capacities targets) (IsUtf8-from_ascii (policy_text capacities targets) (low (policy_text capacities targets) text_low))
      (parse_document-printed false (nation_members capacities targets) (policy_text capacities targets) printed
      (grind (arith, nat_tests, shallow (below prefecture_count))) (no_dates (below prefecture_count)) (sorted (below prefecture_count)))

  -- ---- its length

  entry_short : (q : ℕ) → nat_lt q 47 ≡ true → length (entry_text capacities targets q) ≤ 60
  entry_short q few =
      let name : Text = prefecture_name q in
      let digits : Text = decimal (cap capacities targets q) in
      let tail : Text = codes "\nname = \"" ++ (name ++ codes "\"\n") in
      omega (
        arith,
        caps q,
        length-append digits tail,
        length-append name (codes "\"\n"),
        length-append (codes "P") (in_digits 2 (q + 1)),
        length-decimal-le 7 (cap capacities targets q) (omega arith) (omega (arith, caps q)) (omega (arith, caps q)),
        fills_width 2 (q + 1) (omega arith) (grind (arith, nat_tests)) (grind (arith, nat_tests)),
      )

  texts_short : (qs : List ℕ) → are_few qs ≡ true → length (texts qs) ≤ 60 * length qs
  texts_short [] few = omega arith
  texts_short (q ∷ qs) few =
      let p = and_parts (nat_lt q 47) (are_few qs) few in
      omega (arith, length-append (entry_text capacities targets q) (texts qs), entry_short q p.0, texts_short qs p.1)

  pub short : IsShort capacities targets
  short = omega (arith, texts_short (below prefecture_count) refl)
