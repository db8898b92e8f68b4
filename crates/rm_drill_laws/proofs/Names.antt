-- Names of a prefix and a number.
use Rattle.std.proofs.Common.{◌≡◌, ◌∙◌, ◌+◌, ◌^◌, ◌<◌, ◌≤◌, ℕ, zero, suc, true, false, List, [], ◌∷◌, ◌++◌, length, map, All, ◌==◌, Some, None, inl, inr, refl, sym, ap, arith, add-one, length-append, bytes_eq, position, subst}
use Rattle.std.specs.List.{list_all}
use Rattle.std.specs.Char.{is_ascii_alphanumeric}
use Rattle.std.specs.Str.Parse.{digits_value}
use Rattle.std.proofs.lemmas.Bool.{and_from, cases_lt, false_from_ne_true, ne_eqb}
use Rattle.std.proofs.lemmas.Fmt.{decimal_nonempty, length-decimal-le}
use Rattle.std.proofs.lemmas.List.{append_cancel_left}
use Rattle.std.proofs.lemmas.List.Elements.{All-head, All-tail}
use Rattle.std.proofs.lemmas.List.Folds.{list_all-append}
use Rattle.std.proofs.lemmas.List.FromFn.{length-map-range_with_len, map-range_with_len_more}
use Rattle.std.proofs.lemmas.Slice.Eq.{bytes_eq-Decides}
use Rattle.rm_base.specs.Text.{Text}
use Rattle.rm_names.specs.Names.{AreDistinct, place_of}
use Rattle.rm_names.proofs.FirstPlaces.{position_push}
use Rattle.rm_names.proofs.NameLemmas.{distinct-more, place-front, place-last}
use Rattle.rm_drill_laws.specs.Plain.{is_plain_cell}
use Rattle.rm_drill_laws.specs.Numbered.{in_digits, names_up_to, numbered}
use Rattle.rm_drill_laws.specs.Results.{ArePlaced, ReadsItems}
use Rattle.rm_drill_laws.proofs.Numbers.{digits_plain, in_digits_digits, in_digits_value, length_in_digits, plain_from}

-- ---- one name

pub fills_width : (width n : ℕ) → 0 < width → n < 10 ^ width → n < 2 ^ 64 → length (in_digits width n) ≡ width
fills_width width n some fits small = omega (arith, length_in_digits width n, length-decimal-le width n some fits small)

pub name_plain : (prefix : Text) (width n : ℕ) → list_all is_ascii_alphanumeric prefix ≡ true → n < 2 ^ 64 → is_plain_cell (numbered prefix width n) ≡ true
name_plain prefix width n letters small =
    plain_from (numbered prefix width n)
    (omega (arith, length-append prefix (in_digits width n), length_in_digits width n, decimal_nonempty n small))
    (list_all-append is_ascii_alphanumeric prefix (in_digits width n)
    ∙ and_from (list_all is_ascii_alphanumeric prefix) (list_all is_ascii_alphanumeric (in_digits width n)) letters (digits_plain (in_digits width n) (in_digits_digits width n small)))

pub names_plain : (prefix : Text) (width : ℕ) (ns : List ℕ) → list_all is_ascii_alphanumeric prefix ≡ true → All (λ n. n < 2 ^ 64) ns
    → list_all is_plain_cell (map (numbered prefix width) ns) ≡ true
names_plain prefix width [] letters small = refl
names_plain prefix width (n ∷ ns) letters small =
    and_from (is_plain_cell (numbered prefix width n)) (list_all is_plain_cell (map (numbered prefix width) ns))
    (name_plain prefix width n letters (All-head (λ n. n < 2 ^ 64) n ns small)) (names_plain prefix width ns letters (All-tail (λ n. n < 2 ^ 64) n ns small))

pub same_number : (prefix : Text) (width m n : ℕ) → m < 2 ^ 64 → n < 2 ^ 64 → numbered prefix width m ≡ numbered prefix width n → m ≡ n
same_number prefix width m n m_small n_small same =
    sym (in_digits_value width m m_small) ∙ ap (digits_value 10) (append_cancel_left prefix (in_digits width m) (in_digits width n) same) ∙ in_digits_value width n n_small

-- ---- the names of the numbers from 1 to n

module _ (prefix : Text) (width : ℕ) where
  abbrev name : ℕ → Text
  name i = numbered prefix width (i + 1)

  one_more : (n : ℕ) → names_up_to prefix width (suc n) ≡ names_up_to prefix width n ++ name n ∷ []
  one_more n = ap (names_up_to prefix width) (sym (add-one n)) ∙ map-range_with_len_more name 0 n n (omega arith)

  -- a later name is none of them
  new : (n i : ℕ) → n ≤ i → i + 1 < 2 ^ 64 → place_of (names_up_to prefix width n) (name i) ≡ None
  new zero i low small = refl
  new (suc n) i low small =
      let other : bytes_eq (name i) (name n) ≡ false = false_from_ne_true (bytes_eq (name i) (name n))
      (λ e. omega (arith, low, same_number prefix width (i + 1) (n + 1) small (omega (arith, low, small)) ((bytes_eq-Decides (name i) (name n)).0 e))) in
      let none = new n i (omega (arith, low)) small in
      ap (position (bytes_eq (name i))) (one_more n) ∙ position_push (bytes_eq (name i)) (names_up_to prefix width n) (name n) ∙ rw (none, other) refl

  placed : (n i : ℕ) → n < 2 ^ 64 → i < n → place_of (names_up_to prefix width n) (name i) ≡ Some i
  placed zero i small low = absurd (omega (arith, low))
  placed (suc n) i small low = ap (position (bytes_eq (name i))) (one_more n) ∙ elim (cases_lt i n) [
    | inl before ↦ place-front (names_up_to prefix width n) (name i) (name n) i (placed n i (omega (arith, small)) before)
    | inr last ↦
        let is : i ≡ n = omega (arith, low, last) in
        rw is (place-last (names_up_to prefix width n) (name n) (new n n (omega arith) (omega (arith, small)))
        ∙ ap Some (length-map-range_with_len name 0 n))
  ]

  distinct : (n : ℕ) → n < 2 ^ 64 → AreDistinct (names_up_to prefix width n)
  distinct zero small = record { found = λ k x at. absurd (cc at) }
  distinct (suc n) small =
      subst AreDistinct (sym (one_more n)) (distinct-more (names_up_to prefix width n) (name n) (distinct n (omega (arith, small))) (new n n (omega arith) (omega (arith, small))))

  filled : (i : ℕ) → i + 1 < 2 ^ 64 → (length (name i) == 0) ≡ false
  filled i small =
      ne_eqb (length (name i)) 0 (λ e. omega (arith, e, length-append prefix (in_digits width (i + 1)), length_in_digits width (i + 1), decimal_nonempty (i + 1) small))

  pub reads_items : (n : ℕ) → n < 2 ^ 64 → ReadsItems prefix width n
  reads_items n small [] within = refl
  reads_items n small (i ∷ items) within =
      let low = All-head (λ k. k < n) i items within in
      rw (filled i (omega (arith, low, small)), placed n i small low, reads_items n small items (All-tail (λ k. k < n) i items within)) refl

  pub are_placed : (n : ℕ) → n < 2 ^ 64 → ArePlaced prefix width n
  are_placed n small = record { distinct = distinct n small; placed = λ i low. placed n i small low; new = λ i high few. new n i high few }
