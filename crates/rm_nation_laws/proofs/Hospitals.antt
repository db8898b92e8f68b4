-- The hospitals' file of a nation is accepted.
use Rattle.std.proofs.Common.{◌≡◌, ◌∙◌, ◌<◌, ◌≤◌, ◌+◌, ◌*◌, ◌^◌, ◌==◌, ◌||◌, nat_lt, ℕ, Bool, true, false, All, List, [], ◌∷◌, map, length, get_or, codes, decimal, None, refl, arith, length-append}
use Rattle.std.specs.List.{list_all, sum_by}
use Rattle.std.proofs.lemmas.Bool.Decides.{nat_tests}
use Rattle.std.proofs.lemmas.Fmt.{length-decimal-le}
use Rattle.std.proofs.lemmas.List.Elements.{All-cons, All-nil}
use Rattle.std.proofs.lemmas.List.FromFn.{length-map-range_with_len}
use Rattle.std.proofs.lemmas.List.Sums.{sum_by-cons}
use Rattle.std.proofs.lemmas.Nat.{mod_below}
use Rattle.rm_sets.specs.Sets.{below}
use Rattle.rm_base.specs.Checks.{first_of}
use Rattle.rm_base.specs.Text.{Text, is_name}
use Rattle.rm_base.specs.declared.codes.TheConstants.{GREATEST_CAPACITY, MOST_BYTES, MOST_HOSPITALS, MOST_SEATS}
use Rattle.rm_table.specs.Rows.{Row}
use Rattle.rm_names.specs.Names.{place_of}
use Rattle.rm_roster.specs.Cells.{is_number, name_in, wrong_cell}
use Rattle.rm_roster.specs.Hospitals.{capacity_in, hospital_checks_after, hospital_header, hospital_table_checks, is_target}
use Rattle.rm_drill_laws.specs.Numbered.{in_digits, names_up_to, numbered}
use Rattle.rm_drill_laws.specs.Plain.{is_plain_row}
use Rattle.rm_drill_laws.specs.Results.{IsNumber}
use Rattle.rm_drill_laws.proofs.Bytes.{may_be_name}
use Rattle.rm_drill_laws.proofs.Lines.{takes_at_most}
use Rattle.rm_drill_laws.proofs.Read.{read_back, text_back}
use Rattle.rm_drill_laws.proofs.Names.{are_placed, fills_width, name_plain}
use Rattle.rm_drill_laws.proofs.Numbers.{decimal_number, decimal_plain}
use Rattle.rm_drill.specs.Files.{hospital_name, hospital_row, hospital_rows, hospitals_text, prefecture_name}
use Rattle.rm_drill.specs.Hospitals.{prefecture_of}
use Rattle.rm_nation_laws.specs.Seats.{AreSeats, HospitalsPass}
use Rattle.rm_nation_laws.proofs.Below.{All-below, all-below, below-pass, map-map, names-below, sum-below}

-- ---- names

pub length_name : (letter : Text) (width n : ℕ) → 0 < width → n < 10 ^ width → n < 2 ^ 64 → length letter ≡ 1 → length (numbered letter width n) ≡ width + 1
length_name letter width n some fits small one = omega (arith, one, length-append letter (in_digits width n), fills_width width n some fits small)

hospital_is_name : (h : ℕ) → h < 10000 → is_name (hospital_name h) ≡ true
hospital_is_name h few =
    may_be_name (hospital_name h) (name_plain (codes "H") 5 (h + 1) refl (omega (arith, few)))
    (omega (arith, length_name (codes "H") 5 (h + 1) (omega arith) (omega (arith, few)) (omega (arith, few)) refl))

prefecture_is_name : (q : ℕ) → q < 47 → is_name (prefecture_name q) ≡ true
prefecture_is_name q few =
    may_be_name (prefecture_name q) (name_plain (codes "P") 2 (q + 1) refl (omega (arith, few)))
    (omega (arith, length_name (codes "P") 2 (q + 1) (omega arith) (omega (arith, few)) (omega (arith, few)) refl))

or_true : (a b : Bool) → b ≡ true → (a || b) ≡ true
or_true true b e = refl
or_true false b e = e

four : (a b c d : Text) → length a ≤ 10 → length b ≤ 10 → length c ≤ 10 → length d ≤ 10 → All (λ (cell : Text). length cell ≤ 10) (a ∷ b ∷ c ∷ d ∷ [])
four a b c d p q r s =
    let P : Text → Type 0 = λ cell. length cell ≤ 10 in
    All-cons P a (b ∷ c ∷ d ∷ []) p (All-cons P b (c ∷ d ∷ []) q (All-cons P c (d ∷ []) r (All-cons P d [] s (All-nil P))))

module _ (capacities targets : List ℕ) (seats : AreSeats capacities targets) where
  abbrev row : ℕ → Row
  row = hospital_row capacities targets

  capacity_is : (h : ℕ) → IsNumber (decimal (get_or capacities h 0)) (get_or capacities h 0)
  capacity_is h = decimal_number (get_or capacities h 0) (omega (arith, seats.small h))

  pub target_is : (h : ℕ) → IsNumber (decimal (get_or targets h 0)) (get_or targets h 0)
  target_is h = decimal_number (get_or targets h 0) (omega (arith, seats.small h, seats.within h))

  names_are : (n : ℕ) → map name_in (map row (below n)) ≡ names_up_to (codes "H") 5 n
  names_are n = map-map name_in row (below n) ∙ names-below (codes "H") 5 n

  few_seats : (n : ℕ) → sum_by capacity_in (map row (below n)) ≤ 10 * n
  few_seats n = sum-below capacity_in row 10 n (λ h low. omega (arith, (capacity_is h).value, seats.small h))

  row_passes : (h : ℕ) → h < length capacities → first_of (hospital_checks_after (map row (below h)) (row h)) ≡ None
  row_passes h low =
      let c : ℕ = get_or capacities h 0 in
      let t : ℕ = get_or targets h 0 in
      let few : h < 10000 = omega (arith, low, seats.few) in
      let names : List Text = names_up_to (codes "H") 5 h in
      let count : length names ≡ h = length-map-range_with_len (λ i. numbered (codes "H") 5 (i + 1)) 0 h in
      let new : place_of names (hospital_name h) ≡ None = (are_placed (codes "H") 5 h (omega (arith, few))).new h (omega arith) (omega (arith, few)) in
      let target : is_target (decimal t) ≡ true = or_true (length (decimal t) == 0) (is_number (decimal t)) (target_is h).is in
      let limit : nat_lt MOST_HOSPITALS (length names + 1) ≡ false = grind (arith, nat_tests) in
      let sum : ℕ = sum_by capacity_in (map row (below h)) in
      let all : nat_lt MOST_SEATS (sum + c) ≡ false = grind (arith, nat_tests, few_seats h, seats.small h) in
      let small : nat_lt GREATEST_CAPACITY c ≡ false = grind (arith, nat_tests, seats.small h) in
      let target_small : nat_lt GREATEST_CAPACITY t ≡ false = grind (arith, nat_tests, seats.small h, seats.within h) in
      let fits : nat_lt c t ≡ false = grind (arith, nat_tests, seats.within h) in
      rw (
        names_are h,
        hospital_is_name h few,
        new,
        prefecture_is_name (prefecture_of h) (mod_below h 47 (omega arith)),
        (capacity_is h).is,
        (capacity_is h).value,
        target,
        (target_is h).value,
        limit,
        all,
        small,
        target_small,
        fits,
      ) refl

  abbrev count : ℕ
  count = length capacities

  rows_pass : first_of (hospital_table_checks (hospital_rows capacities targets count)) ≡ None
  unfolding wrong_cell
  rows_pass = below-pass hospital_checks_after row count row_passes

  -- ---- the file

  row_plain : (h : ℕ) → h < count → is_plain_row (row h) ≡ true
  row_plain h low =
      rw (
        name_plain (codes "H") 5 (h + 1) refl (omega (arith, low, seats.few)),
        name_plain (codes "P") 2 (prefecture_of h + 1) refl (omega (arith, mod_below h 47 (omega arith))),
        decimal_plain (get_or capacities h 0) (omega (arith, seats.small h)),
        decimal_plain (get_or targets h 0) (omega (arith, seats.small h, seats.within h)),
      ) refl

  rows_plain : list_all is_plain_row (hospital_rows capacities targets count) ≡ true
  rows_plain = all-below is_plain_row row count row_plain

  abbrev IsShortRow : Row → Type 0
  IsShortRow cells = All (λ cell. length cell ≤ 10) cells

  short_number : (n : ℕ) → n ≤ 10 → length (decimal n) ≤ 10
  short_number n small = omega (arith, length-decimal-le 2 n (omega arith) (omega (arith, small)) (omega (arith, small)))

  row_short : (h : ℕ) → h < count → IsShortRow (row h)
  row_short h low =
      let few : h < 10000 = omega (arith, low, seats.few) in
      let q = mod_below h 47 (omega arith) in
      four (hospital_name h) (prefecture_name (prefecture_of h)) (decimal (get_or capacities h 0)) (decimal (get_or targets h 0))
      (omega (arith, length_name (codes "H") 5 (h + 1) (omega arith) (omega (arith, few)) (omega (arith, few)) refl))
      (omega (arith, length_name (codes "P") 2 (prefecture_of h + 1) (omega arith) (omega (arith, q)) (omega (arith, q)) refl))
      (short_number (get_or capacities h 0) (seats.small h)) (short_number (get_or targets h 0) (omega (arith, seats.small h, seats.within h)))

  rows_short : All IsShortRow (hospital_rows capacities targets count)
  rows_short =
      All-cons IsShortRow hospital_header (map row (below count))
      (four (codes "hospital") (codes "prefecture") (codes "capacity") (codes "target") (omega arith) (omega arith) (omega arith) (omega arith))
      (All-below IsShortRow row count row_short)

  file_short : length (hospitals_text capacities targets) ≤ MOST_BYTES
  file_short =
      let rows : List Row = hospital_rows capacities targets count in
      omega (
        arith,
        seats.few,
        takes_at_most rows rows_plain 10 rows_short,
        sum-below (λ (cells : Row). length cells) row 4 count (λ h low. omega arith),
        sum_by-cons (λ (cells : Row). length cells) hospital_header (map row (below count)),
      )

  pub hospitals_pass : HospitalsPass capacities targets
  hospitals_pass =
      let rows : List Row = hospital_rows capacities targets count in
      record { file = record { short = file_short; read = read_back rows rows_plain; utf8 = text_back rows rows_plain }; rows = rows_pass }
