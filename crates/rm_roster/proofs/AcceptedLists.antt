-- What holds of lists whose items pass their checks.
use Rattle.std.proofs.Common.{◌≡◌, ◌+◌, ◌<◌, ◌≤◌, ◌==◌, ◌∙◌, ℕ, zero, suc, List, [], ◌∷◌, ◌++◌, length, drop, map, find, nat_lt, not, All, Bool, true, false, cond, if◌then◌else◌, Option, Some, None, IfSome, inl, inr, option_map, refl, sym, arith, length-append}
use Rattle.std.specs.List.{cons_option, list_any, sum_by, range_with_len, IsDistinct}
use Rattle.std.specs.Option.{option_map_or}
use Rattle.std.proofs.lemmas.Bool.{ltb-false, ne_eqb, eq-eqb, cases_eq}
use Rattle.std.proofs.lemmas.Cmp.{nat_eq_equiv}
use Rattle.std.proofs.lemmas.List.{map_push, length-map, append-nil}
use Rattle.std.proofs.lemmas.List.Elements.{All-nil, All-push, All-map, All-head, All-tail, filter_map-append}
use Rattle.std.proofs.lemmas.List.Sums.{sum_by_push, sum_by-cons}
use Rattle.std.proofs.lemmas.Map.Keys.{IsDistinct-push}
use Rattle.rm_base.specs.Lists.{IsListBelow}
use Rattle.rm_base.specs.Checks.{check, first_of, checks_of}
use Rattle.rm_base.specs.Codes.{refuse}
use Rattle.rm_names.specs.Names.{AreDistinct, place_of}
use Rattle.rm_base.specs.Text.{Text, is_name}
use Rattle.rm_base.specs.declared.Refusal.{Refusal}
use Rattle.rm_base.specs.declared.codes.TheConstants.{DOCTORS_FILE, RANKS_FILE, BAD_NAME, REPEATED_NAME, REPEATED_CHOICE, REPEATED_ROW, TOO_MANY, MOST_DOCTORS, MOST_CHOICES, DOCTORS_LIMIT, CHOICES_LIMIT, RANKED_LIMIT}
use Rattle.rm_base.proofs.CheckLemmas.{check-none, mapped-none, none-each, none-parts, passed}
use Rattle.rm_names.proofs.NameLemmas.{distinct-more}
use Rattle.rm_table.specs.Rows.{Row}
use Rattle.rm_roster.specs.Cells.{name_in}
use Rattle.rm_roster.specs.Items.{cell_checks_after, item_of, items_in, list_checks, list_in, number_checks}
use Rattle.rm_roster.specs.Doctors.{doctor_checks_after}
use Rattle.rm_roster.specs.Ranks.{found_checks, names_hospital, rank_checks_after, rank_of, ranks_of}
use Rattle.rm_roster.proofs.NumberedTexts.{place-within}
use Rattle.rm_roster.proofs.AcceptedHospitals.{none-distinct}

-- ---- the items of a row

-- a list of distinct numbers below n, which fits beside those held
pub record Holds (n held : ℕ) (list : List ℕ) : Type 0 where
  pub distinct : IsDistinct ◌==◌ list
  pub below : All (λ x. x < n) list
  pub few : held + length list ≤ MOST_CHOICES

none-list : (n : ℕ) → IsListBelow n []
unfolding IsDistinct
none-list n = (tt, All-nil (λ x. x < n))

any-symm : (n : ℕ) (xs : List ℕ) → list_any (λ m. m == n) xs ≡ list_any (λ m. n == m) xs
any-symm n [] = refl
any-symm n (x ∷ xs) = rw (nat_eq_equiv.symm x n, any-symm n xs) refl

one-item : (file limit i j n held : ℕ) (list : List ℕ) (empty : Bool) (o : Option ℕ) → IfSome o (λ x. x < n) → Holds n held list
    → first_of (if empty then [] else number_checks file limit i j list (held + length list) o) ≡ None → Holds n held (list ++ cons_option (if empty then None else o) [])
one-item file limit i j n held list true o w h e = rw (append-nil list) h
one-item file limit i j n held list false None w h e = absurd (cc e)
one-item file limit i j n held list false (Some x) w h e =
    let c = none-each (number_checks file limit i j list (held + length list) (Some x)) e in
    let fresh = check-none (list_any (λ m. m == x) list) (refuse REPEATED_CHOICE file i j) c.0 in
    let few = ltb-false MOST_CHOICES (held + length list + 1) (check-none (nat_lt MOST_CHOICES (held + length list + 1)) (refuse TOO_MANY file i limit) c.1.0) in
    record {
      distinct = IsDistinct-push nat_eq_equiv list x h.distinct (sym (any-symm x list) ∙ fresh);
      below = All-push (λ y. y < n) list x h.below w;
      few = omega (arith, few, length-append list (x ∷ []));
    }

found-within : (texts : List Text) (text : Text) (o : Option ℕ) → place_of texts text ≡ o → IfSome o (λ x. x < length texts)
found-within texts text None e = tt
found-within texts text (Some n) e = place-within texts text n e

one-cell : (file limit : ℕ) (names : List Text) (i held : ℕ) (before : List Text) (cell : Text) → Holds (length names) held (items_in names before)
    → first_of (cell_checks_after file limit names i held before cell) ≡ None → Holds (length names) held (items_in names (before ++ cell ∷ []))
one-cell file limit names i held before cell h e =
    rw (filter_map-append (item_of names) before (cell ∷ []))
    (one-item file limit i (length before + 2) (length names) held (items_in names before) (length cell == 0) (place_of names cell) (found-within names cell (place_of names cell) refl) h e)

pub list-holds : (file limit : ℕ) (names : List Text) (i held : ℕ) (row : Row) → held ≤ MOST_CHOICES → first_of (list_checks file limit names i held row) ≡ None → Holds (length names) held (list_in names row)
list-holds file limit names i held row few e =
    let none = none-list (length names) in
    passed (cell_checks_after file limit names i held) (λ cells. Holds (length names) held (items_in names cells)) (record { distinct = none.0; below = none.1; few = omega (arith, few) })
    (λ before cell h c. one-cell file limit names i held before cell h c) (drop 1 row) e

-- ---- doctors

pub record DoctorsHold (hospitals : List Text) (rows : List Row) : Type 0 where
  pub few : length rows ≤ MOST_DOCTORS
  pub names : AreDistinct (map name_in rows)
  pub lists : All (IsListBelow (length hospitals)) (map (list_in hospitals) rows)
  pub held : sum_by (λ r. length (list_in hospitals r)) rows ≤ MOST_CHOICES

no-doctor : (hospitals : List Text) → DoctorsHold hospitals []
no-doctor hospitals = record { few = omega arith; names = none-distinct; lists = All-nil (IsListBelow (length hospitals)); held = omega arith }

one-doctor : (hospitals : List Text) (before : List Row) (row : Row) → DoctorsHold hospitals before → first_of (doctor_checks_after hospitals before row) ≡ None → DoctorsHold hospitals (before ++ row ∷ [])
one-doctor hospitals before row h e =
    let names = map name_in before in
    let held = sum_by (λ r. length (list_in hospitals r)) before in
    let i = length names + 1 in
    let own : List (Option Refusal) =
    check (not (is_name (name_in row))) (refuse BAD_NAME DOCTORS_FILE i 1)
    ∷ option_map (λ f. refuse REPEATED_NAME DOCTORS_FILE i (f + 1)) (place_of names (name_in row))
    ∷ check (nat_lt MOST_DOCTORS i) (refuse TOO_MANY DOCTORS_FILE i DOCTORS_LIMIT)
    ∷ [] in
    let parts = none-parts own (list_checks DOCTORS_FILE CHOICES_LIMIT hospitals i held row) e in
    let c = none-each own parts.0 in
    let new = mapped-none (λ f. refuse REPEATED_NAME DOCTORS_FILE i (f + 1)) (place_of names (name_in row)) c.1.0 in
    let few = ltb-false MOST_DOCTORS i (check-none (nat_lt MOST_DOCTORS i) (refuse TOO_MANY DOCTORS_FILE i DOCTORS_LIMIT) c.1.1.0) in
    let list = list-holds DOCTORS_FILE CHOICES_LIMIT hospitals i held row h.held parts.1 in
    record {
      few = omega (arith, few, length-map before name_in, length-append before (row ∷ []));
      names = rw (map_push name_in before row) (distinct-more names (name_in row) h.names new);
      lists = rw (map_push (list_in hospitals) before row) (All-push (IsListBelow (length hospitals)) (map (list_in hospitals) before) (list_in hospitals row) h.lists (list.distinct, list.below));
      held = rw (sum_by_push (λ r. length (list_in hospitals r)) before row) list.few;
    }

pub doctors-hold : (hospitals : List Text) (rows : List Row) → first_of (checks_of (doctor_checks_after hospitals) rows) ≡ None → DoctorsHold hospitals rows
doctors-hold hospitals rows e = passed (doctor_checks_after hospitals) (DoctorsHold hospitals) (no-doctor hospitals) (one-doctor hospitals) rows e

-- ---- rank lists

pub record RanksHold (doctors : List Text) (rows : List Row) : Type 0 where
  pub lists : All (λ row. IsListBelow (length doctors) (list_in doctors row)) rows
  pub held : sum_by (λ r. length (list_in doctors r)) rows ≤ MOST_CHOICES

found-passes : (doctors : List Text) (i : ℕ) (former : ℕ → Option ℕ) (held : ℕ) (row : Row) (o : Option ℕ) → first_of (found_checks doctors i former held row o) ≡ None
    → first_of (list_checks RANKS_FILE RANKED_LIMIT doctors i held row) ≡ None
found-passes doctors i former held row None e = absurd (cc e)
found-passes doctors i former held row (Some h) e =
    (none-parts (option_map (λ f. refuse REPEATED_ROW RANKS_FILE i f) (former h) ∷ []) (list_checks RANKS_FILE RANKED_LIMIT doctors i held row) e).1

one-rank : (hospitals doctors : List Text) (before : List Row) (row : Row) → RanksHold doctors before → first_of (rank_checks_after hospitals doctors before row) ≡ None → RanksHold doctors (before ++ row ∷ [])
one-rank hospitals doctors before row h e =
    let held = sum_by (λ r. length (list_in doctors r)) before in
    let list = list-holds RANKS_FILE RANKED_LIMIT doctors (length before + 1) held row h.held (found-passes doctors (length before + 1) _ held row (place_of hospitals (name_in row)) e) in
    record {
      lists = All-push (λ r. IsListBelow (length doctors) (list_in doctors r)) before row h.lists (list.distinct, list.below);
      held = rw (sum_by_push (λ r. length (list_in doctors r)) before row) list.few;
    }

pub ranks-hold : (hospitals doctors : List Text) (rows : List Row) → first_of (checks_of (rank_checks_after hospitals doctors) rows) ≡ None → RanksHold doctors rows
ranks-hold hospitals doctors rows e =
    passed (rank_checks_after hospitals doctors) (RanksHold doctors) (record { lists = All-nil (λ r. IsListBelow (length doctors) (list_in doctors r)); held = omega arith }) (one-rank hospitals doctors) rows e

-- the row that is found is one of the rows
find-by : {X : Type 0} (P : X → Type 0) (b : Bool) (x : X) (o : Option X) → P x → IfSome o P → IfSome (cond b (Some x) o) P
find-by P true x o p h = p
find-by P false x o p h = h

find-holds : {X : Type 0} (P : X → Type 0) (test : X → Bool) (xs : List X) → All P xs → IfSome (find test xs) P
find-holds P test [] all = tt
find-holds P test (x ∷ xs) all = find-by P (test x) x (find test xs) (All-head P x xs all) (find-holds P test xs (All-tail P x xs all))

rank-by : (doctors : List Text) (o : Option Row) → IfSome o (λ row. IsListBelow (length doctors) (list_in doctors row)) → IsListBelow (length doctors) (option_map_or (list_in doctors) o [])
rank-by doctors None h = none-list (length doctors)
rank-by doctors (Some row) h = h

pub each-rank : (hospitals doctors : List Text) (rows : List Row) → RanksHold doctors rows → All (IsListBelow (length doctors)) (ranks_of hospitals doctors rows)
each-rank hospitals doctors rows r =
    All-map (IsListBelow (length doctors)) (rank_of hospitals doctors rows) (range_with_len 0 (length hospitals))
    (λ k d lt. rank-by doctors _ (find-holds (λ row. IsListBelow (length doctors) (list_in doctors row)) (names_hospital hospitals _) rows r.lists))

-- ---- the contracts are items of rows

pub sum-of-map : {X Y : Type 0} (g : Y → ℕ) (f : X → Y) (xs : List X) → sum_by g (map f xs) ≡ sum_by (λ x. g (f x)) xs
sum-of-map g f [] = refl
sum-of-map g f (x ∷ xs) = sum_by-cons g (f x) (map f xs) ∙ rw (sum-of-map g f xs) (sym (sum_by-cons (λ y. g (f y)) x xs))

-- so many, if this is the number that was found
abbrev once : Option ℕ → ℕ → ℕ → ℕ
once o many h = if option_map_or (λ n. n == h) o false then many else 0

not-below : (n many from count : ℕ) → n < from → sum_by (once (Some n) many) (range_with_len from count) ≡ 0
not-below n many from zero lt = refl
not-below n many from (suc count) lt =
    sum_by-cons (once (Some n) many) from (range_with_len (from + 1) count)
    ∙ rw (ne_eqb n from (λ e. omega (arith, lt, e)), not-below n many (from + 1) count (omega (arith, lt))) refl

once-most : (o : Option ℕ) (many from count : ℕ) → sum_by (once o many) (range_with_len from count) ≤ many
once-most o many from zero = omega arith
once-most None many from (suc count) =
    let rest = once-most None many (from + 1) count in
    let sum : sum_by (once None many) (range_with_len from (suc count)) ≡ 0 + sum_by (once None many) (range_with_len (from + 1) count) = sum_by-cons (once None many) from (range_with_len (from + 1) count) in
    omega (arith, rest, sum)
once-most (Some n) many from (suc count) =
    let rest = range_with_len (from + 1) count in
    let sum : sum_by (once (Some n) many) (range_with_len from (suc count)) ≡ once (Some n) many from + sum_by (once (Some n) many) rest = sum_by-cons (once (Some n) many) from rest in
    elim (cases_eq n from) [
      | inl same ↦
          let first : once (Some n) many from ≡ many = rw (eq-eqb n from same) refl in
          omega (arith, sum, first, not-below n many (from + 1) count (omega (arith, same)))
      | inr other ↦
          let first : once (Some n) many from ≡ 0 = rw (ne_eqb n from other) refl in
          omega (arith, sum, first, once-most (Some n) many (from + 1) count)
    ]

-- one row more gives one hospital a list, if any
spread-by : (doctors : List Text) (row : Row) (b : Bool) (o : Option Row)
    → length (option_map_or (list_in doctors) (cond b (Some row) o) []) ≤ (if b then length (list_in doctors row) else 0) + length (option_map_or (list_in doctors) o [])
spread-by doctors row true o = omega arith
spread-by doctors row false o = omega arith

spread : (hospitals doctors : List Text) (row : Row) (rows : List Row) (hs : List ℕ)
    → sum_by length (map (rank_of hospitals doctors (row ∷ rows)) hs)
    ≤ sum_by (once (place_of hospitals (name_in row)) (length (list_in doctors row))) hs + sum_by length (map (rank_of hospitals doctors rows) hs)
spread hospitals doctors row rows [] = omega arith
spread hospitals doctors row rows (h ∷ hs) =
    let more = sum_by-cons length (rank_of hospitals doctors (row ∷ rows) h) (map (rank_of hospitals doctors (row ∷ rows)) hs) in
    let own = sum_by-cons (once (place_of hospitals (name_in row)) (length (list_in doctors row))) h hs in
    let fewer = sum_by-cons length (rank_of hospitals doctors rows h) (map (rank_of hospitals doctors rows) hs) in
    let first : length (rank_of hospitals doctors (row ∷ rows) h) ≤ once (place_of hospitals (name_in row)) (length (list_in doctors row)) h + length (rank_of hospitals doctors rows h) =
    spread-by doctors row (names_hospital hospitals h row) (find (names_hospital hospitals h) rows) in
    omega (arith, more, own, fewer, first, spread hospitals doctors row rows hs)

none-ranked : (hospitals doctors : List Text) (hs : List ℕ) → sum_by length (map (rank_of hospitals doctors []) hs) ≡ 0
none-ranked hospitals doctors [] = refl
none-ranked hospitals doctors (h ∷ hs) = sum_by-cons length [] (map (rank_of hospitals doctors []) hs) ∙ rw (none-ranked hospitals doctors hs) refl

pub few-contracts : (hospitals doctors : List Text) (rows : List Row) → sum_by length (ranks_of hospitals doctors rows) ≤ sum_by (λ r. length (list_in doctors r)) rows
few-contracts hospitals doctors [] = omega (arith, none-ranked hospitals doctors (range_with_len 0 (length hospitals)))
few-contracts hospitals doctors (row ∷ rows) =
    let hs = range_with_len 0 (length hospitals) in
    omega (
      arith,
      spread hospitals doctors row rows hs,
      once-most (place_of hospitals (name_in row)) (length (list_in doctors row)) 0 (length hospitals),
      few-contracts hospitals doctors rows,
      sum_by-cons (λ r. length (list_in doctors r)) row rows,
    )
