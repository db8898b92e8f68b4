-- What holds of hospitals whose rows pass their checks.
use Rattle.std.proofs.Common.{◌≡◌, ◌+◌, ◌≤◌, ◌∙◌, ℕ, List, [], ◌∷◌, ◌++◌, length, map, nat_lt, All, None, ap, arith, length-append}
use Rattle.std.specs.List.{sum_by, AllZip}
use Rattle.std.proofs.lemmas.Bool.{ltb-false}
use Rattle.std.proofs.lemmas.List.{map_push, length-map}
use Rattle.std.proofs.lemmas.List.Elements.{All-nil, All-push, AllZip-push}
use Rattle.std.proofs.lemmas.List.Sums.{sum_by_push, fold_push}
use Rattle.std.proofs.lemmas.Option.{slice_get_within}
use Rattle.rm_base.specs.Checks.{first_of, checks_of}
use Rattle.rm_base.specs.Codes.{refuse}
use Rattle.rm_names.specs.Names.{AreDistinct, place_of}
use Rattle.rm_base.specs.Text.{Text}
use Rattle.rm_base.specs.declared.codes.TheConstants.{HOSPITALS_FILE, REPEATED_NAME, ABOVE_LIMIT, TARGET_ABOVE_CAPACITY, TOO_MANY, GREATEST_CAPACITY, MOST_HOSPITALS, HOSPITALS_LIMIT, MOST_SEATS, SEATS_LIMIT}
use Rattle.rm_base.proofs.CheckLemmas.{check-none, mapped-none, none-each, passed}
use Rattle.rm_names.proofs.NameLemmas.{distinct-more}
use Rattle.rm_table.specs.Rows.{Row}
use Rattle.rm_roster.specs.Cells.{name_in}
use Rattle.rm_roster.specs.Hospitals.{capacity_in, each_once, hospital_checks, hospital_checks_after, prefecture_in, target_in, with_text}
use Rattle.rm_roster.proofs.NumberedTexts.{ArePlaced, placed-none, placed-push, placed-with, kept-with, distinct-with}

-- what the checks of a row see to
pub record Passes (names : List Text) (seats : ℕ) (row : Row) : Type 0 where
  pub new : place_of names (name_in row) ≡ None
  pub capacity : capacity_in row ≤ GREATEST_CAPACITY
  pub target : target_in row ≤ capacity_in row
  pub few : length names + 1 ≤ MOST_HOSPITALS
  pub seats_fit : seats + capacity_in row ≤ MOST_SEATS

passes : (names : List Text) (seats : ℕ) (row : Row) → first_of (hospital_checks names seats row) ≡ None → Passes names seats row
passes names seats row e =
    let i = length names + 1 in
    let c = none-each (hospital_checks names seats row) e in
    record {
      new = mapped-none (λ f. refuse REPEATED_NAME HOSPITALS_FILE i (f + 1)) (place_of names (name_in row)) c.1.0;
      capacity = ltb-false GREATEST_CAPACITY (capacity_in row) (check-none (nat_lt GREATEST_CAPACITY (capacity_in row)) (refuse ABOVE_LIMIT HOSPITALS_FILE i 3) c.1.1.1.1.0);
      target = ltb-false (capacity_in row) (target_in row) (check-none (nat_lt (capacity_in row) (target_in row)) (refuse TARGET_ABOVE_CAPACITY HOSPITALS_FILE i 4) c.1.1.1.1.1.1.1.0);
      few = ltb-false MOST_HOSPITALS i (check-none (nat_lt MOST_HOSPITALS i) (refuse TOO_MANY HOSPITALS_FILE i HOSPITALS_LIMIT) c.1.1.1.1.1.1.1.1.0);
      seats_fit = ltb-false MOST_SEATS (seats + capacity_in row) (check-none (nat_lt MOST_SEATS (seats + capacity_in row)) (refuse TOO_MANY HOSPITALS_FILE i SEATS_LIMIT) c.1.1.1.1.1.1.1.1.1.0);
    }

pub record HospitalsHold (rows : List Row) : Type 0 where
  pub few : length rows ≤ MOST_HOSPITALS
  pub names : AreDistinct (map name_in rows)
  pub prefectures : AreDistinct (each_once (map prefecture_in rows))
  pub placed : ArePlaced (each_once (map prefecture_in rows)) (map prefecture_in rows)
  pub capacities : All (λ c. c ≤ GREATEST_CAPACITY) (map capacity_in rows)
  pub targets : AllZip (λ target capacity. target ≤ capacity) (map target_in rows) (map capacity_in rows)
  pub seats : sum_by capacity_in rows ≤ MOST_SEATS

pub none-distinct : AreDistinct []
none-distinct = record { found = λ n name at. absurd (omega (arith, slice_get_within [] n name at)) }

no-hospital : HospitalsHold []
no-hospital = record {
  few = omega arith;
  names = none-distinct;
  prefectures = none-distinct;
  placed = placed-none [];
  capacities = All-nil (λ c. c ≤ GREATEST_CAPACITY);
  targets = tt;
  seats = omega arith;
}

one-hospital : (before : List Row) (row : Row) → HospitalsHold before → first_of (hospital_checks_after before row) ≡ None → HospitalsHold (before ++ row ∷ [])
one-hospital before row h e =
    let p = passes (map name_in before) (sum_by capacity_in before) row e in
    let texts = map prefecture_in before in
    let placed = placed-push (with_text (each_once texts) (prefecture_in row)) texts (prefecture_in row) (placed-with (each_once texts) (prefecture_in row)) (kept-with (each_once texts) texts (prefecture_in row) h.placed).placed in
    let once : each_once (map prefecture_in (before ++ row ∷ [])) ≡ with_text (each_once texts) (prefecture_in row) =
    ap each_once (map_push prefecture_in before row) ∙ fold_push with_text [] texts (prefecture_in row) in
    record {
      few = omega (arith, p.few, length-map before name_in, length-append before (row ∷ []));
      names = rw (map_push name_in before row) (distinct-more (map name_in before) (name_in row) h.names p.new);
      prefectures = rw once (distinct-with (each_once texts) (prefecture_in row) h.prefectures);
      placed = rw (once, map_push prefecture_in before row) placed;
      capacities = rw (map_push capacity_in before row) (All-push (λ c. c ≤ GREATEST_CAPACITY) (map capacity_in before) (capacity_in row) h.capacities p.capacity);
      targets = rw (map_push target_in before row, map_push capacity_in before row) (AllZip-push (λ target capacity. target ≤ capacity) (map target_in before) (map capacity_in before) (target_in row) (capacity_in row) h.targets p.target);
      seats = rw (sum_by_push capacity_in before row) p.seats_fit;
    }

pub hospitals-hold : (rows : List Row) → first_of (checks_of hospital_checks_after rows) ≡ None → HospitalsHold rows
hospitals-hold rows e = passed hospital_checks_after HospitalsHold no-hospital one-hospital rows e
