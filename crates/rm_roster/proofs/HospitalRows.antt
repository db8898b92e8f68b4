-- The rows of the hospitals' file, read one after another.
use Rattle.std.proofs.Common.{◌≡◌, ◌+◌, ◌<◌, ◌≤◌, ◌∙◌, ℕ, List, [], ◌∷◌, ◌++◌, length, map, get_or, Some, None, refl, ap, sym, arith, length-append}
use Rattle.std.specs.List.{sum_by}
use Rattle.std.proofs.lemmas.List.{map_push}
use Rattle.std.proofs.lemmas.List.Sums.{sum_by_push, fold_push}
use Rattle.rm_base.specs.Checks.{first_of, checks_of}
use Rattle.rm_base.specs.declared.Refusal.{Refusal}
use Rattle.rm_base.specs.declared.codes.TheConstants.{MOST_HOSPITALS, MOST_SEATS}
use Rattle.rm_base.proofs.CheckLemmas.{AreThrough, through-start, through-more, through-stop, through-end}
use Rattle.rm_table.specs.Rows.{Row}
use Rattle.rm_roster.specs.Cells.{data_rows, name_in}
use Rattle.rm_roster.specs.Hospitals.{hospital_checks, hospital_checks_after, hospitals_of, with_hospital, with_text, number_in, HospitalsData, prefecture_in, capacity_in, target_in, each_once}
use Rattle.rm_roster.proofs.NumberedTexts.{ArePlaced, placed-none, placed-push, placed-with, kept-with, length-with}

-- The rows before row i were read: they pass their checks, and say this.
pub record AreRead (rows : List Row) (i seats : ℕ) (told : HospitalsData) : Type 0 where
  pub before : List Row
  pub through : AreThrough hospital_checks_after rows 1 i before
  pub told_is : told ≡ hospitals_of before
  pub seats_are : seats ≡ sum_by capacity_in before
  pub placed : ArePlaced told.prefectures (map prefecture_in before)
  pub few : length told.names ≤ MOST_HOSPITALS
  pub few_prefectures : length told.prefectures ≤ length told.names
  pub few_seats : seats ≤ MOST_SEATS

pub none-read : (rows : List Row) → AreRead rows 1 0 (hospitals_of [])
none-read rows = record {
  before = [];
  through = through-start hospital_checks_after rows 1;
  told_is = refl;
  seats_are = refl;
  placed = placed-none [];
  few = omega arith;
  few_prefectures = omega arith;
  few_seats = omega arith;
}

-- what rows say, and one more
hospitals-more : (before : List Row) (row : Row) → ArePlaced (each_once (map prefecture_in before)) (map prefecture_in before)
    → with_hospital (hospitals_of before) (name_in row) (prefecture_in row) (capacity_in row) (target_in row) ≡ hospitals_of (before ++ row ∷ [])
hospitals-more before row placed =
    let texts = map prefecture_in before in
    let kept = kept-with (each_once texts) texts (prefecture_in row) placed in
    rw (
      map_push name_in before row,
      map_push prefecture_in before row,
      fold_push with_text [] texts (prefecture_in row),
      map_push (number_in (with_text (each_once texts) (prefecture_in row))) texts (prefecture_in row),
      kept.numbers,
      map_push capacity_in before row,
      map_push target_in before row,
    ) refl

-- the checks by what was kept are the checks by the rows before
checks-at : (rows : List Row) (i seats : ℕ) (told : HospitalsData) (row : Row) (r : AreRead rows i seats told) → hospital_checks told.names seats row ≡ hospital_checks_after r.before row
checks-at rows i seats told row r = rw (r.told_is, r.seats_are) refl

pub one-read : (rows : List Row) (i seats : ℕ) (told new : HospitalsData) (row : Row) → AreRead rows i seats told → i < length rows → row ≡ get_or rows i []
    → first_of (hospital_checks told.names seats row) ≡ None → length told.names < MOST_HOSPITALS → seats + capacity_in row ≤ MOST_SEATS
    → new ≡ with_hospital told (name_in row) (prefecture_in row) (capacity_in row) (target_in row)
    → AreRead rows (i + 1) (seats + capacity_in row) new
one-read rows i seats told new row r h at passes few few_seats is =
    let prefectures : new.prefectures ≡ with_text told.prefectures (prefecture_in row) = ap (λ (t : HospitalsData). t.prefectures) is in
    let names : new.names ≡ told.names ++ name_in row ∷ [] = ap (λ (t : HospitalsData). t.names) is in
    let count : length new.names ≡ length told.names + 1 = ap length names ∙ length-append told.names (name_in row ∷ []) in
    record {
      before = r.before ++ row ∷ [];
      through = through-more hospital_checks_after rows 1 i r.before row [] r.through h at (rw (checks-at rows i seats told row r) at passes);
      told_is = is ∙ rw r.told_is (hospitals-more r.before row (rw r.told_is at r.placed));
      seats_are = rw (sum_by_push capacity_in r.before row, r.seats_are) refl;
      placed = rw (map_push prefecture_in r.before row, prefectures)
          (placed-push (with_text told.prefectures (prefecture_in row)) (map prefecture_in r.before) (prefecture_in row) (placed-with told.prefectures (prefecture_in row)) (kept-with told.prefectures (map prefecture_in r.before) (prefecture_in row) r.placed).placed);
      few = omega (arith, count, few);
      few_prefectures = rw prefectures (omega (arith, count, length-with told.prefectures (prefecture_in row), r.few_prefectures));
      few_seats = few_seats;
    }

pub one-refused : (rows : List Row) (i seats : ℕ) (told : HospitalsData) (row : Row) (refusal : Refusal) → AreRead rows i seats told → i < length rows → row ≡ get_or rows i []
    → first_of (hospital_checks told.names seats row) ≡ Some refusal → first_of (checks_of hospital_checks_after (data_rows rows)) ≡ Some refusal
one-refused rows i seats told row refusal r h at some =
    through-stop hospital_checks_after rows 1 i r.before row [] refusal r.through h at (rw (checks-at rows i seats told row r) at some)

pub all-read : (rows : List Row) (i seats : ℕ) (told : HospitalsData) → AreRead rows i seats told → length rows ≤ i
    → (first_of (checks_of hospital_checks_after (data_rows rows)) ≡ None) × (told ≡ hospitals_of (data_rows rows))
all-read rows i seats told r h =
    let done = through-end hospital_checks_after rows 1 i r.before r.through h in
    (done.0, r.told_is ∙ ap hospitals_of (sym done.1))
