-- That the hospitals' file of a nation is accepted.
use Rattle.std.specs.Prelude.{◌≡◌, ℕ, ◌≤◌, List, length, get_or, None}
use Rattle.rm_base.specs.Checks.{first_of}
use Rattle.rm_base.specs.Text.{Text}
use Rattle.rm_base.specs.declared.codes.TheConstants.{MOST_BYTES}
use Rattle.rm_table.specs.Rows.{Row, bad_text, rows_of}
use Rattle.rm_roster.specs.Hospitals.{hospital_table_checks}
use Rattle.rm_drill.specs.Files.{hospital_rows, hospitals_text}
use Rattle.rm_drill.specs.Hospitals.{capacities, hospital_count, prefecture_count, targets}

-- the seats of hospitals: of 47 to 10,000 of them, at most ten each, with a target that is no more
pub record AreSeats (capacities targets : List ℕ) : Type 0 where
  pub each : length targets ≡ length capacities
  pub many : prefecture_count ≤ length capacities
  pub few : length capacities ≤ 10_000
  pub small : (h : ℕ) → get_or capacities h 0 ≤ 10
  pub within : (h : ℕ) → get_or targets h 0 ≤ get_or capacities h 0

-- the text is a file of these rows: it isn't too long, and all of it is UTF-8
pub record IsFileOf (rows : List Row) (text : Text) : Type 0 where
  pub short : length text ≤ MOST_BYTES
  pub read : rows_of text ≡ rows
  pub utf8 : bad_text (rows_of text) ≡ None

-- the hospitals' file, whose rows pass their checks
pub record HospitalsPass (capacities targets : List ℕ) : Type 0 where
  pub file : IsFileOf (hospital_rows capacities targets (length capacities)) (hospitals_text capacities targets)
  pub rows : first_of (hospital_table_checks (hospital_rows capacities targets (length capacities))) ≡ None

abbrev pub OfSeats : (List ℕ → List ℕ → Type 0) → Type 0
OfSeats Holds = (capacities targets : List ℕ) → AreSeats capacities targets → Holds capacities targets

-- the seats that are drawn from a seed for n doctors are such seats
abbrev pub DrawsSeats : Type 0
DrawsSeats = (n seed : ℕ) → AreSeats (capacities seed (hospital_count n)) (targets seed (hospital_count n))
