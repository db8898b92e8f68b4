-- The three files, one after the other.
use Rattle.std.proofs.Common.{◌≡◌, ◌++◌, ◌∙◌, ℕ, refl, List, None}
use Rattle.rm_base.specs.Checks.{first_of}
use Rattle.rm_base.specs.Reading.{Stops}
use Rattle.rm_base.specs.declared.ReadFault.{ReadFault}
use Rattle.rm_base.proofs.CheckLemmas.{first-none, first-some}
use Rattle.rm_base.proofs.Stopping.{stops-on}
use Rattle.rm_table.specs.Rows.{Row}
use Rattle.rm_roster.specs.Cells.{data_rows}
use Rattle.rm_roster.specs.Doctors.{doctor_table_checks, doctors_of, DoctorsData}
use Rattle.rm_roster.specs.Hospitals.{hospital_table_checks, hospitals_of, HospitalsData}
use Rattle.rm_roster.specs.Ranks.{rank_table_checks, ranks_of}
use Rattle.rm_roster.specs.Roster.{roster_joined, names_in, roster_checks, roster_of}

-- where a file stops the reading, and those before it don't
pub hospitals-stop : (hs ds rs : List Row) (e : ReadFault) → Stops (first_of (hospital_table_checks hs)) e → Stops (first_of (roster_checks hs ds rs)) e
unfolding roster_checks
hospitals-stop hs ds rs e stop =
    stops-on (first_of (hospital_table_checks hs)) _ e
    (first-some (hospital_table_checks hs) (doctor_table_checks (names_in hs) ds ++ rank_table_checks (names_in hs) (names_in ds) rs)) stop

pub doctors-stop : (hs ds rs : List Row) (e : ReadFault) → first_of (hospital_table_checks hs) ≡ None → Stops (first_of (doctor_table_checks (names_in hs) ds)) e
    → Stops (first_of (roster_checks hs ds rs)) e
unfolding roster_checks
doctors-stop hs ds rs e none stop =
    let after = doctor_table_checks (names_in hs) ds ++ rank_table_checks (names_in hs) (names_in ds) rs in
    stops-on (first_of (doctor_table_checks (names_in hs) ds)) _ e
    (λ refusal some. first-none (hospital_table_checks hs) after none ∙ first-some (doctor_table_checks (names_in hs) ds) (rank_table_checks (names_in hs) (names_in ds) rs) refusal some) stop

through-two : (hs ds rs : List Row) → first_of (hospital_table_checks hs) ≡ None → first_of (doctor_table_checks (names_in hs) ds) ≡ None
    → first_of (roster_checks hs ds rs) ≡ first_of (rank_table_checks (names_in hs) (names_in ds) rs)
unfolding roster_checks
through-two hs ds rs hospitals doctors =
    first-none (hospital_table_checks hs) (doctor_table_checks (names_in hs) ds ++ rank_table_checks (names_in hs) (names_in ds) rs) hospitals
    ∙ first-none (doctor_table_checks (names_in hs) ds) (rank_table_checks (names_in hs) (names_in ds) rs) doctors

pub ranks-stop : (hs ds rs : List Row) (e : ReadFault) → first_of (hospital_table_checks hs) ≡ None → first_of (doctor_table_checks (names_in hs) ds) ≡ None
    → Stops (first_of (rank_table_checks (names_in hs) (names_in ds) rs)) e → Stops (first_of (roster_checks hs ds rs)) e
ranks-stop hs ds rs e hospitals doctors stop =
    stops-on (first_of (rank_table_checks (names_in hs) (names_in ds) rs)) _ e (λ refusal some. through-two hs ds rs hospitals doctors ∙ some) stop

pub all-files : (hs ds rs : List Row) → first_of (hospital_table_checks hs) ≡ None → first_of (doctor_table_checks (names_in hs) ds) ≡ None
    → first_of (rank_table_checks (names_in hs) (names_in ds) rs) ≡ None → first_of (roster_checks hs ds rs) ≡ None
all-files hs ds rs hospitals doctors ranks = through-two hs ds rs hospitals doctors ∙ ranks

-- the roster is what the parts say
pub roster-is : (hs ds rs : List Row) (hospitals : HospitalsData) (doctors : DoctorsData) (ranks : List (List ℕ)) → hospitals ≡ hospitals_of (data_rows hs)
    → doctors ≡ doctors_of (names_in hs) (data_rows ds) → ranks ≡ ranks_of (names_in hs) (names_in ds) (data_rows rs) → roster_joined hospitals doctors ranks ≡ roster_of hs ds rs
unfolding roster_of
roster-is hs ds rs hospitals doctors ranks h d r = rw (h, d, r) refl
