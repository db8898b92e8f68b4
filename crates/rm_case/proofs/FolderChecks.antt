-- The checks of a folder in their order: which of them decides.
use Rattle.std.proofs.Common.{◌≡◌, ◌∙◌, ◌<◌, ◌≤◌, ◌++◌, length, ap, sym, ℕ, List, Option, Some, None, Result, Ok, Err, refl}
use Rattle.std.specs.Option.{option_map_or}
use Rattle.std.proofs.lemmas.Bool.{le-ltb, lt-ltb}
use Rattle.rm_base.specs.Checks.{first_of}
use Rattle.rm_base.specs.Reading.{Reads, Stops}
use Rattle.rm_base.specs.Text.{Text}
use Rattle.rm_base.specs.Codes.{refuse}
use Rattle.rm_base.specs.declared.ReadFault.{ReadFault}
use Rattle.rm_base.specs.declared.ReadFault.TheVariants.{Refused}
use Rattle.rm_base.specs.declared.Refusal.{Refusal}
use Rattle.rm_base.specs.declared.codes.TheConstants.{HOSPITALS_FILE, DOCTORS_FILE, RANKS_FILE, POLICY_FILE, FILE_TOO_LONG, MOST_BYTES}
use Rattle.rm_base.proofs.CheckLemmas.{first-none, first-some}
use Rattle.rm_base.proofs.Stopping.{stops-on}
use Rattle.rm_table.specs.Rows.{Row}
use Rattle.rm_roster.specs.Roster.{RosterData, roster_checks, roster_of}
use Rattle.rm_policy.specs.Policy.{PolicyData, ReadsPolicy, plain, policy_of}
use Rattle.rm_policy.specs.Values.{document_of}
use Rattle.rm_case.specs.Folder.{Folder, file_checks, rows_in, folder_roster}
use Rattle.rm_case.specs.Parts.{ReadsFiles}
use Rattle.rm_case.specs.declared.load.FolderData.{FolderData}
use Rattle.rm_case.specs.Case.{CaseData, board_checks, case_of, folder_policy, folder_refusal, policy_file_checks, policy_in, table_checks}

-- ---- the tables

abbrev roster_part : Folder → List (Option Refusal)
roster_part f = roster_checks (rows_in f.hospitals) (rows_in f.doctors) (rows_in f.ranks)

-- the checks from each table on
abbrev ranks_on : Folder → List (Option Refusal)
ranks_on f = file_checks RANKS_FILE f.ranks ++ roster_part f

abbrev doctors_on : Folder → List (Option Refusal)
doctors_on f = file_checks DOCTORS_FILE f.doctors ++ ranks_on f

-- the checks of a file find nothing
abbrev IsSound : ℕ → Option Text → Type 0
IsSound file told = first_of (file_checks file told) ≡ None

past-doctors : (f : Folder) → IsSound HOSPITALS_FILE f.hospitals → IsSound DOCTORS_FILE f.doctors → first_of (table_checks f) ≡ first_of (ranks_on f)
unfolding table_checks
past-doctors f h d = first-none (file_checks HOSPITALS_FILE f.hospitals) (doctors_on f) h ∙ first-none (file_checks DOCTORS_FILE f.doctors) (ranks_on f) d

pub hospitals-stop : (f : Folder) (e : ReadFault) → Stops (first_of (file_checks HOSPITALS_FILE f.hospitals)) e → Stops (first_of (table_checks f)) e
unfolding table_checks
hospitals-stop f e h = stops-on _ _ e (λ refusal some. first-some (file_checks HOSPITALS_FILE f.hospitals) (doctors_on f) refusal some) h

pub doctors-stop : (f : Folder) (e : ReadFault) → IsSound HOSPITALS_FILE f.hospitals → Stops (first_of (file_checks DOCTORS_FILE f.doctors)) e → Stops (first_of (table_checks f)) e
unfolding table_checks
doctors-stop f e hospitals h =
    stops-on _ _ e (λ refusal some. first-none (file_checks HOSPITALS_FILE f.hospitals) (doctors_on f) hospitals ∙ first-some (file_checks DOCTORS_FILE f.doctors) (ranks_on f) refusal some) h

pub ranks-stop : (f : Folder) (e : ReadFault) → IsSound HOSPITALS_FILE f.hospitals → IsSound DOCTORS_FILE f.doctors → Stops (first_of (file_checks RANKS_FILE f.ranks)) e → Stops (first_of (table_checks f)) e
ranks-stop f e hospitals doctors h =
    stops-on _ _ e (λ refusal some. past-doctors f hospitals doctors ∙ first-some (file_checks RANKS_FILE f.ranks) (roster_part f) refusal some) h

-- three tables that are text decide by what they say
pub roster-reads : (f : Folder) (hospitals doctors ranks : List Row) (result : Result RosterData ReadFault)
    → Reads (first_of (file_checks HOSPITALS_FILE f.hospitals)) (rows_in f.hospitals) (Ok hospitals)
    → Reads (first_of (file_checks DOCTORS_FILE f.doctors)) (rows_in f.doctors) (Ok doctors)
    → Reads (first_of (file_checks RANKS_FILE f.ranks)) (rows_in f.ranks) (Ok ranks)
    → Reads (first_of (roster_checks hospitals doctors ranks)) (roster_of hospitals doctors ranks) result
    → Reads (first_of (table_checks f)) (folder_roster f) result
roster-reads f hospitals doctors ranks result h d r read =
    let same = rw (h.1, d.1, r.1) at read in
    let last = past-doctors f h.0 d.0 ∙ first-none (file_checks RANKS_FILE f.ranks) (roster_part f) r.0 in
    rw last same

-- ---- the tables, the policy and the board

-- the checks from each part on
abbrev board_part : Folder → List (Option Refusal)
board_part f = board_checks (folder_roster f) (folder_policy f)

abbrev policy_part : Folder → List (Option Refusal)
policy_part f = policy_file_checks (folder_roster f) f.policy

pub tables-stop : (f : Folder) (e : ReadFault) → Stops (first_of (table_checks f)) e → Stops (folder_refusal f) e
unfolding folder_refusal
tables-stop f e h = stops-on _ _ e (λ refusal some. first-some (table_checks f) (policy_part f ++ board_part f) refusal some) h

past-tables : (f : Folder) → first_of (table_checks f) ≡ None → folder_refusal f ≡ first_of (policy_part f ++ board_part f)
unfolding folder_refusal
past-tables f none = first-none (table_checks f) (policy_part f ++ board_part f) none

pub policy-stop : (f : Folder) (r : RosterData) (e : ReadFault) → Reads (first_of (table_checks f)) (folder_roster f) (Ok r) → Stops (first_of (policy_file_checks r f.policy)) e → Stops (folder_refusal f) e
policy-stop f r e tables h =
    let same = rw tables.1 at h in
    stops-on _ _ e (λ refusal some. past-tables f tables.0 ∙ first-some (policy_part f) (board_part f) refusal some) same

pub files-read : (f : Folder) (told : FolderData) → Reads (first_of (table_checks f)) (folder_roster f) (Ok told.roster)
    → Reads (first_of (policy_file_checks told.roster f.policy)) (policy_in told.roster f.policy) (Ok told.policy) → ReadsFiles f (Ok told)
files-read f told tables policy = let same = rw tables.1 at policy in (tables.0, same.0, tables.1, same.1)

-- tables and a policy that are not refused decide by the board that they make
pub case-reads : (f : Folder) (told : FolderData) (result : Result CaseData ReadFault) → ReadsFiles f (Ok told)
    → Reads (first_of (board_checks told.roster told.policy)) (record { roster = told.roster; policy = told.policy }) result → Reads (folder_refusal f) (case_of f) result
case-reads f told result files read =
    let same = rw (files.2, files.3) at read in
    let last = past-tables f files.0 ∙ first-none (policy_part f) (board_part f) files.1 in
    rw last same

-- ---- the policy

-- a policy file that is not too long decides by what it says
pub policy-reads : (r : RosterData) (bytes : Text) (told : Option Text) (result : Result PolicyData ReadFault) → told ≡ Some bytes → length bytes ≤ MOST_BYTES → ReadsPolicy r (document_of bytes) result
    → Reads (first_of (policy_file_checks r told)) (policy_in r told) result
unfolding policy_file_checks policy_in
policy-reads r bytes told (Ok p) is short read =
    let same : policy_in r (Some bytes) ≡ policy_of r read.1 = ap (λ o. option_map_or (policy_of r) o plain) read.2 in
    rw (is, le-ltb MOST_BYTES (length bytes) short) (read.0, read.3 ∙ sym same)
policy-reads r bytes told (Err e) is short read = rw (is, le-ltb MOST_BYTES (length bytes) short) read

-- without a policy file the plain policy is told
pub plain-reads : (r : RosterData) (told : Option Text) (p : PolicyData) → told ≡ None → p ≡ plain → Reads (first_of (policy_file_checks r told)) (policy_in r told) (Ok p)
unfolding policy_file_checks policy_in
plain-reads r told p absent is = rw absent (refl, is)

pub long-stops : (r : RosterData) (bytes : Text) (told : Option Text) (e : ReadFault) → told ≡ Some bytes → MOST_BYTES < length bytes → e ≡ Refused (refuse FILE_TOO_LONG POLICY_FILE 0 0) → Stops (first_of (policy_file_checks r told)) e
unfolding policy_file_checks
long-stops r bytes told e is long refused = rw (is, lt-ltb MOST_BYTES (length bytes) long, refused) refl
