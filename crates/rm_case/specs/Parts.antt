-- What reading the files of a folder answers, and making the parts of its case.
use Rattle.std.specs.Prelude.{◌≡◌, Option, None, Result, Ok, Err}
use Rattle.rm_base.specs.Checks.{first_of}
use Rattle.rm_base.specs.Reading.{Reads, Stops}
use Rattle.rm_base.specs.Text.{Text}
use Rattle.rm_base.specs.declared.ReadFault.{ReadFault}
use Rattle.rm_case.specs.Folder.{Folder, folder_roster}
use Rattle.rm_case.specs.Case.{CaseData, IsCaseKept, board_checks, folder_policy, folder_refusal, policy_file_checks, policy_in, table_checks}
use Rattle.rm_policy.specs.Policy.{PolicyData}
use Rattle.rm_roster.specs.Roster.{RosterData}
use Rattle.rm_case.specs.declared.case.Parts.{Parts}
use Rattle.rm_case.specs.declared.load.FolderData.{FolderData}

-- what the tables and the policy file say if they are not refused, or else the folder's first refusal
abbrev pub ReadsFiles : Folder → Result FolderData ReadFault → Type 0
ReadsFiles f (Ok told) =
    (first_of (table_checks f) ≡ None) × (first_of (policy_file_checks (folder_roster f) f.policy) ≡ None)
    × (told.roster ≡ folder_roster f) × (told.policy ≡ folder_policy f)
ReadsFiles f (Err e) = Stops (folder_refusal f) e

-- the policy that a file gives for a roster, or the file's first refusal
abbrev pub ReadsPolicyFile : RosterData → Option Text → Result PolicyData ReadFault → Type 0
ReadsPolicyFile r file result = Reads (first_of (policy_file_checks r file)) (policy_in r file) result

-- what is kept with a case, or the first refusal of its board
abbrev pub Compiles : CaseData → Result Parts ReadFault → Type 0
Compiles c (Ok parts) = (first_of (board_checks c.roster c.policy) ≡ None) × IsCaseKept c parts.board parts.listed
Compiles c (Err e) = Stops (first_of (board_checks c.roster c.policy)) e
