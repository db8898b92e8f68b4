-- What loading a folder, or a command's own file, answers.
use Rattle.std.specs.Prelude.{◌≡◌, ℕ, List, Option, Some, None, Result, Ok, Err, IfSome}
use Rattle.rm_base.specs.Checks.{first_of}
use Rattle.rm_base.specs.Text.{Text}
use Rattle.rm_base.specs.declared.Refusal.{Refusal}
use Rattle.rm_base.specs.declared.codes.TheConstants.{OWN_FILE}
use Rattle.rm_outside.specs.Outside.{HasRisen}
use Rattle.rm_table.specs.Rows.{Row}
use Rattle.rm_case.specs.Folder.{Folder, file_in, file_checks, rows_in}
use Rattle.rm_case.specs.Case.{CaseData, folder_refusal, case_of}
use Rattle.rm_case.specs.declared.fault.LoadFault.{LoadFault}
use Rattle.rm_case.specs.declared.fault.LoadFault.TheVariants as fault

-- what passes its checks, as data, or their first refusal; the shelf may fail, and memory may be wanting
abbrev pub LoadsData : {D : Type 0} → Option Refusal → D → Result D LoadFault → Type 0
LoadsData first all (Ok told) = (first ≡ None) × (told ≡ all)
LoadsData first all (Err (fault.Refused refusal)) = first ≡ Some refusal
LoadsData first all (Err (fault.Read file)) = Unit {0}
LoadsData first all (Err fault.NoMemory) = Unit {0}

-- the case of a folder that is not refused, or its first refusal
abbrev pub Loads : Folder → Result CaseData LoadFault → Type 0
Loads f result = LoadsData (folder_refusal f) (case_of f) result

-- the rows of a command's own file, or its first refusal
abbrev pub LoadsOwn : Option Text → Result (List Row) LoadFault → Type 0
LoadsOwn file result = LoadsData (first_of (file_checks OWN_FILE file)) (rows_in file) result

-- the shelf's faults rose at the fetch of this name, and its blame, where it is told, is that name
abbrev pub HasFailedAt : ℕ → ℕ → Option (Option Text) → Text → Type 0
HasFailedAt before after blame name = HasRisen before after × IfSome blame (λ b. b ≡ Some name)

-- the same of the file of this number in the folder F
abbrev pub HasFailedIn : ℕ → ℕ → Option (Option Text) → Text → ℕ → Type 0
HasFailedIn before after blame F file = (name : Text) × (file_in F file ≡ Some name) × HasFailedAt before after blame name

-- loading fails to read a file only where the shelf failed at it
abbrev pub LoadFails : {A : Type 0} → ℕ → ℕ → Option (Option Text) → Text → Result A LoadFault → Type 0
LoadFails before after blame F (Ok x) = Unit {0}
LoadFails before after blame F (Err (fault.Refused refusal)) = Unit {0}
LoadFails before after blame F (Err (fault.Read file)) = HasFailedIn before after blame F file
LoadFails before after blame F (Err fault.NoMemory) = Unit {0}

-- the same for a command's own file, which has this name
abbrev pub OwnFails : {A : Type 0} → ℕ → ℕ → Option (Option Text) → Text → Result A LoadFault → Type 0
OwnFails before after blame name (Ok x) = Unit {0}
OwnFails before after blame name (Err (fault.Refused refusal)) = Unit {0}
OwnFails before after blame name (Err (fault.Read file)) = (file ≡ OWN_FILE) × HasFailedAt before after blame name
OwnFails before after blame name (Err fault.NoMemory) = Unit {0}
