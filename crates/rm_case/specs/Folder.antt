-- The files of a folder, and what the roster's three say.
use Rattle.std.specs.Prelude.{ℕ, List, [], ◌∷◌, ◌++◌, ◌==◌, codes, length, nat_lt, Option, Some, None, option_map, if◌then◌else◌}
use Rattle.std.specs.FinMap.{get}
use Rattle.std.specs.Option.{option_map_or}
use Rattle.rm_base.specs.Checks.{check}
use Rattle.rm_base.specs.Codes.{refuse}
use Rattle.rm_base.specs.Text.{Text, Files}
use Rattle.rm_base.specs.declared.Refusal.{Refusal}
use Rattle.rm_base.specs.declared.codes.TheConstants.{HOSPITALS_FILE, DOCTORS_FILE, RANKS_FILE, POLICY_FILE, FILE_MISSING, FILE_TOO_LONG, NOT_UTF8, MOST_BYTES}
use Rattle.rm_table.specs.Rows.{Row, rows_of, bad_text}
use Rattle.rm_roster.specs.Roster.{RosterData, roster_of}

-- the bytes of a folder's four files, each if it is there
pub record Folder : Type 0 where
  pub hospitals : Option Text
  pub doctors : Option Text
  pub ranks : Option Text
  pub policy : Option Text

-- the four files of the folder F
abbrev pub folder_of : Files → Text → Folder
folder_of files F =
    record {
      hospitals = get files (F ++ codes "/hospitals.csv");
      doctors = get files (F ++ codes "/doctors.csv");
      ranks = get files (F ++ codes "/ranks.csv");
      policy = get files (F ++ codes "/policy.toml");
    }

-- the name of a file of a folder, by the file's number
abbrev pub file_in : Text → ℕ → Option Text
file_in F file =
    if file == HOSPITALS_FILE then Some (F ++ codes "/hospitals.csv")
    else if file == DOCTORS_FILE then Some (F ++ codes "/doctors.csv")
    else if file == RANKS_FILE then Some (F ++ codes "/ranks.csv")
    else if file == POLICY_FILE then Some (F ++ codes "/policy.toml")
    else None

-- a table's file is missing, or too long, or has a row that isn't UTF-8
abbrev pub file_checks : ℕ → Option Text → List (Option Refusal)
file_checks file None = Some (refuse FILE_MISSING file 0 0) ∷ []
file_checks file (Some bytes) =
    check (nat_lt MOST_BYTES (length bytes)) (refuse FILE_TOO_LONG file 0 0)
    ∷ option_map (λ row. refuse NOT_UTF8 file row 0) (bad_text (rows_of bytes))
    ∷ []

-- the rows of a file, none where it is missing
abbrev pub rows_in : Option Text → List Row
rows_in file = option_map_or rows_of file []

abbrev pub folder_roster : Folder → RosterData
folder_roster f = roster_of (rows_in f.hospitals) (rows_in f.doctors) (rows_in f.ranks)
