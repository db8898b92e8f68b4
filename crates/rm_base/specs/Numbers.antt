-- Each number of a file, a refusal and a limit in plain numerals, as docs/formats.md has it. The constants of `codes` are these.
use Rattle.std.specs.Prelude.{◌≡◌, ℕ, pos, List, [], ◌∷◌, ◌++◌, map}
use Rattle.rm_base.specs.declared.codes.TheConstants.{HOSPITALS_FILE, DOCTORS_FILE, RANKS_FILE, POLICY_FILE, OWN_FILE, FILE_MISSING, FILE_TOO_LONG, NOT_UTF8, WRONG_HEADER, BAD_NAME, REPEATED_NAME, BAD_NUMBER, ABOVE_LIMIT, TARGET_ABOVE_CAPACITY, UNKNOWN_NAME, REPEATED_CHOICE, REPEATED_ROW, TOO_MANY, NOT_TOML, UNKNOWN_KEY, BAD_VALUE, KEY_NOT_FOR_KIND, UNKNOWN_ENTRY_NAME, REPEATED_ENTRY, CROSSING_GROUPS, STEPS_RISE, STEP_OUT_OF_RANGE, WRONG_ORDER, MORE_STEPS_THAN_SEATS, GROUP_EMPTY, TARGETS_ABOVE_CAP, TOO_MANY_ITEMS, LISTED_NO_CONTRACT, LISTED_REPEATED, LISTED_MISSING, LISTED_AGAINST_RANKS, UNKNOWN_DOCTOR, UNKNOWN_HOSPITAL, NOT_LISTED, REPEATED_DOCTOR, DOCTOR_MISSING, NOT_CONTRACT, REPEATED_CONTRACT, BAD_ANSWER, BAD_EVENT, UNKNOWN_GROUP, NO_OUTERMOST_CAP, CAP_BELOW, MOST_HOSPITALS, MOST_SEATS, MOST_DOCTORS, MOST_CHOICES, MOST_GROUPS, MOST_RUNS, MOST_DEPTH, GREATEST_CAPACITY, GREATEST_CAP, GREATEST_STEP, MOST_BYTES, MOST_NAME_BYTES, HOSPITALS_LIMIT, SEATS_LIMIT, DOCTORS_LIMIT, CHOICES_LIMIT, RANKED_LIMIT, GROUPS_LIMIT, RUNS_LIMIT, DEPTH_LIMIT}

-- files
abbrev pub files : List (ℕ × ℕ)
files =
    (HOSPITALS_FILE, 1) ∷
    (DOCTORS_FILE, 2) ∷
    (RANKS_FILE, 3) ∷
    (POLICY_FILE, 4) ∷
    (OWN_FILE, 5) ∷
    []

-- refusals of any file
abbrev pub of_any_file : List (ℕ × ℕ)
of_any_file =
    (FILE_MISSING, 10) ∷
    (FILE_TOO_LONG, 11) ∷
    []

-- refusals of a table
abbrev pub of_tables : List (ℕ × ℕ)
of_tables =
    (NOT_UTF8, 12) ∷
    (WRONG_HEADER, 13) ∷
    (BAD_NAME, 14) ∷
    (REPEATED_NAME, 15) ∷
    (BAD_NUMBER, 16) ∷
    (ABOVE_LIMIT, 17) ∷
    (TARGET_ABOVE_CAPACITY, 18) ∷
    (UNKNOWN_NAME, 19) ∷
    (REPEATED_CHOICE, 21) ∷
    (REPEATED_ROW, 22) ∷
    (TOO_MANY, 23) ∷
    []

-- refusals of the policy
abbrev pub of_policies : List (ℕ × ℕ)
of_policies =
    (NOT_TOML, 30) ∷
    (UNKNOWN_KEY, 31) ∷
    (BAD_VALUE, 32) ∷
    (KEY_NOT_FOR_KIND, 33) ∷
    (UNKNOWN_ENTRY_NAME, 34) ∷
    (REPEATED_ENTRY, 35) ∷
    (CROSSING_GROUPS, 36) ∷
    (STEPS_RISE, 37) ∷
    (STEP_OUT_OF_RANGE, 38) ∷
    (WRONG_ORDER, 39) ∷
    (MORE_STEPS_THAN_SEATS, 40) ∷
    (GROUP_EMPTY, 41) ∷
    (TARGETS_ABOVE_CAP, 42) ∷
    (TOO_MANY_ITEMS, 43) ∷
    []

-- refusals of a listed tie order
abbrev pub of_listed_orders : List (ℕ × ℕ)
of_listed_orders =
    (LISTED_NO_CONTRACT, 50) ∷
    (LISTED_REPEATED, 51) ∷
    (LISTED_MISSING, 52) ∷
    (LISTED_AGAINST_RANKS, 53) ∷
    []

-- refusals of the command's own part
abbrev pub of_own_files : List (ℕ × ℕ)
of_own_files =
    (UNKNOWN_DOCTOR, 60) ∷
    (UNKNOWN_HOSPITAL, 61) ∷
    (NOT_LISTED, 62) ∷
    (REPEATED_DOCTOR, 63) ∷
    (DOCTOR_MISSING, 64) ∷
    (NOT_CONTRACT, 65) ∷
    (REPEATED_CONTRACT, 66) ∷
    (BAD_ANSWER, 67) ∷
    (BAD_EVENT, 68) ∷
    (UNKNOWN_GROUP, 69) ∷
    (NO_OUTERMOST_CAP, 70) ∷
    (CAP_BELOW, 71) ∷
    []

-- limits
abbrev pub limits : List (ℕ × ℕ)
limits =
    (MOST_HOSPITALS, 10_000) ∷
    (MOST_SEATS, 1_000_000) ∷
    (MOST_DOCTORS, 100_000) ∷
    (MOST_CHOICES, 2_000_000) ∷
    (MOST_GROUPS, 5_000) ∷
    (MOST_RUNS, 64) ∷
    (MOST_DEPTH, 32) ∷
    (GREATEST_CAPACITY, 10_000) ∷
    (GREATEST_CAP, 1_000_000) ∷
    (MOST_BYTES, 67_108_864) ∷
    (MOST_NAME_BYTES, 64) ∷
    []

-- the numbers of the limits
abbrev pub limit_numbers : List (ℕ × ℕ)
limit_numbers =
    (HOSPITALS_LIMIT, 1) ∷
    (SEATS_LIMIT, 2) ∷
    (DOCTORS_LIMIT, 3) ∷
    (CHOICES_LIMIT, 4) ∷
    (RANKED_LIMIT, 5) ∷
    (GROUPS_LIMIT, 6) ∷
    (RUNS_LIMIT, 7) ∷
    (DEPTH_LIMIT, 8) ∷
    []

-- each of them
abbrev pub numbers : List (ℕ × ℕ)
numbers = files ++ of_any_file ++ of_tables ++ of_policies ++ of_listed_orders ++ of_own_files ++ limits ++ limit_numbers

-- each constant is its number; the greatest step is a number with a sign
abbrev pub AreAsWritten : Type 0
AreAsWritten = (map (λ row. row.0) numbers ≡ map (λ row. row.1) numbers) × (GREATEST_STEP ≡ pos 1_000_000_000)
