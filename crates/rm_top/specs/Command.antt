-- The commands, by the words of a command line, and the files that they need.
use Rattle.std.specs.Prelude.{ℕ, List, [], ◌∷◌, ◌++◌, ◌==◌, ◌&&◌, codes, get_or, length, is_none, option_map, Option, Some, None, Result, Ok, Err, if◌then◌else◌}
use Rattle.std.specs.FinMap.{get}
use Rattle.std.specs.Str.{bytes_eq}
use Rattle.rm_base.specs.Checks.{check, first_of}
use Rattle.rm_base.specs.Codes.{refuse}
use Rattle.rm_base.specs.Text.{Text, Files}
use Rattle.rm_base.specs.declared.Refusal.{Refusal}
use Rattle.rm_base.specs.declared.codes.TheConstants.{OWN_FILE, UNKNOWN_DOCTOR}
use Rattle.rm_table.specs.Rows.{Row}
use Rattle.rm_case.specs.Folder.{file_checks, file_in, rows_in}
use Rattle.rm_case.specs.Case.{CaseData, market_of}
use Rattle.rm_case.specs.Choices.{choice_table_checks}
use Rattle.rm_case.specs.Own.{doctor_in, offer_table_checks}
use Rattle.rm_audit.specs.Placement.{placement_checks}
use Rattle.rm_transit.specs.Events.{event_table_checks}
use Rattle.rm_journal.specs.Reading.{journal_checks}
use Rattle.rm_top.specs.declared.command.Kind.{Kind}
use Rattle.rm_top.specs.declared.command.Kind.TheVariants as kinds
use Rattle.rm_top.specs.declared.command.TheConstants.{DOCTOR_WORD, WORDS}

abbrev pub usage_text : Text
usage_text = codes "usage: rm_match place F | check F | report F | choose F OFFERS | audit F PLACEMENT | whatif F DOCTOR LIST | journal F | verify F JOURNAL | transit F EVENTS\n"

-- what a first word asks for, with so many words in all
abbrev pub kind_of : Text → ℕ → Option Kind
kind_of word count =
    if (count == 2) && bytes_eq word (codes "place") then Some kinds.Place
    else if (count == 2) && bytes_eq word (codes "check") then Some kinds.Check
    else if (count == 2) && bytes_eq word (codes "report") then Some kinds.Report
    else if (count == 3) && bytes_eq word (codes "choose") then Some kinds.Choose
    else if (count == 3) && bytes_eq word (codes "audit") then Some kinds.Audit
    else if (count == 4) && bytes_eq word (codes "whatif") then Some kinds.WhatIf
    else if (count == 2) && bytes_eq word (codes "journal") then Some kinds.Journal
    else if (count == 3) && bytes_eq word (codes "verify") then Some kinds.Verify
    else if (count == 3) && bytes_eq word (codes "transit") then Some kinds.Transit
    else None

-- which word, counted from 0, names a command's own file
abbrev pub own_at : Kind → Option ℕ
own_at kinds.Place = None
own_at kinds.Check = None
own_at kinds.Report = None
own_at kinds.Choose = Some 2
own_at kinds.Audit = Some 2
own_at kinds.WhatIf = Some 3
own_at kinds.Journal = None
own_at kinds.Verify = Some 2
own_at kinds.Transit = Some 2

-- a word, counted from 0; the empty text past the last
abbrev pub word_at : List Text → ℕ → Text
word_at words k = get_or words k []

-- the word that names a doctor, of a command that has one
abbrev pub doctor_word : List Text → Text
doctor_word words = word_at words 2

-- the checks of a command's words, on the case of its folder: a word is of file 0, and told by its number, counted from 1
abbrev pub word_checks : Kind → CaseData → List Text → List (Option Refusal)
word_checks kinds.Place c words = []
word_checks kinds.Check c words = []
word_checks kinds.Report c words = []
word_checks kinds.Choose c words = []
word_checks kinds.Audit c words = []
word_checks kinds.WhatIf c words = check (is_none (doctor_in c (doctor_word words))) (refuse UNKNOWN_DOCTOR WORDS DOCTOR_WORD 0) ∷ []
word_checks kinds.Journal c words = []
word_checks kinds.Verify c words = []
word_checks kinds.Transit c words = []

-- the checks of the rows of a command's own file; a command without one has none
abbrev pub rows_checks : Kind → CaseData → List Row → List (Option Refusal)
rows_checks kinds.Place c rows = []
rows_checks kinds.Check c rows = []
rows_checks kinds.Report c rows = []
rows_checks kinds.Choose c rows = offer_table_checks c rows
rows_checks kinds.Audit c rows = placement_checks c rows
rows_checks kinds.WhatIf c rows = choice_table_checks c rows
rows_checks kinds.Journal c rows = []
rows_checks kinds.Verify c rows = journal_checks c rows
rows_checks kinds.Transit c rows = event_table_checks c rows

-- ---- of every command

-- a command: what it does, and all its words
pub record Command : Type 0 where
  pub kind : Kind
  pub words : List Text

-- the command that the words spell, if they spell one
abbrev pub command_of : List Text → Option Command
command_of words = option_map (λ k. record { kind = k; words = words }) (kind_of (word_at words 0) (length words))

-- the folder of a command, and its own file
abbrev pub folder_in : Command → Text
folder_in command = word_at command.words 1

abbrev pub own_file_in : Command → Option Text
own_file_in command = option_map (word_at command.words) (own_at command.kind)

-- the name of the file of this number that the command may need
abbrev pub file_of : Command → ℕ → Option Text
file_of command file = if file == OWN_FILE then own_file_in command else file_in (folder_in command) file

-- the rows of the own file of this name, and the checks before theirs; none where a command has no own file
abbrev pub rows_of_own : Files → Option Text → List Row
rows_of_own files None = []
rows_of_own files (Some name) = rows_in (get files name)

abbrev pub own_checks : Files → Option Text → List (Option Refusal)
own_checks files None = []
own_checks files (Some name) = file_checks OWN_FILE (get files name)

abbrev pub own_rows : Files → Command → List Row
own_rows files command = rows_of_own files (own_file_in command)

-- ---- the first refusal of a command

-- that of its words, then of its own file, and then of the rows of that
abbrev pub own_refusal : Files → Command → CaseData → Option Refusal
own_refusal files command c =
    first_of (word_checks command.kind c command.words ++ (own_checks files (own_file_in command) ++ rows_checks command.kind c (own_rows files command)))

abbrev pub refusal_after : Files → Command → Result CaseData Refusal → Option Refusal
refusal_after files command (Ok c) = own_refusal files command c
refusal_after files command (Err refusal) = Some refusal

-- that of its folder, or else that of its words and of its own file
abbrev pub refusal_of : Files → Command → Option Refusal
refusal_of files command = refusal_after files command (market_of files (folder_in command))
