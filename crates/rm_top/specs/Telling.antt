-- What there is to tell of a command: its text, or why there is none.
use Rattle.std.specs.Prelude.{◌≡◌, ℕ, Bool, true, false, List, Option, None, Some, Result, IfSome, string_bytes}
use Rattle.rm_base.specs.Checks.{first_of}
use Rattle.rm_base.specs.Text.{Text, Files}
use Rattle.rm_base.specs.declared.Refusal.{Refusal}
use Rattle.rm_base.specs.declared.codes.TheConstants.{OWN_FILE}
use Rattle.rm_outside.specs.Outside.{HasRisen}
use Rattle.rm_table.specs.Rows.{Row}
use Rattle.rm_market.specs.Market.{IsStableIn}
use Rattle.rm_case.specs.Case.{CaseData, market}
use Rattle.rm_case.specs.Loading.{LoadsData, HasFailedAt}
use Rattle.rm_case.specs.declared.fault.LoadFault.{LoadFault}
use Rattle.rm_case.specs.declared.fault.LoadFault.TheVariants as fault
use Rattle.rm_journal_laws.specs.declared.Entry.{Entry}
use Rattle.rm_top.specs.Answers.{FailedOn, IsAcceptedJournal, IsCaseText, IsFindingText, IsRight, IsVerdictText, OfGiven}
use Rattle.rm_top.specs.Command.{Command, own_checks, own_file_in, own_refusal, own_rows, refusal_of, rows_checks, word_checks}
use Rattle.rm_top.specs.Texts.{refusal_text, read_fault_text}
use Rattle.rm_top.specs.declared.ending.Ending.{Ending}
use Rattle.rm_top.specs.declared.ending.Ending.TheVariants as end
use Rattle.rm_top.specs.declared.telling.Told.{Told}

-- ---- of a command on the case of its folder

-- the rows of a command's own file, or the file's first refusal
abbrev pub LoadsRows : Option Files → Command → Result (List Row) LoadFault → Type 0
LoadsRows files command result = IfSome files (λ fs. LoadsData (first_of (own_checks fs (own_file_in command))) (own_rows fs command) result)

-- its own file is not read only where the shelf failed at it
abbrev pub HasFailedOwn : ℕ → ℕ → Option (Option Text) → Command → LoadFault → Type 0
HasFailedOwn before after blame command (fault.Refused r) = Unit {0}
HasFailedOwn before after blame command (fault.Read file) = (name : Text) × (file ≡ OWN_FILE) × (own_file_in command ≡ Some name)
    × HasFailedAt before after blame name
HasFailedOwn before after blame command fault.NoMemory = Unit {0}

-- there is an objection exactly where this isn't right
abbrev pub Judges : Bool → Type 0 → Type 0
Judges true right = ¬ right
Judges false right = right

-- the text, and whether it objects to something
abbrev pub IsTold : Command → CaseData → List Row → Told → Type 0
IsTold command c rows told = IsCaseText command.kind command.words c rows told.text.items × Judges told.objects (IsRight command.kind c rows)

-- the same of the finding on a set of placed contracts
abbrev pub IsFindingTold : CaseData → List ℕ → Told → Type 0
IsFindingTold c S told = IsFindingText c S told.text.items × Judges told.objects (IsStableIn (market c) S)

-- and of what is so of a journal
abbrev pub IsVerdictTold : CaseData → List Entry → Told → Type 0
IsVerdictTold c entries told = IsVerdictText c entries told.text.items × Judges told.objects (IsAcceptedJournal c entries)

-- nothing of the rows is refused, and this is told
abbrev pub HasCaseText : Command → CaseData → List Row → Told → Type 0
HasCaseText command c rows told = (first_of (rows_checks command.kind c rows) ≡ None) × IsTold command c rows told

-- nothing of a command's words and of its own file is refused, where the files are told, and this is told
abbrev pub HasTextOn : Option Files → Command → CaseData → Told → Type 0
HasTextOn files command c told =
    (rows : List Row) × IfSome files (λ fs. (own_refusal fs command c ≡ None) × (rows ≡ own_rows fs command)) × IsTold command c rows told

-- nothing of a command's words is refused
abbrev pub AreWordsKnown : Command → CaseData → Type 0
AreWordsKnown command c = first_of (word_checks command.kind c command.words) ≡ None

-- why there is no text: the first refusal of its words and its own file, that file if the shelf failed at it, or want of memory
abbrev pub StopsOnCase : Option Files → ℕ → ℕ → Option (Option Text) → Command → CaseData → LoadFault → Type 0
StopsOnCase files before after blame command c (fault.Refused r) = IfSome files (λ fs. own_refusal fs command c ≡ Some r)
StopsOnCase files before after blame command c (fault.Read file) = HasFailedOwn before after blame command (fault.Read file) × AreWordsKnown command c
StopsOnCase files before after blame command c fault.NoMemory = Unit {0}

-- ---- of a command

-- nothing of a command is refused, where the files are told
abbrev pub HasNoRefusal : Option Files → Command → Type 0
HasNoRefusal files c = IfSome files (λ fs. refusal_of fs c ≡ None)

-- what is told of the case and the rows that it is given; nothing is refused
abbrev pub HasText : Option Files → Command → Told → Type 0
HasText files command told = OfGiven files command (λ c rows. IsTold command c rows told) × HasNoRefusal files command

abbrev pub StopsWith : Option Files → ℕ → ℕ → Option (Option Text) → Command → LoadFault → Type 0
StopsWith files before after blame command (fault.Refused r) = IfSome files (λ fs. refusal_of fs command ≡ Some r)
StopsWith files before after blame command (fault.Read file) = HasRisen before after × FailedOn files blame command file
StopsWith files before after blame command fault.NoMemory = Unit {0}

-- an ending that says why there is no text; memory may be wanting for that
abbrev pub SaysWhy : LoadFault → Ending → Type 0
SaysWhy f end.Written = ⊥
SaysWhy f end.Objected = ⊥
SaysWhy f end.BadWords = ⊥
SaysWhy f (end.Refused text) = (r : Refusal) × (f ≡ fault.Refused r) × (string_bytes text ≡ refusal_text r)
SaysWhy f (end.ReadFailed text) = (file : ℕ) × (f ≡ fault.Read file) × (string_bytes text ≡ read_fault_text file)
SaysWhy f end.WriteFailed = ⊥
SaysWhy f end.NoMemory = Unit {0}
