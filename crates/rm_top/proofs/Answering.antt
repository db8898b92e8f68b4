-- From what there is to tell of a case to what there is to tell of a command.
use Rattle.std.proofs.Common.{◌≡◌, ◌∙◌, ◌≤◌, ◌++◌, ℕ, List, Option, Some, None, Result, Ok, Err, IfSome, inl, inr, refl, subst, arith}
use Rattle.std.proofs.lemmas.Bool.{ne_eqb}
use Rattle.rm_base.specs.Text.{Text, Files}
use Rattle.rm_base.specs.Checks.{first_of}
use Rattle.rm_base.specs.declared.Refusal.{Refusal}
use Rattle.rm_base.specs.declared.codes.TheConstants.{OWN_FILE}
use Rattle.rm_base.proofs.CheckLemmas.{first-none, first-some}
use Rattle.rm_table.specs.Rows.{Row}
use Rattle.rm_outside.specs.Outside.{HasRisen}
use Rattle.rm_case.specs.Case.{CaseData, folder_refusal, market_of}
use Rattle.rm_case.specs.Folder.{folder_of, file_in}
use Rattle.rm_case.specs.Loading.{Loads, LoadFails}
use Rattle.rm_case.specs.declared.fault.LoadFault.{LoadFault}
use Rattle.rm_case.specs.declared.fault.LoadFault.TheVariants as fault
use Rattle.rm_top.specs.Answers.{IsAccepted, IsCaseText, IsRight}
use Rattle.rm_top.specs.Command.{Command, folder_in, file_of, own_checks, own_file_in, own_refusal, own_rows, refusal_of, rows_checks, word_checks}
use Rattle.rm_top.specs.declared.telling.Told.{Told}
use Rattle.rm_top.specs.declared.command.Kind.{Kind}
use Rattle.rm_top.specs.Telling.{AreWordsKnown, HasCaseText, HasFailedOwn, HasText, HasTextOn, LoadsRows, StopsOnCase, StopsWith}

-- ---- of a loaded case

loaded : (fs : Files) (F : Text) (c : CaseData) → Loads (folder_of fs F) (Ok c) → market_of fs F ≡ Ok c
loaded fs F c h = rw (h.0, h.1) refl

pub told_found : (files : Option Files) (command : Command) (c : CaseData) (told : Told) → IfSome files (λ fs. Loads (folder_of fs (folder_in command)) (Ok c))
    → HasTextOn files command c told → HasText files command told
told_found None command c told loads (rows, are, is) = ((c, rows, tt, is), tt)
told_found (Some fs) command c told loads (rows, are, is) =
    let same = loaded fs (folder_in command) c loads in
    ((c, rows, (same, are.0, are.1), is), rw same are.0)

accepted : (files : Option Files) (command : Command) (c : CaseData) → IfSome files (λ fs. Loads (folder_of fs (folder_in command)) (Ok c)) → AreWordsKnown command c
    → IsAccepted files command
accepted None command c loads words = tt
accepted (Some fs) command c loads words = (c, loaded fs (folder_in command) c loads, words)

-- ---- of its words

pub word_refused : (files : Option Files) (command : Command) (c : CaseData) (r : Refusal) → first_of (word_checks command.kind c command.words) ≡ Some r
    → IfSome files (λ fs. own_refusal fs command c ≡ Some r)
word_refused None command c r some = tt
word_refused (Some fs) command c r some =
    first-some (word_checks command.kind c command.words) (own_checks fs (own_file_in command) ++ rows_checks command.kind c (own_rows fs command)) r some

-- where nothing of them is refused, its own file decides
file_decides : (fs : Files) (command : Command) (c : CaseData) → AreWordsKnown command c
    → own_refusal fs command c ≡ first_of (own_checks fs (own_file_in command) ++ rows_checks command.kind c (own_rows fs command))
file_decides fs command c words =
    first-none (word_checks command.kind c command.words) (own_checks fs (own_file_in command) ++ rows_checks command.kind c (own_rows fs command)) words

-- ---- of the rows of its own file

-- where nothing of the file is refused, its rows decide
rows_decide : (fs : Files) (command : Command) (c : CaseData) (rows : List Row) → AreWordsKnown command c → first_of (own_checks fs (own_file_in command)) ≡ None → rows ≡ own_rows fs command
    → own_refusal fs command c ≡ first_of (rows_checks command.kind c rows)
rows_decide fs command c rows words none are =
    file_decides fs command c words
    ∙ rw are (first-none (own_checks fs (own_file_in command)) (rows_checks command.kind c (own_rows fs command)) none)

pub rows_told : (files : Option Files) (command : Command) (c : CaseData) (rows : List Row) (told : Told) → AreWordsKnown command c → LoadsRows files command (Ok rows)
    → HasCaseText command c rows told → HasTextOn files command c told
rows_told None command c rows told words loads (none, is) = (rows, tt, is)
rows_told (Some fs) command c rows told words loads (none, is) = (rows, (rows_decide fs command c rows words loads.0 loads.1 ∙ none, loads.1), is)

pub rows_refused : (files : Option Files) (command : Command) (c : CaseData) (rows : List Row) (r : Refusal) → AreWordsKnown command c → LoadsRows files command (Ok rows)
    → first_of (rows_checks command.kind c rows) ≡ Some r → IfSome files (λ fs. own_refusal fs command c ≡ Some r)
rows_refused None command c rows r words told some = tt
rows_refused (Some fs) command c rows r words told some = rows_decide fs command c rows words told.0 told.1 ∙ some

file_refused : (files : Option Files) (command : Command) (c : CaseData) (r : Refusal) → AreWordsKnown command c → LoadsRows files command (Err (fault.Refused r))
    → IfSome files (λ fs. own_refusal fs command c ≡ Some r)
file_refused None command c r words told = tt
file_refused (Some fs) command c r words told = file_decides fs command c words ∙ first-some (own_checks fs (own_file_in command)) (rows_checks command.kind c (own_rows fs command)) r told

-- what stops the fetch of the file stops the command on its case
pub file_stops : (files : Option Files) (before after : ℕ) (blame : Option (Option Text)) (command : Command) (c : CaseData) (f : LoadFault)
    → AreWordsKnown command c → LoadsRows files command (Err f) → HasFailedOwn before after blame command f → StopsOnCase files before after blame command c f
file_stops files before after blame command c (fault.Refused r) words told failed = file_refused files command c r words told
file_stops files before after blame command c (fault.Read file) words told failed = (failed, words)
file_stops files before after blame command c fault.NoMemory words told failed = tt

-- ---- of a text that objects to nothing

pub unopposed : (command : Command) (c : CaseData) (rows : List Row) (kind : Kind) (text : Text) → command.kind ≡ kind → first_of (rows_checks kind c rows) ≡ None
    → IsCaseText kind command.words c rows text → IsRight kind c rows
    → (first_of (rows_checks command.kind c rows) ≡ None) × (IsCaseText command.kind command.words c rows text × IsRight command.kind c rows)
unopposed command c rows kind text is none told right = rw is (none, (told, right))

same_ok : {A E : Type 0} {r : Result A E} {a b : A} → r ≡ Ok a → r ≡ Ok b → a ≡ b
same_ok e f = cc

-- what is known of one answer holds of the other
pub of_same : {A E N : Type 0} {r : Result A E} {a b : A} (P : A → Type 0) → r ≡ Ok a → r ≡ Ok b → N × P a → P b
of_same P e f (none, p) = subst P (same_ok e f) p

-- ---- of a fault

risen_later : (before between after : ℕ) → before ≤ between → HasRisen between after → HasRisen before after
risen_later before between after le (inl lt) = inl (omega (arith, le, lt))
risen_later before between after le (inr last) = inr last

refused_own : (files : Option Files) (command : Command) (c : CaseData) (r : Refusal) → IfSome files (λ fs. Loads (folder_of fs (folder_in command)) (Ok c))
    → IfSome files (λ fs. own_refusal fs command c ≡ Some r) → IfSome files (λ fs. refusal_of fs command ≡ Some r)
refused_own None command c r loads own = tt
refused_own (Some fs) command c r loads own = rw (loaded fs (folder_in command) c loads) own

-- what stops a command on its case stops the command
pub stops_later : (files : Option Files) (before between after : ℕ) (blame : Option (Option Text)) (command : Command) (c : CaseData) (f : LoadFault)
    → IfSome files (λ fs. Loads (folder_of fs (folder_in command)) (Ok c)) → before ≤ between → StopsOnCase files between after blame command c f → StopsWith files before after blame command f
stops_later files before between after blame command c (fault.Refused r) loads le h = refused_own files command c r loads h
stops_later files before between after blame command c (fault.Read file) loads le ((name, own, is, failed), words) =
    (risen_later before between after le failed.0, record { name = name; file_is = rw own is; needed = λ e. accepted files command c loads words; blamed = failed.1 })
stops_later files before between after blame command c fault.NoMemory loads le h = tt

refused_folder : (files : Option Files) (command : Command) (r : Refusal) → IfSome files (λ fs. folder_refusal (folder_of fs (folder_in command)) ≡ Some r) → IfSome files (λ fs. refusal_of fs command ≡ Some r)
refused_folder None command r h = tt
refused_folder (Some fs) command r h = rw h refl

-- a file of a folder isn't the command's own
not_own : (F name : Text) (file : ℕ) → file_in F file ≡ Some name → file ≡ OWN_FILE → ⊥
not_own F name file e own = absurd (cc (rw own at e))

of_folder : (command : Command) (file : ℕ) (name : Text) → file_in (folder_in command) file ≡ Some name → file_of command file ≡ Some name
of_folder command file name e = rw (ne_eqb file OWN_FILE (not_own (folder_in command) name file e)) e

folder_stops : (files : Option Files) (before after : ℕ) (blame : Option (Option Text)) (command : Command) (f : LoadFault)
    → IfSome files (λ fs. Loads (folder_of fs (folder_in command)) (Err f)) → LoadFails {A = CaseData} before after blame (folder_in command) (Err f) → StopsWith files before after blame command f
folder_stops files before after blame command (fault.Refused r) loads fails = refused_folder files command r loads
folder_stops files before after blame command (fault.Read file) loads (name, is, failed) =
    (failed.0, record { name = name; file_is = of_folder command file name is; needed = λ own. absurd (not_own (folder_in command) name file is own); blamed = failed.1 })
folder_stops files before after blame command fault.NoMemory loads fails = tt

-- what stops the loading of its folder stops the command
pub stops_first : (files : Option Files) (before after : ℕ) (blame : Option (Option Text)) (command : Command) (F : Text) (f : LoadFault) → F ≡ folder_in command
    → IfSome files (λ fs. Loads (folder_of fs F) (Err f)) → LoadFails {A = CaseData} before after blame F (Err f) → StopsWith files before after blame command f
stops_first files before after blame command F f same loads fails =
    folder_stops files before after blame command f
    (subst (λ G. IfSome files (λ fs. Loads (folder_of fs G) (Err f))) same loads)
    (subst (λ G. LoadFails {A = CaseData} before after blame G (Err f)) same fails)
