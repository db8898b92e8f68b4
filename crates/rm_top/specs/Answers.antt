-- The answers of the program, each with its cause and with what it writes.
use Rattle.std.specs.Prelude.{◌≡◌, ◌≢◌, ◌⊎◌, ℕ, List, [], Option, Some, None, Ok, IsSome, IfSome, IsTrue}
use Rattle.rm_base.specs.Checks.{first_of}
use Rattle.rm_base.specs.Text.{Text, Files}
use Rattle.rm_base.specs.declared.Refusal.{Refusal}
use Rattle.rm_base.specs.declared.codes.TheConstants.{OWN_FILE}
use Rattle.rm_market.specs.Best.{best_of, values_of}
use Rattle.rm_market.specs.Certificate.{certificate}
use Rattle.rm_market.specs.Market.{Best, IsStableIn, places_of, replaced, set_of_places, wishes_of}
use Rattle.rm_market.specs.declared.Finding.{Finding}
use Rattle.rm_outside.specs.Outside.{HasRisen, Gains, GainsPart}
use Rattle.rm_table.specs.Rows.{Row}
use Rattle.rm_case.specs.Case.{CaseData, market_of, market}
use Rattle.rm_case.specs.Choices.{choices_of}
use Rattle.rm_case.specs.Own.{doctor_in, offers_of}
use Rattle.rm_audit.specs.Placement.{placement_in}
use Rattle.rm_journal.specs.Reading.{journal_in}
use Rattle.rm_journal_laws.specs.Journal.{IsOwnJournal, Says}
use Rattle.rm_journal_laws.specs.Journal as journals
use Rattle.rm_journal_laws.specs.declared.Check.{Check}
use Rattle.rm_journal_laws.specs.declared.Entry.{Entry}
use Rattle.rm_laws.specs.WhatIf.{AreBothPlacements}
use Rattle.rm_report.specs.Journal.{journal_text, verdict_text}
use Rattle.rm_report.specs.Report.{prefecture_text}
use Rattle.rm_report.specs.Texts.{placement_text, pair_text, check_text, certificate_text, finding_text}
use Rattle.rm_transit_laws.specs.declared.Event.{Event}
use Rattle.rm_transit.specs.Events.{events_told}
use Rattle.rm_transit.specs.Running.{marks_after, rests_after, state_after, LeadsToPlacement}
use Rattle.rm_transit.specs.Texts.{transit_text}
use Rattle.rm_verdict_laws.specs.Findings.{IsFinding}
use Rattle.rm_top.specs.Command.{Command, usage_text, doctor_word, folder_in, file_of, own_refusal, own_rows, refusal_of, word_checks}
use Rattle.rm_top.specs.Headline.{IsPlaced}
use Rattle.rm_top.specs.Texts.{refusal_text, read_fault_text, write_fault_text, no_memory_text}
use Rattle.rm_top.specs.declared.command.Kind.{Kind}
use Rattle.rm_top.specs.declared.command.Kind.TheVariants as kinds

-- ---- statuses

abbrev pub written : ℕ
written = 0

abbrev pub objected : ℕ
objected = 1

abbrev pub bad_words : ℕ
bad_words = 2

abbrev pub refused : ℕ
refused = 3

abbrev pub read_failed : ℕ
read_failed = 4

abbrev pub write_failed : ℕ
write_failed = 5

abbrev pub no_memory : ℕ
no_memory = 6

-- the text was written; with status 1 it objects to something
abbrev pub IsWritten : ℕ → Type 0
IsWritten status = (status ≡ written) ⊎ (status ≡ objected)

-- the needed fetches answered, and memory was found
abbrev pub HasAnswered : ℕ → Type 0
HasAnswered status = (status ≢ read_failed) × (status ≢ no_memory)

-- ---- the text of each command

-- the text of the placement of a case
abbrev pub IsPlacementText : CaseData → Text → Type 0
IsPlacementText c text = (S : List ℕ) × IsPlaced c S × (text ≡ placement_text c (places_of (market c) S))

-- the text of its report by prefectures
abbrev pub IsReportText : CaseData → Text → Type 0
IsReportText c text = (S : List ℕ) × IsPlaced c S × (text ≡ prefecture_text c (places_of (market c) S))

-- the text of the best subset of some offers, with a row for each of them
abbrev pub IsChoiceText : CaseData → List ℕ → Text → Type 0
IsChoiceText c offers text = (S : List ℕ) × Best (market c) offers S × (text ≡ certificate_text c (certificate (market c).board offers S))

-- the text of the placement of a case and of the one with only the list of doctor d replaced, by which he gains nothing
abbrev pub IsPairText : CaseData → ℕ → List ℕ → Text → Type 0
IsPairText c d list text =
    (S T : List ℕ) × IsPlaced c S × AreBothPlacements (market c) d list S T
    × (text ≡ pair_text c (places_of (market c) S) (places_of (replaced (market c) d list) T))

-- the same of the doctor whom a word names
abbrev pub IsDoctorsText : CaseData → Text → List ℕ → Text → Type 0
IsDoctorsText c word list text = (d : ℕ) × (doctor_in c word ≡ Some d) × IsPairText c d list text

-- the set of the places that a file of a placement tells
abbrev pub placed_in : CaseData → List Row → List ℕ
placed_in c rows = set_of_places (market c) (placement_in c rows)

-- the text of the finding on a set of placed contracts
abbrev pub IsFindingText : CaseData → List ℕ → Text → Type 0
IsFindingText c S text = (finding : Finding) × IsFinding (market c) S finding × (text ≡ finding_text c finding)

-- what is chosen of offers in a case: their best subset
abbrev pub chosen_in : CaseData → List ℕ → List ℕ
chosen_in c = best_of (values_of (market c).board)

-- the text of the case's own journal
abbrev pub IsJournalText : CaseData → Text → Type 0
IsJournalText c text = (entries : List Entry) × IsOwnJournal (chosen_in c) (wishes_of (market c)) entries × (text ≡ journal_text c entries)

-- the text of what is so of a journal
abbrev pub IsVerdictText : CaseData → List Entry → Text → Type 0
IsVerdictText c entries text = (check : Check) × Says (chosen_in c) (wishes_of (market c)) entries check × (text ≡ verdict_text c check)

-- the journal is accepted
abbrev pub IsAcceptedJournal : CaseData → List Entry → Type 0
IsAcceptedJournal c entries = journals.IsAccepted (chosen_in c) (wishes_of (market c)) entries

-- the text of where everybody stands after these events from the start. Whatever they are, the marks tell the places of the best subset of all
-- delivered offers, and nothing that was refused stands in a stable set; and where the text says `closed`, these are the places of the placement
abbrev pub IsTransitText : CaseData → List Event → Text → Type 0
IsTransitText c es text =
    LeadsToPlacement c es × (IsTrue (rests_after c es) → IsPlaced c (state_after c es).held) × (text ≡ transit_text c (marks_after c es) (rests_after c es))

-- the text of a command with these words on the case of its folder and the rows of its own file
abbrev pub IsCaseText : Kind → List Text → CaseData → List Row → Text → Type 0
IsCaseText kinds.Place words c rows text = IsPlacementText c text
IsCaseText kinds.Check words c rows text = text ≡ check_text c
IsCaseText kinds.Report words c rows text = IsReportText c text
IsCaseText kinds.Choose words c rows text = IsChoiceText c (offers_of c rows) text
IsCaseText kinds.Audit words c rows text = IsFindingText c (placed_in c rows) text
IsCaseText kinds.WhatIf words c rows text = IsDoctorsText c (doctor_word words) (choices_of c rows) text
IsCaseText kinds.Journal words c rows text = IsJournalText c text
IsCaseText kinds.Verify words c rows text = IsVerdictText c (journal_in c rows) text
IsCaseText kinds.Transit words c rows text = IsTransitText c (events_told c rows) text

-- ---- of every command

-- this is the case of its folder, and these are the rows of its own file, where the files are told: neither is refused, nor are its words
abbrev pub AreGiven : Option Files → Command → CaseData → List Row → Type 0
AreGiven files command c rows =
    IfSome files (λ fs. (market_of fs (folder_in command) ≡ Ok c) × (own_refusal fs command c ≡ None) × (rows ≡ own_rows fs command))

-- so it is with the case and the rows that a command is given
abbrev pub OfGiven : Option Files → Command → (CaseData → List Row → Type 0) → Type 0
OfGiven files command P = (c : CaseData) × (rows : List Row) × AreGiven files command c rows × P c rows

-- its text
abbrev pub IsTextOf : Option Files → Command → Text → Type 0
IsTextOf files command text = OfGiven files command (λ c rows. IsCaseText command.kind command.words c rows text)

-- ---- what `out` gained: some text of the command, or a front of it

pub record WroteText (files : Option Files) (command : Option Command) (before after : Option Text) : Type 0 where
  pub text : Text
  pub is_text : IfSome command (λ c. IsTextOf files c text)
  pub gained : Gains before after text

pub record WrotePart (files : Option Files) (command : Option Command) (before after : Option Text) : Type 0 where
  pub text : Text
  pub is_text : IfSome command (λ c. IsTextOf files c text)
  pub gained : GainsPart before after text

-- ---- what is objected to

-- there is nothing to object to: the placement that `audit` is given is stable, and the journal that `verify` is given is accepted. The other
-- commands judge nothing
abbrev pub IsRight : Kind → CaseData → List Row → Type 0
IsRight kinds.Place c rows = Unit {0}
IsRight kinds.Check c rows = Unit {0}
IsRight kinds.Report c rows = Unit {0}
IsRight kinds.Choose c rows = Unit {0}
IsRight kinds.Audit c rows = IsStableIn (market c) (placed_in c rows)
IsRight kinds.WhatIf c rows = Unit {0}
IsRight kinds.Journal c rows = Unit {0}
IsRight kinds.Verify c rows = IsAcceptedJournal c (journal_in c rows)
IsRight kinds.Transit c rows = Unit {0}

-- where the text was written, the status is 0 exactly where there is nothing to object to, and 1 exactly where there is something; of what no
-- command judges it is never 1
abbrev pub IsObjectedWhere : Option Files → Option Command → ℕ → Type 0
IsObjectedWhere files None status = status ≢ objected
IsObjectedWhere files (Some command) status =
    (status ≡ written → OfGiven files command (IsRight command.kind)) × (status ≡ objected → OfGiven files command (λ c rows. ¬ IsRight command.kind c rows))

-- ---- the causes

-- status 3 comes exactly where the needed fetches answered and the folder, or else a word of the command or its own file, is refused
abbrev pub IsRefusedWhere : Option Files → Option Command → ℕ → Type 0
IsRefusedWhere files None status = Unit {0}
IsRefusedWhere files (Some command) status =
    IfSome files (λ fs. (status ≡ refused → IsSome (refusal_of fs command)) × (IsSome (refusal_of fs command) → HasAnswered status → status ≡ refused))

-- the folder and the words are accepted, so that the command's own file is asked for
abbrev pub IsAccepted : Option Files → Command → Type 0
IsAccepted files command =
    IfSome files (λ fs. (c : CaseData) × (market_of fs (folder_in command) ≡ Ok c) × (first_of (word_checks command.kind c command.words) ≡ None))

-- the file on which a read failed: one that the command needs, and the shelf's blame where it is told
pub record FailedOn (files : Option Files) (blame : Option (Option Text)) (command : Command) (file : ℕ) : Type 0 where
  pub name : Text
  pub file_is : file_of command file ≡ Some name
  pub needed : file ≡ OWN_FILE → IsAccepted files command
  pub blamed : IfSome blame (λ b. b ≡ Some name)

-- ---- what `err` gained

-- `err` gained this text; where its faults rose, a front of it
abbrev pub Reports : ℕ → ℕ → Option Text → Option Text → Text → Type 0
Reports faults_before faults_after before after text = Gains before after text ⊎ (HasRisen faults_before faults_after × GainsPart before after text)

-- the text that names the refusal, or the file on which a read failed
abbrev pub IsRefusalText : Option Files → Option Command → Text → Type 0
IsRefusalText files None text = ⊥
IsRefusalText files (Some command) text = (r : Refusal) × (text ≡ refusal_text r) × IfSome files (λ fs. refusal_of fs command ≡ Some r)

abbrev pub IsReadFaultText : Option Files → Option (Option Text) → Option Command → Text → Type 0
IsReadFaultText files blame None text = ⊥
IsReadFaultText files blame (Some command) text = (file : ℕ) × FailedOn files blame command file × (text ≡ read_fault_text file)

-- the text on `err` for each status; nothing where the text was written
pub record IsErrorText (files : Option Files) (blame : Option (Option Text)) (command : Option Command) (status : ℕ) (text : Text) : Type 0 where
  pub nothing : IsWritten status → text ≡ []
  pub usage : status ≡ bad_words → text ≡ usage_text
  pub refusal : status ≡ refused → IsRefusalText files command text
  pub read_fault : status ≡ read_failed → IsReadFaultText files blame command text
  pub write_fault : status ≡ write_failed → text ≡ write_fault_text
  pub memory : status ≡ no_memory → text ≡ no_memory_text

-- ---- completeness

-- without faults, a command that nothing refuses has its text written, or memory is wanting
abbrev pub IsComplete : Option Files → Option Command → ℕ → Type 0 → Type 0 → Type 0
IsComplete files None status shelf_failed out_failed = Unit {0}
IsComplete files (Some command) status shelf_failed out_failed =
    ¬ shelf_failed → ¬ out_failed → IfSome files (λ fs. refusal_of fs command ≡ None → IsWritten status ⊎ (status ≡ no_memory))
