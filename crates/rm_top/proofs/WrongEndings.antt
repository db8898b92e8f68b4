-- Wrong texts and wrong endings, and what refuses them.
use Rattle.std.proofs.Common.{◌≡◌, ◌≢◌, ℕ, ◌+◌, ◌-◌, List, [], ◌++◌, length, take, Option, None, Some, Result, Ok, Err, IsSome, is_some, inl, refl, sym, subst, ap, ◌∙◌, ⊎_elim, arith, true≢false}
use Rattle.rm_base.specs.Text.{Text, Files}
use Rattle.rm_base.specs.declared.Refusal.{Refusal}
use Rattle.rm_market.specs.Certificate.{certificate}
use Rattle.rm_market.specs.Market.{Best, IsPlacementOf, IsStableIn, places_of}
use Rattle.rm_outside.specs.Outside.{HasRisen}
use Rattle.rm_case.specs.Case.{CaseData, market, market_of}
use Rattle.rm_report.specs.Texts.{placement_text, check_text, certificate_text}
use Rattle.rm_top.specs.Answers.{
  bad_words,
  no_memory,
  read_failed,
  refused,
  write_failed,
  written,
  HasAnswered,
  IsChoiceText,
  IsComplete,
  IsErrorText,
  IsObjectedWhere,
  IsPlacementText,
  IsRefusedWhere,
  OfGiven,
  Reports,
  WrotePart,
  WroteText,
  objected,
  placed_in,
}
use Rattle.rm_top.specs.Command.{Command, file_of, folder_in, own_rows, refusal_of, usage_text}
use Rattle.rm_top.specs.Texts.{refusal_text, read_fault_text}
use Rattle.rm_top.specs.declared.command.Kind.TheVariants as kinds

-- ---- what `out` gains

-- the text of a case's placement is that of the one placement of its market
one_placement : (c : CaseData) (S : List ℕ) (text : Text) → IsPlacementOf (market c) S → IsPlacementText c text → text ≡ placement_text c (places_of (market c) S)
one_placement c S text is printed =
    printed.2 ∙ ap (λ T. placement_text c (places_of (market c) T)) (is.only printed.0 printed.1.placement.optimal)

-- and the text of a choice that of the one best subset
one_choice : (c : CaseData) (offers S : List ℕ) (text : Text) → ((T : List ℕ) → Best (market c) offers T → T ≡ S) → IsChoiceText c offers text
    → text ≡ certificate_text c (certificate (market c).board offers S)
one_choice c offers S text only printed =
    printed.2 ∙ ap (λ T. certificate_text c (certificate (market c).board offers T)) (only printed.0 printed.1)

-- of a folder that is refused there is no text, and no front of one
accepted_or_refused : {c : CaseData} {r : Refusal} → Ok c ≡ Err r → ⊥
accepted_or_refused e = cc

text_of_refused : (files : Files) (command : Command) (r : Refusal) (before after : Option Text) → market_of files (folder_in command) ≡ Err r
    → ¬ WroteText (Some files) (Some command) before after
text_of_refused files command r before after is wrote = accepted_or_refused (sym wrote.is_text.2.0 ∙ is)

part_of_refused : (files : Files) (command : Command) (r : Refusal) (before after : Option Text) → market_of files (folder_in command) ≡ Err r
    → ¬ WrotePart (Some files) (Some command) before after
part_of_refused files command r before after is wrote = accepted_or_refused (sym wrote.is_text.2.0 ∙ is)

-- of `check` all counts of the case are gained, and where the put failed, a front of them
abbrev check_of : List Text → Command
check_of words = record { kind = kinds.Check; words = words }

same_counts : {c d : CaseData} {result : Result CaseData Refusal} → result ≡ Ok c → result ≡ Ok d → check_text c ≡ check_text d
same_counts e f = cc

all_counts : (files : Files) (words : List Text) (c : CaseData) (before after : Text) → market_of files (folder_in (check_of words)) ≡ Ok c
    → WroteText (Some files) (Some (check_of words)) (Some before) (Some after) → after ≡ before ++ check_text c
all_counts files words c before after is wrote =
    wrote.gained ∙ ap (λ (t : Text). before ++ t) (wrote.is_text.3 ∙ same_counts wrote.is_text.2.0 is)

front_of_counts : (files : Files) (words : List Text) (c : CaseData) (before after : Text) → market_of files (folder_in (check_of words)) ≡ Ok c
    → WrotePart (Some files) (Some (check_of words)) (Some before) (Some after) → (k : ℕ) × (after ≡ before ++ take k (check_text c))
front_of_counts files words c before after is wrote =
    let k = wrote.gained.0 in
    (k, wrote.gained.2 ∙ ap (λ (t : Text). before ++ take k t) (wrote.is_text.3 ∙ same_counts wrote.is_text.2.0 is))

-- ---- what `err` gains

-- nothing is told of words that spell no command, of a put that failed or of want of memory; and something where the text was written
none_or_some : {text : Text} (n : ℕ) → length text ≡ n + 1 → [] ≡ text → ⊥
none_or_some n long e = let none : 0 ≡ n + 1 = ap (λ (t : Text). length t) e ∙ long in omega (arith, none)

untold_words : (files : Option Files) (blame : Option (Option Text)) (command : Option Command) → ¬ IsErrorText files blame command bad_words []
untold_words files blame command says = none_or_some (length usage_text - 1) refl (says.usage refl)

untold_write_fault : (files : Option Files) (blame : Option (Option Text)) (command : Option Command) → ¬ IsErrorText files blame command write_failed []
untold_write_fault files blame command says = none_or_some 11 refl (says.write_fault refl)

untold_want : (files : Option Files) (blame : Option (Option Text)) (command : Option Command) → ¬ IsErrorText files blame command no_memory []
untold_want files blame command says = none_or_some 9 refl (says.memory refl)

told_too_much : (files : Option Files) (blame : Option (Option Text)) (command : Option Command) → ¬ IsErrorText files blame command written usage_text
told_too_much files blame command says = none_or_some (length usage_text - 1) refl (sym (says.nothing (inl refl)))

-- and no line is left out where the faults didn't rise
left_out : (before after : ℕ) → ¬ HasRisen before after → ¬ Reports before after (Some []) (Some []) usage_text
left_out before after well says = ⊎_elim (λ gained. none_or_some (length usage_text - 1) refl gained) (λ part. well part.0) says

-- the line of a refusal is that of the first one
same_line : {r s : Refusal} {o : Option Refusal} → o ≡ Some r → o ≡ Some s → refusal_text r ≡ refusal_text s
same_line e f = cc

first_refusal : (files : Files) (blame : Option (Option Text)) (command : Command) (r : Refusal) (text : Text) → refusal_of files command ≡ Some r
    → IsErrorText (Some files) blame (Some command) refused text → text ≡ refusal_text r
first_refusal files blame command r text is says =
    let told = says.refusal refl in told.1 ∙ same_line told.2 is

-- that of a failed read has a file of the command, and it is the one that the shelf blames
blamed_file : (files : Files) (command : Command) (name text : Text) → IsErrorText (Some files) (Some (Some name)) (Some command) read_failed text
    → (file : ℕ) × (file_of command file ≡ Some name) × (text ≡ read_fault_text file)
blamed_file files command name text says =
    let told = says.read_fault refl in (told.0, told.1.file_is ∙ sym told.1.blamed, told.2)

-- ---- the causes

-- status 3 of what nothing refuses
nothing_there : {o : Option Refusal} → o ≡ None → IsSome o → ⊥
nothing_there {o} none some = true≢false (sym some ∙ ap (λ (p : Option Refusal). is_some p) none)

refused_for_nothing : (files : Files) (command : Command) → refusal_of files command ≡ None → ¬ IsRefusedWhere (Some files) (Some command) refused
refused_for_nothing files command none says = nothing_there none (says.0 refl)

-- another status of what is refused, where the shelf answered and memory was found
let_through : (files : Files) (command : Command) (r : Refusal) (status : ℕ) → refusal_of files command ≡ Some r → HasAnswered status → status ≢ refused
    → ¬ IsRefusedWhere (Some files) (Some command) status
let_through files command r status is answered other says = other (says.1 (ap (λ (o : Option Refusal). is_some o) is) answered)

-- what is given up without a fault
given_up : (files : Files) (command : Command) → refusal_of files command ≡ None → ¬ IsComplete (Some files) (Some command) write_failed ⊥ ⊥
given_up files command none says = ⊎_elim (λ e. ⊎_elim (λ f. omega (arith, f)) (λ f. omega (arith, f)) e) (λ e. omega (arith, e)) (says (λ f. f) (λ f. f) none)

-- status 0 of an audit whose placement isn't stable, and status 1 of one that is, where the files are told
abbrev audit_of : List Text → Command
audit_of words = record { kind = kinds.Audit; words = words }

same_case : {c d : CaseData} {result : Result CaseData Refusal} → result ≡ Ok c → result ≡ Ok d → c ≡ d
same_case e f = cc

of_placement : (files : Files) (words : List Text) (c : CaseData) (P : CaseData → List ℕ → Type 0) → market_of files (folder_in (audit_of words)) ≡ Ok c
    → OfGiven (Some files) (audit_of words) (λ d rows. P d (placed_in d rows)) → P c (placed_in c (own_rows files (audit_of words)))
of_placement files words c P is (d, rows, given, holds) =
    subst (λ x. P x (placed_in x (own_rows files (audit_of words)))) (same_case given.0 is) (rw given.2 at holds)

passed : (files : Files) (words : List Text) (c : CaseData) → market_of files (folder_in (audit_of words)) ≡ Ok c
    → ¬ IsStableIn (market c) (placed_in c (own_rows files (audit_of words))) → ¬ IsObjectedWhere (Some files) (Some (audit_of words)) written
passed files words c is not says = not (of_placement files words c (λ d S. IsStableIn (market d) S) is (says.0 refl))

accused : (files : Files) (words : List Text) (c : CaseData) → market_of files (folder_in (audit_of words)) ≡ Ok c
    → IsStableIn (market c) (placed_in c (own_rows files (audit_of words))) → ¬ IsObjectedWhere (Some files) (Some (audit_of words)) objected
accused files words c is stable says = of_placement files words c (λ d S. ¬ IsStableIn (market d) S) is (says.1 refl) stable

-- and status 1 of a command that judges nothing, whatever is told
judged_a_count : (files : Option Files) (words : List Text) → ¬ IsObjectedWhere files (Some (check_of words)) objected
judged_a_count files words says = let wrong = says.1 refl in wrong.3 tt
