-- How a command ends of which there is something to tell, and what that says.
use Rattle.std.proofs.Common.{◌≡◌, ◌≢◌, ◌∙◌, ℕ, Bool, true, false, List, Option, Some, None, IsSome, IfSome, is_some, ap, refl, sym, arith, true≢false}
use Rattle.rm_base.specs.Text.{Files}
use Rattle.rm_base.specs.declared.Refusal.{Refusal}
use Rattle.rm_outside.specs.Outside.{HasRisen, Gains, GainsPart}
use Rattle.rm_table.specs.Rows.{Row}
use Rattle.rm_case.specs.Case.{CaseData}
use Rattle.rm_top.specs.Answers.{bad_words, no_memory, objected, read_failed, refused, write_failed, written, AreGiven, HasAnswered, IsObjectedWhere, IsRefusedWhere, IsRight, WroteText}
use Rattle.rm_top.specs.Command.{Command, refusal_of}
use Rattle.rm_top.specs.Ending.{Ends, EndsCommand, Seen, status_of, written_with}
use Rattle.rm_top.specs.Telling.{HasNoRefusal, HasText, Judges}
use Rattle.rm_top.specs.declared.ending.Ending.{Ending}
use Rattle.rm_top.specs.declared.ending.Ending.TheVariants as end
use Rattle.rm_top.specs.declared.telling.Told.{Told}

-- ---- of what is told

judged : (s : Seen) (command : Command) (c : CaseData) (rows : List Row) (objects : Bool) → WroteText s.files (Some command) s.before s.after → HasNoRefusal s.files command
    → AreGiven s.files command c rows → Judges objects (IsRight command.kind c rows) → EndsCommand s command (written_with objects)
judged s command c rows true wrote none given judges = (wrote, none, (c, rows, given, judges))
judged s command c rows false wrote none given judges = (wrote, none, (c, rows, given, judges))

pub written_ends : (s : Seen) (command : Command) (told : Told) → HasText s.files command told → Gains s.before s.after told.text.items
    → EndsCommand s command (written_with told.objects)
written_ends s command told ((c, rows, given, (text, judges)), none) gained =
    judged s command c rows told.objects (record { text = told.text.items; is_text = (c, rows, given, text); gained = gained }) none given judges

pub part_ends : (s : Seen) (command : Command) (told : Told) → HasText s.files command told → HasRisen s.out_before s.out_after
    → GainsPart s.before s.after told.text.items → EndsCommand s command end.WriteFailed
part_ends s command told ((c, rows, given, (text, judges)), none) risen gained =
    (risen, record { text = told.text.items; is_text = (c, rows, given, text); gained = gained }, none)

-- ---- of an ending

nothing_there : {o : Option Refusal} → o ≡ None → IsSome o → ⊥
nothing_there {o} none some = true≢false (sym some ∙ ap (λ (p : Option Refusal). is_some p) none)

unrefused : (files : Option Files) (c : Command) (status : ℕ) → status ≢ refused → HasNoRefusal files c → IsRefusedWhere files (Some c) status
unrefused None c status other none = tt
unrefused (Some fs) c status other none = (λ e. absurd (other e), λ some answered. absurd (nothing_there none some))

unanswered : (files : Option Files) (c : Command) (status : ℕ) → status ≢ refused → ¬ HasAnswered status → IsRefusedWhere files (Some c) status
unanswered None c status other not = tt
unanswered (Some fs) c status other not = (λ e. absurd (other e), λ some answered. absurd (not answered))

is_refused : (files : Option Files) (c : Command) (r : Refusal) → IfSome files (λ fs. refusal_of fs c ≡ Some r) → IsRefusedWhere files (Some c) refused
is_refused None c r is = tt
is_refused (Some fs) c r is = (λ e. ap (λ (o : Option Refusal). is_some o) is, λ some answered. refl)

pub refused_where : (s : Seen) (command : Option Command) (e : Ending) → Ends s command e → IsRefusedWhere s.files command (status_of e)
refused_where s None e ends = tt
refused_where s (Some c) end.Written (wrote, none, right) = unrefused s.files c written (λ e. omega (arith, e)) none
refused_where s (Some c) end.Objected (wrote, none, wrong) = unrefused s.files c objected (λ e. omega (arith, e)) none
refused_where s (Some c) end.BadWords ends = absurd ends
refused_where s (Some c) (end.Refused text) ends = let told = ends.0 in is_refused s.files c told.0 told.2
refused_where s (Some c) (end.ReadFailed text) ends = unanswered s.files c read_failed (λ e. omega (arith, e)) (λ answered. answered.0 refl)
refused_where s (Some c) end.WriteFailed (risen, wrote, none) = unrefused s.files c write_failed (λ e. omega (arith, e)) none
refused_where s (Some c) end.NoMemory ends = unanswered s.files c no_memory (λ e. omega (arith, e)) (λ answered. answered.1 refl)

pub objected_where : (s : Seen) (command : Option Command) (e : Ending) → Ends s command e → IsObjectedWhere s.files command (status_of e)
objected_where s None e (is, same) = λ one. let two : bad_words ≡ objected = sym (ap status_of is) ∙ one in omega (arith, two)
objected_where s (Some c) end.Written (wrote, none, right) = (λ e. right, λ e. absurd (omega (arith, e)))
objected_where s (Some c) end.Objected (wrote, none, wrong) = (λ e. absurd (omega (arith, e)), λ e. wrong)
objected_where s (Some c) end.BadWords ends = absurd ends
objected_where s (Some c) (end.Refused text) ends = (λ e. absurd (omega (arith, e)), λ e. absurd (omega (arith, e)))
objected_where s (Some c) (end.ReadFailed text) ends = (λ e. absurd (omega (arith, e)), λ e. absurd (omega (arith, e)))
objected_where s (Some c) end.WriteFailed ends = (λ e. absurd (omega (arith, e)), λ e. absurd (omega (arith, e)))
objected_where s (Some c) end.NoMemory ends = (λ e. absurd (omega (arith, e)), λ e. absurd (omega (arith, e)))
