-- How a call ends, and what that says of the shelf and of `out`.
use Rattle.std.specs.Prelude.{◌≡◌, ℕ, Bool, true, false, [], Option, Some, None, string_bytes}
use Rattle.rm_base.specs.Text.{Text, Files}
use Rattle.rm_outside.specs.Outside.{HasRisen}
use Rattle.rm_top.specs.Answers.{written, objected, bad_words, refused, read_failed, write_failed, no_memory, WroteText, WrotePart, IsRefusalText, IsReadFaultText, IsRight, OfGiven}
use Rattle.rm_top.specs.Command.{Command, usage_text}
use Rattle.rm_top.specs.Telling.{HasNoRefusal}
use Rattle.rm_top.specs.Texts.{write_fault_text, no_memory_text}
use Rattle.rm_top.specs.declared.ending.Ending.{Ending}
use Rattle.rm_top.specs.declared.ending.Ending.TheVariants as end

-- the ending of a command whose text was written, by whether it objects to something
abbrev pub written_with : Bool → Ending
written_with true = end.Objected
written_with false = end.Written

-- the status of an ending, and its text on `err`
abbrev pub status_of : Ending → ℕ
status_of end.Written = written
status_of end.Objected = objected
status_of end.BadWords = bad_words
status_of (end.Refused text) = refused
status_of (end.ReadFailed text) = read_failed
status_of end.WriteFailed = write_failed
status_of end.NoMemory = no_memory

abbrev pub text_of : Ending → Text
text_of end.Written = []
text_of end.Objected = []
text_of end.BadWords = usage_text
text_of (end.Refused text) = string_bytes text
text_of (end.ReadFailed text) = string_bytes text
text_of end.WriteFailed = write_fault_text
text_of end.NoMemory = no_memory_text

-- what is seen of the shelf and of `out`: the files, the blame after the call, and faults and text before and after it
pub record Seen : Type 0 where
  pub files : Option Files
  pub blame : Option (Option Text)
  pub shelf_before : ℕ
  pub shelf_after : ℕ
  pub out_before : ℕ
  pub out_after : ℕ
  pub before : Option Text
  pub after : Option Text

-- how a command ends
abbrev pub EndsCommand : Seen → Command → Ending → Type 0
EndsCommand s c end.Written = WroteText s.files (Some c) s.before s.after × HasNoRefusal s.files c × OfGiven s.files c (IsRight c.kind)
EndsCommand s c end.Objected = WroteText s.files (Some c) s.before s.after × HasNoRefusal s.files c × OfGiven s.files c (λ d rows. ¬ IsRight c.kind d rows)
EndsCommand s c end.BadWords = ⊥
EndsCommand s c (end.Refused text) = IsRefusalText s.files (Some c) (string_bytes text) × (s.after ≡ s.before)
EndsCommand s c (end.ReadFailed text) = HasRisen s.shelf_before s.shelf_after × IsReadFaultText s.files s.blame (Some c) (string_bytes text)
    × (s.after ≡ s.before)
EndsCommand s c end.WriteFailed = HasRisen s.out_before s.out_after × WrotePart s.files (Some c) s.before s.after × HasNoRefusal s.files c
EndsCommand s c end.NoMemory = s.after ≡ s.before

-- how words end that may spell a command
abbrev pub Ends : Seen → Option Command → Ending → Type 0
Ends s None e = (e ≡ end.BadWords) × (s.after ≡ s.before)
Ends s (Some c) e = EndsCommand s c e
