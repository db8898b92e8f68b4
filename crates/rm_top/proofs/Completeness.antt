-- Without faults, a call that nothing refuses is answered, or memory is wanting.
use Rattle.std.proofs.Common.{◌≡◌, ◌∙◌, ◌⊎◌, ℕ, Option, Some, None, IfSome, inl, inr, refl, sym}
use Rattle.rm_base.specs.Text.{Files}
use Rattle.rm_base.specs.declared.Refusal.{Refusal}
use Rattle.rm_outside.specs.Outside.{HasRisen}
use Rattle.rm_top.specs.Answers.{IsComplete, IsWritten, no_memory, objected, written}
use Rattle.rm_top.specs.Command.{Command, refusal_of}
use Rattle.rm_top.specs.Ending.{Ends, Seen, status_of}
use Rattle.rm_top.specs.declared.ending.Ending.{Ending}
use Rattle.rm_top.specs.declared.ending.Ending.TheVariants as end

some_none : {r : Refusal} {o : Option Refusal} → o ≡ Some r → o ≡ None → ⊥
some_none e f = absurd (cc (sym e ∙ f))

-- an ending that comes of no refusal
answered : (files : Option Files) (c : Command) (status : ℕ) → IsWritten status ⊎ (status ≡ no_memory)
    → IfSome files (λ fs. refusal_of fs c ≡ None → IsWritten status ⊎ (status ≡ no_memory))
answered None c status is = tt
answered (Some fs) c status is = λ none. is

-- and one that comes of one
refused_with : (files : Option Files) (c : Command) (r : Refusal) (status : ℕ) → IfSome files (λ fs. refusal_of fs c ≡ Some r)
    → IfSome files (λ fs. refusal_of fs c ≡ None → IsWritten status ⊎ (status ≡ no_memory))
refused_with None c r status is = tt
refused_with (Some fs) c r status is = λ none. absurd (some_none is none)

pub complete : (s : Seen) (command : Option Command) (e : Ending) → Ends s command e
    → IsComplete s.files command (status_of e) (HasRisen s.shelf_before s.shelf_after) (HasRisen s.out_before s.out_after)
complete s None e ends = tt
complete s (Some c) end.Written ends = λ shelf out. answered s.files c written (inl (inl refl))
complete s (Some c) end.Objected ends = λ shelf out. answered s.files c objected (inl (inr refl))
complete s (Some c) end.BadWords ends = absurd ends
complete s (Some c) (end.Refused text) ends = λ shelf out. let told = ends.0 in refused_with s.files c told.0 (status_of (end.Refused text)) told.2
complete s (Some c) (end.ReadFailed text) ends = λ shelf out. absurd (shelf ends.0)
complete s (Some c) end.WriteFailed ends = λ shelf out. absurd (out ends.0)
complete s (Some c) end.NoMemory ends = λ shelf out. answered s.files c no_memory (inr refl)
