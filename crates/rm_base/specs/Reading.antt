-- What reading answers whose checks are gone through in order.
use Rattle.std.specs.Prelude.{◌≡◌, Option, Some, None, Result, Ok, Err}
use Rattle.rm_base.specs.declared.Refusal.{Refusal}
use Rattle.rm_base.specs.declared.ReadFault.{ReadFault}
use Rattle.rm_base.specs.declared.ReadFault.TheVariants as fault

-- reading stops at the first refusal; memory may be wanting at any time
abbrev pub Stops : Option Refusal → ReadFault → Type 0
Stops first (fault.Refused refusal) = first ≡ Some refusal
Stops first fault.NoMemory = Unit {0}

-- what passes its checks, as data, or their first refusal
abbrev pub Reads : {D : Type 0} → Option Refusal → D → Result D ReadFault → Type 0
Reads first all (Ok told) = (first ≡ None) × (told ≡ all)
Reads first all (Err e) = Stops first e

-- the same where a value is changed, which becomes `all`
abbrev pub Grows : {D : Type 0} → Option Refusal → D → D → Result (Unit {0}) ReadFault → Type 0
Grows first all new (Ok _) = (first ≡ None) × (new ≡ all)
Grows first all new (Err e) = Stops first e
