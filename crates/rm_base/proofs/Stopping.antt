-- Where reading a part stops, the whole stops.
use Rattle.std.proofs.Common.{◌≡◌, Option, Some, Result, Ok, Err, IfErr}
use Rattle.rm_base.specs.declared.Refusal.{Refusal}
use Rattle.rm_base.specs.declared.ReadFault.{ReadFault}
use Rattle.rm_base.specs.declared.ReadFault.TheVariants as fault
use Rattle.rm_base.specs.Reading.{Stops, Grows}

pub stops-on : (part whole : Option Refusal) (e : ReadFault) → ((refusal : Refusal) → part ≡ Some refusal → whole ≡ Some refusal) → Stops part e → Stops whole e
stops-on part whole (fault.Refused refusal) on h = on refusal h
stops-on part whole fault.NoMemory on h = tt

pub grows-stops : {D : Type 0} (part whole : Option Refusal) (all new : D) (r : Result (Unit {0}) ReadFault) → whole ≡ part → Grows part all new r → IfErr r (λ e. Stops whole e)
grows-stops part whole all new (Ok u) same h = tt
grows-stops part whole all new (Err e) same h = stops-on part whole e (λ refusal some. rw same some) h
