use Rattle.std.proofs.Common.{Err}
use Rattle.std.specs.FinMap.{get}
use Rattle.rm_base.specs.declared.codes.TheConstants.{MOST_BYTES}
use Rattle.rm_outside.specs.Outside.{Tells}
use Rattle.rm_case.specs.Loading.{LoadsOwn}
use Rattle.rm_case.specs.declared.fault.LoadFault.TheVariants as fault
use Rattle.rm_case.proofs.Told.{where-told}
use Rattle.rm_case.proofs.own_file.fetch_own.Goals as goal

pub returns-in-Err-Refused-clause-loads : goal.returns-in-Err-Refused-clause-loads
returns-in-Err-Refused-clause-loads g c =
    where-told (g.S.Shelf.files c.args.shelf.now) (λ fs. Tells (get fs c.args.name.now) MOST_BYTES c.in-Ok.fetched)
    (λ fs. LoadsOwn (get fs c.args.name.now) (Err (fault.Refused c.in-Err-Refused.refusal)))
    (λ fs tells. (rw c.in-Err-Refused.field-0-is at c.in-Err-Refused.ensures) (get fs c.args.name.now) tells) c.in-Ok.ensures.told
