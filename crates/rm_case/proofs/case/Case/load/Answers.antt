use Rattle.std.proofs.Common.{Ok, Err}
use Rattle.rm_case.specs.Fetching.{TellsFolder}
use Rattle.rm_case.specs.Folder.{folder_of}
use Rattle.rm_case.specs.Loading.{Loads}
use Rattle.rm_case.specs.declared.fault.LoadFault.TheVariants as fault
use Rattle.rm_case.proofs.Told.{where-told}
use Rattle.rm_case.proofs.case.Case.load.Goals as goal

pub returns-in-Err-Refused-clause-loads : goal.returns-in-Err-Refused-clause-loads
returns-in-Err-Refused-clause-loads g c =
    where-told (g.S.Shelf.files c.args.shelf.now) (λ fs. TellsFolder (folder_of fs c.args.folder.now) c.in-Ok.fetches)
    (λ fs. Loads (folder_of fs c.args.folder.now) (Err (fault.Refused c.in-Err-Refused.refusal)))
    (λ fs tells. (rw c.in-Err-Refused.field-0-is at c.in-Err-Refused.ensures) (folder_of fs c.args.folder.now) tells) c.in-Ok.ensures.told

pub returns-in-Ok-read_case-clause-loads : goal.returns-in-Ok-read_case-clause-loads
returns-in-Ok-read_case-clause-loads g c =
    where-told (g.S.Shelf.files c.args.shelf.now) (λ fs. TellsFolder (folder_of fs c.args.folder.now) c.in-Ok.fetches)
    (λ fs. Loads (folder_of fs c.args.folder.now) (Ok c.in-Ok-read_case.case))
    (λ fs tells. c.in-Ok-read_case.ensures (folder_of fs c.args.folder.now) tells) c.in-Ok.ensures.told
