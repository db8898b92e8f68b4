use Rattle.std.proofs.Common.{Ok, Err}
use Rattle.rm_case.proofs.SuitsLemmas.{fits_plain, fits_read}
use Rattle.rm_case.proofs.FolderChecks.{long-stops, plain-reads, policy-reads}
use Rattle.rm_case.proofs.load.read_policy.Goals as goal

pub returns-in-Absent-clause-fits : goal.returns-in-Absent-clause-fits
returns-in-Absent-clause-fits c = rw c.plain.ensures (fits_plain c.args.roster.now)

pub returns-in-Ok-clause-reads : goal.returns-in-Ok-clause-reads
returns-in-Ok-clause-reads c = λ told tells.
    let bytes = rw c.in-Bytes.is at tells in
    policy-reads c.args.roster.now _ told (Ok c.in-Ok.policy) bytes.0 bytes.1 (rw c.deref.ensures.value at c.in-Ok.ensures)

pub returns-in-Ok-clause-fits : goal.returns-in-Ok-clause-fits
returns-in-Ok-clause-fits c = fits_read c.args.roster.now _ c.in-Ok.policy c.requires c.in-Ok.ensures

pub returns-in-Absent-clause-reads : goal.returns-in-Absent-clause-reads
returns-in-Absent-clause-reads c = λ told tells. plain-reads c.args.roster.now told c.plain.result (rw c.in-Absent.is at tells) c.plain.ensures

pub returns-in-Long-clause-reads : goal.returns-in-Long-clause-reads
returns-in-Long-clause-reads c = λ told tells.
    let long = rw c.in-Long.is at tells in
    long-stops c.args.roster.now long.0 told c.refused.result long.1 long.2 c.refused.ensures

pub returns-clause-reads : goal.returns-clause-reads
returns-clause-reads c = λ told tells.
    let bytes = rw c.in-Bytes.is at tells in
    policy-reads c.args.roster.now _ told (Err c.in-Err.fault) bytes.0 bytes.1 (rw c.deref.ensures.value at c.in-Err.ensures)
