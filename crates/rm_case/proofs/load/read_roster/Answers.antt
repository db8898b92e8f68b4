use Rattle.std.proofs.Common.{Ok, Err}
use Rattle.rm_roster.proofs.Accepted.{accepted}
use Rattle.rm_case.proofs.FolderChecks.{hospitals-stop, doctors-stop, ranks-stop, roster-reads}
use Rattle.rm_case.proofs.load.read_roster.Goals as goal

pub returns-in-Err-clause-reads : goal.returns-in-Err-clause-reads
returns-in-Err-clause-reads c = λ f tells. hospitals-stop f c.in-Err.fault (c.in-Err.ensures f.hospitals tells.tells_hospitals)

pub returns-in-Err-read_table-clause-reads : goal.returns-in-Err-read_table-clause-reads
returns-in-Err-read_table-clause-reads c = λ f tells. doctors-stop f c.in-Err-read_table.fault (c.in-Ok.ensures f.hospitals tells.tells_hospitals).0 (c.in-Err-read_table.ensures f.doctors tells.tells_doctors)

pub returns-in-Err-read_table-2-clause-reads : goal.returns-in-Err-read_table-2-clause-reads
returns-in-Err-read_table-2-clause-reads c = λ f tells.
    ranks-stop f c.in-Err-read_table-2.fault (c.in-Ok.ensures f.hospitals tells.tells_hospitals).0 (c.in-Ok-read_table.ensures f.doctors tells.tells_doctors).0
    (c.in-Err-read_table-2.ensures f.ranks tells.tells_ranks)

pub returns-in-Ok-read-clause-reads : goal.returns-in-Ok-read-clause-reads
returns-in-Ok-read-clause-reads c = λ f tells.
    roster-reads f _ _ _ (Ok c.in-Ok-read.roster) (c.in-Ok.ensures f.hospitals tells.tells_hospitals) (c.in-Ok-read_table.ensures f.doctors tells.tells_doctors)
    (c.in-Ok-read_table-2.ensures f.ranks tells.tells_ranks) c.in-Ok-read.ensures

pub returns-clause-reads : goal.returns-clause-reads
returns-clause-reads c = λ f tells.
    roster-reads f _ _ _ (Err c.in-Err-read.fault) (c.in-Ok.ensures f.hospitals tells.tells_hospitals) (c.in-Ok-read_table.ensures f.doctors tells.tells_doctors)
    (c.in-Ok-read_table-2.ensures f.ranks tells.tells_ranks) c.in-Err-read.ensures

pub returns-in-Ok-read-clause-roster : goal.returns-in-Ok-read-clause-roster
returns-in-Ok-read-clause-roster c = rw c.in-Ok-read.ensures.1 (accepted _ _ _ c.in-Ok-read.ensures.0)
