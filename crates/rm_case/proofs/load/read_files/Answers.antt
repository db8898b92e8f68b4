use Rattle.rm_case.proofs.FolderChecks.{files-read, policy-stop, tables-stop}
use Rattle.rm_case.proofs.load.read_files.Goals as goal

pub returns-in-Err-clause-reads : goal.returns-in-Err-clause-reads
returns-in-Err-clause-reads c = λ f tells. tables-stop f c.in-Err.fault (c.in-Err.ensures.reads f tells.tables)

pub returns-in-Ok-read_policy-clause-reads : goal.returns-in-Ok-read_policy-clause-reads
returns-in-Ok-read_policy-clause-reads c = λ f tells.
    files-read f (record { roster = c.in-Ok.roster; policy = c.in-Ok-read_policy.policy }) (c.in-Ok.ensures.reads f tells.tables) (c.in-Ok-read_policy.ensures.reads f.policy tells.policy)

pub returns-in-Err-read_policy-clause-reads : goal.returns-in-Err-read_policy-clause-reads
returns-in-Err-read_policy-clause-reads c = λ f tells.
    policy-stop f c.in-Ok.roster c.in-Err-read_policy.fault (c.in-Ok.ensures.reads f tells.tables) (c.in-Err-read_policy.ensures.reads f.policy tells.policy)
