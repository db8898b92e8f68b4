use Rattle.std.proofs.Common.{Ok, Err}
use Rattle.rm_case.proofs.FolderChecks.{case-reads}
use Rattle.rm_case.proofs.load.read_case.Goals as goal

pub returns-in-Ok-build : goal.returns-in-Ok-build
returns-in-Ok-build c = λ f tells. case-reads f c.in-Ok.told (Ok c.in-Ok-build.case) (c.in-Ok.ensures.reads f tells) c.in-Ok-build.ensures

pub returns-in-Err-build : goal.returns-in-Err-build
returns-in-Err-build c = λ f tells. case-reads f c.in-Ok.told (Err c.in-Err-build.fault) (c.in-Ok.ensures.reads f tells) c.in-Err-build.ensures
