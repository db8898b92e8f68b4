use Rattle.rm_flexible_laws.proofs.Procedure.{laws, closes}
use Rattle.rm_flexible_laws.proofs.flexible_runs_are_lawful.Goals as goal

pub returns : goal.returns
returns c = record { runs = λ b regions w ok a. (laws b regions w ok a).0; closes = closes; same = λ b regions w ok a. (laws b regions w ok a).1; truthful = λ b regions w ok a. (laws b regions w ok a).2 }
