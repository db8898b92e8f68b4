use Rattle.rm_nation_laws.proofs.Hospitals.{hospitals_pass}
use Rattle.rm_nation_laws.proofs.hospitals_pass.Goals as goal

pub returns : goal.returns
returns c = hospitals_pass
