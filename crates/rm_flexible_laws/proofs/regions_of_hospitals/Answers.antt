use Rattle.rm_flexible_laws.proofs.Hospitals.{regions_from_hospitals}
use Rattle.rm_flexible_laws.proofs.regions_of_hospitals.Goals as goal

pub returns : goal.returns
returns c = regions_from_hospitals
