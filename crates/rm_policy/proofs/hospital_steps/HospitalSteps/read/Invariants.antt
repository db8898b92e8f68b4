use Rattle.rm_policy.proofs.HospitalRows.{AreHospitals}
use Rattle.rm_policy.proofs.hospital_steps.HospitalSteps.read.Given as goal

abbrev pub invariant-loop-k : goal.invariant-loop-k
invariant-loop-k l = AreHospitals l.roster l.first l.values l.k l.items.items l.steps.items
