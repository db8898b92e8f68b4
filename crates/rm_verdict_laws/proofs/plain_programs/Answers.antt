use Rattle.rm_verdict_laws.proofs.Plain.{stable_test, all_stable, all_optimal}
use Rattle.rm_verdict_laws.proofs.plain_programs.Goals as goal

pub returns : goal.returns
returns c = record {
  test = λ m ok S. stable_test m S ok;
  stable = λ m ok S. all_stable m S ok;
  optimal = λ m ok S. all_optimal m S ok;
}
