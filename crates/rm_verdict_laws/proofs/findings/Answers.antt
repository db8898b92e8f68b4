use Rattle.rm_market.specs.declared.Finding.TheVariants as findings
use Rattle.rm_verdict_laws.proofs.Finding.{finding_says}
use Rattle.rm_verdict_laws.proofs.findings.Goals as goal

pub returns : goal.returns
returns c = record {
  hold = λ m ok S finding. finding_says m S finding ok;
  stable = λ m ok S. finding_says m S findings.Stable ok;
}
