use Rattle.rm_verdict_laws.proofs.OneCertificate.{certificate_says}
use Rattle.rm_verdict_laws.proofs.certificates.Goals as goal

pub returns : goal.returns
returns c = λ doctors b ok S offers rows. certificate_says doctors b S offers rows ok
