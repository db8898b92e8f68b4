use Rattle.rm_market.specs.declared.Verdict.TheVariants as verdicts
use Rattle.rm_verdict_laws.proofs.Over.{infeasible_over}
use Rattle.rm_verdict_laws.proofs.Verdict.{verdict_says}
use Rattle.rm_verdict_laws.proofs.verdicts.Goals as goal

pub returns : goal.returns
returns c = record {
  hold = λ doctors b ok X S verdict. verdict_says doctors b X S verdict ok;
  best = λ doctors b ok X S. verdict_says doctors b X S verdicts.Best ok;
  over = infeasible_over;
}
