use Rattle.std.proofs.Common.{rules, refl}
use Rattle.rm_steps.specs.Runs.{sum_below}
use Rattle.rm_steps.proofs.Sums.{half-is}
use Rattle.rm_steps.proofs.sum_below.Goals as goal

pub returns-then-n-eq0-clause-sum : goal.returns-then-n-eq0-clause-sum
unfolding sum_below
returns-then-n-eq0-clause-sum c = rw c.if-n-eq0.true refl

pub returns-clause-sum : goal.returns-clause-sum
returns-clause-sum c = half-is c.args.n (λ e. search rules)
