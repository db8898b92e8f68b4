use Rattle.std.proofs.Common.{◌∙◌, arith}
use Rattle.rm_valuation.proofs.Counted.{counted_none}
use Rattle.rm_valuation.proofs.count_none.Goals as goal

pub returns-clause-none : goal.returns-clause-none
returns-clause-none c = λ b e. counted_none b c.loop-i.counts (c.loop-i.invariant.0 ∙ e) (λ k lt. c.loop-i.invariant.1 k (let same = c.loop-i.invariant.0 in omega arith))
