use Rattle.std.specs.List.{IsDistinct}
use Rattle.std.proofs.Common.{arith}
use Rattle.std.proofs.lemmas.Result.{IfOk-weaker}
use Rattle.rm_relax.proofs.Placements.{withdrawn}
use Rattle.rm_relax.proofs.withdraw.Goals as goal

pub what_if-requires-clause-list : goal.what_if-requires-clause-list
unfolding IsDistinct
what_if-requires-clause-list c = (tt, λ k d lt. absurd (omega (arith, lt)))

pub returns-clause-withdrawn : goal.returns-clause-withdrawn
returns-clause-withdrawn c =
    IfOk-weaker c.what_if.result _ _ (λ pair both. withdrawn c.args.case.now c.args.d pair.declared pair.replaced c.what_if.ensures.case c.requires both) c.what_if.ensures.both
