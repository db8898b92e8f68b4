use Rattle.std.proofs.Common.{◌≡◌, ◌∙◌, ap, subst, sym, arith}
use Rattle.rm_sets.specs.Sets.{IsSetBelow, below}
use Rattle.rm_exchange.proofs.NestedGroups.{first_set}
use Rattle.rm_exchange.proofs.fast.tests.first.Goals as goal

pub returns : goal.returns
returns c = λ n le.
    let past = c.loop-h-test.false in
    let end = c.loop-h.auto.h-end in
    let e : c.args.size ≡ c.loop-h.h = omega arith in
    subst (λ S. IsSetBelow n S) (ap below e ∙ sym c.loop-h.invariant) (first_set c.args.size n le)
