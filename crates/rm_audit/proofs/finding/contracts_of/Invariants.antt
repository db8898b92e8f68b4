use Rattle.std.proofs.Common.{◌≡◌, get_or, false}
use Rattle.rm_sets.specs.Sets.{all_below}
use Rattle.rm_audit.proofs.finding.contracts_of.Given as goal

abbrev pub invariant-loop-x : goal.invariant-loop-x
invariant-loop-x l = l.contracts.items ≡ all_below l.x (λ y. get_or l.marks y false)
