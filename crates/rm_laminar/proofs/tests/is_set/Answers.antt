use Rattle.std.proofs.Common.{◌<◌, ℕ, subst, arith}
use Rattle.rm_sets.proofs.Members.{place_from_IsIn}
use Rattle.rm_laminar.proofs.tests.is_set.Goals as goal

pub returns : goal.returns
returns c = λ _. record {
  ascending = λ k lt. c.loop-i.invariant.1 k (omega arith);
  below = λ x i.
      let p = place_from_IsIn c.args.group.now x 0 i in
      let lt : p.0 < c.loop-i.i = (let within = p.1 in omega arith) in
      subst (λ (y : ℕ). y < c.args.hospitals) p.2 (c.loop-i.invariant.0 p.0 lt);
}
