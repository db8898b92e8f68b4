use Rattle.std.proofs.Common.{ℕ, sym, ◌∙◌}
use Rattle.rm_sets.specs.Sets.{has, common}
use Rattle.rm_laminar.proofs.Members.{first-passing, none-passing}
use Rattle.rm_laminar.proofs.chains.first_shared.Goals as goal

pub returns-then-is_in : goal.returns-then-is_in
unfolding common
returns-then-is_in c = sym (first-passing (λ (y : ℕ). has y c.args.b.now) c.args.a.now c.loop-i.i c.loop-i-test.true c.loop-i.invariant (sym c.is_in.ensures ∙ c.if-is_in.true))

pub returns : goal.returns
unfolding common
returns c = sym (none-passing (λ (y : ℕ). has y c.args.b.now) c.args.a.now c.loop-i.i c.loop-i-test.false c.loop-i.invariant)
