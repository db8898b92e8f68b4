use Rattle.std.proofs.Common.{◌≡◌, ℕ, false, get_or, ap, not, sym, ◌∙◌}
use Rattle.rm_sets.specs.Sets.{has, minus}
use Rattle.rm_laminar.proofs.Members.{first-passing, none-passing}
use Rattle.rm_laminar.proofs.chains.first_alone.Goals as goal

pub returns-then-not-is_in : goal.returns-then-not-is_in
unfolding minus
returns-then-not-is_in c =
    let out : has (get_or c.args.a.now c.loop-i.i 0) c.args.b.now ≡ false = sym c.is_in.ensures ∙ c.if-not-is_in.true in
    sym (first-passing (λ (y : ℕ). not (has y c.args.b.now)) c.args.a.now c.loop-i.i c.loop-i-test.true (λ k lt. ap not (c.loop-i.invariant k lt)) (ap not out))

pub returns : goal.returns
unfolding minus
returns c = sym (none-passing (λ (y : ℕ). not (has y c.args.b.now)) c.args.a.now c.loop-i.i c.loop-i-test.false (λ k lt. ap not (c.loop-i.invariant k lt)))
