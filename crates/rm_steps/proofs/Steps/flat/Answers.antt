use Rattle.std.proofs.Common.{◌≡◌, ◌∙◌, pos, [], ◌∷◌, w64, refl, ap, arith, rules}
use Rattle.std.proofs.lemmas.Int.{to_z_pos}
use mir.Val.{to_z}
use Rattle.rm_market.specs.Steps.{steps_of}
use Rattle.rm_steps.proofs.FlatSteps.{flat_run, flat-steps, are-steps, flat-kept, none-kept}
use Rattle.rm_steps.proofs.Steps.flat.Goals as goal

pub invariant_of-result : goal.invariant_of-result
invariant_of-result c = rw c.new-runs.ensures.items none-kept

pub returns-then-n-eq0-clause-flat : goal.returns-then-n-eq0-clause-flat
unfolding steps_of
returns-then-n-eq0-clause-flat c = rw (c.new-runs.ensures.items, c.if-n-eq0.true) refl

pub returns-then-n-eq0-clause-steps : goal.returns-then-n-eq0-clause-steps
returns-then-n-eq0-clause-steps c = rw c.new-runs.ensures.items none-kept.steps

one_run : (c : goal.In_ok-push) → c.push.new.self.items ≡ flat_run c.args.n ∷ []
one_run c =
    let count : to_z w64 c.args.n ≡ pos c.args.n = to_z_pos w64 c.args.n (omega arith) in
    rw (c.in_ok-push.ensures.items, c.new-runs.ensures.items, count) refl

pub invariant_of-result-2 : goal.invariant_of-result-2
invariant_of-result-2 c = rw (one_run c) (flat-kept c.args.n (λ e. search rules) c.requires)

pub returns-clause-flat : goal.returns-clause-flat
returns-clause-flat c = ap steps_of (one_run c) ∙ flat-steps c.args.n

pub returns-clause-steps : goal.returns-clause-steps
returns-clause-steps c = rw (one_run c, flat-steps) (are-steps c.args.n c.requires)
