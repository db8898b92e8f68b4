use Rattle.std.proofs.Common.{◌∙◌, ◌+◌, ◌∷◌, [], length, All, ap, subst, sym}
use Rattle.std.proofs.lemmas.List.{length-append}
use Rattle.std.proofs.lemmas.List.Elements.{All-push}
use Rattle.rm_sets.specs.Sets.{IsSet, IsSetBelow}
use Rattle.rm_exchange.proofs.NestedGroups.{kept_sets}
use Rattle.rm_exchange.proofs.fast.tests.nested.Goals as goal

pub loop-i-preserved : goal.loop-i-preserved
loop-i-preserved c = (
  ap length c.in_ok-push.ensures.items ∙ (length-append c.loop-i.groups.items (c.in_ok-first.field-0 ∷ []) ∙ ap (λ k. k + 1) c.loop-i.invariant.0),
  subst (λ gs. All (λ g. IsSetBelow c.args.hospitals g.items) gs) (sym c.in_ok-push.ensures.items)
      (All-push (λ g. IsSetBelow c.args.hospitals g.items) c.loop-i.groups.items c.in_ok-first.field-0 c.loop-i.invariant.1 (c.in_ok-first.ensures c.args.hospitals c.if-sizes-i.false)),
)

pub build-requires-clause-sets : goal.build-requires-clause-sets
build-requires-clause-sets c = subst (λ gs. All (λ g. IsSetBelow c.args.hospitals g.items) gs) (sym c.deref.ensures.value) c.loop-i.invariant.1

pub returns-clause-sets : goal.returns-clause-sets
returns-clause-sets c =
    subst (λ t. All IsSet t.groups) (sym c.in-Ok.ensures.1)
    (kept_sets c.args.hospitals c.deref.result.now (subst (λ gs. All (λ g. IsSetBelow c.args.hospitals g.items) gs) (sym c.deref.ensures.value) c.loop-i.invariant.1))
