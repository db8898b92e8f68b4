use Rattle.std.proofs.Common.{◌∷◌, [], ℕ, Vec, length-append, arith}
use Rattle.std.specs.declared.alloc.Global.{Global}
use Rattle.std.proofs.lemmas.List.Elements.{All-push}
use Rattle.rm_sets.specs.Sets.{IsSetBelow}
use Rattle.rm_laminar.proofs.tests.built.Goals as goal

pub loop-group-preserved : goal.loop-group-preserved
loop-group-preserved c =
    let longer = length-append c.loop-group.sets.items (c.in_ok-set.set ∷ []) in
    rw c.in-Ok.ensures.items (
      omega (arith, longer, c.len.ensures, c.if-len-ge5000.false, c.loop-group.sets.ok.0),
      All-push (λ (g : Vec ℕ Global). IsSetBelow c.args.hospitals g.items) c.loop-group.sets.items c.in_ok-set.set c.loop-group.invariant.1 c.in_ok-set.ensures,
    )

pub build-requires-clause-sets : goal.build-requires-clause-sets
build-requires-clause-sets c = rw c.deref.ensures.value c.loop-group.invariant.1
