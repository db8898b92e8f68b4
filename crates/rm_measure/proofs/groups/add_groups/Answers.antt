use Rattle.std.proofs.Common.{◌∷◌, [], ℕ, ◌≤◌, ◌+◌, length, Vec, length-append, arith}
use Rattle.std.specs.declared.alloc.Global.{Global}
use Rattle.std.proofs.lemmas.List.Elements.{All-push}
use Rattle.rm_sets.specs.Sets.{IsSetBelow}
use Rattle.rm_measure.proofs.groups.add_groups.Goals as goal

pub loop-preserved : goal.loop-preserved
loop-preserved c =
    let longer = length-append c.loop.groups.items (c.in_ok-group.group ∷ []) in
    let few : length c.loop.groups.items + 1 ≤ 5_000 = omega (arith, c.len.ensures, c.if-len-ge-MOST_GROUPS.false, c.loop.groups.ok.0) in
    record {
      start = (let room = c.if-size-start.false in let within = c.loop.invariant.start in omega arith);
      few = rw c.in-Ok.ensures.items (omega (arith, longer, few));
      sets = rw c.in-Ok.ensures.items (All-push (λ (g : Vec ℕ Global). IsSetBelow 10000 g.items) c.loop.groups.items c.in_ok-group.group c.loop.invariant.sets c.in_ok-group.ensures);
    }
