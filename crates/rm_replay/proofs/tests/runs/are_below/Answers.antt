use Rattle.std.proofs.Common.{◌<◌, ℕ, arith, subst}
use Rattle.rm_sets.proofs.Members.{All-from_members, place_from_IsIn}
use Rattle.rm_replay.proofs.tests.runs.are_below.Goals as goal

pub returns : goal.returns
returns c = λ _.
    All-from_members (λ d. d < c.args.n) c.args.order.now
    (λ x i.
    let p = place_from_IsIn c.args.order.now x 0 i in
    let lt : p.0 < c.loop-i.i = (let within = p.1 in omega arith) in
    subst (λ (y : ℕ). y < c.args.n) p.2 (c.loop-i.invariant p.0 lt))
