use Rattle.std.proofs.Common.{◌≡◌, arith, length}
use Rattle.rm_choice.proofs.Offers.{insert_place}
use Rattle.rm_choice.proofs.choice_holder.place_of.Goals as goal

pub returns-then-list-i-clause-place : goal.returns-then-list-i-clause-place
returns-then-list-i-clause-place c = insert_place c.args.list.now c.args.x c.loop-i.i c.requires.new c.loop-i.invariant (omega arith) (λ _. omega arith)

pub returns-clause-place : goal.returns-clause-place
returns-clause-place c =
    let e : c.loop-i.i ≡ length c.args.list.now = omega arith in
    insert_place c.args.list.now c.args.x (length c.args.list.now) c.requires.new
    (λ k lt. c.loop-i.invariant k (omega (arith, e, lt))) (omega arith) (λ lt. absurd (omega (arith, lt)))
