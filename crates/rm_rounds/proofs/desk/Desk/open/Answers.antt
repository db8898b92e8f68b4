use Rattle.std.proofs.Common.{arith}
use Rattle.rm_rounds.specs.Desk.{wishes}
use Rattle.rm_rounds.proofs.Doctors.{nothing_spent, new_desk}
use Rattle.rm_rounds.proofs.desk.Desk.open.Goals as goal

pub invariant_of-result : goal.invariant_of-result
invariant_of-result g c = new_desk _ c.len.result _ _ _ _ (let is = c.contracts.ensures in omega (arith, is)) c.requires.wishes c.len.ensures.len c.requires.empty (c.in_ok-doctors.ensures.items_if_clones_equal (λ y h. h))

pub returns-clause-state : goal.returns-clause-state
returns-clause-state g c = nothing_spent c.len.result (wishes c.args.owners.now c.args.listed.now) _ _ c.len.ensures.len c.requires.empty (c.in_ok-doctors.ensures.items_if_clones_equal (λ y h. h))
