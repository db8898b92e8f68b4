use Rattle.std.proofs.Common.{arith}
use Rattle.rm_transit.specs.Travel.{wishes}
use Rattle.rm_transit.proofs.Doctors.{nothing_sent, new_transit}
use Rattle.rm_transit.proofs.transit.Transit.open.Goals as goal

pub invariant_of-result : goal.invariant_of-result
invariant_of-result g c = new_transit _ c.len.result _ _ _ _ (let is = c.contracts.ensures in omega (arith, is)) c.requires.wishes c.len.ensures.len c.requires.empty (c.in_ok-doctors.ensures.items_if_clones_equal (λ y h. h))

pub returns-clause-state : goal.returns-clause-state
returns-clause-state g c = nothing_sent c.len.result (wishes c.args.owners.now c.args.listed.now) _ _ c.len.ensures.len c.requires.empty (c.in_ok-doctors.ensures.items_if_clones_equal (λ y h. h))
