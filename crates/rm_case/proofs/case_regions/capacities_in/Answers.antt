use Rattle.std.proofs.Common.{arith}
use Rattle.rm_case.proofs.RegionsTold.{hospital_known, sum_fits}
use Rattle.rm_case.proofs.case_regions.capacities_in.Goals as goal

pub capacity-total-requires : goal.capacity-total-requires
capacity-total-requires c =
    rw c.hospitals_in-hospitals.ensures.hospitals (hospital_known c.args.roster.now c.args.q c.loop-i.i (rw c.hospitals_in-hospitals.ensures.hospitals at c.loop-i-test.true))

pub overflow_add-total : goal.overflow_add-total
overflow_add-total c =
    let fits = sum_fits c.args.roster.now c.args.q c.loop-i.i c.loop-i.total c.capacity-total.result c.hospitals_in-hospitals.ensures.roster
    (rw c.hospitals_in-hospitals.ensures.hospitals at c.loop-i-test.true) c.loop-i.invariant.1 (rw c.hospitals_in-hospitals.ensures.hospitals at c.capacity-total.ensures) in
    omega (arith, fits)
