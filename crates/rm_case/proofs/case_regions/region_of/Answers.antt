use Rattle.rm_case.proofs.TurnLemmas.{some_in_order}
use Rattle.rm_case.proofs.case_regions.region_of.Goals as goal

pub seats_of-requires : goal.seats_of-requires
seats_of-requires c = rw c.order_of.ensures (some_in_order c.args.roster.now c.args.policy.now c.args.q c.requires.suits c.requires.prefecture)
