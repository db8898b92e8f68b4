use Rattle.rm_policy.proofs.SetLemmas.{settled-set, settled-same}
use Rattle.rm_policy.proofs.sets.settle.Goals as goal

pub returns-clause-set : goal.returns-clause-set
returns-clause-set c = settled-set c.sort_unstable.new.self.items c.dedup.new.self.items c.sort_unstable.ensures.sorted c.dedup.ensures.filtered

pub returns-clause-same : goal.returns-clause-same
returns-clause-same c = settled-same c.args.numbers.now.items c.sort_unstable.new.self.items c.dedup.new.self.items c.sort_unstable.ensures.permutation c.dedup.ensures.filtered
