use Rattle.std.proofs.Common.{◌≡◌, map}
use Rattle.rm_sets.specs.Sets.{below}
use Rattle.rm_case.specs.Compiled.{region_of}
use Rattle.rm_case.proofs.case_regions.prefecture_regions.Given as goal

abbrev pub invariant-loop-q : goal.invariant-loop-q
invariant-loop-q l = l.regions.items ≡ map (region_of l.roster l.policy) (below l.q)
