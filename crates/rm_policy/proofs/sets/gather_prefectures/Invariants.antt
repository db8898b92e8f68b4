use Rattle.std.proofs.Common.{take}
use Rattle.rm_policy.specs.Gathered.{Gathers, IsGathered}
use Rattle.rm_policy.specs.Groups.{by_prefecture, lies_in}
use Rattle.rm_policy.proofs.sets.gather_prefectures.Given as goal

abbrev pub invariant-loop-i : goal.invariant-loop-i
invariant-loop-i l = IsGathered l.count l.numbers.items × Gathers l.count l.fn.numbers.items l.numbers.items (λ n. lies_in n (by_prefecture l.roster) (take l.i l.chosen))
