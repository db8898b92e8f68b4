use Rattle.rm_policy.proofs.GroupRows.{AreGroups}
use Rattle.rm_policy.proofs.groups_built.Groups.read.Given as goal

abbrev pub invariant-loop-i : goal.invariant-loop-i
invariant-loop-i l = AreGroups l.roster l.first l.values l.i l.groups
