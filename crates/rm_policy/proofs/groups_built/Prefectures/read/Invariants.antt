use Rattle.rm_policy.proofs.GroupRows.{ArePrefectures}
use Rattle.rm_policy.proofs.groups_built.Prefectures.read.Given as goal

abbrev pub invariant-loop-i : goal.invariant-loop-i
invariant-loop-i l = ArePrefectures l.roster l.kind l.values l.i l.prefectures
