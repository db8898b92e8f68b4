use Rattle.std.proofs.Common.{◌≡◌, drop}
use Rattle.rm_laminar.specs.Walk.{nodes_from}
use Rattle.rm_laminar.proofs.nodes_from.Given as goal

abbrev pub invariant-loop-i : goal.invariant-loop-i
invariant-loop-i l = nodes_from l.node l.chain ≡ nodes_from l.node (drop l.i l.chain)
