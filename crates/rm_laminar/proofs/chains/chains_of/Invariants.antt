use Rattle.rm_laminar.specs.Chains.{chain_lists}
use Rattle.rm_laminar.proofs.Loops.{AreRead}
use Rattle.rm_laminar.proofs.chains.chains_of.Given as goal

abbrev pub invariant-loop-b : goal.invariant-loop-b
invariant-loop-b l = AreRead l.hospitals (chain_lists l.groups) l.b l.chains
