use Rattle.rm_laminar.proofs.Loops.{AreOwn}
use Rattle.rm_laminar.proofs.chains.own_chains.Given as goal

abbrev pub invariant-loop-h : goal.invariant-loop-h
invariant-loop-h l = AreOwn l.hospitals l.h l.chains
