use Rattle.std.proofs.Common.{ℕ, Vec}
use Rattle.std.specs.declared.alloc.Global.{Global}
use Rattle.std.proofs.lemmas.List.Elements.{All-push}
use Rattle.rm_sets.specs.Sets.{IsSetBelow}
use Rattle.rm_valuation.proofs.tests.groups.Goals as goal

pub loop-preserved : goal.loop-preserved
loop-preserved c = rw c.in-Ok.ensures.items (All-push (λ (g : Vec ℕ Global). IsSetBelow 1 g.items) c.loop.groups.items c.in_ok-set.set c.loop.invariant c.in_ok-set.ensures)
