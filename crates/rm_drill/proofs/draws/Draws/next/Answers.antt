use Rattle.std.proofs.Common.{refl}
use Rattle.rm_drill.specs.Draws.{drawn}
use Rattle.rm_drill.proofs.draws.Draws.next.Goals as goal

pub returns-clause-drawn : goal.returns-clause-drawn
unfolding drawn
returns-clause-drawn c = rw (← c.self.view_is, c.stir_27-z.ensures, c.stir_30.ensures) refl
