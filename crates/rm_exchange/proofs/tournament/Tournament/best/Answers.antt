use Rattle.std.proofs.Common.{subst}
use Rattle.rm_exchange.specs.Removals.{IsCheapestOf}
use Rattle.rm_exchange.proofs.Rounds.{best_is}
use Rattle.rm_exchange.proofs.tournament.Tournament.best.Goals as goal

pub returns : goal.returns
returns c = subst (λ v. IsCheapestOf v c.self.inside.best) c.self.view_is (best_is c.self.inside.width c.self.inside.entries.items c.self.inside.best c.self.invariant)
