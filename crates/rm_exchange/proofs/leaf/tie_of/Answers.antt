use Rattle.std.proofs.Common.{sym, subst}
use Rattle.rm_board.specs.TieKeys.{tie_key}
use Rattle.rm_exchange.specs.Leaves.{IsTieOf}
use Rattle.rm_exchange.proofs.leaf.tie_of.Goals as goal

pub returns-in-Some : goal.returns-in-Some
returns-in-Some c = subst (λ l. IsTieOf (tie_key c.args.board.now) l c.tie_key.result) (sym c.in-Some.is) c.tie_key.ensures.key
