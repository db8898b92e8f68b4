use Rattle.std.proofs.Common.{ap, subst}
use Rattle.rm_market.specs.Best.{IsValuation, values_of}
use Rattle.rm_valuation_laws.proofs.LaminarExchange.{board_laws}
use Rattle.rm_greedy.proofs.GreedyChoice.choose.Goals as goal

pub choose-requires-clause-valuation : goal.choose-requires-clause-valuation
choose-requires-clause-valuation c =
    let self = c.args.self.now in
    subst (λ n. IsValuation n (values_of self.board.now)) self.leaves (board_laws self.board.now self.concave)

pub returns-clause-room : goal.returns-clause-room
returns-clause-room c = (ap (λ s. s.contracts) c.room.view_is, ap (λ s. s.nodes) c.room.view_is)
