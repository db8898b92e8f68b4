use Rattle.std.proofs.Common.{◌≡◌, ◌<◌, ◌∷◌, [], true, rules}
use Rattle.rm_sets.proofs.Members.{All-from_members}
use Rattle.rm_market.specs.Board.{contract_count}
use Rattle.rm_exchange.proofs.tests.tells_what_each_offer_changes.Goals as goal

pub certificate-requires-clause-offered : goal.certificate-requires-clause-offered
certificate-requires-clause-offered g c =
    let best : c.is_best-best.result ≡ true = search rules in
    let only : c.is_within-only.result ≡ true = search rules in
    All-from_members (λ x. x < contract_count c.in_ok-board.board) (1 ∷ (0 ∷ [])) (λ x i. (c.is_best-best.ensures.below best).below x (c.is_within-only.ensures only x i))
