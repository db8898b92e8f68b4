use Rattle.std.proofs.Common.{◌∙◌, sym}
use Rattle.rm_board.proofs.RankKeys.{rank-ranked}
use Rattle.rm_board.proofs.keys.is_ranked.Goals as goal

pub returns-in-ByRank : goal.returns-in-ByRank
returns-in-ByRank c = rank-ranked c.args.contracts.now c.args.order.now c.args.rule (sym c.keys_fit.ensures ∙ c.if-not-keys_fit.false) c.requires.rule c.in-ByRank.is
