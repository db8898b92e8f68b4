use Rattle.std.proofs.Common.{sym, ◌∙◌}
use Rattle.rm_market.specs.declared.Verdict.TheVariants.{Best}
use Rattle.rm_verdict_laws.proofs.Verdict.{verdict_says}
use Rattle.rm_exchange.proofs.verdicts.certify.Goals as goal

pub returns-clause-best : goal.returns-clause-best
returns-clause-best c =
    let is = c.verdict.ensures.verdict in
    let best = verdict_says c.requires.board.0 c.args.board.now c.args.offered.now c.args.chosen.now Best c.requires.board.1 c.requires.offered c.requires.chosen c.requires.within in
    (λ e. best.0 (sym is ∙ e), λ b. is ∙ best.1 b)

pub returns-clause-says : goal.returns-clause-says
returns-clause-says c =
    (verdict_says c.requires.board.0 c.args.board.now c.args.offered.now c.args.chosen.now c.verdict.result c.requires.board.1 c.requires.offered c.requires.chosen c.requires.within).0 (sym c.verdict.ensures.verdict)
