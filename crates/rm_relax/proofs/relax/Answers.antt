use Rattle.rm_relax.proofs.Placements.{relaxed}
use Rattle.rm_relax.proofs.relax.Goals as goal

pub returns-clause-relaxed : goal.returns-clause-relaxed
returns-clause-relaxed c =
    relaxed c.args.case.now c.args.g c.args.cap c.in_ok-board.board _ _ c.solve.ensures.case c.raised.ensures.raised c.raised.ensures.market
    c.in_ok-declared.ensures.solved c.in_ok-board.ensures.board c.in_ok-replaced.ensures
