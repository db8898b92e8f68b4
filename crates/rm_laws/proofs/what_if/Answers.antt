use Rattle.rm_laws.proofs.BothPlacements.{both-places}
use Rattle.rm_laws.proofs.what_if.Goals as goal

pub returns-clause-both : goal.returns-clause-both
returns-clause-both c =
    both-places c.args.case.now c.solve.ensures.case c.args.d c.args.hospitals.now c.requires.doctor c.requires.list c.in_ok-listed.listed _ _
    c.in_ok-declared.ensures.solved c.in_ok-listed.ensures.listed c.in_ok-replaced.ensures
