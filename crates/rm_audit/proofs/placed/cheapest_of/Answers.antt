use Rattle.std.proofs.Common.{rules}
use Rattle.rm_audit.proofs.Walkable.{walkable}
use Rattle.rm_audit.proofs.placed.cheapest_of.Goals as goal

pub enter_all-requires-clause-chains : goal.enter_all-requires-clause-chains
enter_all-requires-clause-chains c = walkable c.requires.board.0 c.args.board.now c.tree.result.now c.nodes.result c.requires.board.1 c.tree.ensures.hospitals c.tree.ensures.sets c.nodes.ensures (search rules) c.requires.leaves

pub returns-clause-chains : goal.returns-clause-chains
returns-clause-chains c = walkable c.requires.board.0 c.args.board.now c.tree.result.now c.nodes.result c.requires.board.1 c.tree.ensures.hospitals c.tree.ensures.sets c.nodes.ensures (search rules) c.requires.leaves
