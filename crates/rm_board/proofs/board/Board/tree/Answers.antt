use Rattle.rm_board.proofs.BoardNodes.{node-sets}
use Rattle.rm_board.specs.Boards.{ties_of}
use Rattle.rm_board.proofs.board.Board.tree.Goals as goal

pub returns-clause-sets : goal.returns-clause-sets
returns-clause-sets c = rw (← c.self.view_is) (node-sets c.self.inside.contracts c.self.inside.tree c.self.inside.steps.items (ties_of c.self.inside.places.items) c.self.invariant.hospitals c.self.invariant.nodes)
