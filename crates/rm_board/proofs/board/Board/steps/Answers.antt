use Rattle.std.proofs.Common.{◌∙◌, ◌<◌, [], length, arith}
use Rattle.std.proofs.lemmas.List.{get_or_read}
use Rattle.rm_board.proofs.BoardNodes.{length-nodes, node-steps}
use Rattle.rm_board.specs.Boards.{ties_of}
use Rattle.rm_board.proofs.board.Board.steps.Goals as goal

pub index-requires : goal.index-requires
index-requires c =
    let lt = rw (← c.self.view_is) at c.requires in
    omega (arith, lt, length-nodes c.self.inside.contracts c.self.inside.tree c.self.inside.steps.items (ties_of c.self.inside.places.items) c.self.invariant.hospitals c.self.invariant.nodes, c.self.inside.steps.ok.0)

pub returns : goal.returns
returns c =
    let lt = rw (← c.self.view_is) at c.requires in
    let within : c.args.node < length c.self.inside.steps.items = omega (arith, lt, length-nodes c.self.inside.contracts c.self.inside.tree c.self.inside.steps.items (ties_of c.self.inside.places.items) c.self.invariant.hospitals c.self.invariant.nodes) in
    rw (← c.self.view_is) (get_or_read c.self.inside.steps.items c.args.node c.index.result.now within c.index.ensures []
    ∙ node-steps c.self.inside.contracts c.self.inside.tree c.self.inside.steps.items (ties_of c.self.inside.places.items) c.self.invariant.hospitals c.self.invariant.nodes c.args.node within)
