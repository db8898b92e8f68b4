use Rattle.std.proofs.Common.{◌∙◌, sym, ◌<◌, length, arith}
use Rattle.std.specs.Bool.{◌==◌}
use Rattle.std.proofs.lemmas.List.{get_or_read}
use Rattle.rm_board.specs.Boards.{board_of, ties_of}
use Rattle.rm_sets.proofs.Places.{place_told}
use Rattle.rm_board.proofs.TieKeys.{ranked_key, other_key, key_stands}
use Rattle.rm_board.proofs.board.Board.tie_key.Goals as goal

pub returns-then-self-clause-key : goal.returns-then-self-clause-key
returns-then-self-clause-key c =
    let b = board_of c.self.inside.contracts c.self.inside.tree c.self.inside.steps.items (ties_of c.self.inside.places.items) in
    rw (← c.self.view_is) (c.rank_key.ensures ∙ ranked_key b c.args.x (sym c.self.invariant.keys ∙ c.if-self.true))

pub returns-then-self-clause-order : goal.returns-then-self-clause-order
returns-then-self-clause-order c =
    let b = board_of c.self.inside.contracts c.self.inside.tree c.self.inside.steps.items (ties_of c.self.inside.places.items) in
    let lt = rw (← c.self.view_is) at c.requires in
    let key = c.rank_key.ensures ∙ ranked_key b c.args.x (sym c.self.invariant.keys ∙ c.if-self.true) in
    rw (← c.self.view_is) (key_stands b (λ y y-lt. (c.self.invariant.order.all y).1 y-lt) c.args.x _ lt key)

pub returns-clause-key : goal.returns-clause-key
returns-clause-key c =
    let b = board_of c.self.inside.contracts c.self.inside.tree c.self.inside.steps.items (ties_of c.self.inside.places.items) in
    let lt = rw (← c.self.view_is) at c.requires in
    let within : c.args.x < length c.self.inside.places.items = omega (arith, lt, c.self.invariant.wide) in
    let place = place_told (λ y. y == c.args.x) b.ties _ (c.self.invariant.place c.args.x lt) in
    rw (← c.self.view_is) (get_or_read c.self.inside.places.items c.args.x c.index.result.now within c.index.ensures 0 ∙ place ∙ other_key b c.args.x (sym c.self.invariant.keys ∙ c.if-self.false))

pub returns-clause-order : goal.returns-clause-order
returns-clause-order c =
    let b = board_of c.self.inside.contracts c.self.inside.tree c.self.inside.steps.items (ties_of c.self.inside.places.items) in
    let lt = rw (← c.self.view_is) at c.requires in
    let within : c.args.x < length c.self.inside.places.items = omega (arith, lt, c.self.invariant.wide) in
    let place = place_told (λ y. y == c.args.x) b.ties _ (c.self.invariant.place c.args.x lt) in
    let key = get_or_read c.self.inside.places.items c.args.x c.index.result.now within c.index.ensures 0 ∙ place ∙ other_key b c.args.x (sym c.self.invariant.keys ∙ c.if-self.false) in
    rw (← c.self.view_is) (key_stands b (λ y y-lt. (c.self.invariant.order.all y).1 y-lt) c.args.x _ lt key)
