use Rattle.std.proofs.Common.{◌∙◌}
use Rattle.rm_board.proofs.Numbering.{starts-forward, starts-inside, rank-read, rank-fits}
use Rattle.rm_board.proofs.contracts.Contracts.rank.Goals as goal

pub between-requires-clause-forward : goal.between-requires-clause-forward
between-requires-clause-forward c =
    let lt = rw (← c.self.view_is) at c.requires in
    starts-forward _ _ _ c.self.invariant c.args.h _ _ lt (rw (← c.self.view_is) at c.start-start.ensures.start) (rw (← c.self.view_is) at c.start-end.ensures.start)

pub between-requires-clause-within : goal.between-requires-clause-within
between-requires-clause-within c = rw c.deref.ensures.value (starts-inside _ _ _ c.self.invariant _ _ (rw (← c.self.view_is) at c.start-end.ensures.start))

pub returns-clause-list : goal.returns-clause-list
returns-clause-list c =
    let lt = rw (← c.self.view_is) at c.requires in
    let read = rank-read _ _ _ c.self.invariant c.args.h _ _ lt (rw (← c.self.view_is) at c.start-start.ensures.start) (rw (← c.self.view_is) at c.start-end.ensures.start) in
    let lent = rw c.deref.ensures.value at c.between.ensures in
    rw (← c.self.view_is) (lent ∙ read)

pub returns-clause-few : goal.returns-clause-few
returns-clause-few c =
    let lt = rw (← c.self.view_is) at c.requires in
    let read = rank-read _ _ _ c.self.invariant c.args.h _ _ lt (rw (← c.self.view_is) at c.start-start.ensures.start) (rw (← c.self.view_is) at c.start-end.ensures.start) in
    let lent = rw c.deref.ensures.value at c.between.ensures in
    rw (lent, read) (rank-fits _ c.args.h lt c.self.invariant.few)
