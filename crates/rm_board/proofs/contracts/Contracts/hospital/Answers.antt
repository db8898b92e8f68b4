use Rattle.std.proofs.Common.{leb, rules, arith}
use Rattle.std.proofs.lemmas.List.Sorted.{IsPartitionPoint-from_clause}
use Rattle.rm_board.proofs.Runs.{has-run, forward, inside, parted, found, number-is-of}
use Rattle.rm_board.proofs.contracts.Contracts.hospital.Goals as goal

pub index-requires : goal.index-requires
index-requires c =
    let lt = rw (← c.self.view_is) at c.requires in
    omega (arith, has-run _ _ _ c.self.invariant c.args.x lt, c.self.inside.by_hospital.runs.ok.0)

pub index-requires-2 : goal.index-requires-2
index-requires-2 c =
    let lt = rw (← c.self.view_is) at c.requires in
    omega (arith, has-run _ _ _ c.self.invariant c.args.x lt, c.self.inside.by_hospital.runs.ok.0)

pub between-ends-requires-clause-forward : goal.between-ends-requires-clause-forward
between-ends-requires-clause-forward c =
    let lt = rw (← c.self.view_is) at c.requires in
    omega (arith, forward _ _ _ c.self.invariant c.args.x lt _ _ c.index.ensures c.index-2.ensures)

pub between-ends-requires-clause-within : goal.between-ends-requires-clause-within
between-ends-requires-clause-within c =
    let lt = rw (← c.self.view_is) at c.requires in
    rw c.deref.ensures.value (inside _ _ _ c.self.invariant c.args.x lt _ _ c.index.ensures c.index-2.ensures)

pub returns : goal.returns
returns c =
    let lt = rw (← c.self.view_is) at c.requires in
    let ends = rw c.deref.ensures.value at c.between-ends.ensures in
    let point = IsPartitionPoint-from_clause (λ y. leb y c.args.x) _ _ c.partition_point.ensures.partitioned (rw ends (parted _ _ _ c.self.invariant c.args.x lt _ _ c.index.ensures c.index-2.ensures)) (λ a r q k. search rules) in
    let of = found _ _ _ c.self.invariant c.args.x lt _ _ c.index.ensures c.index-2.ensures _ (rw ends at point) (rw ends at c.partition_point.ensures.bound) in
    rw (← c.self.view_is) (record { hospital = number-is-of _ _ _ of; below = of.known })
