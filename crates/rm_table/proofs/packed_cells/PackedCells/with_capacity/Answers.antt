use Rattle.rm_table.proofs.PackLemmas.{no-cell-packed}
use Rattle.std.proofs.Common.{refl}
use Rattle.csv.specs.Records.{cut_from}
use Rattle.rm_table.proofs.packed_cells.PackedCells.with_capacity.Goals as goal

pub invariant_of-result : goal.invariant_of-result
invariant_of-result c = rw (c.in_ok-with_capacity.ensures.bytes, c.in_ok-with_capacity-2.ensures.items) no-cell-packed

pub returns : goal.returns
unfolding cut_from
returns c = rw (c.in_ok-with_capacity.ensures.bytes, c.in_ok-with_capacity-2.ensures.items) refl
