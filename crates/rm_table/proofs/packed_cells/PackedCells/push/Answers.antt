use Rattle.std.proofs.Common.{◌≡◌, ◌++◌, length, string_bytes, length-append, arith}
use Rattle.std.proofs.lemmas.Str.{IsUtf8-string_bytes}
use Rattle.rm_table.proofs.PackLemmas.{cell-packed, cell-cut}
use Rattle.rm_table.proofs.packed_cells.PackedCells.push.Goals as goal

pub invariant_of-self-else-is_err : goal.invariant_of-self-else-is_err
invariant_of-self-else-is_err c =
    let p = c.self.inside in
    let bytes = rw c.if-is_err.ensures.negation at c.push_str.ensures.bytes in
    let size : c.in-Ok.end ≡ length (string_bytes p.text ++ c.args.text.now) = omega (arith, c.in-Ok.ensures.1, c.len.ensures, p.text.bytes.ok.0, length-append (string_bytes p.text) c.args.text.now) in
    rw (c.in_ok-push.ensures.items, bytes, size) (cell-packed p.ends.items (string_bytes p.text) c.args.text.now (IsUtf8-string_bytes p.text) c.utf8.text c.self.invariant)

pub returns-clause-cells : goal.returns-clause-cells
returns-clause-cells c =
    let p = c.self.inside in
    let bytes = rw c.if-is_err.ensures.negation at c.push_str.ensures.bytes in
    let size : c.in-Ok.end ≡ length (string_bytes p.text ++ c.args.text.now) = omega (arith, c.in-Ok.ensures.1, c.len.ensures, p.text.bytes.ok.0, length-append (string_bytes p.text) c.args.text.now) in
    rw (← c.self.view_is, c.in_ok-push.ensures.items, bytes, size) (cell-cut p.ends.items (string_bytes p.text) c.args.text.now c.self.invariant)
