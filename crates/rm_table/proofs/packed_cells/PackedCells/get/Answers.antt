use Rattle.std.proofs.Common.{◌≡◌, ◌<◌, ◌∙◌, sym, refl, length, get_or, slice_range, string_bytes}
use Rattle.std.proofs.lemmas.List.{get_or_read}
use Rattle.csv.specs.Records.{prev}
use Rattle.csv.proofs.RecordFacts.{cut-length, field-bounds}
use Rattle.rm_table.proofs.PackLemmas.{cell-is-cut, end-char, start-char}
use Rattle.rm_table.proofs.packed_cells.PackedCells.get.Goals as goal

pub start_of-requires : goal.start_of-requires
start_of-requires c =
    let p = c.self.inside in
    let lt : c.args.i < length p.ends.items = rw (cut-length 0 p.ends.items (string_bytes p.text)) at (rw (← c.self.view_is) at c.requires) in
    rw c.deref-2.ensures.value lt

pub index-requires : goal.index-requires
index-requires c =
    let p = c.self.inside in
    let lt : c.args.i < length p.ends.items = rw (cut-length 0 p.ends.items (string_bytes p.text)) at (rw (← c.self.view_is) at c.requires) in
    rw p.ends.ok.0 lt

pub range-requires-clause-start_le_end : goal.range-requires-clause-start_le_end
range-requires-clause-start_le_end c =
    let p = c.self.inside in
    let lt : c.args.i < length p.ends.items = rw (cut-length 0 p.ends.items (string_bytes p.text)) at (rw (← c.self.view_is) at c.requires) in
    let start : c.start_of.result ≡ prev 0 p.ends.items c.args.i = rw c.deref-2.ensures.value at c.start_of.ensures in
    let end : c.index.result.now ≡ get_or p.ends.items c.args.i 0 = get_or_read p.ends.items _ _ lt c.index.ensures 0 in
    rw (start, end) (field-bounds 0 p.ends.items (length (string_bytes p.text)) c.args.i c.self.invariant.rising lt).0

pub range-requires-clause-start_boundary : goal.range-requires-clause-start_boundary
range-requires-clause-start_boundary c =
    let p = c.self.inside in
    let lt : c.args.i < length p.ends.items = rw (cut-length 0 p.ends.items (string_bytes p.text)) at (rw (← c.self.view_is) at c.requires) in
    let start : c.start_of.result ≡ prev 0 p.ends.items c.args.i = rw c.deref-2.ensures.value at c.start_of.ensures in
    rw (start, c.deref.ensures) (start-char p.ends.items (string_bytes p.text) c.args.i c.self.invariant lt)

pub range-requires-clause-end_boundary : goal.range-requires-clause-end_boundary
range-requires-clause-end_boundary c =
    let p = c.self.inside in
    let lt : c.args.i < length p.ends.items = rw (cut-length 0 p.ends.items (string_bytes p.text)) at (rw (← c.self.view_is) at c.requires) in
    let end : c.index.result.now ≡ get_or p.ends.items c.args.i 0 = get_or_read p.ends.items _ _ lt c.index.ensures 0 in
    rw (end, c.deref.ensures) (end-char p.ends.items (string_bytes p.text) c.args.i c.self.invariant lt)

pub returns : goal.returns
returns c =
    let p = c.self.inside in
    let lt : c.args.i < length p.ends.items = rw (cut-length 0 p.ends.items (string_bytes p.text)) at (rw (← c.self.view_is) at c.requires) in
    let start : c.start_of.result ≡ prev 0 p.ends.items c.args.i = rw c.deref-2.ensures.value at c.start_of.ensures in
    let end : c.index.result.now ≡ get_or p.ends.items c.args.i 0 = get_or_read p.ends.items _ _ lt c.index.ensures 0 in
    let part : slice_range (string_bytes p.text) c.start_of.result c.index.result.now ≡ slice_range (string_bytes p.text) (prev 0 p.ends.items c.args.i) (get_or p.ends.items c.args.i 0) = rw (start, end) refl in
    rw (← c.self.view_is) (rw c.deref.ensures at c.range.ensures.value ∙ part ∙ sym (cell-is-cut p.ends.items (string_bytes p.text) c.args.i lt))
