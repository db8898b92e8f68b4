use Rattle.std.proofs.Common.{◌≡◌, ◌<◌, ◌∙◌, sym, refl, length, get_or}
use Rattle.std.proofs.lemmas.List.{get_or_read}
use Rattle.csv.specs.Records.{prev}
use Rattle.rm_table.specs.Packed.{between}
use Rattle.rm_table.proofs.CutLemmas.{cut-length, cut-row, row-bounds}
use Rattle.rm_table.proofs.Table.row.Goals as goal

pub start_of-requires : goal.start_of-requires
start_of-requires c =
    let t = c.self.inside in
    let lt : c.args.i < length t.ends.items = rw (cut-length 0 t.ends.items t.cells) at (rw (← c.self.view_is) at c.requires) in
    rw c.deref.ensures.value lt

pub index-requires : goal.index-requires
index-requires c =
    let t = c.self.inside in
    let lt : c.args.i < length t.ends.items = rw (cut-length 0 t.ends.items t.cells) at (rw (← c.self.view_is) at c.requires) in
    rw t.ends.ok.0 lt

pub invariant_of-result : goal.invariant_of-result
invariant_of-result c =
    let t = c.self.inside in
    let lt : c.args.i < length t.ends.items = rw (cut-length 0 t.ends.items t.cells) at (rw (← c.self.view_is) at c.requires) in
    let start : c.start_of.result ≡ prev 0 t.ends.items c.args.i = rw c.deref.ensures.value at c.start_of.ensures in
    let end : c.index.result.now ≡ get_or t.ends.items c.args.i 0 = get_or_read t.ends.items _ _ lt c.index.ensures 0 in
    rw (start, end) (row-bounds t.ends.items t.cells c.args.i c.self.invariant lt)

pub returns : goal.returns
returns c =
    let t = c.self.inside in
    let lt : c.args.i < length t.ends.items = rw (cut-length 0 t.ends.items t.cells) at (rw (← c.self.view_is) at c.requires) in
    let start : c.start_of.result ≡ prev 0 t.ends.items c.args.i = rw c.deref.ensures.value at c.start_of.ensures in
    let end : c.index.result.now ≡ get_or t.ends.items c.args.i 0 = get_or_read t.ends.items _ _ lt c.index.ensures 0 in
    let row : between c.start_of.result c.index.result.now t.cells ≡ between (prev 0 t.ends.items c.args.i) (get_or t.ends.items c.args.i 0) t.cells = rw (start, end) refl in
    rw (← c.self.view_is) (row ∙ sym (cut-row 0 t.ends.items t.cells c.args.i lt))
