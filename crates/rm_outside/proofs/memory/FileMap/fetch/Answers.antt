use Rattle.std.proofs.Common.{◌≡◌, ◌∙◌, ◌<◌, ◌≤◌, length, rules, true, false, string_bytes, Some}
use Rattle.std.specs.Str.{bytes_eq}
use Rattle.std.specs.FinMap.{get}
use Rattle.rm_outside.proofs.KeptLemmas.{found-here, passed-over, none-left}
use Rattle.rm_outside.proofs.memory.FileMap.fetch.Goals as goal

pub returns-then-eq : goal.returns-then-eq
returns-then-eq c =
    let files = c.self.inside.files in
    let file = c.index-file.result.now in
    let same : bytes_eq c.args.name.now (string_bytes file.name) ≡ true = search rules in
    let within : c.loop-i.i < length files.items = rw (c.len-i-end.ensures, files.ok.0) at c.loop-i-test.true in
    let found : get c.args.self.now c.args.name.now ≡ Some file.bytes.items = c.loop-i.invariant ∙ found-here files.items c.args.name.now c.loop-i.i file within c.index-file.ensures same in
    rw (found, ← c.deref.ensures.value) c.copy.ensures

pub loop-i-preserved : goal.loop-i-preserved
loop-i-preserved c =
    let files = c.self.inside.files in
    let file = c.index-file.result.now in
    let other : bytes_eq c.args.name.now (string_bytes file.name) ≡ false = search rules in
    let within : c.loop-i.i < length files.items = rw (c.len-i-end.ensures, files.ok.0) at c.loop-i-test.true in
    c.loop-i.invariant ∙ passed-over files.items c.args.name.now c.loop-i.i file within c.index-file.ensures other

pub returns : goal.returns
returns c =
    let files = c.self.inside.files in
    let past : length files.items ≤ c.loop-i.i = rw (c.len-i-end.ensures, files.ok.0) at c.loop-i-test.false in
    c.loop-i.invariant ∙ none-left files.items c.args.name.now c.loop-i.i past
