use Rattle.std.proofs.Common.{◌∙◌, length, refl, sym, arith}
use Rattle.std.proofs.lemmas.Bool.{lt-ltb, le-ltb}
use Rattle.rm_laminar.proofs.Counts.{crosses-by}
use Rattle.rm_laminar.proofs.chains.is_crossing.Goals as goal

pub returns-then-shared-eq0 : goal.returns-then-shared-eq0
returns-then-shared-eq0 c =
    let test = crosses-by c.args.a.now c.args.b.now c.args.shared c.requires.sets.0 c.requires.sets.1 c.requires.shared in
    sym (test ∙ rw (le-ltb 0 c.args.shared (omega arith)) refl)

pub returns-then-shared-a : goal.returns-then-shared-a
returns-then-shared-a c =
    let test = crosses-by c.args.a.now c.args.b.now c.args.shared c.requires.sets.0 c.requires.sets.1 c.requires.shared in
    sym (test ∙ rw (lt-ltb 0 c.args.shared (omega arith), le-ltb c.args.shared (length c.args.a.now) (omega arith)) refl)

pub returns : goal.returns
returns c =
    let test = crosses-by c.args.a.now c.args.b.now c.args.shared c.requires.sets.0 c.requires.sets.1 c.requires.shared in
    sym (test ∙ rw (lt-ltb 0 c.args.shared (omega arith), lt-ltb c.args.shared (length c.args.a.now) c.if-shared-a.false) refl)
