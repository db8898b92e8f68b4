use Rattle.std.proofs.Common.{arith, sym, rules}
use Rattle.rm_policy.specs.Entries.{name_checks}
use Rattle.rm_policy.proofs.ElementLemmas.{one-named, one-refused, all-named, name-stops, name-passes}
use Rattle.rm_policy.proofs.elements.read_names.Goals as goal
use Rattle.toml.specs.View.{view}

pub returns-in_default : goal.returns-in_default
returns-in_default c =
    let a = c.loop-j.invariant in
    one-refused (name_checks c.args.names.now c.args.item c.args.first) c.args.names.now c.args.values.now c.loop-j.j c.index-values-j.result c.loop-j.numbers.items c.refused.result a c.loop-j-test.true c.index-values-j.is
    (name-stops c.args.names.now c.args.item c.args.first c.loop-j.j a.before (view c.index-values-j.result) c.refused.result (search rules) a.place c.refused.ensures)

pub loop-j-preserved : goal.loop-j-preserved
loop-j-preserved c =
    let a = c.loop-j.invariant in
    let found = sym c.in-Some.ensures.number in
    one-named (name_checks c.args.names.now c.args.item c.args.first) c.args.names.now c.args.values.now c.loop-j.j c.index-values-j.result c.loop-j.numbers.items c.push.new.self.items c.in-Some.n a c.loop-j-test.true c.index-values-j.is
    (name-passes c.args.names.now c.args.item c.args.first c.in-Some.n a.before (view c.index-values-j.result) found) found (rw c.if-is_err.ensures.negation at c.push.ensures.items)

pub returns : goal.returns
returns c = all-named (name_checks c.args.names.now c.args.item c.args.first) c.args.names.now c.args.values.now c.loop-j.j c.loop-j.numbers.items c.loop-j.invariant (omega arith)
