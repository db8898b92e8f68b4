use Rattle.std.proofs.Common.{◌<◌, arith}
use Rattle.std.proofs.lemmas.List.Elements.{All-from_get_or}
use Rattle.rm_market.specs.declared.Outcome.TheVariants as out
use Rattle.rm_journal_laws.specs.declared.Entry.{Entry}
use Rattle.rm_journal.proofs.tests.checks.are_below.Goals as goal

pub returns : goal.returns
returns c = λ _.
    All-from_get_or (λ (e : Entry). e.x < c.args.n) c.args.entries.now (record { x = 0; outcome = out.Kept })
    (λ k lt. let past = c.loop-i-test.false in c.loop-i.invariant k (omega (arith, past, lt)))
