use Rattle.std.proofs.Common.{◌≡◌, ◌∙◌, ap, sym, [], length, None, replicate, arith, rules}
use Rattle.rm_case.specs.Case.{market}
use Rattle.rm_case.specs.Choices.{choice_checks, row_hospital}
use Rattle.rm_base.proofs.Stopping.{stops-on}
use Rattle.rm_case.proofs.ChoiceRows.{checks-at}
use Rattle.rm_case.proofs.NumberedRows.{all-numbered, none-numbered, one-more, one-refused, ranks-of}
use Rattle.rm_case.proofs.choices.Choices.read_rows.Goals as goal

pub loop-i-init : goal.loop-i-init
loop-i-init c =
    let count : c.len-count.result ≡ length (market c.args.case.now).board.ranks =
    rw (c.hospitals.ensures.hospitals, c.roster.ensures.roster) at c.len-count.ensures.count ∙ sym c.roster.ensures.case.roster.rank_each ∙ sym (ap length (ranks-of c.args.case.now)) in
    let rows : c.in-Ok.rows.items ≡ replicate c.len-count.result None = search rules in
    let none : c.new-hospitals.result.items ≡ [] = search rules in
    rw (rows, none) (none-numbered (choice_checks c.args.case.now) (row_hospital c.args.case.now) (length (market c.args.case.now).board.ranks) c.args.table.now c.len-count.result count)

pub returns-in-Err-clause-reads : goal.returns-in-Err-clause-reads
returns-in-Err-clause-reads c =
    let lt = rw c.rows-i-end.ensures at c.loop-i-test.true in
    let stops = rw c.deref.ensures.value at c.in-Err.ensures.stops in
    let checks = checks-at c.args.case.now c.args.table.now c.loop-i.i c.loop-i.rows.items c.loop-i.hospitals.items c.row.result c.loop-i.invariant c.roster.ensures.case in
    stops-on _ _ c.in-Err.fault
    (λ refusal some. one-refused (choice_checks c.args.case.now) (row_hospital c.args.case.now) (length (market c.args.case.now).board.ranks) c.args.table.now c.loop-i.i
    c.loop-i.rows.items c.loop-i.hospitals.items c.loop-i.invariant c.row.result refusal lt c.row.ensures (checks ∙ some))
    stops

pub loop-i-preserved : goal.loop-i-preserved
loop-i-preserved c =
    let lt = rw c.rows-i-end.ensures at c.loop-i-test.true in
    let passes = rw c.deref.ensures.value at c.in-Ok-read_choice.ensures.passes in
    let told = rw c.deref.ensures.value at c.in-Ok-read_choice.ensures.hospital in
    let pushed = rw c.if-is_err.ensures.negation at c.push.ensures.items in
    let checks = checks-at c.args.case.now c.args.table.now c.loop-i.i c.loop-i.rows.items c.loop-i.hospitals.items c.row.result c.loop-i.invariant c.roster.ensures.case in
    rw pushed (one-more (choice_checks c.args.case.now) (row_hospital c.args.case.now) (length (market c.args.case.now).board.ranks) c.args.table.now c.loop-i.i
    c.loop-i.rows.items c.loop-i.hospitals.items c.loop-i.invariant c.row.result c.in-Ok-read_choice.h lt c.row.ensures (checks ∙ passes) told.0 told.1 told.2)

pub returns-clause-reads : goal.returns-clause-reads
returns-clause-reads c =
    all-numbered (choice_checks c.args.case.now) (row_hospital c.args.case.now) (length (market c.args.case.now).board.ranks) c.args.table.now c.loop-i.i
    c.loop-i.rows.items c.loop-i.hospitals.items c.loop-i.invariant (omega arith)

pub returns-clause-list : goal.returns-clause-list
returns-clause-list c = (c.loop-i.invariant.once, c.loop-i.invariant.within)
