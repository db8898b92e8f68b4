use Rattle.std.proofs.Common.{arith, rules, ◌≡◌, ◌∙◌, ◌<◌, length, true, false, sym, ap}
use Rattle.std.proofs.lemmas.List.{length-set}
use Rattle.toml.specs.View.{view}
use Rattle.rm_policy.specs.Prefectures.{fits, order_element_checks}
use Rattle.rm_policy.proofs.ElementLemmas.{one-named, one-refused, all-named, order-stops, order-passes, fits-marked, marks-more}
use Rattle.rm_policy.proofs.elements.read_order_elements.Goals as goal

pub returns-then-not-fits-clause-reads : goal.returns-then-not-fits-clause-reads
returns-then-not-fits-clause-reads c =
    let a = c.loop-j.invariant.0 in
    let r = c.args.roster.now in
    let number = c.number_of-number.result in
    let bad : fits r c.args.p c.loop-j.order.items number ≡ false = sym (c.fits.ensures ∙ fits-marked r c.args.p number c.loop-j.named c.loop-j.order.items c.loop-j.invariant.1) ∙ search rules in
    one-refused (order_element_checks r c.args.item c.args.p) r.hospitals c.args.values.now c.loop-j.j c.index-values-j.result c.loop-j.order.items c.refused.result a c.loop-j-test.true c.index-values-j.is
    (order-stops r c.args.item c.args.p c.loop-j.j c.loop-j.order.items number a.before (view c.index-values-j.result) c.refused.result bad a.numbers_are (search rules) a.place c.refused.ensures)

pub loop-j-preserved : goal.loop-j-preserved
loop-j-preserved c =
    let a = c.loop-j.invariant.0 in
    let r = c.args.roster.now in
    let number = c.number_of-number.result in
    let good : fits r c.args.p c.loop-j.order.items number ≡ true = sym (c.fits.ensures ∙ fits-marked r c.args.p number c.loop-j.named c.loop-j.order.items c.loop-j.invariant.1) ∙ search rules in
    let within : c.in-Some.h < length c.loop-j.named = omega (arith, c.in-Some.ensures.below, ap length c.hospitals.ensures.hospitals, c.loop-j.invariant.2) in
    let pushed = rw c.if-is_err.ensures.negation at c.push.ensures.items in (
      one-named (order_element_checks r c.args.item c.args.p) r.hospitals c.args.values.now c.loop-j.j c.index-values-j.result c.loop-j.order.items c.push.new.self.items c.in-Some.h a c.loop-j-test.true c.index-values-j.is
          (order-passes r c.args.item c.args.p c.loop-j.order.items number a.before (view c.index-values-j.result) good a.numbers_are (search rules)) (search rules) pushed,
      rw pushed (marks-more c.loop-j.named c.loop-j.order.items c.in-Some.h c.loop-j.invariant.1 within),
      length-set c.loop-j.named c.in-Some.h true ∙ c.loop-j.invariant.2,
    )

pub returns-clause-reads : goal.returns-clause-reads
returns-clause-reads c = all-named (order_element_checks c.args.roster.now c.args.item c.args.p) c.args.roster.now.hospitals c.args.values.now c.loop-j.j c.loop-j.order.items c.loop-j.invariant.0 (omega arith)
