use Rattle.std.proofs.Common.{◌≡◌, ◌<◌, length, get_or, not, arith, sym, ◌∙◌, add-one, subst}
use Rattle.std.proofs.lemmas.Bool.{not_from_false, not_from_true}
use Rattle.rm_sets.specs.Sets.{has, IsIn}
use Rattle.rm_sets.proofs.Members.{IsIn-get_or}
use Rattle.rm_choice.proofs.Offers.{find-here, find-later, lacks, take_again}
use Rattle.rm_choice.proofs.choice_holder.first_refused.Goals.{then-i-chosen-via-then-i-chosen, then-i-chosen-via-else-i-chosen+then-chosen-i}
use Rattle.rm_choice.proofs.choice_holder.first_refused.Goals as goal

pub returns-then-i-chosen : goal.returns-then-i-chosen
returns-then-i-chosen c =
    let inv = c.loop-i.invariant in
    let differ : c.loop-i.i < length c.args.chosen.now → get_or c.args.chosen.now c.loop-i.i 0 ≡ get_or c.args.offered.now c.loop-i.i 0 → ⊥ =
    λ lt e. elim c.then-i-chosen.branch [ then-i-chosen-via-then-i-chosen w ↦ let h = w.if-i-chosen.true in omega (arith, h, lt) | then-i-chosen-via-else-i-chosen+then-chosen-i w ↦ w.if-chosen-i.true e ] in
    let gone = lacks c.loop-i.i c.args.offered.now c.args.chosen.now c.requires.offered c.requires.chosen c.requires.within inv.same c.loop-i-test.true inv.within differ in
    sym (inv.found ∙ find-here (λ z. not (has z c.args.chosen.now)) c.args.offered.now c.loop-i.i c.loop-i-test.true (not_from_false (has (get_or c.args.offered.now c.loop-i.i 0) c.args.chosen.now) gone))

pub loop-i-preserved : goal.loop-i-preserved
loop-i-preserved c =
    let inv = c.loop-i.invariant in
    let lt : c.loop-i.i < length c.args.chosen.now = omega (arith, inv.within, c.if-i-chosen.false) in
    let there : IsIn (get_or c.args.offered.now c.loop-i.i 0) c.args.chosen.now = subst (λ y. IsIn y c.args.chosen.now) c.if-chosen-i.false (IsIn-get_or c.args.chosen.now c.loop-i.i 0 lt) in
    rw (add-one c.loop-i.i) (record {
      within = omega (arith, lt);
      same = take_again c.loop-i.i c.args.offered.now c.args.chosen.now inv.same c.loop-i-test.true lt (sym c.if-chosen-i.false);
      found = inv.found ∙ find-later (λ z. not (has z c.args.chosen.now)) c.args.offered.now c.loop-i.i c.loop-i-test.true (not_from_true (has (get_or c.args.offered.now c.loop-i.i 0) c.args.chosen.now) there);
    })
