use Rattle.std.proofs.Common.{◌≡◌, ◌∙◌, set, false, length, sym, ap, subst, arith}
use Rattle.rm_sets.specs.Sets.{without}
use Rattle.rm_market.specs.Board.{contract_count}
use Rattle.rm_valuation.specs.Counts.{AreCounts}
use Rattle.rm_exchange.specs.Leaves.{AreLeaves}
use Rattle.rm_exchange.specs.Holding.{held_in, held_of}
use Rattle.rm_exchange.proofs.Held.{held_set, held_without}
use Rattle.rm_exchange.proofs.Chain.{marked}
use Rattle.rm_exchange.proofs.Nexts.{nexts_same, nexts_without, written_back}
use Rattle.rm_exchange.proofs.holding.release.Goals as goal

pub mark-requires : goal.mark-requires
mark-requires c = let lt = c.requires.contract in let all = c.requires.kept.all_marked in let same = ap length c.leave_leaf.ensures.marks in omega arith

pub renew-requires-clause-nodes : goal.renew-requires-clause-nodes
renew-requires-clause-nodes c =
    let old = c.args.holding.now in
    let size : old.counts.len ≡ length c.count_out.new.counts = old.counts.ok.0 ∙ (c.requires.kept.all_counted ∙ sym c.count_out.ensures.nodes) in
    let back = written_back old.counts.len c.count_out.new.counts old.counts.items size in
    ap length (c.deref.ensures.value ∙ back) ∙ c.count_out.ensures.nodes

pub renew-requires-clause-nexts : goal.renew-requires-clause-nexts
renew-requires-clause-nexts c =
    let b = c.args.board.now in
    let old = c.args.holding.now in
    let n = contract_count b in
    let H = held_in b old in
    let size : old.counts.len ≡ length c.count_out.new.counts = old.counts.ok.0 ∙ (c.requires.kept.all_counted ∙ sym c.count_out.ensures.nodes) in
    let back = written_back old.counts.len c.count_out.new.counts old.counts.items size in
    nexts_without b H old.counts.items c.deref.result.now old.nexts.items c.args.z (held_set n old.marks.items).ascending c.requires.kept.counted
    (subst (AreCounts b (without H c.args.z)) (sym (c.deref.ensures.value ∙ back)) (c.count_out.ensures.counts H (held_set n old.marks.items) c.requires.held (subst (AreCounts b H) (sym c.deref_mut.ensures.value) c.requires.kept.counted))) c.requires.kept.nexts

pub mend-requires-clause-kept : goal.mend-requires-clause-kept
mend-requires-clause-kept c =
    let b = c.args.board.now in
    let old = c.args.holding.now in
    let n = contract_count b in
    let H = held_in b old in
    let held = held_without n old.marks.items c.args.z c.requires.kept.all_marked c.requires.contract in
    let marks = c.mark.ensures.marks ∙ ap (λ m. set m c.args.z false) c.leave_leaf.ensures.marks in
    let size : old.counts.len ≡ length c.count_out.new.counts = old.counts.ok.0 ∙ (c.requires.kept.all_counted ∙ sym c.count_out.ensures.nodes) in
    let back = written_back old.counts.len c.count_out.new.counts old.counts.items size in
    let counts : c.mark.new.holding.counts.items ≡ c.count_out.new.counts = c.mark.ensures.counts ∙ (c.leave_leaf.ensures.counts ∙ back) in
    let same = ap (held_of n) marks ∙ held in
    marked b c.args.places.now old c.mark.new.holding c.args.z false c.requires.kept c.requires.contract marks (c.mark.ensures.rivals ∙ c.leave_leaf.ensures.rivals) (ap length counts ∙ c.count_out.ensures.nodes)
    (subst (λ S. AreCounts b S c.mark.new.holding.counts.items) (sym same)
    (subst (AreCounts b (without H c.args.z)) (sym counts) (c.count_out.ensures.counts H (held_set n old.marks.items) c.requires.held (subst (AreCounts b H) (sym c.deref_mut.ensures.value) c.requires.kept.counted))))
    (nexts_same b c.deref.result.now c.mark.new.holding.counts.items c.renew.new.nexts.items c.mark.new.holding.nexts.items (counts ∙ sym (c.deref.ensures.value ∙ back)) (c.mark.ensures.nexts ∙ c.leave_leaf.ensures.nexts) c.renew.ensures)
    (subst (λ S. AreLeaves b S c.mark.new.holding.leaves.items) (sym same) (subst (AreLeaves b (without H c.args.z)) (sym c.mark.ensures.leaves) c.leave_leaf.ensures.leaves))

pub returns-clause-held : goal.returns-clause-held
returns-clause-held c =
    let n = contract_count c.args.board.now in
    c.mend.ensures.held ∙ (ap (held_of n) (c.mark.ensures.marks ∙ ap (λ m. set m c.args.z false) c.leave_leaf.ensures.marks) ∙ held_without n c.args.holding.now.marks.items c.args.z c.requires.kept.all_marked c.requires.contract)
