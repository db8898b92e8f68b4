use Rattle.std.proofs.Common.{◌∙◌, set, true, false, length, sym, ap, subst, arith}
use Rattle.std.proofs.lemmas.List.{length-set}
use Rattle.rm_sets.specs.Sets.{has, with_one, without}
use Rattle.rm_market.specs.Board.{contract_count, is_feasible}
use Rattle.rm_valuation_laws.proofs.Moves.{without_other, apart}
use Rattle.rm_exchange.specs.Leaves.{AreLeaves}
use Rattle.rm_exchange.specs.Holding.{held_in, held_of}
use Rattle.rm_exchange.proofs.Held.{held_set, held_without, held_swapped}
use Rattle.rm_exchange.proofs.FullLeaf.{exchanged}
use Rattle.rm_exchange.proofs.holding.swap_at_leaf.Goals as goal

pub leave_leaf-requires-clause-contract : goal.leave_leaf-requires-clause-contract
leave_leaf-requires-clause-contract c = (held_set (contract_count c.args.board.now) c.args.holding.now.marks.items).below c.args.last c.requires.last.held

pub mark-requires : goal.mark-requires
mark-requires c =
    let lt = (held_set (contract_count c.args.board.now) c.args.holding.now.marks.items).below c.args.last c.requires.last.held in
    let all = c.requires.kept.all_marked in
    let same = ap length c.leave_leaf.ensures.marks in
    omega arith

pub enter_leaf-requires-clause-leaves : goal.enter_leaf-requires-clause-leaves
enter_leaf-requires-clause-leaves c =
    let b = c.args.board.now in
    let n = contract_count b in
    let old = c.args.holding.now in
    let lz = (held_set n old.marks.items).below c.args.last c.requires.last.held in
    let less = ap (held_of n) (c.mark.ensures.marks ∙ ap (λ m. set m c.args.last false) c.leave_leaf.ensures.marks) ∙ held_without n old.marks.items c.args.last c.requires.kept.all_marked lz in
    subst (λ S. AreLeaves b S c.mark.new.holding.leaves.items) (sym less) (subst (AreLeaves b (without (held_in b old) c.args.last)) (sym c.mark.ensures.leaves) c.leave_leaf.ensures.leaves)

pub enter_leaf-requires-clause-new : goal.enter_leaf-requires-clause-new
enter_leaf-requires-clause-new c =
    let b = c.args.board.now in
    let n = contract_count b in
    let old = c.args.holding.now in
    let H = held_in b old in
    let lz = (held_set n old.marks.items).below c.args.last c.requires.last.held in
    let less = ap (held_of n) (c.mark.ensures.marks ∙ ap (λ m. set m c.args.last false) c.leave_leaf.ensures.marks) ∙ held_without n old.marks.items c.args.last c.requires.kept.all_marked lz in
    ap (has c.args.x) less ∙ (without_other H c.args.last c.args.x (λ e. apart H c.args.last c.args.x c.requires.last.held c.requires.new (sym e)) ∙ c.requires.new)

pub enter_leaf-requires-clause-feasible : goal.enter_leaf-requires-clause-feasible
enter_leaf-requires-clause-feasible c =
    let b = c.args.board.now in
    let n = contract_count b in
    let old = c.args.holding.now in
    let lz = (held_set n old.marks.items).below c.args.last c.requires.last.held in
    let less = ap (held_of n) (c.mark.ensures.marks ∙ ap (λ m. set m c.args.last false) c.leave_leaf.ensures.marks) ∙ held_without n old.marks.items c.args.last c.requires.kept.all_marked lz in
    ap (λ S. is_feasible b (with_one S c.args.x)) less ∙ c.requires.feasible

pub mend-requires-clause-contract : goal.mend-requires-clause-contract
mend-requires-clause-contract c = (held_set (contract_count c.args.board.now) c.args.holding.now.marks.items).below c.args.last c.requires.last.held

pub mend-requires-clause-kept : goal.mend-requires-clause-kept
mend-requires-clause-kept c =
    let b = c.args.board.now in
    let n = contract_count b in
    let old = c.args.holding.now in
    let x = c.args.x in
    let z = c.args.last in
    let H = held_in b old in
    let lz = (held_set n old.marks.items).below z c.requires.last.held in
    let out = c.mark.ensures.marks ∙ ap (λ m. set m z false) c.leave_leaf.ensures.marks in
    let less = ap (held_of n) out ∙ held_without n old.marks.items z c.requires.kept.all_marked lz in
    let marks = c.mark-2.ensures.marks ∙ ap (λ m. set m x true) (c.enter_leaf.ensures.marks ∙ out) in
    let leaves = subst (λ S. AreLeaves b S c.mark-2.new.holding.leaves.items) (ap (λ S. with_one S x) less) (subst (AreLeaves b (with_one (held_in b c.mark.new.holding) x)) (sym c.mark-2.ensures.leaves) c.enter_leaf.ensures.leaves) in
    exchanged b c.args.places.now old c.mark-2.new.holding x z c.requires.kept c.requires.new c.requires.last
    (ap length marks ∙ (length-set (set old.marks.items z false) x true ∙ length-set old.marks.items z false))
    (ap (held_of n) marks ∙ held_swapped n old.marks.items x z c.requires.kept.all_marked c.requires.contract lz)
    (c.mark-2.ensures.counts ∙ (c.enter_leaf.ensures.counts ∙ (c.mark.ensures.counts ∙ c.leave_leaf.ensures.counts)))
    (c.mark-2.ensures.nexts ∙ (c.enter_leaf.ensures.nexts ∙ (c.mark.ensures.nexts ∙ c.leave_leaf.ensures.nexts)))
    (c.mark-2.ensures.rivals ∙ (c.enter_leaf.ensures.rivals ∙ (c.mark.ensures.rivals ∙ c.leave_leaf.ensures.rivals)))
    leaves

pub returns-clause-held : goal.returns-clause-held
returns-clause-held c =
    let n = contract_count c.args.board.now in
    let old = c.args.holding.now in
    let lz = (held_set n old.marks.items).below c.args.last c.requires.last.held in
    let out = c.mark.ensures.marks ∙ ap (λ m. set m c.args.last false) c.leave_leaf.ensures.marks in
    let marks = c.mark-2.ensures.marks ∙ ap (λ m. set m c.args.x true) (c.enter_leaf.ensures.marks ∙ out) in
    c.mend.ensures.held ∙ (ap (held_of n) marks ∙ held_swapped n old.marks.items c.args.x c.args.last c.requires.kept.all_marked c.requires.contract lz)
