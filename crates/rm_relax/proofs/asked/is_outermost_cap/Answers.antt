use Rattle.std.proofs.Common.{◌≡◌, ◌∙◌, ◌<◌, ◌+◌, ◌&&◌, ℕ, Bool, true, false, not, List, length, get_or, Option, Some, None, refl, ap, ap₂, sym, arith}
use Rattle.std.specs.Prelude.{is_none, is_some}
use Rattle.std.proofs.lemmas.List.{length-map}
use Rattle.std.proofs.lemmas.Option.{get_or_from_slice_get}
use Rattle.rm_market.specs.Board.{Node, sets_of}
use Rattle.rm_market.specs.Tree.{parent, sets_of_tree}
use Rattle.rm_case.specs.Case.{market}
use Rattle.rm_case.specs.Raised.{node_of_group}
use Rattle.rm_case.proofs.Titles.{nodes-each}
use Rattle.rm_relax.proofs.asked.is_outermost_cap.Goals as goal

none-told : (o : Option ℕ) (b : Bool) → is_some o ≡ not b → b ≡ is_none o
none-told None true e = refl
none-told None false e = absurd (cc e)
none-told (Some x) true e = absurd (cc e)
none-told (Some x) false e = refl

pub parent-requires : goal.parent-requires
parent-requires c =
    let m = market c.args.case.now in
    let sets : length (sets_of_tree c.tree.result.now) ≡ length m.board.nodes =
    ap length c.tree.ensures.sets ∙ ap (λ b. length (sets_of b)) c.board.ensures.board ∙ length-map m.board.nodes (λ (n : Node). n.leaves) in
    let hospitals : c.len.result ≡ length c.args.case.now.roster.hospitals = c.len.ensures.count ∙ ap length c.hospitals.ensures.hospitals ∙ ap (λ r. length r.hospitals) c.roster.ensures.roster in
    omega (arith, sets, hospitals, c.requires, nodes-each c.args.case.now c.board.ensures.case)

pub returns-then-by_cap : goal.returns-then-by_cap
returns-then-by_cap c =
    let k = c.args.case.now in
    let hospitals : c.len.result ≡ length k.roster.hospitals = c.len.ensures.count ∙ ap length c.hospitals.ensures.hospitals ∙ ap (λ r. length r.hospitals) c.roster.ensures.roster in
    let flag : get_or k.policy.groups.by_cap c.args.g false ≡ true = get_or_from_slice_get k.policy.groups.by_cap c.args.g true false (rw (c.policy.ensures.policy, c.if-by_cap.true) at c.by_cap.ensures) in
    let outer : c.parent.result ≡ parent (sets_of (market k).board) (node_of_group k c.args.g) =
    c.parent.ensures ∙ ap₂ (λ (L : List (List ℕ)) (n : ℕ). parent L (n + c.args.g)) (c.tree.ensures.sets ∙ ap sets_of c.board.ensures.board) hospitals in
    none-told c.parent.result c.is_none.result c.is_none.ensures ∙ ap is_none outer ∙ ap (λ (b : Bool). b && is_none (parent (sets_of (market k).board) (node_of_group k c.args.g))) (sym flag)

pub returns-else-by_cap : goal.returns-else-by_cap
returns-else-by_cap c =
    let k = c.args.case.now in
    let flag : get_or k.policy.groups.by_cap c.args.g false ≡ false = get_or_from_slice_get k.policy.groups.by_cap c.args.g false false (rw (c.policy.ensures.policy, c.if-by_cap.false) at c.by_cap.ensures) in
    c.if-by_cap.false ∙ ap (λ (b : Bool). b && is_none (parent (sets_of (market k).board) (node_of_group k c.args.g))) (sym flag)
