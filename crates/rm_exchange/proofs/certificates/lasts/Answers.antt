use Rattle.std.proofs.Common.{◌<◌, IfSome, ◌++◌, ◌∷◌, [], ℕ, Option, Some, length, get_or, set, take, sym, ap, subst, ⊎_elim, arith, ◌∙◌}
use Rattle.std.proofs.lemmas.List.{length-set, take_more}
use Rattle.rm_sets.specs.Sets.{IsIn}
use Rattle.rm_sets.proofs.Members.{IsIn-get_or}
use Rattle.rm_market.specs.Board.{contract_count, leaf_of}
use Rattle.rm_exchange.specs.RowsBelow.{IsLastAt}
use Rattle.rm_exchange.proofs.LastAt.{old_or_last, lasts_more}
use Rattle.std.proofs.lemmas.List.Elements.{All-set}
use Rattle.rm_exchange.proofs.certificates.lasts.Goals as goal

pub leaf-leaf-requires : goal.leaf-leaf-requires
leaf-leaf-requires c = c.requires.below _ (IsIn-get_or c.args.chosen.now c.loop-i.i 0 c.loop-i-test.true)

pub later-last-requires-clause-contract : goal.later-last-requires-clause-contract
later-last-requires-clause-contract c = c.requires.below _ (IsIn-get_or c.args.chosen.now c.loop-i.i 0 c.loop-i-test.true)

pub loop-i-preserved : goal.loop-i-preserved
loop-i-preserved c =
    let b = c.args.board.now in
    let S = c.args.chosen.now in
    let T = take c.loop-i.i S in
    let z = get_or S c.loop-i.i 0 in
    let inv = c.loop-i.invariant in
    let lasts = c.loop-i.lasts.items in
    let more = take_more S c.loop-i.i 0 c.loop-i-test.true in
    let leaf = c.leaf-leaf.ensures.leaf in
    let lt : leaf_of b z < length lasts = let below = c.leaf-leaf.ensures.below in let long = inv.long in omega (arith, leaf, below, long) in
    let old : IsLastAt b T (leaf_of b z) c.index.result.now =
    subst (IsLastAt b T (leaf_of b z)) (sym (c.index.ensures ∙ ap (λ l. get_or lasts l c.index.result.now) leaf)) (inv.each (leaf_of b z) c.index.result.now lt) in
    let new = c.later-last.ensures.last T old in
    record {
      long = length-set lasts c.leaf-leaf.result (Some c.later-last.result) ∙ inv.long;
      each = subst (λ U. (l : ℕ) (d : Option ℕ) → l < length (set lasts c.leaf-leaf.result (Some c.later-last.result)) → IsLastAt b U l (get_or (set lasts c.leaf-leaf.result (Some c.later-last.result)) l d)) (sym more)
          (subst (λ k. (l : ℕ) (d : Option ℕ) → l < length (set lasts k (Some c.later-last.result)) → IsLastAt b (T ++ z ∷ []) l (get_or (set lasts k (Some c.later-last.result)) l d)) (sym leaf)
          (lasts_more b T z lasts c.later-last.result lt inv.each new));
      all = λ y i. subst (λ n. leaf_of b y < n) (sym (length-set lasts c.leaf-leaf.result (Some c.later-last.result)))
          (⊎_elim (λ h. inv.all y h) (λ e. subst (λ w. leaf_of b w < length lasts) (sym e) lt) (old_or_last y z T (subst (λ U. IsIn y U) more i)));
      below = All-set (λ o. IfSome o (λ w. w < contract_count b)) lasts c.leaf-leaf.result (Some c.later-last.result) c.later-last.ensures.below inv.below;
    }
