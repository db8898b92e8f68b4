use Rattle.std.proofs.Common.{◌≡◌, ◌∙◌, ◌+◌, [], ◌∷◌, None, arith, ap, refl, length}
use Rattle.std.specs.BinaryHeap.{heap_capacity}
use Rattle.std.proofs.lemmas.List.{get_or_default, length-append}
use Rattle.rm_exchange.specs.declared.leaf.Leaf.{Leaf}
use Rattle.rm_exchange.specs.Leaves.{room_at, IsLeafOf}
use Rattle.rm_exchange.proofs.Opening.{hospitals_first}
use Rattle.rm_exchange.proofs.Leaves.{empty_leaf, leaves_more}
use Rattle.rm_exchange.proofs.leaf.empty_leaves.Goals as goal

pub steps-requires : goal.steps-requires
steps-requires c =
    let first = hospitals_first c.args.board.now c.tree-tree.result.now c.tree-tree.ensures.hospitals c.tree-tree.ensures.sets in
    let lt = c.loop-h-test.true in
    let end = c.hospitals-h-end.ensures in
    let all = c.tree-tree.ensures.hospitals in
    omega arith

pub loop-h-preserved : goal.loop-h-preserved
loop-h-preserved c =
    let b = c.args.board.now in
    let h = c.loop-h.h in
    let lt = c.loop-h-test.true in
    let end = c.hospitals-h-end.ensures in
    let all = c.tree-tree.ensures.hospitals in
    let wide = c.in_ok-counts.ensures.wide in
    let counted = c.in_ok-counts.ensures.counts h (omega arith) in
    let read = c.index.ensures ∙ get_or_default c.in_ok-counts.counts.items h c.index.result.now 0 (omega arith) in
    let least = c.min-room.ensures in
    let capped = c.cap-cap.ensures.cap ∙ ap length c.steps.ensures in
    let exact = c.in_ok-held.ensures.exact in
    let leaf : Leaf = record { held = c.in_ok-held.held; cap = c.cap-cap.result; last = None; tie = 0 } in
    let room : heap_capacity c.in_ok-held.held ≡ room_at b h = omega arith in
    let new : IsLeafOf b [] h leaf = empty_leaf b h leaf c.in_ok-held.ensures.items room capped refl (c.in_ok-held.ensures.heap_order) in
    record {
      all = ap length c.in_ok-push.ensures.items ∙ (length-append c.loop-h.leaves.items (leaf ∷ []) ∙ ap (λ n. n + 1) c.loop-h.invariant.all);
      each = leaves_more (IsLeafOf b []) h c.loop-h.leaves.items c.push.new.self.items leaf c.in_ok-push.ensures.items c.loop-h.invariant.all c.loop-h.invariant.each new;
      room = leaves_more (λ k l. heap_capacity l.held ≡ room_at b k) h c.loop-h.leaves.items c.push.new.self.items leaf c.in_ok-push.ensures.items c.loop-h.invariant.all c.loop-h.invariant.room room;
    }

pub returns-clause-none : goal.returns-clause-none
returns-clause-none c =
    let past = c.loop-h-test.false in
    let end = c.hospitals-h-end.ensures in
    let all = c.tree-tree.ensures.hospitals in
    let auto = c.loop-h.auto.h-end in
    let long = c.loop-h.invariant.all in
    record { all = omega arith; each = λ h d lt. c.loop-h.invariant.each h d (omega arith) }
