-- An offer to a hospital whose own node is full: the last contract there gives way, or the offer is refused.
use Rattle.std.proofs.Common.{◌≡◌, ◌∙◌, ℕ, ◌<◌, ◌≤◌, ◌-ℤ◌, ◌<ℤ◌, ◌⊎◌, List, [], ◌∷◌, true, false, map, length, get_or, count_by, Option, Some, None, pos, refl, sym, ap, subst, inr, arith}
use Rattle.std.specs.Prelude.{IfSome}
use Rattle.std.specs.BinaryHeap.{heap_items, heap_len}
use Rattle.std.proofs.lemmas.Int.{ints}
use Rattle.std.proofs.lemmas.Option.{slice_get_within}
use Rattle.rm_sets.specs.Sets.{has, IsIn, IsSet, IsSetBelow, with_one, without}
use Rattle.rm_sets.proofs.Sets.{not_both}
use Rattle.rm_market.specs.Board.{Node, Board, contract_count, leaf_of, node_at, sets_of, count}
use Rattle.rm_market.specs.Best.{IsBest, values_of, swapped}
use Rattle.rm_market.specs.Tree.{chain}
use Rattle.rm_board.specs.TieKeys.{tie_key}
use Rattle.rm_valuation_laws.specs.Changes.{in_node, test_at}
use Rattle.rm_valuation_laws.specs.Offers.{IsFull}
use Rattle.rm_valuation_laws.proofs.Counts.{one, count_all, count-with_one, count-without}
use Rattle.rm_valuation_laws.proofs.Moves.{without_other, swapped_other, apart}
use Rattle.rm_valuation.specs.Counts.{AreCounts}
use Rattle.rm_exchange.specs.declared.removal.Removal.{Removal}
use Rattle.rm_exchange.specs.declared.prospects.Swap.{Swap}
use Rattle.rm_exchange.specs.declared.prospects.Prospects.{Prospects}
use Rattle.rm_exchange.specs.declared.leaf.Leaf.{Leaf}
use Rattle.rm_exchange.specs.declared.holding.Holding.{Holding}
use Rattle.rm_exchange.specs.Entrants.{HasHospitals, IsBestAt}
use Rattle.rm_exchange.specs.Leaves.{own_removal, IsOwnRemovalOf, IsLeafOf, AreLeaves}
use Rattle.rm_exchange.proofs.Nexts.{nexts_same}
use Rattle.rm_exchange.specs.Holding.{held_in, IsLastHeld, IsAllKept, IsKeptBut, IsHolding}
use Rattle.rm_exchange.specs.Prospects.{IsRated, IsRefusing, AreProspects}
use Rattle.rm_exchange.proofs.Held.{held_set}
use Rattle.rm_exchange.proofs.Mending.{first_node}
use Rattle.rm_exchange.proofs.Leaves.{leaf_at, later_tie, leaf_best, last_held}
use Rattle.rm_exchange.proofs.Chain.{is_chain, first_is, changed}
use Rattle.rm_exchange.proofs.Walked.{walk_start, walked_swap, walk_full}
use Rattle.rm_exchange.proofs.Deciding.{swapped_best, refused_best}
use Rattle.rm_exchange.proofs.Offered.{offered}

-- ---- the decision

pub leaf_full : (b : Board) (H : List ℕ) (h : ℕ) (leaf : Leaf) → IsLeafOf b H h leaf → leaf.cap ≤ heap_len leaf.held → IsFull b H (node_at b h)
leaf_full b H h leaf k full =
    let long = leaf.held.data.ok.0 in
    let all = count_all (heap_items leaf.held) in
    let same : count_by (λ z. true) (heap_items leaf.held) ≡ count_by (test_at b h) H = k.same (λ z. true) in
    let cap = k.cap in
    omega arith

-- the walk ends at once, at the hospital's own node
full_prospects : (b : Board) → HasHospitals b → (H : List ℕ) → IsSet H → (x : ℕ) → x < contract_count b → (o : Option Removal) (swap : Option Swap) → IsBestAt b H (leaf_of b x) o → IsRated (pos 0) o swap → IsFull b H (node_at b (leaf_of b x)) → AreProspects b H x (record { swap = swap; addition = None })
full_prospects b plan H sH x lx o swap best rated full =
    let nodes = chain (sets_of b) (leaf_of b x) in
    let ch = is_chain b plan x nodes refl in
    let at : get_or nodes 0 0 ≡ leaf_of b x = first_is b plan x nodes lx refl in
    let some = slice_get_within nodes 0 (leaf_of b x) (first_node b plan x lx nodes ch) in
    let start = walk_start b H x nodes in
    walk_full b plan H x lx nodes ch 0 some (pos 0) None swap start
    (walked_swap b plan H sH x lx nodes ch 0 some (pos 0) None o swap start (subst (λ a. IsBestAt b H a o) (sym at) best) rated)
    (subst (λ a. IsFull b H (node_at b a)) (sym at) full)

-- what is kept of the hospital of x, which is full
pub record IsFullLeaf (b : Board) (H : List ℕ) (x : ℕ) (leaf : Leaf) : Type 0 where
  pub kept : IsLeafOf b H (leaf_of b x) leaf
  pub full : IsFull b H (node_at b (leaf_of b x))

pub leaf_of_full : (b : Board) (h : Holding) (x at : ℕ) (leaf : Leaf) → AreLeaves b (held_in b h) h.leaves.items → at ≡ leaf_of b x → at < length b.ranks → leaf ≡ get_or h.leaves.items at leaf → IsFull b (held_in b h) (node_at b (leaf_of b x)) → IsFullLeaf b (held_in b h) x leaf
leaf_of_full b h x at leaf leaves is lt there full = record { kept = subst (λ a. IsLeafOf b (held_in b h) a leaf) is (leaf_at b (held_in b h) h.leaves.items at leaf leaves lt there); full = full }

abbrev own_swap : (ℕ → ℕ) → ℕ → Swap
own_swap key z = record { contract = z; tie = key z; change = pos 0 -ℤ pos 0 }

-- no contract there, or one that comes before x
pub full_refused : (b : Board) (places : List ℕ) (h : Holding) (x : ℕ) (leaf : Leaf) → IsHolding b places h → x < contract_count b → has x (held_in b h) ≡ false → IsFullLeaf b (held_in b h) x leaf → IfSome leaf.last (λ z. z < x) → IsBest (values_of b) (with_one (held_in b h) x) (held_in b h)
full_refused b places h x leaf ready lx new k = by_last leaf.last refl
  where
    H : List ℕ
    H = held_in b h

    sH : IsSetBelow (contract_count b) H
    sH = held_set (contract_count b) h.marks.items

    plan : HasHospitals b
    plan = ready.kept.hospitals

    refused : (p : Prospects) → AreProspects b H x p → IsRefusing p (tie_key b x) → IsBest (values_of b) (with_one H x) H
    refused p prospects r = refused_best b H x p (offered b places h x p ready lx new prospects) (tie_key b x) refl r

    best : (last : Option ℕ) → leaf.last ≡ last → (o : Option Removal) → IsOwnRemovalOf (tie_key b) last o → IsBestAt b H (leaf_of b x) o
    best last e o own = leaf_best b plan H sH (leaf_of b x) (plan.leaf x lx) leaf k.kept o (subst (λ l. IsOwnRemovalOf (tie_key b) l o) (sym e) own)

    by_last : (last : Option ℕ) → leaf.last ≡ last → IfSome last (λ z. z < x) → IsBest (values_of b) (with_one H x) H
    by_last None e up =
        refused (record { swap = None; addition = None }) (full_prospects b plan H sH.ascending x lx None None (best None e None refl) refl k.full)
        (λ change a. absurd (cc), λ s a. absurd (cc))
    by_last (Some z) e up =
        let last = last_held b plan H (leaf_of b x) (plan.leaf x lx) leaf k.kept z e in
        let le = later_tie b plan z x lx last.leaf (omega (arith, up)) in
        refused (record { swap = Some (own_swap (tie_key b) z); addition = None })
        (full_prospects b plan H sH.ascending x lx (Some (own_removal (tie_key b) z)) (Some (own_swap (tie_key b) z)) (best (Some z) e (Some (own_removal (tie_key b) z)) refl) refl k.full)
        (λ change a. absurd (cc), λ s a. no_gain s (let same : own_swap (tie_key b) z ≡ s = cc in same) le)
      where
        no_gain : (s : Swap) → own_swap (tie_key b) z ≡ s → tie_key b z ≤ tie_key b x → (s.change <ℤ pos 0) ⊎ ((s.change ≡ pos 0) × (s.tie ≤ tie_key b x))
        no_gain s same le = subst (λ s. (s.change <ℤ pos 0) ⊎ ((s.change ≡ pos 0) × (s.tie ≤ tie_key b x))) same (inr (omega (arith, ints), le))

-- the last contract there comes after x
pub full_swapped : (b : Board) (places : List ℕ) (h : Holding) (x z : ℕ) (leaf : Leaf) → IsHolding b places h → x < contract_count b → has x (held_in b h) ≡ false → IsFullLeaf b (held_in b h) x leaf → leaf.last ≡ Some z → x ≤ z → IsBest (values_of b) (with_one (held_in b h) x) (swapped (held_in b h) x z)
full_swapped b places h x z leaf ready lx new k e le =
    let H = held_in b h in
    let sH = held_set (contract_count b) h.marks.items in
    let plan = ready.kept.hospitals in
    let last = last_held b plan H (leaf_of b x) (plan.leaf x lx) leaf k.kept z e in
    let ne = apart H z x last.held new in
    let lt : x < z = omega arith in
    let first = plan.agrees x z lt (sH.below z last.held) (sym last.leaf) in
    let best = leaf_best b plan H sH (leaf_of b x) (plan.leaf x lx) leaf k.kept (Some (own_removal (tie_key b) z)) (subst (λ l. IsOwnRemovalOf (tie_key b) l (Some (own_removal (tie_key b) z))) (sym e) refl) in
    let p : Prospects = record { swap = Some (own_swap (tie_key b) z); addition = None } in
    let prospects = full_prospects b plan H sH.ascending x lx (Some (own_removal (tie_key b) z)) (Some (own_swap (tie_key b) z)) best refl k.full in
    (swapped_best b H x p (offered b places h x p ready lx new prospects) (tie_key b x) refl z (own_swap (tie_key b) z, refl, refl, inr (omega (arith, ints), first), λ change a. absurd (cc))).1

-- ---- what is kept

-- one contract in the place of another of the same leaf: no count changes
same_count : (b : Board) (H : List ℕ) (x z : ℕ) (n : Node) → IsSet H → IsIn z H → has x H ≡ false → leaf_of b z ≡ leaf_of b x → count b n.leaves H ≡ count b n.leaves (swapped H x z)
same_count b H x z n sH inz new same =
    let less = count-without (in_node b n) H z sH inz in
    let more = count-with_one (in_node b n) (without H z) x (without_other H z x (λ e. apart H z x inz new (sym e)) ∙ new) in
    let one_leaf : one (in_node b n z) ≡ one (in_node b n x) = ap (λ l. one (has l n.leaves)) same in
    omega arith

same_counts : (b : Board) (H counts : List ℕ) (x z : ℕ) → IsSet H → IsIn z H → has x H ≡ false → leaf_of b z ≡ leaf_of b x → AreCounts b H counts → AreCounts b (swapped H x z) counts
same_counts b H counts x z sH inz new same counted = all b.nodes ∙ counted
  where
    all : (nodes : List Node) → map (λ n. count b n.leaves (swapped H x z)) nodes ≡ map (λ n. count b n.leaves H) nodes
    all [] = refl
    all (n ∷ nodes) = ap (λ c. c ∷ map (λ n. count b n.leaves (swapped H x z)) nodes) (sym (same_count b H x z n sH inz new same)) ∙ ap (λ L. count b n.leaves H ∷ L) (all nodes)

-- the rivals are to be mended along the one chain
pub exchanged : (b : Board) (places : List ℕ) (h next : Holding) (x z : ℕ) → IsAllKept b places h → has x (held_in b h) ≡ false → IsLastHeld b (held_in b h) (leaf_of b x) z → length next.marks.items ≡ length h.marks.items → held_in b next ≡ swapped (held_in b h) x z
    → next.counts.items ≡ h.counts.items → next.nexts.items ≡ h.nexts.items → next.rivals.items ≡ h.rivals.items → AreLeaves b (swapped (held_in b h) x z) next.leaves.items → IsKeptBut b z places next
exchanged b places h next x z k new last marks held counts nexts rivals leaves =
    let H = held_in b h in
    let sH = (held_set (contract_count b) h.marks.items).ascending in
    changed b places h next z k (marks ∙ k.all_marked) rivals (ap length counts ∙ k.all_counted)
    (subst (λ S. AreCounts b S next.counts.items) (sym held) (subst (AreCounts b (swapped H x z)) (sym counts) (same_counts b H h.counts.items x z sH last.held new last.leaf k.counted)))
    (nexts_same b h.counts.items next.counts.items h.nexts.items next.nexts.items counts nexts k.nexts)
    (subst (λ S. AreLeaves b S next.leaves.items) (sym held) leaves)
    (λ e y out o. sym (ap (has y) held ∙ swapped_other H z x y
    (λ same. not_both (test_at b e z) (subst (λ w. test_at b e w ≡ true) same o) out)
    (λ same. not_both (test_at b e z) (ap (λ l. has l (node_at b e).leaves) (last.leaf ∙ sym (ap (leaf_of b) same)) ∙ o) out)))
