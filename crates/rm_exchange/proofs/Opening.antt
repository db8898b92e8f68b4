-- A holder that holds nothing, on the board of a market.
use Rattle.std.proofs.Common.{◌≡◌, ◌∙◌, ℕ, ◌<◌, ◌≤◌, List, [], ◌∷◌, Bool, true, false, length, map, get_or, replicate, Option, None, refl, sym, ap, subst, ⊎_elim, arith, All}
use Rattle.std.specs.Prelude.{◌^◌}
use Rattle.std.proofs.lemmas.Bool.{cases_lt}
use Rattle.std.proofs.lemmas.List.{get_or-replicate, get_or_past, length-replicate, length-map, get_or-map}
use Rattle.std.proofs.lemmas.List.Elements.{All-get_or, All-from_get_or}
use Rattle.rm_sets.specs.Sets.{has, IsIn, IsSet, IsSetBelow}
use Rattle.rm_sets.proofs.Sets.{not_both, same_within, IsSet-nil}
use Rattle.rm_sets.proofs.Members.{not_in_nil, within_nil}
use Rattle.rm_market.specs.Board.{Board, IsBoard, contract_count, leaf_of, node_at, no_node, sets_of, hospital_of, crosses}
use Rattle.rm_market.specs.Best.{best_of, values_of}
use Rattle.rm_market.specs.Tree.{TreeOf, set_of, tree_sets}
use Rattle.rm_market.specs.Tree as tree
use Rattle.rm_laminar.specs.Chains.{IsLaminar}
use Rattle.rm_laminar.proofs.Trees.{tree-length, set-hospital}
use Rattle.rm_board_laws.proofs.Contracts.{pair_in}
use Rattle.rm_valuation_laws.proofs.TieOrder.{place_from_before}
use Rattle.rm_valuation_laws.proofs.Market.{concave_board}
use Rattle.rm_valuation_laws.proofs.Order.{set_is}
use Rattle.rm_valuation_laws.proofs.BestOf.{best_of_is}
use Rattle.rm_valuation.specs.Counts.{AreCounts}
use Rattle.rm_valuation.proofs.Counted.{counted_none}
use Rattle.rm_board.specs.TieKeys.{tie_key}
use Rattle.rm_board.proofs.TieKeys.{key_order}
use Rattle.rm_exchange.specs.declared.removal.Removal.{Removal}
use Rattle.rm_exchange.specs.declared.holding.Holding.{Holding}
use Rattle.rm_exchange.specs.Entrants.{HasHospitals, IsEntry}
use Rattle.rm_exchange.specs.Holding.{held_of, held_in, ArePlacedSo, AreNexts, IsAllKept}
use Rattle.rm_exchange.specs.Leaves.{AreLeaves}
use Rattle.rm_exchange.proofs.Rounds.{none_of_none}
use Rattle.rm_exchange.proofs.Held.{held_set, held_mark}
use Rattle.rm_exchange.proofs.Mending.{other_places}
use Rattle.rm_exchange.proofs.Offered.{valuation}

-- ---- what a tree tells of its board

pub own_nodes : (b : Board) (t : TreeOf) → t.hospitals ≡ length b.ranks → tree.sets_of_tree t ≡ sets_of b → (h : ℕ) → h < length b.ranks → set_of (sets_of b) h ≡ h ∷ []
own_nodes b t hospitals same h lt = ap (λ sets. set_of sets h) (sym same) ∙ set-hospital t.hospitals t.groups h (omega arith)

pub hospitals_first : (b : Board) (t : TreeOf) → t.hospitals ≡ length b.ranks → tree.sets_of_tree t ≡ sets_of b → length b.ranks ≤ length b.nodes
hospitals_first b t hospitals same =
    let l = tree-length t.hospitals t.groups in
    let m = ap length same in
    let k = length-map b.nodes (λ n. n.leaves) in
    omega arith

pub nodes_of : (b : Board) (t : TreeOf) (n : ℕ) → t.hospitals ≡ length b.ranks → tree.sets_of_tree t ≡ sets_of b → n ≡ length (tree.sets_of_tree t) → (length b.ranks ≤ length b.nodes) × (n ≡ length b.nodes)
nodes_of b t n hospitals same e =
    let m = ap length same in
    let k = length-map b.nodes (λ n. n.leaves) in
    (hospitals_first b t hospitals same, omega arith)

pub few_widths : (b : Board) (m : ℕ) (widths places : List ℕ) → m ≡ length b.nodes → m < 4294967296 → ArePlacedSo b (length b.nodes) widths places → All (λ w. w < 2 ^ 40) widths
few_widths b m widths places em lm s = All-from_get_or (λ w. w < 2 ^ 40) widths 0 (λ a lt. let f = s.few a in omega arith)

pub zeros : (n : ℕ) (a : ℕ) → get_or {A = ℕ} (replicate n 0) a 0 ≡ 0
zeros n a = ⊎_elim (λ lt. get_or-replicate n a none none lt) (λ ge. get_or_past (replicate n none) a none (let l = length-replicate n none in omega arith)) (cases_lt a n)
  where
    none : ℕ
    none = 0

-- ---- a market's board

laminar : (doctors : ℕ) (b : Board) → IsBoard doctors b → IsLaminar (sets_of b)
laminar doctors b ok = record {
  are_sets = λ k. subst IsSet (sym (set_is b k)) (each k);
  apart = λ i j lt lj. ap (λ A. crosses A (set_of (sets_of b) j)) (set_is b i) ∙ (ap (crosses (node_at b i).leaves) (set_is b j) ∙ ok.laminar i j no_node lt (let e = length-map b.nodes (λ n. n.leaves) in omega arith));
}
  where
    each : (k : ℕ) → IsSet (node_at b k).leaves
    each k =
        ⊎_elim
        (λ lt. All-get_or (λ n. IsSet n.leaves) b.nodes k no_node lt ok.sets)
        (λ ge. subst (λ n. IsSet n.leaves) (sym (get_or_past b.nodes k no_node ge)) IsSet-nil)
        (cases_lt k (length b.nodes))

-- of two contracts with one leaf the lower number has the smaller tie key
agrees : (doctors : ℕ) (b : Board) → IsBoard doctors b → (x y : ℕ) → x < y → y < contract_count b → leaf_of b x ≡ leaf_of b y → tie_key b x < tie_key b y
agrees doctors b ok x y lt ly same =
    let lx : x < contract_count b = omega arith in
    let n = ok.hospitals (hospital_of b x) (let below = (pair_in 0 b.ranks x lx).1 in omega arith) in
    let mine : IsIn (leaf_of b x) n.1.leaves = (n.3 x lx).1 refl in
    let other : hospital_of b y ≡ hospital_of b x = (n.3 y ly).0 (subst (λ w. IsIn w n.1.leaves) same mine) in
    (key_order b (λ z lz. (ok.ties.all z).1 lz) x y lx ly).1 (place_from_before x y b.ties ok.ties.once (ok.ties.agrees x y lt ly (sym other)))

pub has_hospitals : (doctors : ℕ) (b : Board) → IsBoard doctors b → length b.ranks ≤ length b.nodes → ((h : ℕ) → h < length b.ranks → set_of (sets_of b) h ≡ h ∷ []) → ((x : ℕ) → x < contract_count b → leaf_of b x < length b.ranks) → HasHospitals b
has_hospitals doctors b ok nodes own leaf = record { concave = concave_board doctors b ok; laminar = laminar doctors b ok; leaves = ok.leaves; nodes = nodes; own = own; leaf = leaf; agrees = agrees doctors b ok }

-- ---- nothing held

pub none_held : (n : ℕ) (marks : List Bool) → marks ≡ replicate n false → held_of n marks ≡ []
none_held n marks e =
    same_within (held_of n marks) [] (held_set n marks).ascending IsSet-nil
    (λ x inH. absurd (not_both (has x (held_of n marks)) inH
    (held_mark n marks x ((held_set n marks).below x inH) ∙ (ap (λ m. get_or m x false) e ∙ get_or-replicate n x false false ((held_set n marks).below x inH)))))
    (within_nil (held_of n marks))

pub none_best : (b : Board) (H : List ℕ) → HasHospitals b → H ≡ [] → best_of (values_of b) H ≡ H
none_best b H plan e =
    let sN : IsSetBelow (contract_count b) [] = record { ascending = IsSet-nil; below = λ x i. absurd (not_in_nil x i) } in
    let best = best_of_is (contract_count b) (values_of b) [] (valuation b plan) sN in
    ap (best_of (values_of b)) e ∙ (same_within (best_of (values_of b) []) [] best.set IsSet-nil best.within (within_nil (best_of (values_of b) [])) ∙ sym e)

pub opened : (b : Board) (places widths : List ℕ) (h : Holding) → HasHospitals b → length b.nodes < 4294967296 → length widths ≡ length b.nodes → ArePlacedSo b (length b.nodes) widths places
    → h.counts.items ≡ replicate (length b.nodes) 0 → AreNexts b (λ k. true) h.counts.items h.nexts.items → h.marks.items ≡ replicate (contract_count b) false → AreLeaves b [] h.leaves.items → h.rivals.items ≡ map (λ width. replicate width None) widths → IsAllKept b places h
opened b places widths h plan small wide s counts nexts marks leaves rivals =
    let none = none_held (contract_count b) h.marks.items marks in
    record {
      hospitals = plan;
      small = small;
      all_marked = ap length marks ∙ length-replicate (contract_count b) false;
      all_counted = ap length counts ∙ length-replicate (length b.nodes) 0;
      all_nodes = ap length rivals ∙ (length-map widths (λ width. replicate width None) ∙ wide);
      all_placed = s.all;
      counted = subst (λ S. AreCounts b S h.counts.items) (sym none) (counted_none b h.counts.items (ap length counts ∙ length-replicate (length b.nodes) 0) (λ k lt. ap (λ l. get_or l k 0) counts ∙ zeros (length b.nodes) k));
      nexts = nexts;
      leaves = subst (λ S. AreLeaves b S h.leaves.items) (sym none) leaves;
      placed = other_places b (length b.nodes) (λ a. get_or widths a 0) (λ a. length (get_or h.rivals.items a [])) places (λ a. sym (ap length (empty_at a) ∙ length-replicate (get_or widths a 0) nobody)) s.placed;
      entries = λ e a le ha all.
          subst (λ o. IsEntry b (held_in b h) e o) (sym (ap (λ l. get_or l (get_or places e 0) None) (empty_at a) ∙ none_of_none (get_or widths a 0) (get_or places e 0)))
          (nothing e none);
    }
  where
    nobody : Option Removal
    nobody = None

    empty_at : (a : ℕ) → get_or h.rivals.items a [] ≡ replicate (get_or widths a 0) None
    empty_at a =
        ap (λ r. get_or r a []) rivals
        ∙ ⊎_elim
        (λ lt. get_or-map (λ width. replicate width None) widths a 0 [] lt)
        (λ ge. get_or_past (map (λ width. replicate width None) widths) a [] (let l = length-map widths (λ (width : ℕ). replicate {A = Option Removal} width None) in omega arith) ∙ ap (λ w. replicate {A = Option Removal} w None) (sym (get_or_past widths a 0 ge)))
        (cases_lt a (length widths))

    nothing : (e : ℕ) → held_in b h ≡ [] → IsEntry b (held_in b h) e None
    nothing e none = λ y inH. absurd (not_in_nil y (subst (λ S. IsIn y S) none inH))
