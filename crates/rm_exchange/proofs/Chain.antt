-- The way along a chain on which the kept removals are mended.
use Rattle.std.proofs.Common.{◌≡◌, ◌∙◌, ℕ, suc, ◌+◌, ◌-◌, ◌<◌, ◌≤◌, List, [], Bool, true, false, not, length, get_or, set, Option, Some, None, ℤ, pos, ◌+ℤ◌, ◌-ℤ◌, ◌≤ℤ◌, refl, sym, ap, subst, ⊎_elim, arith, eqb-true}
use Rattle.std.specs.List.{slice_get}
use Rattle.std.specs.Prelude.{IfSome}
use Rattle.std.proofs.lemmas.Int.{ints}
use Rattle.std.proofs.lemmas.Bool.{not-true, cases_lt}
use Rattle.std.proofs.lemmas.Option.{slice_get-get_or, get_or_from_slice_get}
use Rattle.std.proofs.lemmas.List.{length-set}
use Rattle.rm_sets.specs.Sets.{has}
use Rattle.rm_sets.proofs.Sets.{not_both}
use Rattle.rm_sets.proofs.Members.{IsIn-get_or}
use Rattle.rm_market.specs.Board.{Board, contract_count, leaf_of, node_at, sets_of}
use Rattle.rm_market.specs.Tree.{chain, parent, is_inside}
use Rattle.rm_laminar.specs.Chains.{IsOrderedChain}
use Rattle.rm_laminar.proofs.Laminar.{chain-is, chain-holds}
use Rattle.rm_laminar.proofs.Parents.{splits}
use Rattle.rm_valuation_laws.specs.Changes.{last_step, test_at}
use Rattle.rm_valuation_laws.proofs.Order.{inside_once}
use Rattle.rm_valuation.specs.Counts.{AreCounts}
use Rattle.rm_valuation.proofs.Counted.{count_of}
use Rattle.rm_exchange.specs.declared.removal.Removal.{Removal}
use Rattle.rm_exchange.specs.declared.holding.Holding.{Holding}
use Rattle.rm_exchange.specs.Removals.{IsCheapestOf}
use Rattle.rm_board.specs.TieKeys.{tie_key}
use Rattle.rm_exchange.specs.Entrants.{HasHospitals, IsEntry, IsBestAt}
use Rattle.rm_exchange.specs.declared.leaf.Leaf.{Leaf}
use Rattle.rm_exchange.specs.Leaves.{IsOwnRemovalOf, IsTieOf, AreLeaves}
use Rattle.rm_exchange.proofs.Leaves.{leaf_best, leaf_at}
use Rattle.rm_exchange.specs.Holding.{held_of, held_in, AreEntries, AreNexts, IsKeptSo, IsAllKept, IsKeptBut, IsFurther}
use Rattle.rm_exchange.proofs.Homes.{holds_test, size_below, leaf_test_is}
use Rattle.rm_exchange.proofs.Held.{held_set, held_other}
use Rattle.rm_exchange.proofs.Nexts.{nexts_same}
use Rattle.rm_exchange.proofs.Mending.{InRange, best_at, more_entry, same_entry, first_node, later_in, next_home, is_mended, other_places, put_widths, put_entries, here_mended, all_mended, off_mended}

-- the entries of all nodes are mended but for those from the one before the i-th on in the chain, and this is the cheapest at that one
pub record IsMending (b : Board) (places : List ℕ) (first h : Holding) (x : ℕ) (nodes : List ℕ) (i : ℕ) (best : Option Removal) : Type 0 where
  pub started : 0 < i
  pub kept : IsKeptSo b (is_mended nodes (i - 1)) places h
  pub same : held_in b h ≡ held_in b first
  pub best_is : IsBestAt b (held_in b h) (get_or nodes (i - 1) 0) best

pub is_chain : (b : Board) → HasHospitals b → (x : ℕ) (nodes : List ℕ) → nodes ≡ chain (sets_of b) (leaf_of b x) → IsOrderedChain (sets_of b) (leaf_of b x) nodes
is_chain b plan x nodes e = subst (IsOrderedChain (sets_of b) (leaf_of b x)) (sym e) (chain-is (sets_of b) plan.laminar (leaf_of b x))

other_entries : (b : Board) (test other : ℕ → Bool) (places : List ℕ) (h : Holding) → IsKeptSo b test places h → AreEntries b (held_in b h) other places h.rivals.items → IsKeptSo b other places h
other_entries b test other places h k e = record {
  hospitals = k.hospitals;
  small = k.small;
  all_marked = k.all_marked;
  all_counted = k.all_counted;
  all_nodes = k.all_nodes;
  all_placed = k.all_placed;
  counted = k.counted;
  nexts = k.nexts;
  leaves = k.leaves;
  placed = k.placed;
  entries = e;
}

pub node_of : (b : Board) → HasHospitals b → (x : ℕ) (nodes : List ℕ) (i : ℕ) → nodes ≡ chain (sets_of b) (leaf_of b x) → i < length nodes → get_or nodes i 0 < length b.nodes
node_of b plan x nodes i e lt = (holds_test b (get_or nodes i 0) x (chain-holds (sets_of b) (leaf_of b x) (get_or nodes i 0) nodes (is_chain b plan x nodes e) (IsIn-get_or nodes i 0 lt))).0

pub first_is : (b : Board) → HasHospitals b → (x : ℕ) (nodes : List ℕ) → x < contract_count b → nodes ≡ chain (sets_of b) (leaf_of b x) → get_or nodes 0 0 ≡ leaf_of b x
first_is b plan x nodes lx e = get_or_from_slice_get nodes 0 (leaf_of b x) 0 (first_node b plan x lx nodes (is_chain b plan x nodes e))

pub mending_start : (b : Board) (places : List ℕ) (h : Holding) (x : ℕ) (nodes : List ℕ) (leaf : Leaf) (best : Option Removal) → IsKeptBut b x places h → x < contract_count b → nodes ≡ chain (sets_of b) (leaf_of b x) → leaf ≡ get_or h.leaves.items (leaf_of b x) leaf → ((key : ℕ → ℕ) → IsTieOf key leaf.last leaf.tie → IsOwnRemovalOf key leaf.last best) → IsMending b places h h x nodes 1 best
mending_start b places h x nodes leaf best k lx e at own =
    let plan = k.hospitals in
    let lt = plan.leaf x lx in
    let there = leaf_at b (held_in b h) h.leaves.items (leaf_of b x) leaf k.leaves lt at in
    record {
      started = omega arith;
      kept = other_entries b (λ f. not (test_at b f x)) (is_mended nodes 0) places h k (off_mended b (held_in b h) places h.rivals.items x nodes (is_chain b plan x nodes e) k.entries);
      same = refl;
      best_is = subst (λ w. IsBestAt b (held_in b h) w best) (sym (first_is b plan x nodes lx e))
          (leaf_best b plan (held_in b h) (held_set (contract_count b) h.marks.items) (leaf_of b x) lt leaf there best (own (tie_key b) there.tie));
    }

-- a later node of a chain is no hospital's own
pub later_group : (b : Board) → HasHospitals b → (x : ℕ) (nodes : List ℕ) (i : ℕ) → x < contract_count b → nodes ≡ chain (sets_of b) (leaf_of b x) → 0 < i → i < length nodes → length b.ranks ≤ get_or nodes i 0
later_group b plan x nodes i lx e some lt =
    ⊎_elim
    (λ low.
    let a = get_or nodes i 0 in
    let ch = is_chain b plan x nodes e in
    let test = (holds_test b a x (chain-holds (sets_of b) (leaf_of b x) a nodes ch (IsIn-get_or nodes i 0 lt))).1 in
    let same : leaf_of b x ≡ a = eqb-true (leaf_of b x) a (sym (leaf_test_is b plan a x low) ∙ test) in
    let s = splits (is_inside (sets_of b)) nodes 0 ch.ordered (omega arith) in
    let inside = s.after a (later_in nodes a i 0 lt some refl) in
    let twice : is_inside (sets_of b) a a ≡ true = subst (λ w. is_inside (sets_of b) w a ≡ true) (first_is b plan x nodes lx e ∙ same) inside in
    absurd (inside_once b a a twice twice))
    (λ le. le)
    (cases_lt (get_or nodes i 0) (length b.ranks))

further_entry : (b : Board) (H : List ℕ) (a : ℕ) (best after : Option Removal) (step : ℤ) → a < length b.nodes → step ≡ last_step b H (node_at b a) → InRange step → IsBestAt b H a best → IsFurther best step after → IsEntry b H a after
further_entry b H a None after step la e range best f = subst (λ o. IsEntry b H a o) (sym f) best
further_entry b H a (Some r) after step la e range best f =
    subst (λ o. IsEntry b H a o) (sym (f ∙ ap (λ s. Some (record { contract = r.contract; tie = r.tie; loss = r.loss +ℤ s })) e)) (more_entry b H a r la (subst InRange e range) best)

-- what is the cheapest at the i-th node once the entry of the one before it is put there
mended_best : (b : Board) (places : List ℕ) (first h : Holding) (x : ℕ) (nodes : List ℕ) (j : ℕ) (entry : Option Removal) (rivals : List (List (Option Removal))) (best : Option Removal) → x < contract_count b → nodes ≡ chain (sets_of b) (leaf_of b x) → suc j < length nodes
    → IsKeptSo b (is_mended nodes j) places h → IsEntry b (held_in b h) (get_or nodes j 0) entry → rivals ≡ set h.rivals.items (get_or nodes (suc j) 0) (set (get_or h.rivals.items (get_or nodes (suc j) 0) []) (get_or places (get_or nodes j 0) 0) entry) → IsCheapestOf (get_or rivals (get_or nodes (suc j) 0) []) best
    → (AreEntries b (held_in b h) (is_mended nodes (suc j)) places rivals) × IsBestAt b (held_in b h) (get_or nodes (suc j) 0) best
mended_best b places first h x nodes j entry rivals best lx e lt k own put top =
    let plan = k.hospitals in
    let H = held_in b h in
    let a = get_or nodes (suc j) 0 in
    let inner = get_or nodes j 0 in
    let old = h.rivals.items in
    let la = node_of b plan x nodes (suc j) e lt in
    let le = node_of b plan x nodes j e (omega arith) in
    let all = k.all_nodes in
    let lr : a < length old = omega arith in
    let ch = is_chain b plan x nodes e in
    let home = next_home b plan x nodes ch j (omega arith) ∙ slice_get-get_or nodes (suc j) 0 lt in
    let entries : AreEntries b H (is_mended nodes (suc j)) places rivals = subst (AreEntries b H (is_mended nodes (suc j)) places) (sym put)
    (put_entries b H places old nodes j inner a entry (omega arith) refl home lr le k.placed own k.entries) in
    let same : (c : ℕ) → length (get_or old c []) ≡ length (get_or rivals c []) = λ c. put_widths old a (get_or places inner 0) entry lr c ∙ ap (λ r. length (get_or r c [])) (sym put) in (
      entries,
      best_at b H places (λ c. length (get_or old c [])) rivals a best plan (held_set (contract_count b) h.marks.items) k.placed la (later_group b plan x nodes (suc j) lx e (omega arith) lt) (sym (same a))
          (λ f lf hf. entries f a lf hf (here_mended b plan x nodes ch (suc j) f lt hf)) top,
    )

-- the step that the last contract at a node took
last_is : (b : Board) (H counts : List ℕ) (a : ℕ) (step : ℤ) → AreCounts b H counts → a < length b.nodes → step ≡ get_or (node_at b a).steps (get_or counts a 0 - 1) (pos 0) → step ≡ last_step b H (node_at b a)
last_is b H counts a step counted la is = is ∙ ap (λ c. get_or (node_at b a).steps (c - 1) (pos 0)) (count_of b H counts counted a la)

next_mending : (b : Board) (places : List ℕ) (first h : Holding) (x : ℕ) (nodes : List ℕ) (j : ℕ) (old entry : Option Removal) (next : Holding) (best : Option Removal) (step : ℤ) → x < contract_count b → nodes ≡ chain (sets_of b) (leaf_of b x) → suc j < length nodes
    → IsKeptSo b (is_mended nodes j) places h → held_in b h ≡ held_in b first → IsBestAt b (held_in b h) (get_or nodes j 0) old → next.counts.items ≡ h.counts.items → next.nexts.items ≡ h.nexts.items → next.marks.items ≡ h.marks.items → next.leaves.items ≡ h.leaves.items
    → next.rivals.items ≡ set h.rivals.items (get_or nodes (suc j) 0) (set (get_or h.rivals.items (get_or nodes (suc j) 0) []) (get_or places (get_or nodes j 0) 0) entry) → IsCheapestOf (get_or next.rivals.items (get_or nodes (suc j) 0) []) best
    → step ≡ get_or (node_at b (get_or nodes j 0)).steps (get_or h.counts.items (get_or nodes j 0) 0 - 1) (pos 0) → InRange step → IsFurther old step entry
    → IsKeptSo b (is_mended nodes (suc j)) places next × (held_in b next ≡ held_in b first) × IsBestAt b (held_in b next) (get_or nodes (suc j) 0) best
next_mending b places first h x nodes j old entry next best step lx e lt k held there counts nexts marks leaves put top is range further =
    let plan = k.hospitals in
    let n = contract_count b in
    let H = held_in b h in
    let a = get_or nodes (suc j) 0 in
    let inner = get_or nodes j 0 in
    let same : held_in b next ≡ H = ap (held_of n) marks in
    let la = node_of b plan x nodes (suc j) e lt in
    let li = node_of b plan x nodes j e (omega arith) in
    let all = k.all_nodes in
    let lr : a < length h.rivals.items = omega arith in
    let own = further_entry b H inner old entry step li (last_is b H h.counts.items inner step k.counted li is) range there further in
    let both = mended_best b places first h x nodes j entry next.rivals.items best lx e lt k own put top in (
      record {
        hospitals = plan;
        small = k.small;
        all_marked = ap length marks ∙ k.all_marked;
        all_counted = ap length counts ∙ k.all_counted;
        all_nodes = ap length put ∙ (length-set h.rivals.items a (set (get_or h.rivals.items a []) (get_or places inner 0) entry) ∙ k.all_nodes);
        all_placed = k.all_placed;
        counted = subst (λ S. AreCounts b S next.counts.items) (sym same) (subst (AreCounts b H) (sym counts) k.counted);
        nexts = nexts_same b h.counts.items next.counts.items h.nexts.items next.nexts.items counts nexts k.nexts;
        leaves = subst (λ S. AreLeaves b S next.leaves.items) (sym same) (subst (AreLeaves b H) (sym leaves) k.leaves);
        placed = other_places b (length b.nodes) (λ c. length (get_or h.rivals.items c [])) (λ c. length (get_or next.rivals.items c [])) places (λ c. put_widths h.rivals.items a (get_or places inner 0) entry lr c ∙ ap (λ r. length (get_or r c [])) (sym put)) k.placed;
        entries = subst (λ S. AreEntries b S (is_mended nodes (suc j)) places next.rivals.items) (sym same) both.0;
      },
      same ∙ held,
      subst (λ S. IsBestAt b S a best) (sym same) both.1,
    )

less_one : (i : ℕ) → 0 < i → suc (i - 1) ≡ i
less_one i some = omega arith

one_less : (i : ℕ) → (i + 1) - 1 ≡ i
one_less i = omega arith

-- each node of a chain but the last lies just inside the next one
pub chain_home : (b : Board) → HasHospitals b → (x : ℕ) (nodes : List ℕ) (i : ℕ) → nodes ≡ chain (sets_of b) (leaf_of b x) → 0 < i → i < length nodes → parent (sets_of b) (get_or nodes (i - 1) 0) ≡ Some (get_or nodes i 0)
chain_home b plan x nodes i e some lt =
    next_home b plan x nodes (is_chain b plan x nodes e) (i - 1) (omega arith) ∙ (ap (slice_get nodes) (less_one i some) ∙ slice_get-get_or nodes i 0 lt)

pub mending_step : (b : Board) (places : List ℕ) (first h : Holding) (x : ℕ) (nodes : List ℕ) (i : ℕ) (old entry : Option Removal) (next : Holding) (best : Option Removal) (step : ℤ) → x < contract_count b → nodes ≡ chain (sets_of b) (leaf_of b x) → i < length nodes
    → IsMending b places first h x nodes i old → next.counts.items ≡ h.counts.items → next.nexts.items ≡ h.nexts.items → next.marks.items ≡ h.marks.items → next.leaves.items ≡ h.leaves.items
    → next.rivals.items ≡ set h.rivals.items (get_or nodes i 0) (set (get_or h.rivals.items (get_or nodes i 0) []) (get_or places (get_or nodes (i - 1) 0) 0) entry) → IsCheapestOf (get_or next.rivals.items (get_or nodes i 0) []) best
    → step ≡ get_or (node_at b (get_or nodes (i - 1) 0)).steps (get_or h.counts.items (get_or nodes (i - 1) 0) 0 - 1) (pos 0) → InRange step → IsFurther old step entry → IsMending b places first next x nodes (i + 1) best
mending_step b places first h x nodes i old entry next best step lx e lt m counts nexts marks leaves put top is range further =
    let j = i - 1 in
    let at : suc j ≡ i = less_one i m.started in
    let f = next_mending b places first h x nodes j old entry next best step lx e (subst (λ w. w < length nodes) (sym at) lt) m.kept m.same m.best_is counts nexts marks leaves
    (subst (λ w. next.rivals.items ≡ set h.rivals.items (get_or nodes w 0) (set (get_or h.rivals.items (get_or nodes w 0) []) (get_or places (get_or nodes j 0) 0) entry)) (sym at) put)
    (subst (λ w. IsCheapestOf (get_or next.rivals.items (get_or nodes w 0) []) best) (sym at) top) is range further in
    let to : suc j ≡ (i + 1) - 1 = at ∙ sym (one_less i) in
    record {
      started = omega arith;
      kept = subst (λ w. IsKeptSo b (is_mended nodes w) places next) to f.0;
      same = f.1;
      best_is = subst (λ w. IsBestAt b (held_in b next) (get_or nodes w 0) best) to f.2;
    }

pub mending_end : (b : Board) (places : List ℕ) (first h : Holding) (x : ℕ) (nodes : List ℕ) (i : ℕ) (best : Option Removal) → nodes ≡ chain (sets_of b) (leaf_of b x) → length nodes ≤ i → IsMending b places first h x nodes i best → IsAllKept b places h
mending_end b places first h x nodes i best e end m =
    let some = m.started in
    other_entries b (is_mended nodes (i - 1)) (λ f. true) places h m.kept (all_mended b (held_in b h) places h.rivals.items x nodes (i - 1) m.kept.hospitals (is_chain b m.kept.hospitals x nodes e) (omega arith) m.kept.entries)

-- where the chain has the hospital's node alone, nothing is to be mended
pub mending_none : (b : Board) (places : List ℕ) (h : Holding) (x : ℕ) (nodes : List ℕ) → nodes ≡ chain (sets_of b) (leaf_of b x) → length nodes < 2 → IsKeptBut b x places h → IsAllKept b places h
mending_none b places h x nodes e end k =
    let H = held_in b h in
    let ch = is_chain b k.hospitals x nodes e in
    other_entries b (λ f. not (test_at b f x)) (λ f. true) places h k (all_mended b H places h.rivals.items x nodes 0 k.hospitals ch (omega arith) (off_mended b H places h.rivals.items x nodes ch k.entries))

-- a change at contracts that have the nodes of x
pub changed : (b : Board) (places : List ℕ) (h next : Holding) (x : ℕ) → IsAllKept b places h → length next.marks.items ≡ contract_count b → next.rivals.items ≡ h.rivals.items → length next.counts.items ≡ length b.nodes → AreCounts b (held_in b next) next.counts.items → AreNexts b (λ f. true) next.counts.items next.nexts.items → AreLeaves b (held_in b next) next.leaves.items
    → ((k y : ℕ) → test_at b k x ≡ false → test_at b k y ≡ true → has y (held_in b h) ≡ has y (held_in b next)) → IsKeptBut b x places next
changed b places h next x k marks rivals few counts nexts leaves agree = record {
  hospitals = k.hospitals;
  small = k.small;
  all_marked = marks;
  all_counted = few;
  all_nodes = ap length rivals ∙ k.all_nodes;
  all_placed = k.all_placed;
  counted = counts;
  nexts = nexts;
  leaves = leaves;
  placed = other_places b (length b.nodes) (λ c. length (get_or h.rivals.items c [])) (λ c. length (get_or next.rivals.items c [])) places (λ c. ap (λ r. length (get_or r c [])) (sym rivals)) k.placed;
  entries = λ e a le ha out.
      subst (λ r. IsEntry b (held_in b next) e (get_or (get_or r a []) (get_or places e 0) None)) (sym rivals)
      (same_entry b (held_in b h) (held_in b next) e (get_or (get_or h.rivals.items a []) (get_or places e 0) None) (held_set (contract_count b) h.marks.items).ascending (held_set (contract_count b) next.marks.items).ascending
      (λ y o. agree e y (not-true (test_at b e x) out) o)
      (k.entries e a le ha refl));
}

-- of one mark
pub marked : (b : Board) (places : List ℕ) (h next : Holding) (x : ℕ) (m : Bool) → IsAllKept b places h → x < contract_count b → next.marks.items ≡ set h.marks.items x m → next.rivals.items ≡ h.rivals.items → length next.counts.items ≡ length b.nodes → AreCounts b (held_in b next) next.counts.items → AreNexts b (λ f. true) next.counts.items next.nexts.items → AreLeaves b (held_in b next) next.leaves.items → IsKeptBut b x places next
marked b places h next x m k lx marks rivals few counts nexts leaves =
    changed b places h next x k (ap length marks ∙ (length-set h.marks.items x m ∙ k.all_marked)) rivals few counts nexts leaves
    (λ e y out o. sym (ap (λ l. has y (held_of (contract_count b) l)) marks ∙ held_other (contract_count b) h.marks.items x y m (λ s. not_both (test_at b e x) (subst (λ w. test_at b e w ≡ true) s o) out)))

-- what the cheapest one loses is no large number
pub small_best : (b : Board) (H : List ℕ) (a : ℕ) (best : Option Removal) → length b.nodes < 4294967296 → IsBestAt b H a best → IfSome best (λ r. ((pos 0 -ℤ pos 4400000000000000000) ≤ℤ r.loss) × (r.loss ≤ℤ pos 4400000000000000000))
small_best b H a None small best = tt
small_best b H a (Some r) small best =
    let few = size_below b a in
    let low = best.low in
    let high = best.high in
    (omega (arith, ints), omega (arith, ints))

-- the cheapest at a hospital's node, and at another one, where all is mended
pub kept_leaf : (b : Board) (places : List ℕ) (h : Holding) (a : ℕ) (leaf : Leaf) (best : Option Removal) → IsAllKept b places h → a < length b.ranks → leaf ≡ get_or h.leaves.items a leaf → ((key : ℕ → ℕ) → IsTieOf key leaf.last leaf.tie → IsOwnRemovalOf key leaf.last best) → IsBestAt b (held_in b h) a best
kept_leaf b places h a leaf best k lt at own =
    let there = leaf_at b (held_in b h) h.leaves.items a leaf k.leaves lt at in
    leaf_best b k.hospitals (held_in b h) (held_set (contract_count b) h.marks.items) a lt leaf there best (own (tie_key b) there.tie)

pub kept_best : (b : Board) (places : List ℕ) (h : Holding) (a : ℕ) (best : Option Removal) → IsAllKept b places h → a < length b.nodes → length b.ranks ≤ a → IsCheapestOf (get_or h.rivals.items a []) best → IsBestAt b (held_in b h) a best
kept_best b places h a best k la group top = best_at b (held_in b h) places (λ c. length (get_or h.rivals.items c [])) h.rivals.items a best k.hospitals (held_set (contract_count b) h.marks.items) k.placed la group refl (λ e le ha. k.entries e a le ha refl) top

pub read_best : (rivals : List (List (Option Removal))) (a : ℕ) (there : List (Option Removal)) (best : Option Removal) → there ≡ get_or rivals a there → a < length rivals → IsCheapestOf there best → IsCheapestOf (get_or rivals a []) best
read_best rivals a there best e lt top = subst (λ r. IsCheapestOf r best) (e ∙ Rattle.std.proofs.lemmas.List.get_or_default rivals a there [] lt) top
