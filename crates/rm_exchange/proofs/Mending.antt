-- The cheapest held contracts, mended along the chain of a contract that comes or goes.
use Rattle.std.proofs.Common.{◌≡◌, ◌≢◌, ◌∙◌, ℕ, suc, ◌+◌, ◌-◌, ◌<◌, ◌≤◌, List, [], ◌∷◌, Bool, true, false, not, length, get_or, set, drop, Option, Some, None, ℤ, pos, ◌+ℤ◌, ◌-ℤ◌, ◌≤ℤ◌, refl, sym, ap, subst, inl, inr, ⊎_elim, arith, add-one}
use Rattle.std.specs.List.{slice_get}
use Rattle.std.proofs.lemmas.Int.{ints}
use Rattle.std.proofs.lemmas.Bool.{cases_eq, cases_Bool, not-true, not_from_false}
use Rattle.std.proofs.lemmas.List.{get_or-drop, get_or-set_same, get_or-set_other, length-drop, length-set}
use Rattle.std.proofs.lemmas.Option.{slice_get-get_or, slice_get_within, get_or_from_slice_get}
use Rattle.std.proofs.Math.Seq.{drop-cons}
use Rattle.rm_sets.specs.Sets.{has, IsIn, IsSet, IsSetBelow}
use Rattle.rm_sets.proofs.Sets.{not_both, IsIn-cases}
use Rattle.rm_sets.proofs.Members.{IsIn-get_or, place_from_IsIn, not_in_from}
use Rattle.rm_market.specs.Board.{Board, contract_count, leaf_of, node_at, sets_of}
use Rattle.rm_market.specs.Tree.{is_inside, parent}
use Rattle.rm_laminar.specs.Chains.{IsOrderedChain}
use Rattle.rm_laminar.proofs.Laminar.{chain-holds, holds-chain}
use Rattle.rm_laminar.proofs.Parents.{splits, parent-next}
use Rattle.rm_board.specs.TieKeys.{tie_key}
use Rattle.rm_valuation_laws.specs.Changes.{last_step, test_at}
use Rattle.rm_valuation_laws.specs.Order.{is_under}
use Rattle.rm_valuation_laws.proofs.Order.{inside_once, under_tests}
use Rattle.rm_valuation_laws.proofs.Cheapest.{loss_agree}
use Rattle.rm_exchange.specs.declared.removal.Removal.{Removal}
use Rattle.rm_exchange.specs.Removals.{IsNoDearer, IsCheapestOf}
use Rattle.rm_exchange.specs.Entrants.{HasHospitals, inner_cost, whole_cost, ComesFirstOf, IsEntry, IsBestAt}
use Rattle.rm_exchange.specs.Holding.{ArePlaced, AreEntries}
use Rattle.rm_exchange.proofs.Inner.{upto_own}
use Rattle.rm_exchange.proofs.Homes.{holds_from, holds_test, at_home, inner_node, leaf_test, nothing_inside}

pub comes_first_trans : (l : ℤ) (t : ℕ) (m : ℤ) (u : ℕ) (n : ℤ) (v : ℕ) → ComesFirstOf l t m u → ComesFirstOf m u n v → ComesFirstOf l t n v
comes_first_trans l t m u n v p q = grind (arith, ints)

-- ---- the cheapest at a node, from the nodes just inside

abbrev entry_at : List (List (Option Removal)) → List ℕ → ℕ → ℕ → Option Removal
entry_at rivals places e a = get_or (get_or rivals a []) (get_or places e 0) None

pub best_at : (b : Board) (H places : List ℕ) (width : ℕ → ℕ) (rivals : List (List (Option Removal))) (a : ℕ) (o : Option Removal) → HasHospitals b → IsSetBelow (contract_count b) H → ArePlaced b (length b.nodes) width places → a < length b.nodes → length b.ranks ≤ a → length (get_or rivals a []) ≡ width a →
    ((c : ℕ) → c < length b.nodes → parent (sets_of b) c ≡ Some a → IsEntry b H c (entry_at rivals places c a)) → IsCheapestOf (get_or rivals a []) o → IsBestAt b H a o
best_at b H places width rivals a None plan sH placed la group wide right none = λ y inH.
    ⊎_elim
    (λ t.
    let c = inner_node b plan a y la group (sH.below y inH) t in
    absurd (not_both (test_at b c.0 y) c.3 (empty c.0 (right c.0 c.1 c.2) (none (get_or places c.0 0)) y inH)))
    (λ f. f)
    (cases_Bool (test_at b a y))
  where
    empty : (c : ℕ) → {o : Option Removal} → IsEntry b H c o → o ≡ None → (y : ℕ) → IsIn y H → test_at b c y ≡ false
    empty c {o} entry same = let P : Option Removal → Type 0 = IsEntry b H c in subst P same entry
best_at b H places width rivals a (Some best) plan sH placed la group wide right top =
    let i = top.rival in
    let c = placed.filled a i.0 la (subst (λ w. i.0 < w) wide i.1) in
    let mine : IsEntry b H c.0 (Some best) = subst (IsEntry b H c.0) (ap (λ k. get_or (get_or rivals a []) k None) c.3 ∙ i.2) (right c.0 c.1 c.2) in
    let here = at_home b plan c.0 a best.contract c.1 c.2 mine.passes in
    let bigger = here.smaller in
    let low = mine.low in
    let high = mine.high in
    record {
      held = mine.held;
      passes = here.inside;
      tie = mine.tie;
      loss = mine.loss ∙ sym (here.lost H);
      least = λ y inH t.
          let f = inner_node b plan a y la group (sH.below y inH) t in
          let there = at_home b plan f.0 a y f.1 f.2 f.3 in
          subst (λ l. ComesFirstOf (inner_cost b H a best.contract) (tie_key b best.contract) l (tie_key b y)) (sym (there.lost H))
          (subst (λ l. ComesFirstOf l (tie_key b best.contract) (whole_cost b H f.0 y) (tie_key b y)) (mine.loss ∙ sym (here.lost H))
          (subst (λ t. ComesFirstOf best.loss t (whole_cost b H f.0 y) (tie_key b y)) mine.tie
          (rival f.0 y inH f.3 (entry_at rivals places f.0 a) refl (right f.0 f.1 f.2))));
      low = omega (arith, ints);
      high = omega (arith, ints);
    }
  where
    rival : (c y : ℕ) → IsIn y H → test_at b c y ≡ true → (o : Option Removal) → entry_at rivals places c a ≡ o → IsEntry b H c o → ComesFirstOf best.loss best.tie (whole_cost b H c y) (tie_key b y)
    rival c y inH o None same entry = absurd (not_both (test_at b c y) o (entry y inH))
    rival c y inH o (Some s) same entry =
        let first : IsNoDearer best s = top.least (get_or places c 0) s same in
        comes_first_trans best.loss best.tie s.loss s.tie (whole_cost b H c y) (tie_key b y) first
        (subst (λ l. ComesFirstOf l s.tie (whole_cost b H c y) (tie_key b y)) (sym entry.loss) (subst (λ t. ComesFirstOf (whole_cost b H c s.contract) t (whole_cost b H c y) (tie_key b y)) (sym entry.tie) (entry.least y inH o)))

-- ---- the entry of one node

abbrev pub InRange : ℤ → Type 0
InRange z = ((pos 0 -ℤ pos 1000000000) ≤ℤ z) × (z ≤ℤ pos 1000000000)

-- what competes one node further out
pub more_entry : (b : Board) (H : List ℕ) (c : ℕ) (r : Removal) → c < length b.nodes → InRange (last_step b H (node_at b c)) → IsBestAt b H c (Some r) → IsEntry b H c (Some (record { contract = r.contract; tie = r.tie; loss = r.loss +ℤ last_step b H (node_at b c) }))
more_entry b H c r lc range best =
    let s = last_step b H (node_at b c) in
    let low = best.low in
    let high = best.high in
    let cost_is : (z : ℕ) → test_at b c z ≡ true → inner_cost b H c z +ℤ s ≡ whole_cost b H c z = λ z t. sym (upto_own b H c z lc t) in
    record {
      held = best.held;
      passes = best.passes;
      tie = best.tie;
      loss = ap (λ l. l +ℤ s) best.loss ∙ cost_is r.contract best.passes;
      least = λ y inH t.
          more (inner_cost b H c r.contract) (tie_key b r.contract) (inner_cost b H c y) (tie_key b y) s (whole_cost b H c r.contract) (whole_cost b H c y) (cost_is r.contract best.passes) (cost_is y t) (best.least y inH t);
      low = omega (arith, ints, range.0);
      high = omega (arith, ints, range.1);
    }
  where
    more : (l : ℤ) (t : ℕ) (m : ℤ) (u : ℕ) (s l2 m2 : ℤ) → l +ℤ s ≡ l2 → m +ℤ s ≡ m2 → ComesFirstOf l t m u → ComesFirstOf l2 t m2 u
    more l t m u s l2 m2 e f (inl lt) = inl (omega (arith, ints))
    more l t m u s l2 m2 e f (inr tie) = inr (sym e ∙ (ap (λ w. w +ℤ s) tie.0 ∙ f), tie.1)

-- ---- an entry depends on what is held of its node alone

same_cost : (b : Board) (H K : List ℕ) (c z : ℕ) → IsSet H → IsSet K → ((y : ℕ) → test_at b c y ≡ true → has y H ≡ has y K) → whole_cost b H c z ≡ whole_cost b K c z
same_cost b H K c z sH sK agree = loss_agree b (is_under b) H K c z sH sK agree (λ j lj u. under_tests b j c u)

pub same_entry : (b : Board) (H K : List ℕ) (c : ℕ) (o : Option Removal) → IsSet H → IsSet K → ((y : ℕ) → test_at b c y ≡ true → has y H ≡ has y K) → IsEntry b H c o → IsEntry b K c o
same_entry b H K c None sH sK agree none = λ y inK. ⊎_elim (λ t. absurd (not_both (test_at b c y) t (none y (agree y t ∙ inK)))) (λ f. f) (cases_Bool (test_at b c y))
same_entry b H K c (Some r) sH sK agree entry = record {
  held = sym (agree r.contract entry.passes) ∙ entry.held;
  passes = entry.passes;
  tie = entry.tie;
  loss = entry.loss ∙ same_cost b H K c r.contract sH sK agree;
  least = λ y inK t.
      subst (λ l. ComesFirstOf (whole_cost b K c r.contract) (tie_key b r.contract) l (tie_key b y)) (same_cost b H K c y sH sK agree)
      (subst (λ l. ComesFirstOf l (tie_key b r.contract) (whole_cost b H c y) (tie_key b y)) (same_cost b H K c r.contract sH sK agree) (entry.least y (agree y t ∙ inK) t));
  low = entry.low;
  high = entry.high;
}

-- ---- the nodes of one contract, innermost first

-- a later one of a list is among those that follow
pub later_in : (L : List ℕ) (y j i : ℕ) → j < length L → i < j → get_or L j 0 ≡ y → IsIn y (drop (suc i) L)
later_in L y j i lt after e =
    let long = length-drop (suc i) L in
    let k = j - suc i in
    let is : suc i + k ≡ j = omega arith in
    subst (λ w. IsIn w (drop (suc i) L)) (get_or-drop (suc i) L k 0 ∙ (ap (λ q. get_or L q 0) is ∙ e)) (IsIn-get_or (drop (suc i) L) k 0 (omega arith))

-- the first node of a chain is the leaf
pub first_node : (b : Board) → HasHospitals b → (x : ℕ) → x < contract_count b → (nodes : List ℕ) → IsOrderedChain (sets_of b) (leaf_of b x) nodes → slice_get nodes 0 ≡ Some (leaf_of b x)
first_node b plan x lt nodes ch =
    let few = plan.leaf x lt in
    let more = plan.nodes in
    let p = place_from_IsIn nodes (leaf_of b x) 0 (holds-chain (sets_of b) (leaf_of b x) (leaf_of b x) nodes ch (holds_from b (leaf_of b x) x (omega arith) (leaf_test b plan x lt))) in
    ⊎_elim
    (λ zero. slice_get-get_or nodes 0 0 (omega (arith, p.1)) ∙ ap (λ w. Some w) (ap (λ i. get_or nodes i 0) (sym zero) ∙ p.2))
    (λ later.
    let s = splits (is_inside (sets_of b)) nodes 0 ch.ordered (omega (arith, p.1)) in
    let first = get_or nodes 0 0 in
    let held = holds_test b first x (chain-holds (sets_of b) (leaf_of b x) first nodes ch (IsIn-get_or nodes 0 0 (omega (arith, p.1)))) in
    let after : IsIn (leaf_of b x) (drop 1 nodes) = later_in nodes (leaf_of b x) p.0 0 p.1 (omega arith) p.2 in
    absurd (not_both (is_inside (sets_of b) first (leaf_of b x)) (s.after (leaf_of b x) after) (nothing_inside b plan x first lt held.0 held.1)))
    (cases_eq p.0 0)

-- each node of a chain lies just inside the next one
pub next_home : (b : Board) → HasHospitals b → (x : ℕ) → (nodes : List ℕ) → IsOrderedChain (sets_of b) (leaf_of b x) nodes → (i : ℕ) → i < length nodes → parent (sets_of b) (get_or nodes i 0) ≡ slice_get nodes (suc i)
next_home b plan x nodes ch i lt = parent-next (sets_of b) plan.laminar (leaf_of b x) i (get_or nodes i 0) nodes ch lt refl ∙ ap (slice_get nodes) (add-one i)

-- a node that is not in the chain hasn't the contract
pub off_path : (b : Board) (x : ℕ) → (nodes : List ℕ) → IsOrderedChain (sets_of b) (leaf_of b x) nodes → (k : ℕ) → k < length b.nodes → has k nodes ≡ false → test_at b k x ≡ false
off_path b x nodes ch k lk out =
    ⊎_elim
    (λ t. absurd (not_both (has k nodes) (holds-chain (sets_of b) (leaf_of b x) k nodes ch (holds_from b k x lk t)) out))
    (λ f. f)
    (cases_Bool (test_at b k x))

-- later nodes of a chain lie further out
pub later_home : (b : Board) → HasHospitals b → (x : ℕ) → (nodes : List ℕ) → IsOrderedChain (sets_of b) (leaf_of b x) nodes → (i k : ℕ) → i < length nodes → parent (sets_of b) k ≡ Some (get_or nodes i 0) → has k (drop i nodes) ≡ false
later_home b plan x nodes ch i k le h =
    not_in_from k (drop i nodes) (λ there.
    let long = length-drop i nodes in
    let p = place_from_IsIn (drop i nodes) k 0 there in
    let j = i + p.0 in
    let at : get_or nodes j 0 ≡ k = sym (get_or-drop i nodes p.0 0) ∙ p.2 in
    let g : slice_get nodes (suc j) ≡ Some (get_or nodes i 0) = sym (next_home b plan x nodes ch j (omega (arith, p.1))) ∙ (ap (parent (sets_of b)) at ∙ h) in
    let within = slice_get_within nodes (suc j) (get_or nodes i 0) g in
    let same : get_or nodes (suc j) 0 ≡ get_or nodes i 0 = get_or_from_slice_get nodes (suc j) (get_or nodes i 0) 0 g in
    let s = splits (is_inside (sets_of b)) nodes i ch.ordered le in
    let inside = s.after (get_or nodes i 0) (later_in nodes (get_or nodes i 0) (suc j) i within (omega arith) same) in
    inside_once b (get_or nodes i 0) (get_or nodes i 0) inside inside)

-- ---- one node mended

-- whether the entry of a node is mended, where those of the chain from the i-th on are still to come
abbrev pub is_mended : List ℕ → ℕ → ℕ → Bool
is_mended nodes i k = not (has k (drop i nodes))

pub other_places : (b : Board) (j : ℕ) (width other : ℕ → ℕ) (places : List ℕ) → ((a : ℕ) → width a ≡ other a) → ArePlaced b j width places → ArePlaced b j other places
other_places b j width other places same p = record {
  within = λ e a lt h. subst (λ w. get_or places e 0 < w) (same a) (p.within e a lt h);
  once = p.once;
  filled = λ a i la lt. p.filled a i la (subst (λ w. i < w) (sym (same a)) lt);
}

pub put_widths : (rivals : List (List (Option Removal))) (a p : ℕ) (o : Option Removal) → a < length rivals → (c : ℕ) → length (get_or rivals c []) ≡ length (get_or (set rivals a (set (get_or rivals a []) p o)) c [])
put_widths rivals a p o la c =
    ⊎_elim
    (λ e. subst (λ w. length (get_or rivals w []) ≡ length (get_or (set rivals a (set (get_or rivals a []) p o)) w [])) (sym e)
    (sym (ap length (get_or-set_same rivals a (set (get_or rivals a []) p o) [] la) ∙ length-set (get_or rivals a []) p o)))
    (λ ne. sym (ap length (get_or-set_other rivals a c (set (get_or rivals a []) p o) [] ne)))
    (cases_eq c a)

pub split : (nodes : List ℕ) (i k : ℕ) → i < length nodes → (k ≡ get_or nodes i 0 → ⊥) → has k (drop (suc i) nodes) ≡ false → has k (drop i nodes) ≡ false
split nodes i k lt ne out =
    subst (λ L. has k L ≡ false) (sym (drop-cons nodes i 0 lt))
    (not_in_from k (get_or nodes i 0 ∷ drop (suc i) nodes) (λ h. ⊎_elim (λ s. ne s) (λ t. not_both (has k (drop (suc i) nodes)) t out) (IsIn-cases k (get_or nodes i 0) (drop (suc i) nodes) h)))

-- the entry of the i-th node of the chain is put at the next one
pub put_entries : (b : Board) (H places : List ℕ) (rivals : List (List (Option Removal))) (nodes : List ℕ) (i e a : ℕ) (o : Option Removal) → i < length nodes → e ≡ get_or nodes i 0 → parent (sets_of b) e ≡ Some a
    → a < length rivals → e < length b.nodes → ArePlaced b (length b.nodes) (λ c. length (get_or rivals c [])) places → IsEntry b H e o → AreEntries b H (is_mended nodes i) places rivals
    → AreEntries b H (is_mended nodes (suc i)) places (set rivals a (set (get_or rivals a []) (get_or places e 0) o))
put_entries b H places rivals nodes i e a o lt at_e home_e la le placed entry rest f c lf hf out =
    let p = get_or places e 0 in
    let L = get_or rivals a [] in
    ⊎_elim
    (λ same.
    let same_home : c ≡ a = some_same c a (sym hf ∙ (ap (parent (sets_of b)) same ∙ home_e)) in
    let read : get_or (get_or (set rivals a (set L p o)) a []) p None ≡ o = ap (λ l. get_or l p None) (get_or-set_same rivals a (set L p o) [] la) ∙ get_or-set_same L p o None (placed.within e a le home_e) in
    let P : Option Removal → Type 0 = IsEntry b H f in
    subst P (sym (ap (λ w. get_or (get_or (set rivals a (set L p o)) w []) (get_or places f 0) None) same_home ∙ (ap (λ w. get_or (get_or (set rivals a (set L p o)) a []) (get_or places w 0) None) same ∙ read)))
    (subst (λ w. IsEntry b H w o) (sym same) entry))
    (λ ne.
    let before = rest f c lf hf (not_from_false (has f (drop i nodes)) (split nodes i f lt (λ s. ne (s ∙ sym at_e)) (not-true (has f (drop (suc i) nodes)) out))) in
    let P : Option Removal → Type 0 = IsEntry b H f in
    ⊎_elim
    (λ same.
    let other : get_or places f 0 ≢ p = λ s. ne (placed.once f e c lf le hf (home_e ∙ ap (λ w. Some w) (sym same)) s) in
    subst P (sym (ap (λ w. get_or (get_or (set rivals a (set L p o)) w []) (get_or places f 0) None) same ∙ (ap (λ l. get_or l (get_or places f 0) None) (get_or-set_same rivals a (set L p o) [] la) ∙ (get_or-set_other L p (get_or places f 0) o None other ∙ ap (λ w. get_or (get_or rivals w []) (get_or places f 0) None) (sym same)))))
    before)
    (λ far. subst P (sym (ap (λ l. get_or l (get_or places f 0) None) (get_or-set_other rivals a c (set L p o) [] far))) before)
    (cases_eq c a))
    (cases_eq f e)
  where
    some_same : (s t : ℕ) → Some s ≡ Some t → s ≡ t
    some_same s t q = cc

-- the nodes just inside the one that was just reached are mended
pub here_mended : (b : Board) → HasHospitals b → (x : ℕ) → (nodes : List ℕ) → IsOrderedChain (sets_of b) (leaf_of b x) nodes → (i k : ℕ) → i < length nodes → parent (sets_of b) k ≡ Some (get_or nodes i 0) → is_mended nodes i k ≡ true
here_mended b plan x nodes ch i k le h = not_from_false (has k (drop i nodes)) (later_home b plan x nodes ch i k le h)

-- at the last node of the chain all are
pub all_mended : (b : Board) (H places : List ℕ) (rivals : List (List (Option Removal))) (x : ℕ) (nodes : List ℕ) (i : ℕ) → HasHospitals b → IsOrderedChain (sets_of b) (leaf_of b x) nodes → length nodes ≤ suc i → AreEntries b H (is_mended nodes i) places rivals → AreEntries b H (λ k. true) places rivals
all_mended b H places rivals x nodes i plan ch end rest k a lk h all =
    rest k a lk h (not_from_false (has k (drop i nodes)) (not_in_from k (drop i nodes) (λ there.
    let long = length-drop i nodes in
    let p = place_from_IsIn (drop i nodes) k 0 there in
    let at : get_or nodes (i + p.0) 0 ≡ k = sym (get_or-drop i nodes p.0 0) ∙ p.2 in
    let none : slice_get nodes (suc (i + p.0)) ≡ Some a = sym (next_home b plan x nodes ch (i + p.0) (omega (arith, p.1))) ∙ (ap (parent (sets_of b)) at ∙ h) in
    let within = slice_get_within nodes (suc (i + p.0)) a none in
    omega (arith, p.1))))

-- at the leaf those are that don't have the contract
pub off_mended : (b : Board) (H places : List ℕ) (rivals : List (List (Option Removal))) (x : ℕ) (nodes : List ℕ) → IsOrderedChain (sets_of b) (leaf_of b x) nodes → AreEntries b H (λ k. not (test_at b k x)) places rivals → AreEntries b H (is_mended nodes 0) places rivals
off_mended b H places rivals x nodes ch rest k a lk h out = rest k a lk h (not_from_false (test_at b k x) (off_path b x nodes ch k lk (not-true (has k nodes) out)))
