-- The held contracts of a hospital: the greatest one is the cheapest, and one comes or goes.
use Rattle.std.proofs.Common.{◌≡◌, ◌≢◌, ◌∙◌, ℕ, ◌+◌, ◌<◌, ◌≤◌, List, [], ◌∷◌, ◌++◌, Bool, true, false, ◌&&◌, length, get_or, set, eqb, count_by, Option, Some, None, pos, refl, sym, ap, subst, inr, ⊎_elim, arith, eqb-true, eq-eqb, ne_eqb, add-one}
use Rattle.std.specs.Ordering.{nat_cmp}
use Rattle.std.specs.List.Sorted.{IsPermutation}
use Rattle.std.specs.BinaryHeap.{heap_items, heap_len, heap_capacity, IsHeap}
use Rattle.std.proofs.lemmas.Int.{ints}
use Rattle.std.proofs.lemmas.Bool.{cases_eq, cases_lt, cases_Bool, and_parts, and_from}
use Rattle.std.proofs.lemmas.List.{get_or-set_same, get_or-set_other, length-set, get_or_push, get_or_append_left}
use Rattle.std.proofs.lemmas.List.Sums.{count_by-le-length}
use Rattle.std.proofs.lemmas.List.Sorted.{sum_by_pushed, sum_by_popped}
use Rattle.rm_sets.specs.Sets.{has, IsIn, IsSet, IsSetBelow, with_one, without, below}
use Rattle.rm_sets.proofs.Sets.{IsIn-here, IsIn-later, IsIn-cases, IsSet-with_one, IsSet-without, IsSet-all_below, below-all_below}
use Rattle.rm_sets.proofs.Sizes.{length-all_below}
use Rattle.rm_sets.proofs.Members.{not_in_nil, not_in_from, with_one_within, IsIn-all_below}
use Rattle.rm_market.specs.Board.{Board, contract_count, leaf_of, node_at, no_node, cap_of, sets_of, count_at, is_feasible}
use Rattle.rm_market.specs.Tree.{is_inside, set_of}
use Rattle.rm_board.specs.TieKeys.{tie_key}
use Rattle.rm_valuation_laws.specs.Changes.{test_at, last_step}
use Rattle.rm_valuation_laws.proofs.Cheapest.{count_agree}
use Rattle.rm_valuation_laws.proofs.Counts.{one, count-cons, count_all, count-with_one, count-without, count_within}
use Rattle.rm_valuation_laws.proofs.LaminarExchange.{caps_from_feasible}
use Rattle.rm_valuation_laws.proofs.Moves.{with_other, without_other}
use Rattle.rm_exchange.specs.declared.removal.Removal.{Removal}
use Rattle.rm_exchange.specs.declared.leaf.Leaf.{Leaf}
use Rattle.rm_exchange.specs.Entrants.{HasHospitals, inner_cost, IsBestAt}
use Rattle.rm_exchange.specs.Leaves.{IsGreatestOf, IsOwnRemovalOf, IsTieOf, room_at, IsLeafOf, AreLeaves}
use Rattle.rm_exchange.specs.Holding.{IsLastHeld}
use Rattle.rm_exchange.proofs.Inner.{inner_none}
use Rattle.rm_valuation.proofs.Taken.{with_last}
use Rattle.rm_exchange.proofs.Homes.{own_test, leaf_test, leaf_test_is, nothing_inside}

-- ---- members by counts

one_true : (t : Bool) → t ≡ true → one t ≡ 1
one_true t e = ap one e

counts_member : (p : ℕ → Bool) (y : ℕ) (S : List ℕ) → IsIn y S → p y ≡ true → 0 < count_by p S
counts_member p y [] i t = absurd (not_in_nil y i)
counts_member p y (z ∷ S) i t =
    let e = count-cons p z S in
    ⊎_elim
    (λ same. let o = one_true (p z) (ap p (sym same) ∙ t) in omega arith)
    (λ later. let rest = counts_member p y S later t in omega arith)
    (IsIn-cases y z S i)

some_member : (p : ℕ → Bool) (S : List ℕ) → 0 < count_by p S → (y : ℕ) × IsIn y S × (p y ≡ true)
some_member p [] lt = absurd (omega arith)
some_member p (z ∷ S) lt =
    let e = count-cons p z S in
    ⊎_elim
    (λ t. (z, IsIn-here z S, t))
    (λ f. let o = ap one f in let rest = some_member p S (omega arith) in (rest.0, IsIn-later rest.0 z S rest.1, rest.2))
    (cases_Bool (p z))

pub member_of : (b : Board) (H : List ℕ) (h y : ℕ) (leaf : Leaf) → IsLeafOf b H h leaf → IsIn y (heap_items leaf.held) → IsIn y H × (test_at b h y ≡ true)
member_of b H h y leaf k i =
    let there = counts_member (λ z. eqb z y) y (heap_items leaf.held) i (eq-eqb y y refl) in
    let found = some_member (λ z. eqb z y && test_at b h z) H (subst (λ n. 0 < n) (k.same (λ z. eqb z y)) there) in
    let both = and_parts (eqb found.0 y) (test_at b h found.0) found.2 in
    let e : found.0 ≡ y = eqb-true found.0 y both.0 in
    (subst (λ w. IsIn w H) e found.1, subst (λ w. test_at b h w ≡ true) e both.1)

pub member_from : (b : Board) (H : List ℕ) (h y : ℕ) (leaf : Leaf) → IsLeafOf b H h leaf → IsIn y H → test_at b h y ≡ true → IsIn y (heap_items leaf.held)
member_from b H h y leaf k i t =
    let there = counts_member (λ z. eqb z y && test_at b h z) y H i (and_from (eqb y y) (test_at b h y) (eq-eqb y y refl) t) in
    let found = some_member (λ z. eqb z y) (heap_items leaf.held) (subst (λ n. 0 < n) (sym (k.same (λ z. eqb z y))) there) in
    subst (λ w. IsIn w (heap_items leaf.held)) (eqb-true found.0 y found.2) found.1

-- the contracts of a leaf are the board's
pub known_there : (b : Board) (H : List ℕ) (h : ℕ) (leaf : Leaf) → IsSetBelow (contract_count b) H → IsLeafOf b H h leaf → (y : ℕ) → IsIn y (heap_items leaf.held) → y < contract_count b
known_there b H h leaf sH k y i = sH.below y (member_of b H h y leaf k i).0

-- ---- the greatest contract of a leaf is the cheapest there

-- of two contracts with one leaf the greater has no smaller tie key
pub later_tie : (b : Board) → HasHospitals b → (y z : ℕ) → z < contract_count b → leaf_of b y ≡ leaf_of b z → y ≤ z → tie_key b y ≤ tie_key b z
later_tie b plan y z lz same le =
    ⊎_elim
    (λ e. let f : tie_key b y ≡ tie_key b z = ap (tie_key b) e in omega arith)
    (λ ne. let less = plan.agrees y z (omega arith) lz same in omega arith)
    (cases_eq y z)

-- and the one that has no smaller key is no less
pub no_less : (b : Board) → HasHospitals b → (y z : ℕ) → y < contract_count b → leaf_of b y ≡ leaf_of b z → tie_key b y ≤ tie_key b z → y ≤ z
no_less b plan y z ly same le =
    ⊎_elim
    (λ less. absurd (let l = plan.agrees z y less ly (sym same) in omega arith))
    (λ le. le)
    (cases_lt z y)

leaf_is : (b : Board) → HasHospitals b → (h y : ℕ) → h < length b.ranks → test_at b h y ≡ true → leaf_of b y ≡ h
leaf_is b plan h y lt t = eqb-true (leaf_of b y) h (sym (leaf_test_is b plan h y lt) ∙ t)

nothing_lost : (b : Board) → HasHospitals b → (H : List ℕ) (h y : ℕ) → h < length b.ranks → y < contract_count b → test_at b h y ≡ true → inner_cost b H h y ≡ pos 0
nothing_lost b plan H h y lt ly t =
    inner_none b (λ k. last_step b H (node_at b k)) h y
    (λ k lk tk. subst (λ w. is_inside (sets_of b) k w ≡ false) (leaf_is b plan h y lt t) (nothing_inside b plan y k ly lk tk))

pub leaf_best : (b : Board) → HasHospitals b → (H : List ℕ) → IsSetBelow (contract_count b) H → (h : ℕ) → h < length b.ranks → (leaf : Leaf) → IsLeafOf b H h leaf → (o : Option Removal) → IsOwnRemovalOf (tie_key b) leaf.last o → IsBestAt b H h o
leaf_best b plan H sH h lt leaf k o own = by_last leaf.last k.last own
  where
    by_last : (last : Option ℕ) → IsGreatestOf (heap_items leaf.held) last → IsOwnRemovalOf (tie_key b) last o → IsBestAt b H h o
    by_last None none own = subst (IsBestAt b H h) (sym own) (λ y inH.
        ⊎_elim
        (λ t. absurd (not_in_nil y (subst (λ S. IsIn y S) none (member_from b H h y leaf k inH t))))
        (λ f. f)
        (cases_Bool (test_at b h y)))
    by_last (Some z) top own =
        let here = member_of b H h z leaf k top.member in
        let lz = sH.below z here.0 in
        let lost = nothing_lost b plan H h z lt lz here.1 in
        subst (IsBestAt b H h) (sym own) (record {
          held = here.0;
          passes = here.1;
          tie = refl;
          loss = sym lost;
          least = λ y inH t. inr (
            lost ∙ sym (nothing_lost b plan H h y lt (sH.below y inH) t),
            later_tie b plan y z lz (leaf_is b plan h y lt t ∙ sym (leaf_is b plan h z lt here.1)) (top.greatest y (member_from b H h y leaf k inH t)),
          );
          low = omega (arith, ints);
          high = omega (arith, ints);
        })

-- the last contract of a leaf
pub last_held : (b : Board) → HasHospitals b → (H : List ℕ) (h : ℕ) → h < length b.ranks → (leaf : Leaf) → IsLeafOf b H h leaf → (z : ℕ) → leaf.last ≡ Some z → IsLastHeld b H h z
last_held b plan H h lt leaf k z e =
    let top : IsGreatestOf (heap_items leaf.held) (Some z) = subst (IsGreatestOf (heap_items leaf.held)) e k.last in
    let here = member_of b H h z leaf k top.member in
    let leaf_z = leaf_is b plan h z lt here.1 in
    record {
      held = here.0;
      leaf = leaf_z;
      greatest = λ y inH same. top.greatest y (member_from b H h y leaf k inH (leaf_test_is b plan h y lt ∙ eq-eqb (leaf_of b y) h (same ∙ leaf_z)));
    }

-- ---- one contract comes or goes

and_true : (t : Bool) → (t && true) ≡ t
and_true true = refl
and_true false = refl

-- there is room for one more, where that is feasible
pub leaf_room : (b : Board) → HasHospitals b → (H : List ℕ) (x : ℕ) (leaf : Leaf) → IsSetBelow (contract_count b) H → x < contract_count b → has x H ≡ false → is_feasible b (with_one H x) ≡ true → IsLeafOf b H (leaf_of b x) leaf → heap_len leaf.held < heap_capacity leaf.held
leaf_room b plan H x leaf sH lx new fits k =
    let h = leaf_of b x in
    let long = leaf.held.data.ok.0 in
    let all = count_all (heap_items leaf.held) in
    let same : count_by (λ z. true) (heap_items leaf.held) ≡ count_by (test_at b h) H = k.same (λ z. true) in
    let more = count-with_one (test_at b h) H x new in
    let here = one_true (test_at b h x) (leaf_test b plan x lx) in
    let n = contract_count b in
    let few : count_by (test_at b h) (with_one H x) ≤ count_by (test_at b h) (below n) =
    count_within (test_at b h) (with_one H x) (below n) (IsSet-with_one H x sH.ascending) (IsSet-all_below n (λ k. true))
    (with_one_within H (below n) x (λ y i. IsIn-all_below n (λ k. true) y (sH.below y i) refl) (IsIn-all_below n (λ k. true) x lx refl)) in
    let lt = plan.leaf x lx in
    let nodes = plan.nodes in
    let capped : count_by (test_at b h) (with_one H x) ≤ cap_of (node_at b h) = caps_from_feasible b (with_one H x) fits h no_node (omega arith) in
    let room = k.room in
    omega arith

pub leaf_with : (b : Board) (H : List ℕ) (h x : ℕ) (leaf next : Leaf) → has x H ≡ false → test_at b h x ≡ true → IsLeafOf b H h leaf → IsPermutation (x ∷ heap_items leaf.held) (heap_items next.held) → (IsHeap nat_cmp (heap_items leaf.held) → IsHeap nat_cmp (heap_items next.held)) → IsGreatestOf (heap_items next.held) next.last → IsTieOf (tie_key b) next.last next.tie → next.cap ≡ leaf.cap → heap_capacity leaf.held ≤ heap_capacity next.held → IsLeafOf b (with_one H x) h next
leaf_with b H h x leaf next new t k items order last tie cap wide = record {
  same = λ p.
      let pushed = sum_by_pushed (λ z. one (p z)) x (heap_items leaf.held) (heap_items next.held) items in
      let old = k.same p in
      let more = count-with_one (λ z. p z && test_at b h z) H x new in
      let here : one (p x && test_at b h x) ≡ one (p x) = ap (λ w. one (p x && w)) t ∙ ap one (and_true (p x)) in
      omega arith;
  room = let r = k.room in omega arith;
  order = order k.order;
  cap = cap ∙ k.cap;
  last = last;
  tie = tie;
}

pub leaf_without : (b : Board) (H : List ℕ) (h z : ℕ) (leaf next : Leaf) → IsSet H → IsIn z H → test_at b h z ≡ true → IsLeafOf b H h leaf → IsPermutation (heap_items leaf.held) (z ∷ heap_items next.held) → IsHeap nat_cmp (heap_items next.held) → IsGreatestOf (heap_items next.held) next.last → IsTieOf (tie_key b) next.last next.tie → next.cap ≡ leaf.cap → heap_capacity next.held ≡ heap_capacity leaf.held → IsLeafOf b (without H z) h next
leaf_without b H h z leaf next sH inH t k items order last tie cap wide = record {
  same = λ p.
      let popped = sum_by_popped (λ y. one (p y)) z (heap_items leaf.held) (heap_items next.held) items in
      let old = k.same p in
      let less = count-without (λ y. p y && test_at b h y) H z sH inH in
      let here : one (p z && test_at b h z) ≡ one (p z) = ap (λ w. one (p z && w)) t ∙ ap one (and_true (p z)) in
      omega arith;
  room = let r = k.room in omega arith;
  order = order;
  cap = cap ∙ k.cap;
  last = last;
  tie = tie;
}

-- a leaf stays as it is where the same contracts are held there
pub leaf_stays : (b : Board) (H K : List ℕ) (h : ℕ) (leaf : Leaf) → IsSet H → IsSet K → ((y : ℕ) → test_at b h y ≡ true → has y H ≡ has y K) → IsLeafOf b H h leaf → IsLeafOf b K h leaf
leaf_stays b H K h leaf sH sK agree k = record {
  same = λ p. k.same p ∙ count_agree (λ y. p y && test_at b h y) H K sH sK (λ y t. agree y (and_parts (p y) (test_at b h y) t).1);
  room = k.room;
  order = k.order;
  cap = k.cap;
  last = k.last;
  tie = k.tie;
}

-- one leaf changes, and at the others the same contracts are held
pub leaves_set : (b : Board) (H K : List ℕ) (leaves : List Leaf) (i : ℕ) (leaf : Leaf) → IsSet H → IsSet K → i < length b.ranks → AreLeaves b H leaves → IsLeafOf b K i leaf → ((h y : ℕ) → h < length b.ranks → h ≢ i → test_at b h y ≡ true → has y H ≡ has y K) → AreLeaves b K (set leaves i leaf)
leaves_set b H K leaves i leaf sH sK li old here agree =
    let all = old.all in
    record {
      all = length-set leaves i leaf ∙ old.all;
      each = λ h d lt.
          ⊎_elim
          (λ e. subst (λ l. IsLeafOf b K h l) (sym (ap (λ w. get_or (set leaves i leaf) w d) e ∙ get_or-set_same leaves i leaf d (omega arith))) (subst (λ w. IsLeafOf b K w leaf) (sym e) here))
          (λ ne. subst (λ l. IsLeafOf b K h l) (sym (get_or-set_other leaves i h leaf d ne)) (leaf_stays b H K h (get_or leaves h d) sH sK (λ y t. agree h y lt ne t) (old.each h d lt)))
          (cases_eq h i);
    }

-- at another leaf the contract isn't
pub off_leaf : (b : Board) → HasHospitals b → (h x y : ℕ) → h < length b.ranks → h ≢ leaf_of b x → test_at b h y ≡ true → y ≢ x
off_leaf b plan h x y lt ne t same = ne (sym (leaf_is b plan h y lt t) ∙ ap (leaf_of b) same)

pub leaves_with : (b : Board) → HasHospitals b → (H : List ℕ) (x : ℕ) (leaves : List Leaf) (leaf : Leaf) → IsSetBelow (contract_count b) H → x < contract_count b → AreLeaves b H leaves → IsLeafOf b (with_one H x) (leaf_of b x) leaf → AreLeaves b (with_one H x) (set leaves (leaf_of b x) leaf)
leaves_with b plan H x leaves leaf sH lx old here =
    leaves_set b H (with_one H x) leaves (leaf_of b x) leaf sH.ascending (IsSet-with_one H x sH.ascending) (plan.leaf x lx) old here
    (λ h y lt ne t. sym (with_other H x y (off_leaf b plan h x y lt ne t)))

pub leaves_without : (b : Board) → HasHospitals b → (H : List ℕ) (z : ℕ) (leaves : List Leaf) (leaf : Leaf) → IsSetBelow (contract_count b) H → z < contract_count b → AreLeaves b H leaves → IsLeafOf b (without H z) (leaf_of b z) leaf → AreLeaves b (without H z) (set leaves (leaf_of b z) leaf)
leaves_without b plan H z leaves leaf sH lz old here =
    leaves_set b H (without H z) leaves (leaf_of b z) leaf sH.ascending (IsSet-without H z sH.ascending) (plan.leaf z lz) old here
    (λ h y lt ne t. sym (without_other H z y (off_leaf b plan h z y lt ne t)))

-- the contract that a hospital lets go is the greatest of its heap
pub greatest_there : (b : Board) → HasHospitals b → (H : List ℕ) (z : ℕ) (leaf : Leaf) → z < contract_count b → ((y : ℕ) → IsIn y H → leaf_of b y ≡ leaf_of b z → y ≤ z) → IsLeafOf b H (leaf_of b z) leaf → (y : ℕ) → IsIn y (heap_items leaf.held) → y ≤ z
greatest_there b plan H z leaf lz up k y i =
    let there = member_of b H (leaf_of b z) y leaf k i in
    up y there.0 (leaf_is b plan (leaf_of b z) y (plan.leaf z lz) there.1)

-- ---- what is read of the leaves

pub leaf_at : (b : Board) (H : List ℕ) (leaves : List Leaf) (h : ℕ) (leaf : Leaf) → AreLeaves b H leaves → h < length b.ranks → leaf ≡ get_or leaves h leaf → IsLeafOf b H h leaf
leaf_at b H leaves h leaf k lt e = subst (IsLeafOf b H h) (sym e) (k.each h leaf lt)

-- ---- how many contracts each hospital has

count_next : (p : ℕ → Bool) (x : ℕ) → count_by p (below (x + 1)) ≡ count_by p (below x) + one (p x)
count_next p x =
    let under : (y : ℕ) → IsIn y (below x) → y < x = λ y i. (below-all_below x (λ k. true) y i).0 in
    ap (λ n. count_by p (below n)) (add-one x)
    ∙ (ap (count_by p) (sym (with_last (below x) x (IsSet-all_below x (λ k. true)) under)) ∙ count-with_one p (below x) x (not_in_from x (below x) (λ i. let lt = under x i in omega arith)))

pub count_few : (p : ℕ → Bool) (x : ℕ) → count_by p (below x) ≤ x
count_few p x = let less = count_by-le-length p (below x) in let l = length-all_below x (λ k. true) in omega arith

pub counted_more : (b : Board) (x leaf : ℕ) (counts next : List ℕ) → ((h : ℕ) → h < length b.ranks → set_of (sets_of b) h ≡ h ∷ []) → leaf ≡ leaf_of b x → length counts ≡ length b.ranks → leaf < length b.ranks → next ≡ set counts leaf (get_or counts leaf 0 + 1) → ((h : ℕ) → h < length b.ranks → get_or counts h 0 ≡ count_at b (below x) h)
    → (h : ℕ) → h < length b.ranks → get_or next h 0 ≡ count_at b (below (x + 1)) h
counted_more b x leaf counts next own is wide few put old h lt =
    let more = count_next (test_at b h) x in
    let before = old h lt in
    let read = ap (λ l. get_or l h 0) put in
    let test = own_test b h x (own h lt) in
    ⊎_elim
    (λ e.
    let here = one_true (test_at b h x) (test ∙ eq-eqb (leaf_of b x) h (sym is ∙ sym e)) in
    let new : get_or (set counts leaf (get_or counts leaf 0 + 1)) h 0 ≡ get_or counts h 0 + 1 = subst (λ w. get_or (set counts leaf (get_or counts leaf 0 + 1)) w 0 ≡ get_or counts w 0 + 1) (sym e) (get_or-set_same counts leaf (get_or counts leaf 0 + 1) 0 (omega arith)) in
    omega arith)
    (λ ne.
    let none = ap one (test ∙ ne_eqb (leaf_of b x) h (λ e. ne (sym e ∙ sym is))) in
    let new = get_or-set_other counts leaf h (get_or counts leaf 0 + 1) 0 ne in
    omega arith)
    (cases_eq h leaf)

-- ---- no contracts

pub empty_leaf : (b : Board) (h : ℕ) (leaf : Leaf) → heap_items leaf.held ≡ [] → heap_capacity leaf.held ≡ room_at b h → leaf.cap ≡ cap_of (node_at b h) → leaf.last ≡ None → IsHeap nat_cmp (heap_items leaf.held) → IsLeafOf b [] h leaf
empty_leaf b h leaf none room cap last order = record {
  same = λ p. ap (count_by p) none;
  room = omega arith;
  order = order;
  cap = cap;
  last = subst (IsGreatestOf (heap_items leaf.held)) (sym last) none;
  tie = subst (λ l. IsTieOf (tie_key b) l leaf.tie) (sym last) tt;
}

-- one leaf more
pub leaves_more : (P : ℕ → Leaf → Type 0) (n : ℕ) (leaves next : List Leaf) (leaf : Leaf) → next ≡ leaves ++ leaf ∷ [] → length leaves ≡ n → ((h : ℕ) (d : Leaf) → h < n → P h (get_or leaves h d)) → P n leaf → (h : ℕ) (d : Leaf) → h < n + 1 → P h (get_or next h d)
leaves_more P n leaves next leaf e long old new h d lt =
    subst (λ L. P h (get_or L h d)) (sym e)
    (⊎_elim
    (λ same. subst (P h) (sym (get_or_push leaves leaf d h (long ∙ sym same))) (subst (λ w. P w leaf) (sym same) new))
    (λ ne. let before : h < n = omega arith in subst (P h) (sym (get_or_append_left leaves (leaf ∷ []) d h (omega arith))) (old h d before))
    (cases_eq h n))
