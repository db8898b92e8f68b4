-- Where the nodes of a board compete: each contract of a node that is no hospital is of one node just inside.
use Rattle.std.proofs.Common.{◌≡◌, ◌∙◌, ◌⊎◌, ℕ, zero, suc, ◌+◌, ◌<◌, ◌≤◌, List, [], ◌∷◌, Bool, true, false, length, drop, filter, eqb, ltb, Some, refl, sym, ap, subst, inl, inr, ⊎_elim, arith, eqb-true, eq-eqb, ltb-true, add-one}
use Rattle.std.specs.List.{slice_get}
use Rattle.std.proofs.lemmas.Bool.{and_from, and_parts, or_cases, or_left, or_right, lt-ltb, false_from_ne_true}
use Rattle.std.proofs.lemmas.List.{length-map}
use Rattle.rm_sets.specs.Sets.{has, IsIn, all_below}
use Rattle.rm_sets.proofs.Sets.{not_both, same_tests, IsIn-here, IsIn-cases, has-all_below, IsSet-all_below, below-all_below}
use Rattle.rm_sets.proofs.Sizes.{length_less, length-all_below}
use Rattle.rm_sets.proofs.Members.{place_from_IsIn}
use Rattle.rm_market.specs.Board.{Board, contract_count, leaf_of, sets_of}
use Rattle.rm_market.specs.Tree.{set_of, is_inside, chain, parent, below, in_order}
use Rattle.rm_laminar.specs.Chains.{IsOrdered, IsOrderedChain}
use Rattle.rm_laminar.proofs.Laminar.{Holds, chain-is, chain-holds, holds-chain, inside-before, has-below}
use Rattle.rm_laminar.proofs.Order.{has-in_order}
use Rattle.rm_laminar.proofs.Parents.{splits, parent-next}
use Rattle.rm_valuation_laws.specs.Changes.{test_at}
use Rattle.rm_valuation_laws.specs.Order.{IsParent}
use Rattle.rm_valuation_laws.proofs.Order.{set_is, inside_trans, inside_once, inside_tests, comparable, child_of}
use Rattle.rm_exchange.specs.Entrants.{HasHospitals, inner_cost, whole_cost, inner_size}
use Rattle.rm_exchange.proofs.Inner.{upto_is_inner}

-- ---- sizes

pub size_below : (b : Board) (a : ℕ) → inner_size b a ≤ length b.nodes
unfolding inner_size
size_below b a = length-all_below (length b.nodes) (λ k. is_inside (sets_of b) k a)

size_less : (b : Board) (c a : ℕ) → c < length b.nodes → is_inside (sets_of b) c a ≡ true → inner_size b c + 1 ≤ inner_size b a
unfolding inner_size
size_less b c a lc i =
    let m = length b.nodes in
    let p : ℕ → Bool = λ k. is_inside (sets_of b) k c in
    let q : ℕ → Bool = λ k. is_inside (sets_of b) k a in
    let less = length_less (all_below m p) (all_below m q) c (IsSet-all_below m p) (IsSet-all_below m q)
    (λ k h. let f = below-all_below m p k h in has-all_below m q k ∙ and_from (ltb k m) (q k) (lt-ltb k m f.0) (inside_trans b k c a f.1 i))
    (has-all_below m q c ∙ and_from (ltb c m) (q c) (lt-ltb c m lc) i)
    (false_from_ne_true (has c (all_below m p)) (λ h. let f = below-all_below m p c h in inside_once b c c f.1 f.1)) in
    omega arith

-- ---- parents

pub holds_from : (b : Board) (k y : ℕ) → k < length b.nodes → test_at b k y ≡ true → Holds (sets_of b) (leaf_of b y) k
holds_from b k y lk t = record { node = let e = length-map b.nodes (λ n. n.leaves) in omega arith; has_leaf = ap (has (leaf_of b y)) (set_is b k) ∙ t }

pub holds_test : (b : Board) (k y : ℕ) → Holds (sets_of b) (leaf_of b y) k → (k < length b.nodes) × (test_at b k y ≡ true)
holds_test b k y h = ((let e = length-map b.nodes (λ n. n.leaves) in let lt = h.node in omega arith), sym (ap (has (leaf_of b y)) (set_is b k)) ∙ h.has_leaf)

get_drop : (xs : List ℕ) (i : ℕ) → slice_get (drop i xs) 0 ≡ slice_get xs i
get_drop xs zero = refl
get_drop [] (suc i) = refl
get_drop (x ∷ xs) (suc i) = get_drop xs i

-- the first of a list in order is in it, and stands before the others
first_in : (L : List ℕ) (a : ℕ) → slice_get L 0 ≡ Some a → IsIn a L
first_in [] a e = absurd (cc)
first_in (x ∷ L) a e = let same : x ≡ a = cc in subst (λ w. IsIn w (x ∷ L)) same (IsIn-here x L)

first_before : (first : ℕ → ℕ → Bool) (L : List ℕ) (a : ℕ) → IsOrdered first L → slice_get L 0 ≡ Some a → (y : ℕ) → IsIn y L → (y ≡ a) ⊎ (first a y ≡ true)
unfolding IsOrdered
first_before first [] a o e y h = absurd (cc)
first_before first (x ∷ L) a o e y h =
    let same : x ≡ a = cc in
    ⊎_elim (λ f. inl (f ∙ same)) (λ i. inr (subst (λ w. first w y ≡ true) same (o.0 y i))) (IsIn-cases y x L h)

some_first : (L : List ℕ) (y : ℕ) → IsIn y L → (a : ℕ) × (slice_get L 0 ≡ Some a)
some_first [] y h = absurd (not_both (has y []) h refl)
some_first (x ∷ L) y h = (x, refl)

-- a node of z stands in z's chain, and the nodes outside it follow
pub record IsPlaced (b : Board) (c : ℕ) (L : List ℕ) : Type 0 where
  pub next : parent (sets_of b) c ≡ slice_get L 0
  pub after : (y : ℕ) → IsIn y L → (is_inside (sets_of b) c y ≡ true) × (y < length b.nodes)
  pub outside : (y : ℕ) → y < length b.nodes → is_inside (sets_of b) c y ≡ true → IsIn y L
  pub ordered : IsOrdered (is_inside (sets_of b)) L

placed : (b : Board) → HasHospitals b → (c z : ℕ) → c < length b.nodes → test_at b c z ≡ true → (L : List ℕ) × IsPlaced b c L
placed b plan c z lc tc =
    let sets = sets_of b in
    let leaf = leaf_of b z in
    let ch = chain sets leaf in
    let is : IsOrderedChain sets leaf ch = chain-is sets plan.laminar leaf in
    let p = place_from_IsIn ch c 0 (holds-chain sets leaf c ch is (holds_from b c z lc tc)) in
    let s = splits (is_inside sets) ch p.0 is.ordered p.1 in (
      drop (suc p.0) ch,
      record {
        next = parent-next sets plan.laminar leaf p.0 c ch is p.1 p.2 ∙ (ap (slice_get ch) (add-one p.0) ∙ sym (get_drop ch (suc p.0)));
        after = λ y h. (subst (λ w. is_inside sets w y ≡ true) p.2 (s.after y h), (holds_test b y z (chain-holds sets leaf y ch is (s.member y h))).0);
        outside = λ y ly i.
            ⊎_elim
            (λ h. h)
            (λ no. absurd (⊎_elim
            (λ e. let j = subst (λ w. is_inside sets c w ≡ true) (e ∙ p.2) i in inside_once b c c j j)
            (λ before. inside_once b c y i (subst (λ w. is_inside sets y w ≡ true) p.2 before))
            no))
            (s.others y (holds-chain sets leaf y ch is (holds_from b y z ly (inside_tests b c y i z tc))));
        ordered = s.rest;
      },
    )

pub parent_is : (b : Board) → HasHospitals b → (c a z : ℕ) → c < length b.nodes → test_at b c z ≡ true → parent (sets_of b) c ≡ Some a → IsParent b c a × (a < length b.nodes)
parent_is b plan c a z lc tc e =
    let p = placed b plan c z lc tc in
    let f : slice_get p.0 0 ≡ Some a = sym p.1.next ∙ e in
    let here = p.1.after a (first_in p.0 a f) in (
      record {
        inside = here.0;
        next = λ k lk i.
            ⊎_elim
            (λ same. or_left (eqb a k) (is_inside (sets_of b) a k) (eq-eqb a k (sym same)))
            (λ before. or_right (eqb a k) (is_inside (sets_of b) a k) before)
            (first_before (is_inside (sets_of b)) p.0 a p.1.ordered f k (p.1.outside k lk i));
      },
      here.1,
    )

pub parent_from : (b : Board) → HasHospitals b → (c a z : ℕ) → c < length b.nodes → a < length b.nodes → test_at b c z ≡ true → IsParent b c a → parent (sets_of b) c ≡ Some a
parent_from b plan c a z lc la tc par =
    let p = placed b plan c z lc tc in
    let a_in = p.1.outside a la par.inside in
    let f = some_first p.0 a a_in in
    let here = p.1.after f.0 (first_in p.0 f.0 f.1) in
    let same : f.0 ≡ a =
    ⊎_elim
    (λ e. sym e)
    (λ before. ⊎_elim
    (λ e. sym (eqb-true a f.0 e))
    (λ i. absurd (inside_once b a f.0 i before))
    (or_cases (eqb a f.0) (is_inside (sets_of b) a f.0) (par.next f.0 here.1 here.0)))
    (first_before (is_inside (sets_of b)) p.0 f.0 p.1.ordered f.1 a a_in)
    in
    p.1.next ∙ (f.1 ∙ ap (λ w. Some w) same)

-- ---- leaves

one_member : (x h : ℕ) → IsIn x (h ∷ []) → x ≡ h
one_member x h i = ⊎_elim (λ e. e) (λ none. absurd (not_both (has x []) none refl)) (IsIn-cases x h [] i)

pub leaf_test : (b : Board) → HasHospitals b → (y : ℕ) → y < contract_count b → test_at b (leaf_of b y) y ≡ true
leaf_test b plan y lt = sym (ap (has (leaf_of b y)) (set_is b (leaf_of b y))) ∙ (ap (has (leaf_of b y)) (plan.own (leaf_of b y) (plan.leaf y lt)) ∙ IsIn-here (leaf_of b y) [])

-- no node of y lies inside its leaf
pub nothing_inside : (b : Board) → HasHospitals b → (y k : ℕ) → y < contract_count b → k < length b.nodes → test_at b k y ≡ true → is_inside (sets_of b) k (leaf_of b y) ≡ false
nothing_inside b plan y k lt lk tk =
    false_from_ne_true (is_inside (sets_of b) k (leaf_of b y)) (λ i.
    let h = leaf_of b y in
    let few = plan.leaf y lt in
    let there : IsIn h (set_of (sets_of b) k) = (holds_from b k y lk tk).has_leaf in
    let less : k < h = inside-before (sets_of b) k h i (λ x inside. subst (λ w. IsIn w (set_of (sets_of b) k)) (sym (one_member x h (subst (λ S. IsIn x S) (plan.own h few) inside))) there) in
    let same : h ≡ k = one_member h k (subst (λ S. IsIn h S) (plan.own k (omega arith)) there) in
    omega arith)

-- ---- the nodes just inside

-- of a contract of a node: what is told at the node just outside
pub record IsAtHome (b : Board) (c a z : ℕ) : Type 0 where
  pub node : a < length b.nodes
  pub inside : test_at b a z ≡ true
  pub lost : (H : List ℕ) → inner_cost b H a z ≡ whole_cost b H c z
  pub smaller : inner_size b c + 1 ≤ inner_size b a

pub at_home : (b : Board) → HasHospitals b → (c a z : ℕ) → c < length b.nodes → parent (sets_of b) c ≡ Some a → test_at b c z ≡ true → IsAtHome b c a z
at_home b plan c a z lc p t =
    let par = parent_is b plan c a z lc t p in
    record {
      node = par.1;
      inside = inside_tests b c a par.0.inside z t;
      lost = λ H. upto_is_inner b H plan.concave c a z lc par.0 t;
      smaller = size_less b c a lc par.0.inside;
    }

-- each contract of a node that is no hospital is of a node just inside
pub inner_node : (b : Board) → HasHospitals b → (a y : ℕ) → a < length b.nodes → length b.ranks ≤ a → y < contract_count b → test_at b a y ≡ true → (c : ℕ) × (c < length b.nodes) × (parent (sets_of b) c ≡ Some a) × (test_at b c y ≡ true)
inner_node b plan a y la group lt t =
    let h = leaf_of b y in
    let few = plan.leaf y lt in
    let more = plan.nodes in
    let inside : is_inside (sets_of b) h a ≡ true =
    ⊎_elim
    (λ same. absurd (let e : a ≡ h = same in omega arith))
    (λ rest. ⊎_elim
    (λ i. absurd (not_both (is_inside (sets_of b) a h) i (nothing_inside b plan y a lt la t)))
    (λ i. i)
    rest)
    (comparable b plan.concave a h y la (omega arith) t (leaf_test b plan y lt))
    in
    let c = child_of b plan.concave a h y la (omega arith) (leaf_test b plan y lt) inside in
    (c.0, c.1, parent_from b plan c.0 a y c.1 la c.3 c.2, c.3)

-- a hospital's node has just the contracts with its leaf
pub own_test : (b : Board) (h y : ℕ) → set_of (sets_of b) h ≡ h ∷ [] → test_at b h y ≡ eqb (leaf_of b y) h
own_test b h y own =
    sym (ap (has (leaf_of b y)) (set_is b h)) ∙ (ap (has (leaf_of b y)) own ∙ same_tests (has (leaf_of b y) (h ∷ [])) (eqb (leaf_of b y) h)
    (λ i. eq-eqb (leaf_of b y) h (one_member (leaf_of b y) h i))
    (λ e. subst (λ w. IsIn w (h ∷ [])) (sym (eqb-true (leaf_of b y) h e)) (IsIn-here h [])))

pub leaf_test_is : (b : Board) → HasHospitals b → (h y : ℕ) → h < length b.ranks → test_at b h y ≡ eqb (leaf_of b y) h
leaf_test_is b plan h y lt = own_test b h y (plan.own h lt)

-- a parent is a node
pub parent_below : (sets : List (List ℕ)) (k a : ℕ) → parent sets k ≡ Some a → a < length sets
unfolding parent
parent_below sets k a e =
    let outside : List ℕ = filter (is_inside sets k) (below (length sets)) in
    let there : IsIn a (in_order (is_inside sets) outside) = first_in (in_order (is_inside sets) outside) a e in
    ltb-true a (length sets) (and_parts (ltb a (length sets)) (is_inside sets k a) (sym (has-below (length sets) a (is_inside sets k)) ∙ (sym (has-in_order (is_inside sets) outside a) ∙ there))).0
