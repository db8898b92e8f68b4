-- The span of each node in the walk.
use Rattle.std.proofs.Common.{◌≡◌, ◌∙◌, ℕ, zero, suc, ◌+◌, ◌-◌, ◌<◌, ◌≤◌, List, [], ◌∷◌, ◌++◌, Bool, true, false, cond, ◌⊎◌, ltb, eqb, get_or, length, map, take, drop, reverse, replicate, All, refl, sym, ap, subst, inl, inr, ⊎_elim, arith, ltb-true, eqb-true}
use Rattle.std.specs.List.{position_or_len}
use Rattle.std.proofs.Math.Seq.{drop-cons, take-append_seam}
use Rattle.std.proofs.lemmas.Bool.{cases_eq, cases_lt, cases_Bool, eq-eqb, lt-ltb, or_cases, or_left, or_right}
use Rattle.std.proofs.lemmas.List.{length-append, length-map, length-reverse, length-drop, get_or-map, map-append, reverse-append, take-append-drop, drop-drop, get_or-replicate, length-replicate}
use Rattle.rm_sets.specs.Sets.{has, IsIn, below}
use Rattle.rm_sets.proofs.Sets.{IsIn-cases, not_both}
use Rattle.rm_sets.proofs.Members.{IsIn-get_or, place_from_IsIn, All-from_members}
use Rattle.rm_sets.proofs.Places.{placed}
use Rattle.rm_market.specs.Tree.{set_of, least, is_inside, chain, comes_before, in_order, put, tree_sets}
use Rattle.rm_laminar.specs.Chains.{IsOrdered, IsLaminar, IsOrderedChain, AreChains, AreHospitalGroups}
use Rattle.rm_laminar.specs.Walk.{around, node_trail, node_walk, is_within, node_of, ArePasts, IsWalk}
use Rattle.rm_laminar.proofs.Order.{Asymmetric, has-in_order}
use Rattle.rm_laminar.proofs.Laminar.{inside-asymmetric, inside-within, chain-is, chain-holds, holds-chain}
use Rattle.rm_laminar.proofs.Parents.{outside-next}
use Rattle.rm_laminar.proofs.Trees.{length-below, get-below, tree-length}
use Rattle.rm_laminar.proofs.Firsts.{least-there}
use Rattle.rm_laminar.proofs.WalkLemmas.{AreFilled, by_trail, lex-cases, has-numbers, trail-tells, trails-ordered, chain-first, tree-filled}

-- ---- lists in order

pub ordered-at : (first : ℕ → ℕ → Bool) (xs : List ℕ) (i j : ℕ) → IsOrdered first xs → i < j → j < length xs → first (get_or xs i 0) (get_or xs j 0) ≡ true
unfolding IsOrdered
ordered-at first [] i j o less lt = absurd (omega arith)
ordered-at first (x ∷ xs) i zero o less lt = absurd (omega arith)
ordered-at first (x ∷ xs) zero (suc j) o less lt = o.0 (get_or xs j 0) (IsIn-get_or xs j 0 (omega arith))
ordered-at first (x ∷ xs) (suc i) (suc j) o less lt = ordered-at first xs i j o.1 (omega arith) (omega arith)

-- one that stands before another has the lower place
pub lower-place : (first : ℕ → ℕ → Bool) → Asymmetric first → (xs : List ℕ) (i j : ℕ) → IsOrdered first xs → i < length xs → first (get_or xs i 0) (get_or xs j 0) ≡ true → i < j
lower-place first asym xs i j o lt before = ⊎_elim (λ less. less)
    (λ le. ⊎_elim
    (λ (more : j < i). absurd (asym (get_or xs i 0) (get_or xs j 0) before (ordered-at first xs j i o more lt)))
    (λ back. let same : j ≡ i = omega arith in let f = subst (λ (k : ℕ). first (get_or xs i 0) (get_or xs k 0) ≡ true) same before in absurd (asym (get_or xs i 0) (get_or xs i 0) f f))
    (cases_lt j i))
    (cases_lt i j)

length-put : (first : ℕ → ℕ → Bool) (x : ℕ) (xs : List ℕ) → length (put first x xs) ≡ suc (length xs)
length-put first x [] = refl
length-put first x (y ∷ ys) = ⊎_elim (λ (e : first x y ≡ true). rw e refl) (λ (e : first x y ≡ false). rw e (ap suc (length-put first x ys))) (cases_Bool (first x y))

length-in_order : (first : ℕ → ℕ → Bool) (xs : List ℕ) → length (in_order first xs) ≡ length xs
length-in_order first [] = refl
length-in_order first (x ∷ xs) = length-put first x (in_order first xs) ∙ ap suc (length-in_order first xs)

-- ---- trails that begin with another

-- what stands between a trail and one that begins with it begins with it too
begins-between : (p t r : List ℕ) → comes_before p t ≡ true → comes_before t (p ++ r) ≡ true → (s : List ℕ) × (t ≡ p ++ s)
begins-between [] t r u v = (t, refl)
begins-between (x ∷ p) [] r u v = cc
begins-between (x ∷ p) (y ∷ t) r u v = ⊎_elim
    (λ (less : x < y). absurd (⊎_elim (λ (more : y < x). omega arith) (λ same. let e = same.0 in omega arith) (lex-cases y x t (p ++ r) v)))
    (λ same. ⊎_elim (λ (more : y < x). let e = same.0 in absurd (omega arith))
    (λ other. let rest = begins-between p t r same.1 other.1 in (rest.0, ap (λ (k : ℕ). k ∷ t) other.0 ∙ ap (λ (zs : List ℕ). x ∷ zs) rest.1))
    (lex-cases y x t (p ++ r) v))
    (lex-cases x y p t u)

before-longer : (p r : List ℕ) → 0 < length r → comes_before p (p ++ r) ≡ true
before-longer [] [] lt = absurd (omega arith)
before-longer [] (y ∷ r) lt = refl
before-longer (x ∷ p) r lt = rw (eq-eqb x x refl, before-longer p r lt) (or_right (ltb x x) true refl)

-- ---- nodes of one chain

around-at : (sets : List (List ℕ)) → IsLaminar sets → (leaf i : ℕ) (xs : List ℕ) → IsOrderedChain sets leaf xs → i < length xs → around sets (get_or xs i 0) ≡ drop i xs
unfolding around
around-at sets l leaf i xs c lt = ap (λ (ys : List ℕ). get_or xs i 0 ∷ ys) (outside-next sets l leaf i (get_or xs i 0) xs c lt refl) ∙ sym (drop-cons xs i 0 lt)

-- a node's trail is that of one further out, and more
longer-trail : (sets : List (List ℕ)) → IsLaminar sets → (leaf i d : ℕ) (xs : List ℕ) → IsOrderedChain sets leaf xs → i + d < length xs
    → node_trail sets (get_or xs i 0) ≡ node_trail sets (get_or xs (i + d) 0) ++ reverse (map (least sets) (take d (drop i xs)))
longer-trail sets l leaf i d xs c lt =
    let F : List ℕ → List ℕ = λ ys. reverse (map (least sets) ys) in
    let whole : drop i xs ≡ take d (drop i xs) ++ drop (i + d) xs = sym (take-append-drop d (drop i xs)) ∙ ap (λ (ys : List ℕ). take d (drop i xs) ++ ys) (drop-drop d i xs) in
    ap F (around-at sets l leaf i xs c (omega arith)) ∙ ap F whole
    ∙ ap reverse (map-append (least sets) (take d (drop i xs)) (drop (i + d) xs))
    ∙ reverse-append (map (least sets) (take d (drop i xs))) (map (least sets) (drop (i + d) xs))
    ∙ ap (λ (ys : List ℕ). F ys ++ F (take d (drop i xs))) (sym (around-at sets l leaf (i + d) xs c lt))

trail-length : (sets : List (List ℕ)) → IsLaminar sets → (leaf i : ℕ) (xs : List ℕ) → IsOrderedChain sets leaf xs → i < length xs → length (node_trail sets (get_or xs i 0)) ≡ length xs - i
trail-length sets l leaf i xs c lt =
    length-reverse (map (least sets) (around sets (get_or xs i 0))) ∙ rw length-map refl ∙ ap length (around-at sets l leaf i xs c lt) ∙ length-drop i xs

trail-some : (sets : List (List ℕ)) (n : ℕ) → 0 < length (node_trail sets n)
unfolding around
trail-some sets n = rw (length-reverse, length-map) (omega arith)

-- two nodes of a chain
record AreBoth (sets : List (List ℕ)) (m n : ℕ) : Type 0 where
  leaf : ℕ
  inner : ℕ
  more : ℕ
  within : inner + more < length (chain sets leaf)
  here : get_or (chain sets leaf) inner 0 ≡ m
  there : get_or (chain sets leaf) (inner + more) 0 ≡ n

-- a node and one that it lies inside
both-nodes : (sets : List (List ℕ)) → IsLaminar sets → AreFilled sets → (m n : ℕ) → m < length sets → n < length sets → is_within sets m n ≡ true → AreBoth sets m n
both-nodes sets l f m n lm ln w =
    let h : ℕ = least sets m in
    let c = chain-is sets l h in
    let p = place_from_IsIn (chain sets h) m 0 (holds-chain sets h m (chain sets h) c (record { node = lm; has_leaf = f m lm })) in
    ⊎_elim
    (λ (e : eqb m n ≡ true). record { leaf = h; inner = p.0; more = 0; within = (let lt = p.1 in omega arith); here = p.2; there = ap (λ (i : ℕ). get_or (chain sets h) i 0) (omega arith) ∙ p.2 ∙ eqb-true m n e })
    (λ inside.
    let q = place_from_IsIn (chain sets h) n 0 (holds-chain sets h n (chain sets h) c (record { node = ln; has_leaf = inside-within sets m n inside h (f m lm) })) in
    let lt : p.0 < q.0 = lower-place (is_inside sets) (inside-asymmetric sets) (chain sets h) p.0 q.0 c.ordered p.1 (rw (p.2, q.2) inside) in
    let place : p.0 + (q.0 - p.0) ≡ q.0 = omega arith in
    record { leaf = h; inner = p.0; more = q.0 - p.0; within = rw place q.1; here = p.2; there = rw place q.2 })
    (or_cases (eqb m n) (is_inside sets m n) w)

both-within : (sets : List (List ℕ)) → IsLaminar sets → (m n : ℕ) → AreBoth sets m n → is_within sets m n ≡ true
both-within sets l m n b = ⊎_elim
    (λ (none : b.more ≡ 0). or_left (eqb m n) (is_inside sets m n) (eq-eqb m n (sym b.here ∙ ap (λ (i : ℕ). get_or (chain sets b.leaf) i 0) (omega arith) ∙ b.there)))
    (λ some. or_right (eqb m n) (is_inside sets m n) (rw (← b.here, ← b.there) (ordered-at (is_inside sets) (chain sets b.leaf) b.inner (b.inner + b.more) (chain-is sets l b.leaf).ordered (positive b.inner b.more some) b.within)))
    (cases_eq b.more 0)
  where
    positive : (i d : ℕ) → (d ≡ 0 → ⊥) → i < i + d
    positive i zero some = absurd (some refl)
    positive i (suc d) some = omega arith

-- a node within n has n's trail, and more
within-trail : (sets : List (List ℕ)) → IsLaminar sets → AreFilled sets → (m n : ℕ) → m < length sets → n < length sets → is_within sets m n ≡ true → (r : List ℕ) × (node_trail sets m ≡ node_trail sets n ++ r)
within-trail sets l f m n lm ln w =
    let b = both-nodes sets l f m n lm ln w in (
      reverse (map (least sets) (take b.more (drop b.inner (chain sets b.leaf)))),
      ap (node_trail sets) (sym b.here) ∙ longer-trail sets l b.leaf b.inner b.more (chain sets b.leaf) (chain-is sets l b.leaf) b.within
          ∙ ap (λ (k : ℕ). node_trail sets k ++ reverse (map (least sets) (take b.more (drop b.inner (chain sets b.leaf))))) b.there,
    )

-- a node whose trail begins with n's is within n
trail-within : (sets : List (List ℕ)) → IsLaminar sets → AreFilled sets → (m n : ℕ) (r : List ℕ) → m < length sets → n < length sets → node_trail sets m ≡ node_trail sets n ++ r → is_within sets m n ≡ true
trail-within sets l f m n r lm ln e =
    let h : ℕ = least sets m in
    let xs : List ℕ = chain sets h in
    let c = chain-is sets l h in
    let p = place_from_IsIn xs m 0 (holds-chain sets h m xs c (record { node = lm; has_leaf = f m lm })) in
    let long : (i : ℕ) → i < length xs → length (node_trail sets (get_or xs i 0)) ≡ length xs - i = λ i lt. trail-length sets l h i xs c lt in
    let whole : length xs - p.0 ≡ length (node_trail sets n) + length r = sym (long p.0 p.1) ∙ ap (λ (k : ℕ). length (node_trail sets k)) p.2 ∙ ap length e ∙ length-append (node_trail sets n) r in
    let some = trail-some sets n in
    let d : ℕ = length r in
    let lt : p.0 + d < length xs = (let within = p.1 in omega (arith, whole, some, within)) in
    let split = ap (node_trail sets) (sym p.2) ∙ longer-trail sets l h p.0 d xs c lt in
    let size : length (node_trail sets (get_or xs (p.0 + d) 0)) ≡ length (node_trail sets n) = (let n = long (p.0 + d) lt in omega (arith, n, whole)) in
    let same : node_trail sets (get_or xs (p.0 + d) 0) ≡ node_trail sets n = sym (take-append_seam (node_trail sets (get_or xs (p.0 + d) 0)) (reverse (map (least sets) (take d (drop p.0 xs)))))
    ∙ ap (take (length (node_trail sets (get_or xs (p.0 + d) 0)))) (sym split ∙ e) ∙ ap (λ (j : ℕ). take j (node_trail sets n ++ r)) size ∙ take-append_seam (node_trail sets n) r
    in
    let node = (chain-holds sets h (get_or xs (p.0 + d) 0) xs c (IsIn-get_or xs (p.0 + d) 0 lt)).node in
    let is : get_or xs (p.0 + d) 0 ≡ n = sym (trail-tells sets l f (get_or xs (p.0 + d) 0) node) ∙ ap (node_of (chain sets)) same ∙ trail-tells sets l f n ln in
    both-within sets l m n (record { leaf = h; inner = p.0; more = d; within = lt; here = p.2; there = is })

-- ---- the walk

walk-ordered : (sets : List (List ℕ)) → IsLaminar sets → AreFilled sets → IsOrdered (by_trail (node_trail sets)) (node_walk sets)
unfolding node_walk
walk-ordered sets l f = trails-ordered (node_trail sets) (node_of (chain sets)) (length sets) (λ k lt. trail-tells sets l f k lt)

pub has-walk : (sets : List (List ℕ)) (k : ℕ) → has k (node_walk sets) ≡ ltb k (length sets)
unfolding node_walk
has-walk sets k = has-in_order (by_trail (node_trail sets)) (below (length sets)) k ∙ has-numbers (length sets) k

pub length-walk : (sets : List (List ℕ)) → length (node_walk sets) ≡ length sets
unfolding node_walk
length-walk sets = length-in_order (by_trail (node_trail sets)) (below (length sets)) ∙ length-below (length sets)

pub walk-node : (sets : List (List ℕ)) (p : ℕ) → p < length sets → get_or (node_walk sets) p 0 < length sets
walk-node sets p lt = ltb-true (get_or (node_walk sets) p 0) (length sets) (sym (has-walk sets (get_or (node_walk sets) p 0)) ∙ IsIn-get_or (node_walk sets) p 0 (rw length-walk lt))

-- where a node stands in the walk
abbrev pub place : List (List ℕ) → ℕ → ℕ
place sets k = position_or_len (λ x. eqb x k) (node_walk sets)

pub place-of : (sets : List (List ℕ)) (k : ℕ) → k < length sets → (place sets k < length sets) × (get_or (node_walk sets) (place sets k) 0 ≡ k)
place-of sets k lt = let p = placed (node_walk sets) k (has-walk sets k ∙ lt-ltb k (length sets) lt) in (rw length-walk at p.0, p.1)

-- a node stands no later than those within it
first-within : (sets : List (List ℕ)) → IsLaminar sets → AreFilled sets → (n p q : ℕ) → p < length sets → q < length sets → get_or (node_walk sets) q 0 ≡ n → is_within sets (get_or (node_walk sets) p 0) n ≡ true → q ≤ p
first-within sets l f n p q lp lq here w =
    let node = walk-node sets p lp in
    let longer = within-trail sets l f (get_or (node_walk sets) p 0) n node (rw (← here) (walk-node sets q lq)) w in
    ⊎_elim
    (λ (back : p < q).
    let before = rw here at (ordered-at (by_trail (node_trail sets)) (node_walk sets) p q (walk-ordered sets l f) back (rw length-walk lq)) in
    absurd (no-shorter (node_trail sets n) longer.0 (rw longer.1 at before)))
    (λ le. le)
    (cases_lt p q)
  where
    no-shorter : (p r : List ℕ) → comes_before (p ++ r) p ≡ true → ⊥
    no-shorter [] r e = cc
    no-shorter (x ∷ p) r e = ⊎_elim (λ (less : x < x). omega arith) (λ same. no-shorter p r same.1) (lex-cases x x (p ++ r) p e)

-- what stands between a node and one within it is within it
between : (sets : List (List ℕ)) → IsLaminar sets → AreFilled sets → (n p q s : ℕ) → s < length sets → q ≤ p → p ≤ s → get_or (node_walk sets) q 0 ≡ n → is_within sets (get_or (node_walk sets) s 0) n ≡ true → is_within sets (get_or (node_walk sets) p 0) n ≡ true
between sets l f n p q s ls le more here w =
    let ordered = walk-ordered sets l f in
    let long = length-walk sets in
    let T : ℕ → List ℕ = node_trail sets in
    let node = walk-node sets p (omega arith) in
    let own : n < length sets = rw (← here) (walk-node sets q (omega arith)) in
    let longer = within-trail sets l f (get_or (node_walk sets) s 0) n (walk-node sets s ls) own w in
    ⊎_elim
    (λ (early : q < p). ⊎_elim
    (λ (late : p < s).
    let first = rw here at (ordered-at (by_trail T) (node_walk sets) q p ordered early (omega (arith, long, late, ls))) in
    let last = rw longer.1 at (ordered-at (by_trail T) (node_walk sets) p s ordered late (omega (arith, long, ls))) in
    let begins = begins-between (T n) (T (get_or (node_walk sets) p 0)) longer.0 first last in
    trail-within sets l f (get_or (node_walk sets) p 0) n begins.0 node own begins.1)
    (λ end. let same : p ≡ s = omega arith in rw same w)
    (cases_lt p s))
    (λ start. let same : p ≡ q = omega arith in or_left (eqb (get_or (node_walk sets) p 0) n) (is_inside sets (get_or (node_walk sets) p 0) n) (eq-eqb (get_or (node_walk sets) p 0) n (rw same here)))
    (cases_lt q p)

-- ---- the ends of spans

-- how far the span of each node reaches, by the hospitals at the first p positions of the walk
pub record AreEnds (sets : List (List ℕ)) (hospitals : ℕ) (walk : List ℕ) (p : ℕ) (pasts : List ℕ) : Type 0 where
  pub lengths : length pasts ≡ length walk
  pub high : (k q : ℕ) → k < length walk → q < p → get_or walk q 0 < hospitals → IsIn (get_or walk q 0) (set_of sets k) → q < get_or pasts k 0
  pub low : (k : ℕ) → k < length walk → (get_or pasts k 0 ≡ 0) ⊎ ((get_or pasts k 0 ≤ p) × (get_or walk (get_or pasts k 0 - 1) 0 < hospitals) × IsIn (get_or walk (get_or pasts k 0 - 1) 0) (set_of sets k))

pub none-ended : (sets : List (List ℕ)) (hospitals : ℕ) (walk pasts : List ℕ) → pasts ≡ replicate (length walk) 0 → AreEnds sets hospitals walk 0 pasts
none-ended sets hospitals walk pasts e = record {
  lengths = rw e (length-replicate {A = ℕ} (length walk) 0);
  high = λ k q lt none. absurd (omega arith);
  low = λ k lt. inl (rw e (get_or-replicate {A = ℕ} (length walk) k 0 0 lt));
}

pub group-passed : (sets : List (List ℕ)) (hospitals : ℕ) (walk : List ℕ) (p : ℕ) (pasts : List ℕ) → AreEnds sets hospitals walk p pasts → hospitals ≤ get_or walk p 0 → AreEnds sets hospitals walk (p + 1) pasts
group-passed sets hospitals walk p pasts e le = record {
  lengths = e.lengths;
  high = λ k q lt less own i. ⊎_elim (λ (early : q < p). e.high k q lt early own i) (λ here. let same : q ≡ p = omega arith in absurd (no-less hospitals (get_or walk p 0) le (subst (λ (j : ℕ). get_or walk j 0 < hospitals) same own))) (cases_lt q p);
  low = λ k lt. ⊎_elim (λ none. inl none) (λ some. inr (let less = some.0 in omega arith, some.1, some.2)) (e.low k lt);
}
  where
    no-less : (n k : ℕ) → n ≤ k → k < n → ⊥
    no-less n k le lt = omega arith

pub hospital-passed : (sets : List (List ℕ)) (hospitals : ℕ) (walk : List ℕ) (p : ℕ) (pasts new xs : List ℕ) → AreEnds sets hospitals walk p pasts → length walk ≡ length sets → get_or walk p 0 < hospitals → IsOrderedChain sets (get_or walk p 0) xs
    → length new ≡ length pasts → ((k : ℕ) → get_or new k 0 ≡ cond (has k xs) (p + 1) (get_or pasts k 0)) → AreEnds sets hospitals walk (p + 1) new
hospital-passed sets hospitals walk p pasts new xs e count own c same each = record {
  lengths = same ∙ e.lengths;
  high = λ k q lt less small i. ⊎_elim
      (λ (yes : has k xs ≡ true). rw (each k, yes) less)
      (λ (no : has k xs ≡ false). rw (each k, no) (⊎_elim (λ (early : q < p). e.high k q lt early small i)
      (λ here. let at : q ≡ p = omega arith in absurd (not_both (has k xs) (holds-chain sets (get_or walk p 0) k xs c (record { node = rw (← count) lt; has_leaf = subst (λ (j : ℕ). IsIn (get_or walk j 0) (set_of sets k)) at i })) no))
      (cases_lt q p)))
      (cases_Bool (has k xs));
  low = λ k lt. ⊎_elim
      (λ (yes : has k xs ≡ true). let at : p + 1 - 1 ≡ p = omega arith in rw (each k, yes, at) (inr (omega arith, own, (chain-holds sets (get_or walk p 0) k xs c yes).has_leaf)))
      (λ (no : has k xs ≡ false). rw (each k, no) (⊎_elim (λ none. inl none) (λ some. inr (let less = some.0 in omega arith, some.1, some.2)) (e.low k lt)))
      (cases_Bool (has k xs));
}

hospital-within : (hospitals : ℕ) (groups : List (List ℕ)) → IsLaminar (tree_sets hospitals groups) → (h m : ℕ) → h < hospitals → m < length (tree_sets hospitals groups) → IsIn h (set_of (tree_sets hospitals groups) m) → is_within (tree_sets hospitals groups) h m ≡ true
unfolding IsOrdered
hospital-within hospitals groups l h m lt lm i =
    let sets = tree_sets hospitals groups in
    let c = chain-is sets l h in
    let first = chain-first hospitals h groups (chain sets h) lt c in
    let there = subst (λ (xs : List ℕ). IsIn m xs) first.1 (holds-chain sets h m (chain sets h) c (record { node = lm; has_leaf = i })) in
    let ordered = subst (λ (xs : List ℕ). IsOrdered (is_inside sets) xs) first.1 c.ordered in
    ⊎_elim
    (λ (same : m ≡ h). or_left (eqb h m) (is_inside sets h m) (eq-eqb h m (sym same)))
    (λ later. or_right (eqb h m) (is_inside sets h m) (ordered.0 m later))
    (IsIn-cases m h first.0 there)

within-set : (sets : List (List ℕ)) (m n x : ℕ) → is_within sets m n ≡ true → IsIn x (set_of sets m) → IsIn x (set_of sets n)
within-set sets m n x w i = ⊎_elim
    (λ (same : eqb m n ≡ true). subst (λ (k : ℕ). IsIn x (set_of sets k)) (eqb-true m n same) i)
    (λ inside. inside-within sets m n inside x i)
    (or_cases (eqb m n) (is_inside sets m n) w)

-- a node has a hospital that stands at its position or after, before the end of the span of each node that it lies in
before-end : (hospitals : ℕ) (groups chains : List (List ℕ)) (pasts : List ℕ) → AreHospitalGroups hospitals groups → AreChains hospitals groups chains
    → AreEnds (tree_sets hospitals groups) hospitals (node_walk (tree_sets hospitals groups)) (length (tree_sets hospitals groups)) pasts
    → (n p : ℕ) → n < length (tree_sets hospitals groups) → p < length (tree_sets hospitals groups) → is_within (tree_sets hospitals groups) (get_or (node_walk (tree_sets hospitals groups)) p 0) n ≡ true → p < get_or pasts n 0
before-end hospitals groups chains pasts gs c e n p lt lp w =
    let sets = tree_sets hospitals groups in
    let m : ℕ = get_or (node_walk sets) p 0 in
    let node = walk-node sets p lp in
    let least_of = least-there hospitals groups chains m gs c node in
    let own : least sets m < length sets = (let small = least_of.1 in let count = tree-length hospitals groups in omega (arith, small, count)) in
    let q = place-of sets (least sets m) own in
    let le : p ≤ place sets (least sets m) = first-within sets c.laminar (tree-filled hospitals groups chains gs c) m (place sets (least sets m)) p q.0 lp refl
    (rw q.1 (hospital-within hospitals groups c.laminar (least sets m) m least_of.1 node least_of.0))
    in
    let less = e.high n (place sets (least sets m)) (rw length-walk lt) q.0 (rw q.1 least_of.1) (rw q.1 (within-set sets m n (least sets m) w least_of.0)) in
    omega (arith, le, less)

pub spans-are : (hospitals : ℕ) (groups chains : List (List ℕ)) (pasts : List ℕ) → AreHospitalGroups hospitals groups → AreChains hospitals groups chains
    → AreEnds (tree_sets hospitals groups) hospitals (node_walk (tree_sets hospitals groups)) (length (tree_sets hospitals groups)) pasts → ArePasts (tree_sets hospitals groups) pasts
spans-are hospitals groups chains pasts gs c e =
    let sets = tree_sets hospitals groups in
    let f = tree-filled hospitals groups chains gs c in
    record {
      lengths = e.lengths ∙ length-walk sets;
      each = λ n lt. let own = place-of sets n lt in let low = e.low n (rw length-walk lt) in record {
        within = ⊎_elim (λ none. omega (arith, none)) (λ some. some.0) low;
        opens = own.1;
        each = λ p lp. (
          (λ in_span. ⊎_elim
              (λ none. let less = in_span.1 in absurd (omega (arith, none, less)))
              (λ some.
              let less = in_span.1 in
              let end = some.0 in
              between sets c.laminar f n p (place sets n) (get_or pasts n 0 - 1) (omega (arith, less, end)) in_span.0 (omega (arith, less)) own.1
              (hospital-within hospitals groups c.laminar (get_or (node_walk sets) (get_or pasts n 0 - 1) 0) n some.1 lt some.2))
              low),
          (λ w. (
            first-within sets c.laminar f n p (place sets n) lp own.0 own.1 w,
            before-end hospitals groups chains pasts gs c e n p lt lp w,
          )),
        );
      };
    }

pub walk-below : (sets : List (List ℕ)) → All (λ k. k < length sets) (node_walk sets)
walk-below sets = All-from_members (λ (k : ℕ). k < length sets) (node_walk sets) (λ k i. ltb-true k (length sets) (sym (has-walk sets k) ∙ i))

pub walk-kept : (sets : List (List ℕ)) (nodes places pasts : List ℕ) → nodes ≡ node_walk sets → places ≡ map (place sets) (below (length sets)) → ArePasts sets pasts → IsWalk sets nodes places pasts
walk-kept sets nodes places pasts are at ends = record {
  nodes_are = are;
  length_places = rw at (rw length-map (length-below (length sets)));
  length_pasts = ends.lengths;
  spans = λ n lt.
      let here : get_or places n 0 ≡ place sets n = rw at (get_or-map (place sets) (below (length sets)) n 0 0 (rw length-below lt) ∙ ap (place sets) (get-below (length sets) n 0 lt)) in
      rw here (ends.each n lt);
}
