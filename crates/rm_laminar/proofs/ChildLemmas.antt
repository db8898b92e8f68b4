-- The children of each node, found along the chains of the hospitals.
use Rattle.std.proofs.Common.{◌≡◌, ◌∙◌, ℕ, zero, suc, ◌+◌, ◌-◌, ◌<◌, ◌≤◌, List, [], ◌∷◌, ◌++◌, Bool, true, false, ◌&&◌, ◌||◌, ltb, eqb, filter, get_or, set, length, take, replicate, Option, Some, None, refl, sym, ap, subst, inl, inr, ⊎_elim, arith, ltb-true, eqb-true}
use Rattle.std.specs.List.{slice_get, slice_index}
use Rattle.std.specs.Option.{unwrap_or}
use Rattle.std.proofs.lemmas.Bool.{cases_eq, cases_Bool, cases_order, lt-ltb, le-ltb, eq-eqb, ne_eqb, and_parts, or_cases}
use Rattle.std.proofs.lemmas.List.{length-replicate, get_or-replicate, length-set, get_or-set_same, get_or-set_other, get_or-take}
use Rattle.std.proofs.lemmas.Option.{slice_get_within, unwrap_or-slice_get}
use Rattle.rm_sets.specs.Sets.{has, IsIn, IsSet}
use Rattle.rm_sets.proofs.Sets.{IsIn-here, IsIn-later, IsIn-cases, IsSet-first, has-append, IsSet-filter, IsSet-all_below}
use Rattle.rm_sets.proofs.Members.{not_in_nil, IsIn-get_or, place_from_IsIn}
use Rattle.rm_market.specs.Tree.{below, set_of, least, is_inside, equals_number, in_order, chain, parent, children, sets_of_tree, TreeOf}
use Rattle.rm_laminar.specs.Chains.{IsOrdered, IsLaminar, IsOrderedChain}
use Rattle.rm_laminar.specs.Tree.{AreChildren}
use Rattle.rm_laminar.proofs.Order.{Asymmetric, IsOrderOn, same_ordered, has-in_order, in_order-ordered}
use Rattle.rm_laminar.proofs.Laminar.{inside-asymmetric, chain-is, chain-holds, holds-chain, has-below}
use Rattle.rm_laminar.proofs.Parents.{parent-next}
use Rattle.rm_laminar.proofs.Members.{has-more}

abbrev pub by_least : List (List ℕ) → ℕ → ℕ → Bool
by_least sets a b = ltb (least sets a) (least sets b)

by_least-asymmetric : (sets : List (List ℕ)) → Asymmetric (by_least sets)
by_least-asymmetric sets a b p q =
    let less = ltb-true (least sets a) (least sets b) p in
    let more = ltb-true (least sets b) (least sets a) q in
    omega arith

-- ---- places

get-is : (xs : List ℕ) (j n : ℕ) → slice_get xs j ≡ Some n → get_or xs j n ≡ n
get-is xs j n e = sym (unwrap_or-slice_get xs j n) ∙ ap (λ (o : Option ℕ). unwrap_or o n) e

get-in : (xs : List ℕ) (j n : ℕ) → slice_get xs j ≡ Some n → IsIn n xs
get-in xs j n e = subst (λ (x : ℕ). IsIn x xs) (get-is xs j n e) (IsIn-get_or xs j n (slice_get_within xs j n e))

get-some : (xs : List ℕ) (j d : ℕ) → j < length xs → slice_get xs j ≡ Some (get_or xs j d)
get-some [] j d lt = absurd (omega arith)
get-some (x ∷ xs) zero d lt = refl
get-some (x ∷ xs) (suc j) d lt = get-some xs j d (omega arith)

twice : (first : ℕ → ℕ → Bool) → Asymmetric first → (x n : ℕ) (xs : List ℕ) → ((y : ℕ) → IsIn y xs → first x y ≡ true) → Some x ≡ Some n → IsIn n xs → ⊥
twice first asym x n xs p e i =
    let same : x ≡ n = cc in
    let f = subst (λ (y : ℕ). first x y ≡ true) (sym same) (p n i) in
    asym x x f f

-- an element stands at one place
one-place : (first : ℕ → ℕ → Bool) → Asymmetric first → (xs : List ℕ) (i j n : ℕ) → IsOrdered first xs → slice_get xs i ≡ Some n → slice_get xs j ≡ Some n → i ≡ j
unfolding IsOrdered
one-place first asym [] i j n p e f = cc
one-place first asym (x ∷ xs) zero zero n p e f = refl
one-place first asym (x ∷ xs) zero (suc j) n p e f = absurd (twice first asym x n xs p.0 e (get-in xs j n f))
one-place first asym (x ∷ xs) (suc i) zero n p e f = absurd (twice first asym x n xs p.0 f (get-in xs i n e))
one-place first asym (x ∷ xs) (suc i) (suc j) n p e f = ap suc (one-place first asym xs i j n p.1 e f)

-- the place of a node in a chain, and its parent there
pub record Stands (sets : List (List ℕ)) (xs : List ℕ) (k : ℕ) : Type 0 where
  pub place : ℕ
  pub within : place < length xs
  pub here : get_or xs place 0 ≡ k
  pub next : parent sets k ≡ slice_get xs (place + 1)

stands : (sets : List (List ℕ)) → IsLaminar sets → (leaf k : ℕ) (xs : List ℕ) → IsOrderedChain sets leaf xs → IsIn k xs → Stands sets xs k
stands sets l leaf k xs c i =
    let p = place_from_IsIn xs k 0 i in
    record { place = p.0; within = p.1; here = p.2; next = parent-next sets l leaf p.0 k xs c p.1 p.2 }

number-is : (o : Option ℕ) (n : ℕ) → equals_number o n ≡ true → o ≡ Some n
number-is None n e = cc
number-is (Some m) n e = ap Some (eqb-true m n e)

-- ---- the children found so far

-- k is a child of n with a lesser least hospital than h, or with h where it was seen
abbrev pub is_listed : List (List ℕ) → ℕ → List ℕ → ℕ → ℕ → Bool
is_listed sets h seen n k = (ltb k (length sets) && equals_number (parent sets k) n) && (ltb (least sets k) h || (eqb (least sets k) h && has k seen))

pub record AreListed (sets : List (List ℕ)) (h : ℕ) (seen : List ℕ) (lists : List (List ℕ)) : Type 0 where
  pub lengths : length lists ≡ length sets
  pub ordered : (n : ℕ) → n < length sets → IsOrdered (by_least sets) (get_or lists n [])
  pub each : (n k : ℕ) → n < length sets → has k (get_or lists n []) ≡ is_listed sets h seen n k

and_false : (b : Bool) → (b && false) ≡ false
and_false true = refl
and_false false = refl

or_false : (b : Bool) → (b || false) ≡ b
or_false true = refl
or_false false = refl

or_true : (b : Bool) → (b || true) ≡ true
or_true true = refl
or_true false = refl

pub none-listed : (sets lists : List (List ℕ)) → lists ≡ replicate (length sets) [] → AreListed sets 0 [] lists
unfolding IsOrdered
none-listed sets lists e = record {
  lengths = rw e (length-replicate {A = List ℕ} (length sets) []);
  ordered = λ n lt. rw (e, get_or-replicate {A = List ℕ} (length sets) n [] [] lt) tt;
  each = λ n k lt. rw (e, get_or-replicate {A = List ℕ} (length sets) n [] [] lt, le-ltb (least sets k) 0 (omega arith), and_false (eqb (least sets k) 0), and_false (ltb k (length sets) && equals_number (parent sets k) n)) refl;
}

-- each node has its least hospital
abbrev pub AreFilled : List (List ℕ) → Type 0
AreFilled sets = (k : ℕ) → k < length sets → IsIn (least sets k) (set_of sets k)

push-ordered : (first : ℕ → ℕ → Bool) (xs : List ℕ) (k : ℕ) → ((x : ℕ) → IsIn x xs → first x k ≡ true) → IsOrdered first xs → IsOrdered first (xs ++ k ∷ [])
unfolding IsOrdered
push-ordered first [] k h p = ((λ y i. absurd (not_in_nil y i)), tt)
push-ordered first (x ∷ xs) k h p = (
  (λ y i. ⊎_elim (λ old. p.0 y old) (λ new. ⊎_elim (λ (e : y ≡ k). subst (λ (z : ℕ). first x z ≡ true) (sym e) (h x (IsIn-here x xs))) (λ none. absurd (not_in_nil y none)) (IsIn-cases y k [] new)) (or_cases (has y xs) (has y (k ∷ [])) (sym (has-append xs (k ∷ []) y) ∙ i))),
  push-ordered first xs k (λ y i. h y (IsIn-later y x xs i)) p.1,
)

-- one more node of the chain was seen: nothing changes for the other nodes
seen-other : (sets : List (List ℕ)) (h j n k : ℕ) (xs : List ℕ) → j < length xs → (k ≡ get_or xs j 0 → ⊥) → is_listed sets h (take j xs) n k ≡ is_listed sets h (take (j + 1) xs) n k
seen-other sets h j n k xs lt apart = rw (has-more xs j k lt, ne_eqb k (get_or xs j 0) apart, or_false (has k (take j xs))) refl

pub one-skipped : (sets lists : List (List ℕ)) (h j : ℕ) (xs : List ℕ) → IsLaminar sets → IsOrderedChain sets h xs → j < length xs → least sets (get_or xs j 0) ≤ h → (least sets (get_or xs j 0) ≡ h → ⊥) → AreListed sets h (take j xs) lists → AreListed sets h (take (j + 1) xs) lists
one-skipped sets lists h j xs l c lt le apart a = record {
  lengths = a.lengths;
  ordered = a.ordered;
  each = λ n k less. a.each n k less ∙ ⊎_elim
      (λ (same : k ≡ get_or xs j 0).
      let early : ltb (least sets k) h ≡ true = lt-ltb (least sets k) h (strictly (least sets k) (least sets (get_or xs j 0)) h (ap (least sets) same) le apart) in
      rw early refl)
      (λ other. seen-other sets h j n k xs lt other)
      (cases_eq k (get_or xs j 0));
}
  where
    strictly : (a b h : ℕ) → a ≡ b → b ≤ h → (b ≡ h → ⊥) → a < h
    strictly a b h e le apart = omega arith

-- what is listed at the parent so far has a lesser least hospital
earlier : (sets lists : List (List ℕ)) (h j x : ℕ) (xs : List ℕ) → IsLaminar sets → IsOrderedChain sets h xs → j + 1 < length xs → AreListed sets h (take j xs) lists → get_or xs (j + 1) 0 < length sets
    → IsIn x (get_or lists (get_or xs (j + 1) 0) []) → least sets x < h
earlier sets lists h j x xs l c lt a node i =
    let both = and_parts (ltb x (length sets) && equals_number (parent sets x) (get_or xs (j + 1) 0)) (ltb (least sets x) h || (eqb (least sets x) h && has x (take j xs))) (sym (a.each (get_or xs (j + 1) 0) x node) ∙ i) in
    let at : parent sets x ≡ Some (get_or xs (j + 1) 0) = number-is (parent sets x) (get_or xs (j + 1) 0) (and_parts (ltb x (length sets)) (equals_number (parent sets x) (get_or xs (j + 1) 0)) both.0).1 in
    ⊎_elim (λ less. ltb-true (least sets x) h less)
    (λ seen.
    let p = place_from_IsIn (take j xs) x 0 (and_parts (eqb (least sets x) h) (has x (take j xs)) seen).1 in
    let short : p.0 < j = shorter xs j p.0 p.1 in
    let here : get_or xs p.0 0 ≡ x = sym (get_or-take j xs p.0 0 short) ∙ p.2 in
    let next = parent-next sets l h p.0 x xs c (omega arith) here in
    let same : p.0 + 1 ≡ j + 1 = one-place (is_inside sets) (inside-asymmetric sets) xs (p.0 + 1) (j + 1) (get_or xs (j + 1) 0) c.ordered (sym next ∙ at) (get-some xs (j + 1) 0 lt) in
    absurd (omega arith))
    (or_cases (ltb (least sets x) h) (eqb (least sets x) h && has x (take j xs)) both.1)
  where
    shorter : (xs : List ℕ) (j p : ℕ) → p < length (take j xs) → p < j
    shorter xs zero p lt = lt
    shorter [] (suc j) p lt = absurd (omega arith)
    shorter (x ∷ xs) (suc j) zero lt = omega arith
    shorter (x ∷ xs) (suc j) (suc p) lt = let less = shorter xs j p (omega arith) in omega arith

pub one-listed : (sets lists new : List (List ℕ)) (h j : ℕ) (xs : List ℕ) → IsLaminar sets → IsOrderedChain sets h xs → j + 1 < length xs → least sets (get_or xs j 0) ≡ h → AreListed sets h (take j xs) lists
    → new ≡ set lists (get_or xs (j + 1) 0) (get_or lists (get_or xs (j + 1) 0) [] ++ get_or xs j 0 ∷ []) → AreListed sets h (take (j + 1) xs) new
one-listed sets lists new h j xs l c lt first a is =
    let node : get_or xs (j + 1) 0 < length sets = (chain-holds sets h (get_or xs (j + 1) 0) xs c (IsIn-get_or xs (j + 1) 0 lt)).node in
    let own : get_or xs j 0 < length sets = (chain-holds sets h (get_or xs j 0) xs c (IsIn-get_or xs j 0 (omega arith))).node in
    let up : parent sets (get_or xs j 0) ≡ Some (get_or xs (j + 1) 0) = parent-next sets l h j (get_or xs j 0) xs c (omega arith) refl ∙ get-some xs (j + 1) 0 lt in
    let within : get_or xs (j + 1) 0 < length lists = (let e = a.lengths in omega arith) in
    record {
      lengths = rw (is, length-set) a.lengths;
      ordered = λ n less. rw is (⊎_elim
          (λ (same : n ≡ get_or xs (j + 1) 0). rw (same, get_or-set_same lists (get_or xs (j + 1) 0) (get_or lists (get_or xs (j + 1) 0) [] ++ get_or xs j 0 ∷ []) [] within)
          (push-ordered (by_least sets) (get_or lists (get_or xs (j + 1) 0) []) (get_or xs j 0)
          (λ x i. lt-ltb (least sets x) (least sets (get_or xs j 0)) (rw first (earlier sets lists h j x xs l c lt a node i))) (a.ordered (get_or xs (j + 1) 0) node)))
          (λ apart. rw (get_or-set_other lists (get_or xs (j + 1) 0) n (get_or lists (get_or xs (j + 1) 0) [] ++ get_or xs j 0 ∷ []) [] apart) (a.ordered n less))
          (cases_eq n (get_or xs (j + 1) 0)));
      each = λ n k less. rw is (⊎_elim
          (λ (same : n ≡ get_or xs (j + 1) 0). rw (same, get_or-set_same lists (get_or xs (j + 1) 0) (get_or lists (get_or xs (j + 1) 0) [] ++ get_or xs j 0 ∷ []) [] within)
          (has-append (get_or lists (get_or xs (j + 1) 0) []) (get_or xs j 0 ∷ []) k ∙ ⊎_elim
          (λ (here : k ≡ get_or xs j 0). rw (
            here,
            eq-eqb (get_or xs j 0) (get_or xs j 0) refl,
            or_true (has (get_or xs j 0) (get_or lists (get_or xs (j + 1) 0) [])),
            lt-ltb (get_or xs j 0) (length sets) own,
            up,
            eq-eqb (get_or xs (j + 1) 0) (get_or xs (j + 1) 0) refl,
            eq-eqb (least sets (get_or xs j 0)) h first,
            has-more xs j (get_or xs j 0) (omega arith),
            eq-eqb (get_or xs j 0) (get_or xs j 0) refl,
            or_true (has (get_or xs j 0) (take j xs)),
            or_true (ltb (least sets (get_or xs j 0)) h),
          ) refl)
          (λ other. rw (ne_eqb k (get_or xs j 0) other, or_false (has k (get_or lists (get_or xs (j + 1) 0) []))) (a.each (get_or xs (j + 1) 0) k node ∙ seen-other sets h j (get_or xs (j + 1) 0) k xs (omega arith) other))
          (cases_eq k (get_or xs j 0))))
          (λ apart. rw (get_or-set_other lists (get_or xs (j + 1) 0) n (get_or lists (get_or xs (j + 1) 0) [] ++ get_or xs j 0 ∷ []) [] apart) (a.each n k less ∙ ⊎_elim
          (λ (here : k ≡ get_or xs j 0). rw (here, up, ne_eqb (get_or xs (j + 1) 0) n (λ e. apart (sym e)), and_false (ltb (get_or xs j 0) (length sets))) refl)
          (λ other. seen-other sets h j n k xs (omega arith) other)
          (cases_eq k (get_or xs j 0))))
          (cases_eq n (get_or xs (j + 1) 0)));
    }

in-take : (xs : List ℕ) (j p : ℕ) → p < j → p < length xs → IsIn (get_or xs p 0) (take j xs)
in-take [] j p less lt = absurd (omega arith)
in-take (x ∷ xs) zero p less lt = absurd (omega arith)
in-take (x ∷ xs) (suc j) zero less lt = IsIn-here x (take j xs)
in-take (x ∷ xs) (suc j) (suc p) less lt = IsIn-later (get_or xs p 0) x (take j xs) (in-take xs j p (omega arith) (omega arith))

all-seen : (sets : List (List ℕ)) (h j n k : ℕ) (xs : List ℕ) → IsLaminar sets → AreFilled sets → IsOrderedChain sets h xs → length xs ≤ j + 1 → (ltb k (length sets) && equals_number (parent sets k) n) ≡ true
    → (ltb (least sets k) h || (eqb (least sets k) h && has k (take j xs))) ≡ (ltb (least sets k) (h + 1) || (eqb (least sets k) (h + 1) && has k []))
all-seen sets h j n k xs l f c le child =
    let both = and_parts (ltb k (length sets)) (equals_number (parent sets k) n) child in
    let node : k < length sets = ltb-true k (length sets) both.0 in
    ⊎_elim
    (λ (same : least sets k ≡ h).
    let s = stands sets l h k xs c (holds-chain sets h k xs c (record { node = node; has_leaf = subst (λ (x : ℕ). IsIn x (set_of sets k)) same (f k node) })) in
    let short = slice_get_within xs (s.place + 1) n (sym s.next ∙ number-is (parent sets k) n both.1) in
    let in_seen : has k (take j xs) ≡ true = subst (λ (x : ℕ). IsIn x (take j xs)) s.here (in-take xs j s.place (omega (arith, short, le)) s.within) in
    rw (in_seen, eq-eqb (least sets k) h same, or_true (ltb (least sets k) h), lt-ltb (least sets k) (h + 1) (omega arith)) refl)
    (λ apart. ⊎_elim
    (λ (less : least sets k < h). rw (lt-ltb (least sets k) h less, lt-ltb (least sets k) (h + 1) (omega arith)) refl)
    (λ (more : h < least sets k). rw (le-ltb (least sets k) h (omega arith), ne_eqb (least sets k) h (λ e. omega arith), le-ltb (least sets k) (h + 1) (omega arith), and_false (eqb (least sets k) (h + 1))) refl)
    apart)
    (cases_order (least sets k) h)

-- all nodes of the chain but the outermost were seen
pub chain-listed : (sets lists : List (List ℕ)) (h j : ℕ) (xs : List ℕ) → IsLaminar sets → AreFilled sets → IsOrderedChain sets h xs → length xs ≤ j + 1 → AreListed sets h (take j xs) lists → AreListed sets (h + 1) [] lists
chain-listed sets lists h j xs l f c le a = record {
  lengths = a.lengths;
  ordered = a.ordered;
  each = λ n k less. a.each n k less ∙ ⊎_elim
      (λ (child : (ltb k (length sets) && equals_number (parent sets k) n) ≡ true). rw child (all-seen sets h j n k xs l f c le child))
      (λ (none : (ltb k (length sets) && equals_number (parent sets k) n) ≡ false). rw none refl)
      (cases_Bool (ltb k (length sets) && equals_number (parent sets k) n));
}

pub record IsChild (sets : List (List ℕ)) (n k : ℕ) : Type 0 where
  pub node : k < length sets
  pub up : parent sets k ≡ Some n

same-child : (sets : List (List ℕ)) → IsLaminar sets → AreFilled sets → (n a b : ℕ) → IsChild sets n a → IsChild sets n b → least sets a ≡ least sets b → a ≡ b
same-child sets l f n a b p q e =
    let c = chain-is sets l (least sets a) in
    let xs : List ℕ = chain sets (least sets a) in
    let s = stands sets l (least sets a) a xs c (holds-chain sets (least sets a) a xs c (record { node = p.node; has_leaf = f a p.node })) in
    let t = stands sets l (least sets a) b xs c (holds-chain sets (least sets a) b xs c (record { node = q.node; has_leaf = subst (λ (x : ℕ). IsIn x (set_of sets b)) (sym e) (f b q.node) })) in
    let same : s.place + 1 ≡ t.place + 1 = one-place (is_inside sets) (inside-asymmetric sets) xs (s.place + 1) (t.place + 1) n c.ordered (sym s.next ∙ p.up) (sym t.next ∙ q.up) in
    let place : s.place ≡ t.place = omega arith in
    sym s.here ∙ ap (λ (i : ℕ). get_or xs i 0) place ∙ t.here

child-order : (sets : List (List ℕ)) → IsLaminar sets → AreFilled sets → (n : ℕ) → IsOrderOn (IsChild sets n) (by_least sets)
child-order sets l f n = record {
  total = λ a b p q apart. ⊎_elim
      (λ (same : least sets a ≡ least sets b). absurd (apart (same-child sets l f n a b p q same)))
      (λ differ. ⊎_elim (λ (less : least sets a < least sets b). inl (lt-ltb (least sets a) (least sets b) less)) (λ (more : least sets b < least sets a). inr (lt-ltb (least sets b) (least sets a) more)) differ)
      (cases_order (least sets a) (least sets b));
  trans = λ a b d p q r u v.
      let less = ltb-true (least sets a) (least sets b) u in
      let more = ltb-true (least sets b) (least sets d) v in
      lt-ltb (least sets a) (least sets d) (omega arith);
}

children-are : (sets lists : List (List ℕ)) (h n : ℕ) → IsLaminar sets → AreFilled sets → ((k : ℕ) → k < length sets → least sets k < h) → AreListed sets h [] lists → n < length sets → get_or lists n [] ≡ children sets n
unfolding children
children-are sets lists h n l f few a lt =
    let found : List ℕ = filter (λ k. equals_number (parent sets k) n) (below (length sets)) in
    let there : (k : ℕ) → has k found ≡ (ltb k (length sets) && equals_number (parent sets k) n) = λ k. has-below (length sets) k (λ k. equals_number (parent sets k) n) in
    let child : (k : ℕ) → IsIn k found → IsChild sets n k = λ k i.
    let both = and_parts (ltb k (length sets)) (equals_number (parent sets k) n) (sym (there k) ∙ i) in
    record { node = ltb-true k (length sets) both.0; up = number-is (parent sets k) n both.1 }
    in
    same_ordered (by_least sets) (by_least-asymmetric sets) (get_or lists n []) (in_order (by_least sets) found) (a.ordered n lt)
    (in_order-ordered (IsChild sets n) (by_least sets) (child-order sets l f n) found (IsSet-filter (λ k. equals_number (parent sets k) n) (below (length sets)) (IsSet-all_below (length sets) (λ j. true))) child)
    (λ k. a.each n k lt ∙ ⊎_elim
    (λ (is : (ltb k (length sets) && equals_number (parent sets k) n) ≡ true).
    let node : k < length sets = ltb-true k (length sets) (and_parts (ltb k (length sets)) (equals_number (parent sets k) n) is).0 in
    rw (is, lt-ltb (least sets k) h (few k node)) (sym (has-in_order (by_least sets) found k ∙ there k ∙ is)))
    (λ (none : (ltb k (length sets) && equals_number (parent sets k) n) ≡ false). rw none (sym (has-in_order (by_least sets) found k ∙ there k ∙ none)))
    (cases_Bool (ltb k (length sets) && equals_number (parent sets k) n)))

pub all-listed : (t : TreeOf) (lists : List (List ℕ)) (h : ℕ) → IsLaminar (sets_of_tree t) → AreFilled (sets_of_tree t) → ((k : ℕ) → k < length (sets_of_tree t) → least (sets_of_tree t) k < h) → AreListed (sets_of_tree t) h [] lists → AreChildren t lists
all-listed t lists h l f few a = record {
  lengths = a.lengths;
  each = λ n lt. children-are (sets_of_tree t) lists h n l f few a lt;
}

-- ---- the steps of the loop over a chain

least-low : (S : List ℕ) (h : ℕ) → IsSet S → IsIn h S → slice_index S 0 ≤ h
least-low [] h p i = absurd (not_in_nil h i)
least-low (x ∷ S) h p i = ⊎_elim (λ (same : h ≡ x). omega arith) (λ later. let less = IsSet-first x S p h later in omega arith) (IsIn-cases h x S i)

pub pushed-at : (sets lists new : List (List ℕ)) (h j i : ℕ) (xs : List ℕ) → IsLaminar sets → IsOrderedChain sets h xs → i ≡ j + 1 → i < length xs → least sets (get_or xs j 0) ≡ h → AreListed sets h (take j xs) lists
    → new ≡ set lists (get_or xs i 0) (get_or lists (get_or xs i 0) [] ++ get_or xs j 0 ∷ []) → AreListed sets h (take (i + 1 - 1) xs) new
pushed-at sets lists new h j i xs l c e lt first a is =
    let place : i + 1 - 1 ≡ j + 1 = omega arith in
    rw place (one-listed sets lists new h j xs l c (omega arith) first a (rw e at is))

pub skipped-at : (sets lists : List (List ℕ)) (h j i : ℕ) (xs : List ℕ) → IsLaminar sets → IsOrderedChain sets h xs → i ≡ j + 1 → i < length xs → (least sets (get_or xs j 0) ≡ h → ⊥) → AreListed sets h (take j xs) lists
    → AreListed sets h (take (i + 1 - 1) xs) lists
skipped-at sets lists h j i xs l c e lt apart a =
    let place : i + 1 - 1 ≡ j + 1 = omega arith in
    let holds = chain-holds sets h (get_or xs j 0) xs c (IsIn-get_or xs j 0 (omega arith)) in
    rw place (one-skipped sets lists h j xs l c (omega arith) (least-low (set_of sets (get_or xs j 0)) h (l.are_sets (get_or xs j 0)) holds.has_leaf) apart a)

pub node-at : (sets : List (List ℕ)) (h i : ℕ) (xs : List ℕ) → IsOrderedChain sets h xs → i < length xs → get_or xs i 0 < length sets
node-at sets h i xs c lt = (chain-holds sets h (get_or xs i 0) xs c (IsIn-get_or xs i 0 lt)).node
