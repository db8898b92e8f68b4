-- Chains to which a group was added.
use Rattle.std.proofs.Common.{◌≡◌, ◌∙◌, ℕ, suc, ◌+◌, ◌-◌, ◌<◌, ◌≤◌, List, [], ◌∷◌, ◌++◌, Bool, true, false, not, cond, ◌&&◌, ◌||◌, ltb, eqb, get_or, length, insert, position, Some, None, refl, sym, ap, subst, ⊎_elim, arith}
use Rattle.std.specs.Prelude.{nat_le}
use Rattle.std.specs.List.{list_any, position_or_len, prefix_len}
use Rattle.std.proofs.lemmas.Bool.{cases_lt, cases_order, lt-ltb, le-ltb, eq-eqb, ne_eqb}
use Rattle.std.proofs.Common.{ltb-false}
use Rattle.std.proofs.lemmas.List.Sums.{fails_before_first}
use Rattle.rm_sets.specs.Sets.{has, IsIn, IsSet, IsSetBelow, IsWithin, common, minus}
use Rattle.rm_sets.proofs.Sets.{IsIn-cases, cases_has}
use Rattle.rm_sets.proofs.Members.{not_in_nil}
use Rattle.rm_sets.proofs.Sizes.{length_within, same_from_length}
use Rattle.rm_market.specs.Board.{is_empty, crosses}
use Rattle.rm_market.specs.Tree.{put, set_of, tree_sets, is_inside}
use Rattle.rm_laminar.specs.Chains.{IsLaminar, IsOrderedChain, AreChains, AreHospitalGroups, AreChanged, is_larger}
use Rattle.rm_laminar.proofs.Order.{put-ordered, put-by, has-put, ordered-by}
use Rattle.rm_laminar.proofs.Laminar.{Holds, nested, inside-order, inside-within, inside-before, inside-from, chain-holds}
use Rattle.rm_laminar.proofs.Trees.{tree-length, tree-push, set-hospital, set-group, push-old, push-new, push-length, tree-are_sets}
use Rattle.rm_laminar.proofs.Counts.{count-push}

-- ---- the place that the code finds

pub put-at : (first : ℕ → ℕ → Bool) (x : ℕ) (xs : List ℕ) → insert xs (prefix_len (λ y. not (first x y)) xs) x ≡ put first x xs
put-at first x [] = refl
put-at first x (y ∷ ys) = put-one (first x y) (put-at first x ys)
  where
    put-one : (b : Bool) → insert ys (prefix_len (λ y. not (first x y)) ys) x ≡ put first x ys
        → insert (y ∷ ys) (cond (not b) (1 + prefix_len (λ y. not (first x y)) ys) 0) x ≡ cond b (x ∷ y ∷ ys) (y ∷ put first x ys)
    put-one true e = refl
    put-one false e =
        let next : 1 + prefix_len (λ y. not (first x y)) ys ≡ suc (prefix_len (λ y. not (first x y)) ys) = omega arith in
        rw next (ap (λ (zs : List ℕ). y ∷ zs) e)

-- ---- a set more

-- nodes that were there are inside each other as before
inside-old : (sets : List (List ℕ)) (B : List ℕ) (k n : ℕ) → k < length sets → n < length sets → is_inside (sets ++ B ∷ []) k n ≡ is_inside sets k n
inside-old sets B k n p q = rw (push-old sets B k p, push-old sets B n q) refl

-- a set is inside exactly the larger ones, where they share a leaf and don't cross
larger-outside : (sets : List (List ℕ)) (B : List ℕ) (leaf k : ℕ) → IsLaminar (sets ++ B ∷ []) → IsIn leaf B → Holds sets leaf k
    → is_larger (length B) sets (length sets) k ≡ is_inside (sets ++ B ∷ []) (length sets) k
larger-outside sets B leaf k l i h =
    let new : set_of (sets ++ B ∷ []) (length sets) ≡ B = push-new sets B in
    let old : set_of (sets ++ B ∷ []) k ≡ set_of sets k = push-old sets B k h.node in
    let is_B : IsSet B = rw new at (l.are_sets (length sets)) in
    let is_K : IsSet (set_of sets k) = rw old at (l.are_sets k) in
    let apart : crosses (set_of sets k) B ≡ false = rw (old, new) at (l.apart k (length sets) h.node (rw push-length (omega arith))) in
    ⊎_elim
    (λ larger.
    let inside : IsWithin B (set_of sets k) = ⊎_elim (λ w. absurd (shorter (set_of sets k) B is_K is_B w larger)) (λ w. w) (nested (set_of sets k) B leaf apart h.has_leaf i) in
    lt-ltb (length B) (length (set_of sets k)) larger
    ∙ sym (inside-from (sets ++ B ∷ []) (length sets) k (rw (new, old) inside) (λ back. absurd (shorter (set_of sets k) B is_K is_B (rw (new, old) at back) larger))))
    (λ le. le-ltb (length B) (length (set_of sets k)) le
    ∙ sym (not_inside (is_inside (sets ++ B ∷ []) (length sets) k) (λ e.
    let within : IsWithin B (set_of sets k) = rw (new, old) at (inside-within (sets ++ B ∷ []) (length sets) k e) in
    let same : B ≡ set_of sets k = same_from_length B (set_of sets k) is_B is_K within le in
    let less = inside-before (sets ++ B ∷ []) (length sets) k e (rw (new, old) (λ x j. subst (λ (S : List ℕ). IsIn x S) (sym same) j)) in
    let node = h.node in
    omega (arith, less, node))))
    (cases_lt (length B) (length (set_of sets k)))
  where
    shorter : (A B : List ℕ) → IsSet A → IsSet B → IsWithin A B → length B < length A → ⊥
    shorter A B p q w less = let le = length_within A B p q w in omega arith

    not_inside : (b : Bool) → (b ≡ true → ⊥) → b ≡ false
    not_inside true f = absurd (f refl)
    not_inside false f = refl

and-false : (b : Bool) → (b && false) ≡ false
and-false true = refl
and-false false = refl

-- a chain of a leaf that the set lacks
chain-kept : (sets : List (List ℕ)) (B : List ℕ) (leaf : ℕ) (nodes : List ℕ) → has leaf B ≡ false → IsOrderedChain sets leaf nodes → IsOrderedChain (sets ++ B ∷ []) leaf nodes
chain-kept sets B leaf nodes none c = record {
  ordered = ordered-by (is_inside sets) (is_inside (sets ++ B ∷ [])) nodes
      (λ x y i j e. inside-old sets B x y (chain-holds sets leaf x nodes c i).node (chain-holds sets leaf y nodes c j).node ∙ e) c.ordered;
  each = λ k. c.each k ∙ there k;
}
  where
    there : (k : ℕ) → (ltb k (length sets) && has leaf (set_of sets k)) ≡ (ltb k (length (sets ++ B ∷ [])) && has leaf (set_of (sets ++ B ∷ []) k))
    there k = ⊎_elim
        (λ same. rw (same, le-ltb (length sets) (length sets) (omega arith), push-new sets B, none) (sym (and-false (ltb (length sets) (length (sets ++ B ∷ []))))))
        (λ apart. ⊎_elim
        (λ less. rw (lt-ltb k (length sets) less, lt-ltb k (length (sets ++ B ∷ [])) (rw push-length (omega arith)), push-old sets B k less) refl)
        (λ more. rw (le-ltb k (length sets) (omega arith), le-ltb k (length (sets ++ B ∷ [])) (rw push-length (omega arith))) refl)
        apart)
        (cases_order k (length sets))

-- a chain of a leaf that it has
chain-put : (sets : List (List ℕ)) (B : List ℕ) (leaf : ℕ) (nodes : List ℕ) → IsLaminar (sets ++ B ∷ []) → IsIn leaf B → IsOrderedChain sets leaf nodes
    → IsOrderedChain (sets ++ B ∷ []) leaf (put (is_larger (length B) sets) (length sets) nodes)
chain-put sets B leaf nodes l i c =
    let same : put (is_larger (length B) sets) (length sets) nodes ≡ put (is_inside (sets ++ B ∷ [])) (length sets) nodes =
    put-by (is_larger (length B) sets) (is_inside (sets ++ B ∷ [])) (length sets) nodes (λ y j. larger-outside sets B leaf y l i (chain-holds sets leaf y nodes c j))
    in
    let grown : (k : ℕ) → Holds sets leaf k → Holds (sets ++ B ∷ []) leaf k = λ k h. record { node = rw push-length (let node = h.node in omega arith); has_leaf = rw (push-old sets B k h.node) h.has_leaf } in
    record {
      ordered = rw same (put-ordered (Holds (sets ++ B ∷ []) leaf) (is_inside (sets ++ B ∷ [])) (inside-order (sets ++ B ∷ []) l leaf) (length sets) nodes
          (record { node = rw push-length (omega arith); has_leaf = rw (push-new sets B) i })
          (λ y j. grown y (chain-holds sets leaf y nodes c j))
          (λ j. let node = (chain-holds sets leaf (length sets) nodes c j).node in omega arith)
          (ordered-by (is_inside sets) (is_inside (sets ++ B ∷ [])) nodes
          (λ x y p q e. inside-old sets B x y (chain-holds sets leaf x nodes c p).node (chain-holds sets leaf y nodes c q).node ∙ e) c.ordered));
      each = λ k. has-put (is_larger (length B) sets) (length sets) nodes k ∙ ap (λ (b : Bool). eqb k (length sets) || b) (c.each k) ∙ there k;
    }
  where
    there : (k : ℕ) → (eqb k (length sets) || (ltb k (length sets) && has leaf (set_of sets k))) ≡ (ltb k (length (sets ++ B ∷ [])) && has leaf (set_of (sets ++ B ∷ []) k))
    there k = ⊎_elim
        (λ (same : k ≡ length sets). rw (eq-eqb k (length sets) same, same, lt-ltb (length sets) (length (sets ++ B ∷ [])) (rw push-length (omega arith)), push-new sets B) (sym i))
        (λ apart. ⊎_elim
        (λ less. rw (ne_eqb k (length sets) (λ e. omega arith), lt-ltb k (length sets) less, lt-ltb k (length (sets ++ B ∷ [])) (rw push-length (omega arith)), push-old sets B k less) refl)
        (λ more. rw (ne_eqb k (length sets) (λ e. omega arith), le-ltb k (length sets) (omega arith), le-ltb k (length (sets ++ B ∷ [])) (rw push-length (omega arith))) refl)
        apart)
        (cases_order k (length sets))

-- ---- all chains

length-put : (first : ℕ → ℕ → Bool) (x : ℕ) (xs : List ℕ) → length (put first x xs) ≡ length xs + 1
length-put first x [] = refl
length-put first x (y ∷ ys) = longer (first x y) (length-put first x ys)
  where
    longer : (b : Bool) → length (put first x ys) ≡ length ys + 1 → length (cond b (x ∷ y ∷ ys) (y ∷ put first x ys)) ≡ suc (length ys) + 1
    longer true e = omega arith
    longer false e = omega arith

or-none : (a b : Bool) → (a || b) ≡ false → (a ≡ false) × (b ≡ false)
or-none true b e = cc
or-none false b e = (refl, e)

pub any-none : (p : ℕ → Bool) (xs : List ℕ) (x : ℕ) → list_any p xs ≡ false → IsIn x xs → p x ≡ false
any-none p [] x e i = absurd (not_in_nil x i)
any-none p (y ∷ ys) x e i =
    let both = or-none (p y) (list_any p ys) e in
    ⊎_elim (λ (same : x ≡ y). ap p same ∙ both.0) (λ later. any-none p ys x both.1 later) (IsIn-cases x y ys i)

-- where no group crosses
none-crosses : (groups : List (List ℕ)) (group : List ℕ) (a : ℕ) → position (λ earlier. crosses earlier group) groups ≡ None → a < length groups → crosses (get_or groups a []) group ≡ false
none-crosses groups group a e lt =
    let test : List ℕ → Bool = λ earlier. crosses earlier group in
    ⊎_elim
    (λ (less : position_or_len test groups < length groups). let some : position test groups ≡ Some (position_or_len test groups) = rw (lt-ltb (position_or_len test groups) (length groups) less) refl in absurd (differ (position_or_len test groups) (sym some ∙ e)))
    (λ (le : length groups ≤ position_or_len test groups). fails_before_first test groups a [] (omega arith))
    (cases_lt (position_or_len test groups) (length groups))
  where
    differ : (n : ℕ) → Some n ≡ None → ⊥
    differ n e = cc

pub single-crosses : (h : ℕ) (B : List ℕ) → crosses (h ∷ []) B ≡ false
unfolding common minus
single-crosses h B = both (has h B) (not (is_empty (minus B (h ∷ []))))
  where
    both : (b c : Bool) → ((not (is_empty (cond b (h ∷ []) [])) && not (is_empty (cond (not b) (h ∷ []) []))) && c) ≡ false
    both true c = refl
    both false c = refl

laminar-more : (hospitals : ℕ) (groups : List (List ℕ)) (group : List ℕ) → AreHospitalGroups hospitals groups → IsLaminar (tree_sets hospitals groups) → IsSetBelow hospitals group
    → position (λ earlier. crosses earlier group) groups ≡ None → IsLaminar (tree_sets hospitals (groups ++ group ∷ []))
laminar-more hospitals groups group g l s apart =
    let sets = tree_sets hospitals groups in
    let longer : length sets ≡ hospitals + length groups = tree-length hospitals groups in
    record {
      are_sets = tree-are_sets hospitals (groups ++ group ∷ []) (λ k lt. ⊎_elim
          (λ (less : k < length groups). rw (push-old groups group k less) (g.sets k less))
          (λ (le : length groups ≤ k). let same : k ≡ length groups = (let n = push-length groups group in omega arith) in rw (same, push-new groups group) s)
          (cases_lt k (length groups)));
      apart = λ i j less lt. rw tree-push (⊎_elim
          (λ (old : j < length sets). rw (push-old sets group i (omega arith), push-old sets group j old) (l.apart i j less old))
          (λ (le : length sets ≤ j).
          let same : j ≡ length sets = (let n = rw tree-push at lt in let m = push-length sets group in omega arith) in
          rw (same, push-new sets group, push-old sets group i (omega arith)) (⊎_elim
          (λ (single : i < hospitals). rw (set-hospital hospitals groups i single) (single-crosses i group))
          (λ (past : hospitals ≤ i).
          let place : i ≡ hospitals + (i - hospitals) = omega arith in
          rw (place, set-group hospitals groups (i - hospitals)) (none-crosses groups group (i - hospitals) apart (omega arith)))
          (cases_lt i hospitals)))
          (cases_lt j (length sets)));
    }

-- a group that crosses none, and doesn't go too deep
pub chains-more : (hospitals : ℕ) (groups lists new : List (List ℕ)) (group : List ℕ) → AreHospitalGroups hospitals groups → AreChains hospitals groups lists → IsSetBelow hospitals group
    → is_empty group ≡ false → position (λ earlier. crosses earlier group) groups ≡ None → list_any (λ h. nat_le 32 (length (get_or lists h []))) group ≡ false
    → AreChanged (put (is_larger (length group) (tree_sets hospitals groups)) (hospitals + length groups)) lists new group
    → AreChains hospitals (groups ++ group ∷ []) new
chains-more hospitals groups lists new group g c s some apart shallow p =
    let l = laminar-more hospitals groups group g c.laminar s apart in
    let each : (h : ℕ) → h < hospitals → get_or new h [] ≡ cond (has h group) (put (is_larger (length group) (tree_sets hospitals groups)) (hospitals + length groups) (get_or lists h [])) (get_or lists h []) =
    λ h lt. p.each h (rw c.each_hospital lt)
    in
    let sets = tree_sets hospitals groups in
    record {
      laminar = l;
      filled = λ k lt. ⊎_elim
          (λ (less : k < length groups). rw (push-old groups group k less) (c.filled k less))
          (λ (le : length groups ≤ k). let same : k ≡ length groups = (let n = push-length groups group in omega arith) in rw (same, push-new groups group) some)
          (cases_lt k (length groups));
      each_hospital = p.lengths ∙ c.each_hospital;
      chains = λ h lt. rw (tree-push hospitals groups group, each h lt) (⊎_elim
          (λ (yes : has h group ≡ true). rw (yes, ← tree-length) (chain-put sets group h (get_or lists h []) (rw tree-push at l) yes (c.chains h lt)))
          (λ (no : has h group ≡ false). rw no (chain-kept sets group h (get_or lists h []) no (c.chains h lt)))
          (cases_has h group));
      shallow = λ h lt. rw (each h lt) (⊎_elim
          (λ (yes : has h group ≡ true). rw (yes, length-put) (let less = ltb-false 31 (length (get_or lists h [])) (any-none (λ h. nat_le 32 (length (get_or lists h []))) group h shallow yes) in omega arith))
          (λ (no : has h group ≡ false). rw no (c.shallow h lt))
          (cases_has h group));
      depths = λ h lt. rw (each h lt, count-push (has h) groups group) (⊎_elim
          (λ (yes : has h group ≡ true). rw (yes, length-put) (let d = c.depths h lt in omega arith))
          (λ (no : has h group ≡ false). rw no (let d = c.depths h lt in omega arith))
          (cases_has h group));
    }
