-- Lists that are built item by item: none, one begun, one item more.
use Rattle.std.proofs.Common.{◌≡◌, ◌≢◌, ◌∙◌, sym, refl, ℕ, ◌+◌, ◌-◌, ◌<◌, ◌^◌, List, [], ◌∷◌, ◌++◌, length, take, drop, set, get_or, replicate, Bool, true, false, ◌||◌, Option, Some, None, IsSome, inl, inr, All, arith, length-append, length-set}
use mathlib.Core.Bool.{false≢true}
use Rattle.std.specs.Bool.{◌==◌}
use Rattle.std.specs.List.{IsDistinct, list_any, AllByRecursion}
use Rattle.std.proofs.lemmas.Bool.{cases_lt, cases_eq}
use Rattle.std.proofs.lemmas.Bool.Decides.{nat_tests}
use Rattle.std.proofs.lemmas.List.{drop_all, drop-append-le, take_rest, get_or-replicate, get_or_past, get_or_read, get_or-set_same, get_or-set_other, length-replicate}
use Rattle.std.proofs.lemmas.List.Elements.{All-nil, All-push}
use Rattle.std.proofs.lemmas.List.Folds.{list_any-append, list_any_more}
use Rattle.rm_lists.specs.Grouping.{values_of_key, dealt}
use Rattle.rm_lists.proofs.Grouped.{values-push_same, values-push_other, values-all, dealt-all, dealt-at, dealt-push}
use Rattle.rm_ranks.specs.Builder.{AreBuilt}

get_or-same : (n i : ℕ) {X : Type 0} (x : X) → get_or (replicate n x) i x ≡ x
get_or-same n i x = elim (cases_lt i n) [
  | inl lt ↦ get_or-replicate n i x x lt
  | inr ge ↦ get_or_past (replicate n x) i x (omega (arith, length-replicate n x))
]

pub none-built : (n m limit : ℕ) → n < 2 ^ 32 → AreBuilt [] [] (replicate n None) (replicate m false) None 0 limit
unfolding IsDistinct
none-built n m limit few = record {
  few = omega (arith, length-replicate {A = Option ℕ} n None);
  beside = refl;
  known = All-nil (λ k. k < length (replicate {A = Option ℕ} n None));
  unbegun = λ i none. refl;
  distinct = λ i. tt;
  last = refl;
  begun = omega arith;
  room = omega arith;
  below = All-nil (λ x. x < length (replicate m false));
  noted = λ x. sym (get_or-same m x {X = Bool} false);
}

-- ---- the items of the list begun last are forgotten

-- an item more is forgotten
pub forgotten-more : (list : List ℕ) (old seen : List Bool) (k item : ℕ) → k < length list → item ≡ get_or list k item → item < length seen →
    ((x : ℕ) → get_or seen x false ≡ true → (get_or old x false ≡ true) × (list_any (λ y. y == x) (take k list) ≡ false)) →
    (x : ℕ) → get_or (set seen item false) x false ≡ true → (get_or old x false ≡ true) × (list_any (λ y. y == x) (take (k + 1) list) ≡ false)
forgotten-more list old seen k item lt is within so-far x left = elim (cases_eq x item) [
  | inl same ↦ absurd (false≢true (sym (get_or-set_same seen item false false within) ∙ rw same at left))
  | inr other ↦
      let before = so-far x (rw (get_or-set_other seen item x false false other) at left) in
      let at-k : item ≡ get_or list k 0 = get_or_read list k item lt is 0 in
      (before.0, rw (list_any_more (λ y. y == x) list k 0 lt, before.1, ← at-k) (grind (arith, nat_tests)))
]

-- what is seen was in the list, and what was in the list is forgotten
pub none-seen : (items list : List ℕ) (start : ℕ) (old seen : List Bool) → ((x : ℕ) → list_any (λ y. y == x) (drop start items) ≡ get_or old x false) → list ≡ items →
    ((x : ℕ) → get_or seen x false ≡ true → (get_or old x false ≡ true) × (list_any (λ y. y == x) (take (length list - start) (drop start list)) ≡ false)) → (x : ℕ) → get_or seen x false ≡ false
none-seen items list start old seen noted same left x = by-cases (get_or seen x false) refl
  where
    by-cases : (b : Bool) → get_or seen x false ≡ b → b ≡ false
    by-cases false e = refl
    by-cases true e =
        let l = left x e in
        let gone : list_any (λ y. y == x) (drop start items) ≡ false = rw (take_rest list start, same) at l.1 in
        absurd (false≢true (sym gone ∙ noted x ∙ l.0))

-- ---- a list is begun

some-is : (o : Option ℕ) → IsSome o → o ≡ None → ⊥
some-is o there none = false≢true (rw none at there)

pub list-built :
    (items keys : List ℕ) (marks : List (Option ℕ)) (seen : List Bool) (at : Option ℕ) (start limit : ℕ) → AreBuilt items keys marks seen at start limit →
    (i n mark : ℕ) → i < length marks → get_or marks i None ≡ None → n ≡ length items →
    (unseen : List Bool) → length unseen ≡ length seen → ((x : ℕ) → get_or unseen x false ≡ false) →
    AreBuilt items keys (set marks i (Some mark)) unseen (Some i) n limit
list-built items keys marks seen at start limit built i n mark lt none n-is unseen count forgotten =
    let marked = get_or-set_same marks i (Some mark) None lt in
    let nothing : drop n items ≡ [] = drop_all n items (omega (arith, n-is)) in
    let same = length-set marks i (Some mark) in
    record {
      few = omega (arith, built.few, same);
      beside = built.beside;
      known = rw same built.known;
      unbegun = λ k absent. elim (cases_eq k i) [
        | inl here ↦ rw here (built.unbegun i none)
        | inr other ↦ built.unbegun k (rw (get_or-set_other marks i k (Some mark) None other) at absent)
      ];
      distinct = built.distinct;
      last = (omega (arith, lt, same), rw marked refl, built.unbegun i none ∙ sym nothing);
      begun = omega (arith, n-is);
      room = built.room;
      below = rw count built.below;
      noted = λ x. rw nothing (sym (forgotten x));
    }

-- ---- one item more

both-false : (b c : Bool) → (b || c) ≡ false → (b ≡ false) × (c ≡ false)
both-false true c h = cc
both-false false c h = (refl, h)

rec-push : (Q : ℕ → Type 0) (xs : List ℕ) (y : ℕ) → AllByRecursion Q xs → Q y → AllByRecursion Q (xs ++ y ∷ [])
rec-push Q [] y all q = (q, tt)
rec-push Q (x ∷ xs) y all q = (all.0, rec-push Q xs y all.1 q)

distinct-push : (xs : List ℕ) (y : ℕ) → IsDistinct ◌==◌ xs → list_any (λ x. x == y) xs ≡ false → IsDistinct ◌==◌ (xs ++ y ∷ [])
unfolding IsDistinct
distinct-push [] y distinct none = (tt, tt)
distinct-push (x ∷ xs) y distinct none =
    let b = both-false (x == y) (list_any (λ z. z == y) xs) none in
    (rec-push (λ z. (x == z) ≡ false) xs y distinct.0 b.0, distinct-push xs y distinct.1 b.1)

-- a list has an item more, and so it is seen
seen-push : (xs : List ℕ) (seen : List Bool) (item x : ℕ) → item < length seen → list_any (λ y. y == x) xs ≡ get_or seen x false → list_any (λ y. y == x) (xs ++ item ∷ []) ≡ get_or (set seen item true) x false
seen-push xs seen item x within noted = rw (list_any-append (λ y. y == x) xs (item ∷ []), noted) (elim (cases_eq x item) [
  | inl same ↦ rw (same, get_or-set_same seen item true false within) (grind (arith, nat_tests))
  | inr other ↦ rw (get_or-set_other seen item x true false other) (grind (arith, nat_tests))
])

module _ (items keys : List ℕ) (marks : List (Option ℕ)) (seen : List Bool) (at start limit : ℕ) (built : AreBuilt items keys marks seen (Some at) start limit) where
  pub last-is : get_or (dealt (length marks) keys items) at [] ≡ drop start items
  last-is = dealt-at (length marks) keys items at built.last.0 ∙ built.last.2

  pub is-noted : (item : ℕ) (repeated : Bool) → item < length seen → repeated ≡ get_or seen item repeated → list_any (λ x. x == item) (get_or (dealt (length marks) keys items) at []) ≡ repeated
  is-noted item repeated lt is = rw last-is (built.noted item ∙ sym (get_or_read seen item repeated lt is false))

  pub lists-item : (item : ℕ) → dealt (length marks) (keys ++ at ∷ []) (items ++ item ∷ []) ≡ set (dealt (length marks) keys items) at (get_or (dealt (length marks) keys items) at [] ++ item ∷ [])
  lists-item item = rw (dealt-at (length marks) keys items at built.last.0) (dealt-push (length marks) keys items at item (sym built.beside))

  pub item-built : (item : ℕ) → item < length seen → length items < limit → list_any (λ x. x == item) (get_or (dealt (length marks) keys items) at []) ≡ false →
      AreBuilt (items ++ item ∷ []) (keys ++ at ∷ []) marks (set seen item true) (Some at) start limit
  item-built item lt room new =
      let this = values-push_same at keys items item (sym built.beside) in
      let other = λ (i : ℕ) (apart : i ≢ at). values-push_other i at keys items item (sym built.beside) apart in
      let longer = length-append items (item ∷ []) in
      let rest = drop-append-le start items (item ∷ []) built.begun in
      let new-here : list_any (λ x. x == item) (values_of_key at keys items) ≡ false = rw (dealt-at (length marks) keys items at built.last.0) at new in
      record {
        few = built.few;
        beside = omega (arith, built.beside, longer, length-append keys (at ∷ []));
        known = All-push (λ k. k < length marks) keys at built.known built.last.0;
        unbegun = λ i none. let apart : i ≢ at = λ same. some-is (get_or marks at None) built.last.1 (rw same at none) in other i apart ∙ built.unbegun i none;
        distinct = λ i. elim (cases_eq i at) [
          | inl same ↦ rw (same, this) (distinct-push (values_of_key at keys items) item (built.distinct at) new-here)
          | inr apart ↦ rw (other i apart) (built.distinct i)
        ];
        last = (built.last.0, built.last.1, this ∙ rw (built.last.2, rest) refl);
        begun = omega (arith, built.begun, longer);
        room = omega (arith, longer, room);
        below = rw (length-set seen item true) (All-push (λ x. x < length seen) items item built.below lt);
        noted = λ x. rw rest (seen-push (drop start items) seen item x lt (built.noted x));
      }

-- ---- finished

pub lists-below : (n count : ℕ) (keys items : List ℕ) → All (λ x. x < n) items → All (All (λ x. x < n)) (dealt count keys items)
lists-below n count keys items below = dealt-all (All (λ x. x < n)) count keys items (λ k. values-all (λ x. x < n) k keys items below)

pub lists-distinct : (count : ℕ) (keys items : List ℕ) → ((i : ℕ) → IsDistinct ◌==◌ (values_of_key i keys items)) → All (IsDistinct ◌==◌) (dealt count keys items)
lists-distinct count keys items each = dealt-all (IsDistinct ◌==◌) count keys items each
