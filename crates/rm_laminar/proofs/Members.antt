-- Members of sets, as the code looks for them.
use Rattle.std.proofs.Common.{◌≡◌, ◌∙◌, ℕ, zero, suc, ◌+◌, ◌-◌, ◌<◌, ◌≤◌, List, [], ◌∷◌, Bool, true, false, ◌||◌, eqb, filter, get_or, length, take, Vec, refl, sym, ap, ⊎_elim, arith}
use Rattle.std.specs.List.{list_any}
use Rattle.std.specs.declared.alloc.Global.{Global}
use Rattle.std.proofs.lemmas.Bool.{cases_eq, eq-eqb, ne_eqb}
use Rattle.std.proofs.lemmas.List.{take_more}
use Rattle.rm_sets.specs.Sets.{has, IsSet}
use Rattle.rm_sets.proofs.Sets.{IsIn-cases, IsSet-tail, IsSet-first, has-append}
use Rattle.rm_sets.proofs.Members.{not_in_from, IsIn-get_or}
use Rattle.rm_market.specs.Tree.{set_of, tree_sets}
use Rattle.rm_laminar.specs.Chains.{chain_lists}
use Rattle.rm_laminar.proofs.ListOfLists.{list-at}
use Rattle.rm_laminar.proofs.Trees.{set-group}

pub flip : (x y : ℕ) → eqb y x ≡ eqb x y
flip x y = ⊎_elim (λ (same : x ≡ y). rw (eq-eqb x y same, eq-eqb y x (sym same)) refl) (λ apart. rw (ne_eqb x y apart, ne_eqb y x (λ e. apart (sym e))) refl) (cases_eq x y)

pub any-has : (x : ℕ) (S : List ℕ) → list_any (λ y. eqb y x) S ≡ has x S
any-has x [] = refl
any-has x (y ∷ S) = rw (flip x y, any-has x S) refl

-- the first that passes
pub first-passing : (p : ℕ → Bool) (xs : List ℕ) (i : ℕ) → i < length xs → ((k : ℕ) → k < i → p (get_or xs k 0) ≡ false) → p (get_or xs i 0) ≡ true → get_or (filter p xs) 0 0 ≡ get_or xs i 0
first-passing p [] i lt before here = absurd (omega arith)
first-passing p (x ∷ xs) zero lt before here = rw here refl
first-passing p (x ∷ xs) (suc i) lt before here = rw (before 0 (omega arith)) (first-passing p xs i (omega arith) (λ k less. before (suc k) (omega arith)) here)

pub none-passing : (p : ℕ → Bool) (xs : List ℕ) (i : ℕ) → length xs ≤ i → ((k : ℕ) → k < i → p (get_or xs k 0) ≡ false) → get_or (filter p xs) 0 0 ≡ 0
none-passing p [] i le before = refl
none-passing p (x ∷ xs) zero le before = absurd (omega arith)
none-passing p (x ∷ xs) (suc i) le before = rw (before 0 (omega arith)) (none-passing p xs i (omega arith) (λ k less. before (suc k) (omega arith)))

-- what the first i elements have, with one more
pub has-more : (xs : List ℕ) (i x : ℕ) → i < length xs → has x (take (i + 1) xs) ≡ (has x (take i xs) || eqb x (get_or xs i 0))
has-more xs i x lt = rw (take_more xs i 0 lt) (has-append (take i xs) (get_or xs i 0 ∷ []) x ∙ ap (λ (b : Bool). has x (take i xs) || b) (or_false (eqb x (get_or xs i 0))))
  where
    or_false : (b : Bool) → (b || false) ≡ b
    or_false true = refl
    or_false false = refl

-- an element of a set isn't among those before it
pub new-member : (xs : List ℕ) (i : ℕ) → IsSet xs → i < length xs → has (get_or xs i 0) (take i xs) ≡ false
new-member [] i set lt = absurd (omega arith)
new-member (x ∷ xs) zero set lt = refl
new-member (x ∷ xs) (suc i) set lt =
    not_in_from (get_or xs i 0) (x ∷ take i xs) (λ j. ⊎_elim
    (λ (same : get_or xs i 0 ≡ x). let less = IsSet-first x xs set (get_or xs i 0) (IsIn-get_or xs i 0 (omega arith)) in omega arith)
    (λ later. differ (has (get_or xs i 0) (take i xs)) later (new-member xs i (IsSet-tail x xs set) (omega arith)))
    (IsIn-cases (get_or xs i 0) x (take i xs) j))
  where
    differ : (b : Bool) → b ≡ true → b ≡ false → ⊥
    differ b p q = cc

-- the size of a group's node
pub size-group : (hospitals : ℕ) (groups : List (Vec ℕ Global)) (node : ℕ) (v : Vec ℕ Global) → hospitals ≤ node → node < hospitals + length groups → v ≡ get_or groups (node - hospitals) v
    → length v.items ≡ length (set_of (tree_sets hospitals (chain_lists groups)) node)
size-group hospitals groups node v le lt at =
    let place : node ≡ hospitals + (node - hospitals) = omega arith in
    rw (place, set-group hospitals (chain_lists groups) (node - hospitals), list-at groups (node - hospitals) v (omega arith) at) refl
