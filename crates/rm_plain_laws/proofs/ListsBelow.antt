-- Lists of distinct numbers below n, told by a test that computes on literals.
use Rattle.std.proofs.Common.{◌≡◌, ℕ, ◌<◌, Bool, true, not, ◌&&◌, List, [], ◌∷◌, All, ltb, ltb-true}
use Rattle.std.specs.List.{list_all}
use Rattle.std.proofs.lemmas.Bool.{and_parts, not-true}
use Rattle.std.proofs.lemmas.List.Elements.{All-nil, All-cons}
use Rattle.rm_base.specs.Lists.{IsListBelow}
use Rattle.rm_sets.specs.Sets.{has}
use Rattle.rm_sets.proofs.Once.{distinct_none, distinct_more}

abbrev pub is_list_below : ℕ → List ℕ → Bool
is_list_below n [] = true
is_list_below n (x ∷ list) = (ltb x n && not (has x list)) && is_list_below n list

pub list_below : (n : ℕ) (list : List ℕ) → is_list_below n list ≡ true → IsListBelow n list
list_below n [] t = (distinct_none, All-nil (λ y. y < n))
list_below n (x ∷ list) t =
    let both = and_parts (ltb x n && not (has x list)) (is_list_below n list) t in
    let first = and_parts (ltb x n) (not (has x list)) both.0 in
    let rest = list_below n list both.1 in
    (distinct_more x list (not-true (has x list) first.1) rest.0, All-cons (λ y. y < n) x list (ltb-true x n first.0) rest.1)

pub lists_below : (n : ℕ) (lists : List (List ℕ)) → list_all (is_list_below n) lists ≡ true → All (IsListBelow n) lists
lists_below n [] t = All-nil (IsListBelow n)
lists_below n (list ∷ lists) t =
    let both = and_parts (is_list_below n list) (list_all (is_list_below n) lists) t in
    All-cons (IsListBelow n) list lists (list_below n list both.0) (lists_below n lists both.1)
