-- The places of contracts in a tie order.
use Rattle.std.proofs.Common.{◌≡◌, ◌≢◌, ◌∙◌, sym, ap, refl, ℕ, zero, suc, ◌+◌, ◌<◌, ◌≤◌, List, [], ◌∷◌, ℤ, length, get_or, set, replicate, Bool, true, false, Some, None, Ok, inl, inr, arith, length-set}
use Rattle.std.specs.Bool.{◌==◌}
use Rattle.std.specs.List.{IsDistinct, position, position_from, position_or_len}
use Rattle.std.proofs.lemmas.Bool.{cases_lt}
use Rattle.std.proofs.lemmas.Bool.Decides.{nat_tests, Decides-eqb}
use Rattle.std.proofs.lemmas.Option.{same_Some}
use Rattle.std.proofs.lemmas.List.{get_or-set_same, get_or-set_other, get_or-map, ext_get_or, length-map, length-replicate}
use Rattle.std.proofs.lemmas.List.Sums.{position_or_len_is}
use Rattle.std.proofs.lemmas.List.Elements.{All-from_recursion}
use Rattle.std.proofs.lemmas.Map.Made.{AllPairs-from_IsDistinct}
use Rattle.std.proofs.lemmas.Map.Steps.{length-le_from_distinct_below}
use Rattle.std.proofs.lemmas.Iterator.Adapters.{position_from-zero}
use Rattle.rm_sets.specs.Sets.{below}
use Rattle.rm_sets.proofs.Sets.{IsSet-all_below, below-all_below}
use Rattle.rm_sets.proofs.Members.{IsIn-get_or, IsIn-all_below, place_from_IsIn}
use Rattle.rm_sets.proofs.Once.{length-below, get_or-below}
use Rattle.rm_sets.proofs.Counting.{length_injects}
use Rattle.rm_market.specs.Board.{pairs_of, IsTieOrder}
use Rattle.rm_market.specs.Tree.{TreeOf, sets_of_tree}
use Rattle.rm_board.specs.Boards.{board_of, ties_of, IsBoardKept, BuildsBoard}
use Rattle.rm_board.specs.Rules.{fault_of, order_of}
use Rattle.rm_board.specs.TieKeys.{is_ranked}
use Rattle.rm_board.specs.declared.ties.TieRule.{TieRule}

-- where a number of a distinct list stands
position-at : (s k x : ℕ) (xs : List ℕ) → IsDistinct ◌==◌ xs → k < length xs → get_or xs k 0 ≡ x → position_from (λ y. y == x) s xs ≡ Some (s + k)
unfolding IsDistinct
position-at s k x [] distinct lt at = absurd (omega arith)
position-at s zero x (y ∷ xs) distinct lt at =
    let e : s + 0 ≡ s = omega arith in
    let hit : (y == x) ≡ true = grind (arith, nat_tests, at) in
    rw (hit, e) refl
position-at s (suc k) x (y ∷ xs) distinct lt at =
    let e : s + 1 + k ≡ s + suc k = omega arith in
    let others = All-from_recursion (λ z. (y == z) ≡ false) xs distinct.0 k 0 (omega arith) in
    let miss : (y == x) ≡ false = rw at at others in
    rw miss (position-at (s + 1) k x xs distinct.1 (omega arith) at ∙ ap Some e)

-- of the first k contracts the places are known
pub record ArePlaces (n k : ℕ) (order places : List ℕ) : Type 0 where
  pub wide : length places ≡ n
  pub known : (p : ℕ) → p < k → get_or places (get_or order p 0) 0 ≡ p

module _ (ranks : List (List ℕ)) (order : List ℕ) (ties : IsTieOrder ranks order) where
  pub below-count : (k : ℕ) → k < length order → get_or order k 0 < length (pairs_of ranks)
  below-count k lt = (ties.all (get_or order k 0)).0 (IsIn-get_or order k 0 lt)

  pub as-many : length order ≤ length (pairs_of ranks)
  as-many = length-le_from_distinct_below order (length (pairs_of ranks)) ties.once (λ q there. (ties.all q).0 there)

  pub place-more : (k y : ℕ) (places : List ℕ) → ArePlaces (length (pairs_of ranks)) k order places → k < length order → y ≡ get_or order k 0 → ArePlaces (length (pairs_of ranks)) (k + 1) order (set places y k)
  place-more k y places so-far lt y-is =
      let within : y < length places = omega (arith, below-count k lt, so-far.wide, y-is) in
      record {
        wide = length-set places y k ∙ so-far.wide;
        known = λ p le. elim (cases_lt p k) [
          | inl before ↦
              let apart : get_or order p 0 ≢ get_or order k 0 = AllPairs-from_IsDistinct Decides-eqb order ties.once p k 0 before lt in
              let other : get_or order p 0 ≢ y = λ same. apart (same ∙ y-is) in
              get_or-set_other places y (get_or order p 0) k 0 other ∙ so-far.known p before
          | inr here ↦
              let e : p ≡ k = omega arith in
              rw (e, ← y-is) (get_or-set_same places y k 0 within)
        ];
      }

  pub all-placed : (places : List ℕ) (k : ℕ) → ArePlaces (length (pairs_of ranks)) k order places → length order ≤ k → (x : ℕ) → x < length (pairs_of ranks) → position (λ y. y == x) order ≡ Some (get_or places x 0)
  all-placed places k all end x lt =
      let at = place_from_IsIn order x 0 ((ties.all x).1 lt) in
      let known : get_or places x 0 ≡ at.0 = rw at.2 at (all.known at.0 (omega (arith, at.1))) in
      let e : 0 + at.0 ≡ at.0 = omega arith in
      position_from-zero (λ y. y == x) order ∙ position-at 0 at.0 x order ties.once at.1 at.2 ∙ ap Some (e ∙ sym known)

-- the places tell the order
module _ (ranks : List (List ℕ)) (order places : List ℕ) (ties : IsTieOrder ranks order) (wide : length places ≡ length (pairs_of ranks))
    (placed : (x : ℕ) → x < length (pairs_of ranks) → position (λ y. y == x) order ≡ Some (get_or places x 0)) where
  -- the contract at a place has that place
  place-at : (p x : ℕ) → p < length order → get_or order p 0 ≡ x → get_or places x 0 ≡ p
  place-at p x lt at =
      let within : x < length (pairs_of ranks) = rw at at (below-count ranks order ties p lt) in
      let same = same_Some (get_or places x 0) (0 + p) (sym (placed x within) ∙ position_from-zero (λ y. y == x) order ∙ position-at 0 p x order ties.once lt at) in
      omega (arith, same)

  -- each contract stands at its place
  contract-at : (x : ℕ) → x < length (pairs_of ranks) → (get_or places x 0 < length order) × (get_or order (get_or places x 0) 0 ≡ x)
  contract-at x lt =
      let there = place_from_IsIn order x 0 ((ties.all x).1 lt) in
      rw (place-at there.0 x there.1 there.2) (there.1, there.2)

  all-there : length order ≡ length (pairs_of ranks)
  all-there =
      let n = length (pairs_of ranks) in
      let least = length_injects (λ x. get_or places x 0) (below n) (below (length order)) (IsSet-all_below n (λ k. true)) (IsSet-all_below (length order) (λ k. true))
      (λ x there. IsIn-all_below (length order) (λ k. true) (get_or places x 0) (contract-at x (below-all_below n (λ k. true) x there).0).0 refl)
      (λ x y x-there y-there same.
      sym (contract-at x (below-all_below n (λ k. true) x x-there).0).1
      ∙ ap (λ (p : ℕ). get_or order p 0) same
      ∙ (contract-at y (below-all_below n (λ k. true) y y-there).0).1) in
      omega (arith, least, length-below n, length-below (length order), as-many ranks order ties)

  pub ties-are : ties_of places ≡ order
  ties-are =
      let at = λ (p : ℕ). position_or_len (λ q. q == p) places in
      let long : length (ties_of places) ≡ length order = omega (arith, length-map (below (length places)) at, length-below (length places), wide, all-there) in
      ext_get_or 0 (ties_of places) order long (λ p less.
      let lt : p < length order = omega (arith, long) in
      let x = get_or order p 0 in
      let x-lt : x < length places = omega (arith, below-count ranks order ties p lt, wide) in
      get_or-map at (below (length places)) p 0 0 (omega (arith, length-below (length places), wide, all-there, lt))
      ∙ ap at (get_or-below (length places) p 0 (omega (arith, wide, all-there, lt)))
      ∙ position_or_len_is (λ q. q == p) places x 0 (omega (arith, x-lt))
      (λ k before.
      let apart : get_or places k 0 ≢ p = λ same. let k-is = rw same at (contract-at k (omega (arith, before, x-lt, wide))).1 in absurd (omega (arith, before, k-is)) in
      grind (arith, nat_tests, apart))
      (λ within. let here = place-at p x lt refl in grind (arith, nat_tests, here)))

  pub board-kept : (tree : TreeOf) (steps : List (List ℤ)) (ranked : Bool) → length ranks ≡ tree.hospitals → length steps ≡ length (sets_of_tree tree) → ranked ≡ is_ranked ranks order → IsBoardKept ranks tree steps places ranked
  board-kept tree steps ranked hospitals nodes keys = record { hospitals = hospitals; nodes = nodes; order = rw ties-are ties; wide = wide; place = rw ties-are placed; keys = rw ties-are keys }

  pub board-built : (given : List (List ℕ)) (tree : TreeOf) (steps : List (List ℤ)) (rule : TieRule) → ranks ≡ given → fault_of ranks rule ≡ None → order ≡ order_of ranks rule →
      BuildsBoard given tree steps rule (Ok (board_of ranks tree steps (ties_of places)))
  board-built given tree steps rule is fine ordered =
      let built : board_of ranks tree steps (ties_of places) ≡ board_of ranks tree steps (order_of ranks rule) = rw (ties-are, ordered) refl in
      rw (← is) (fine, built, rw ties-are ties)

pub no-place : (n : ℕ) (order : List ℕ) → ArePlaces n 0 order (replicate n 0)
no-place n order = record { wide = length-replicate {A = ℕ} n 0; known = λ p lt. absurd (omega arith) }
