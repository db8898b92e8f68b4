-- The keys of contracts tell their tie order.
use Rattle.std.proofs.Common.{◌≡◌, ◌↔◌, ◌∙◌, sym, ap, refl, ℕ, zero, suc, ◌+◌, ◌-◌, ◌<◌, ◌≤◌, List, [], ◌∷◌, ◌++◌, length, get_or, true, false, nat_lt, inl, inr, arith}
use Rattle.std.specs.Bool.{◌==◌}
use Rattle.std.specs.List.{list_all, position_or_len}
use Rattle.std.proofs.lemmas.Bool.{cases_lt, cases_Bool, and_parts, and_from, false_from_ne_true}
use Rattle.std.proofs.lemmas.Bool.Decides.{nat_tests}
use Rattle.std.proofs.lemmas.List.Folds.{list_all-append}
use Rattle.std.proofs.lemmas.List.Sums.{fails_before_first, passes_at_first}
use Rattle.rm_sets.specs.Sets.{IsIn}
use Rattle.rm_sets.proofs.Members.{IsIn-get_or, place_from_IsIn}
use Rattle.rm_sets.proofs.Places.{placed}
use Rattle.rm_sets.proofs.Sets.{IsIn-here, IsIn-later}
use Rattle.rm_market.specs.Board.{Board, pairs_of}
use Rattle.rm_board.specs.TieKeys.{rank_key, ascends, is_ranked, tie_key}

-- ---- ascending, by places

module _ (key : ℕ → ℕ) where
  -- each of the first n has a smaller key than the later ones of them
  abbrev pub AscendsTo : ℕ → List ℕ → Type 0
  AscendsTo n xs = (j k : ℕ) → j < k → k < n → key (get_or xs j 0) < key (get_or xs k 0)

  all-at : (x : ℕ) (xs : List ℕ) → list_all (λ y. nat_lt (key x) (key y)) xs ≡ true → (k : ℕ) → k < length xs → key x < key (get_or xs k 0)
  all-at x [] all k lt = absurd (omega arith)
  all-at x (y ∷ xs) all zero lt = let first = (and_parts (nat_lt (key x) (key y)) (list_all (λ y. nat_lt (key x) (key y)) xs) all).0 in grind (arith, nat_tests, first)
  all-at x (y ∷ xs) all (suc k) lt = all-at x xs (and_parts (nat_lt (key x) (key y)) (list_all (λ y. nat_lt (key x) (key y)) xs) all).1 k (omega arith)

  pub all-from : (x : ℕ) (xs : List ℕ) → ((k : ℕ) → k < length xs → key x < key (get_or xs k 0)) → list_all (λ y. nat_lt (key x) (key y)) xs ≡ true
  all-from x [] less = refl
  all-from x (y ∷ xs) less =
      let here : key x < key y = less 0 (omega arith) in
      and_from (nat_lt (key x) (key y)) (list_all (λ y. nat_lt (key x) (key y)) xs) (grind (arith, nat_tests, here)) (all-from x xs (λ k lt. less (suc k) (omega arith)))

  pub ascends-at : (xs : List ℕ) → ascends key xs ≡ true → AscendsTo (length xs) xs
  ascends-at [] up j k lt within = absurd (omega arith)
  ascends-at (x ∷ xs) up zero zero lt within = absurd (omega arith)
  ascends-at (x ∷ xs) up zero (suc k) lt within = all-at x xs (and_parts (list_all (λ y. nat_lt (key x) (key y)) xs) (ascends key xs) up).0 k (omega arith)
  ascends-at (x ∷ xs) up (suc j) zero lt within = absurd (omega arith)
  ascends-at (x ∷ xs) up (suc j) (suc k) lt within = ascends-at xs (and_parts (list_all (λ y. nat_lt (key x) (key y)) xs) (ascends key xs) up).1 j k (omega arith) (omega arith)

  pub ascends-from : (xs : List ℕ) → AscendsTo (length xs) xs → ascends key xs ≡ true
  ascends-from [] up = refl
  ascends-from (x ∷ xs) up =
      and_from (list_all (λ y. nat_lt (key x) (key y)) xs) (ascends key xs)
      (all-from x xs (λ k lt. up 0 (suc k) (omega arith) (omega arith)))
      (ascends-from xs (λ j k lt within. up (suc j) (suc k) (omega arith) (omega arith)))

  -- a next one with a larger key
  pub ascends-more : (i : ℕ) (xs : List ℕ) → 1 ≤ i → AscendsTo i xs → key (get_or xs (i - 1) 0) < key (get_or xs i 0) → AscendsTo (i + 1) xs
  ascends-more i xs some up less j k lt within = elim (cases_lt k i) [
    | inl before ↦ up j k lt before
    | inr here ↦
        let is : k ≡ i = omega arith in
        rw is (elim (cases_lt j (i - 1)) [
          | inl earlier ↦ let past = up j (i - 1) earlier (omega arith) in omega (arith, past, less)
          | inr last ↦ let at : j ≡ i - 1 = omega arith in rw at less
        ])
  ]

  -- a next one without
  pub ascends-not : (i : ℕ) (xs : List ℕ) → 1 ≤ i → i < length xs → key (get_or xs i 0) ≤ key (get_or xs (i - 1) 0) → false ≡ ascends key xs
  ascends-not i xs some within le = sym (false_from_ne_true (ascends key xs) (λ up. let less = ascends-at xs up (i - 1) i (omega arith) within in absurd (omega (arith, less, le))))

  pub ascends-all : (i : ℕ) (xs : List ℕ) → length xs ≤ i → AscendsTo i xs → true ≡ ascends key xs
  ascends-all i xs end up = sym (ascends-from xs (λ j k lt within. up j k lt (omega arith)))

  -- one list after another, where all of the first have smaller keys than those of the second
  pub ascends-append : (xs ys : List ℕ) → ascends key xs ≡ true → ascends key ys ≡ true → ((x y : ℕ) → IsIn x xs → IsIn y ys → key x < key y) → ascends key (xs ++ ys) ≡ true
  ascends-append [] ys front back across = back
  ascends-append (x ∷ xs) ys front back across =
      let less = λ (y : ℕ). nat_lt (key x) (key y) in
      let parts = and_parts (list_all less xs) (ascends key xs) front in
      let past : list_all less ys ≡ true = all-from x ys (λ k lt. across x (get_or ys k 0) (IsIn-here x xs) (IsIn-get_or ys k 0 lt)) in
      and_from (list_all less (xs ++ ys)) (ascends key (xs ++ ys))
      (list_all-append less xs ys ∙ and_from (list_all less xs) (list_all less ys) parts.0 past)
      (ascends-append xs ys parts.1 back (λ u v u-there v-there. across u v (IsIn-later u x xs u-there) v-there))

-- ---- the place of a contract

abbrev place : List ℕ → ℕ → ℕ
place xs x = position_or_len (λ z. z == x) xs

-- where keys ascend, an earlier place has the smaller key
module _ (key : ℕ → ℕ) (xs : List ℕ) (up : ascends key xs ≡ true) where
  rises : (x y : ℕ) → IsIn x xs → IsIn y xs → place xs x < place xs y → key x < key y
  rises x y x-there y-there lt =
      let less = ascends-at key xs up (place xs x) (place xs y) lt (placed xs y y-there).0 in
      rw ((placed xs x x-there).1, (placed xs y y-there).1) at less

  same-place : (x y : ℕ) → IsIn x xs → IsIn y xs → place xs x ≡ place xs y → key x ≡ key y
  same-place x y x-there y-there same = ap key (rw ((placed xs x x-there).1, (placed xs y y-there).1) at (ap (λ (p : ℕ). get_or xs p 0) same))

  falls : (x y : ℕ) → IsIn x xs → IsIn y xs → place xs y ≤ place xs x → key y ≤ key x
  falls x y x-there y-there le = elim (cases_lt (place xs y) (place xs x)) [
    | inl less ↦ let lt = rises y x y-there x-there less in omega (arith, lt)
    | inr more ↦ let same : key x ≡ key y = same-place x y x-there y-there (omega arith) in omega (arith, same)
  ]

  order-is : (x y : ℕ) → IsIn x xs → IsIn y xs → (key x < key y) ↔ (place xs x < place xs y)
  order-is x y x-there y-there = (
    (λ lt. elim (cases_lt (place xs x) (place xs y)) [
      | inl less ↦ less
      | inr more ↦ let le = falls x y x-there y-there more in absurd (omega (arith, lt, le))
    ]),
    rises x y x-there y-there,
  )

-- ---- keys

module _ (b : Board) (all : (x : ℕ) → x < length (pairs_of b.ranks) → IsIn x b.ties) (x y : ℕ) (x-lt : x < length (pairs_of b.ranks)) (y-lt : y < length (pairs_of b.ranks)) where
  pub key_order : (tie_key b x < tie_key b y) ↔ (position_or_len (λ z. z == x) b.ties < position_or_len (λ z. z == y) b.ties)
  unfolding tie_key
  key_order = elim (cases_Bool (is_ranked b.ranks b.ties)) [
    | inl told ↦ rw told (order-is (rank_key b.ranks) b.ties (and_parts _ _ told).1 x y (all x x-lt) (all y y-lt))
    | inr other ↦ rw other ((λ lt. lt), (λ lt. lt))
  ]

-- the key in an order by rank, and in any other order
pub ranked_key : (b : Board) (x : ℕ) → is_ranked b.ranks b.ties ≡ true → rank_key b.ranks x ≡ tie_key b x
unfolding tie_key
ranked_key b x told = rw told refl

pub other_key : (b : Board) (x : ℕ) → is_ranked b.ranks b.ties ≡ false → position_or_len (λ z. z == x) b.ties ≡ tie_key b x
unfolding tie_key
other_key b x told = rw told refl

-- so what is the key of x is less than that of y exactly where x comes first
pub key_stands : (b : Board) → ((x : ℕ) → x < length (pairs_of b.ranks) → IsIn x b.ties) → (x k : ℕ) → x < length (pairs_of b.ranks) → k ≡ tie_key b x → (y : ℕ) → y < length (pairs_of b.ranks) → (k < tie_key b y) ↔ (position_or_len (λ z. z == x) b.ties < position_or_len (λ z. z == y) b.ties)
key_stands b all x k x-lt told y y-lt = rw told (key_order b all x y x-lt y-lt)
