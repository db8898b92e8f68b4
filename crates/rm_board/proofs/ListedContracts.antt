-- The doctors' lists of contracts: one contract more, one list more, and each list is of distinct contracts.
use Rattle.std.proofs.Common.{◌≡◌, ◌≢◌, ◌∙◌, ◌&&◌, ◌^◌, ap, refl, ℕ, suc, ◌+◌, ◌<◌, List, [], ◌∷◌, ◌++◌, false, length, map, take, get_or, filter_map, Option, Some, None, arith, append_assoc, add-zero}
use Rattle.std.specs.Bool.{◌==◌}
use Rattle.std.specs.List.{cons_option, enumerate_from, IsDistinct, AllByRecursion}
use Rattle.std.proofs.lemmas.Bool.{and_parts}
use Rattle.std.proofs.lemmas.Bool.Decides.{nat_tests}
use Rattle.std.proofs.lemmas.List.{append-nil, take_more, map-append, length-take-le}
use Rattle.std.proofs.lemmas.List.Elements.{filter_map-append}
use Rattle.std.proofs.lemmas.List.Quantifiers.{position-Some}
use Rattle.std.proofs.lemmas.Iterator.Adapters.{position_from-zero}
use Rattle.rm_market.specs.Market.{listed_of}
use Rattle.rm_market.specs.Board.{pairs_of, number_of, hospital_of_number}

-- ---- one contract more

pub some-more : (f : ℕ → Option ℕ) (xs : List ℕ) (i x : ℕ) → i < length xs → Some x ≡ f (get_or xs i 0) → filter_map f (take (i + 1) xs) ≡ filter_map f (take i xs) ++ x ∷ []
some-more f xs i x lt is = rw (take_more xs i 0 lt, filter_map-append f (take i xs) (get_or xs i 0 ∷ []), ← is) refl

pub none-more : (f : ℕ → Option ℕ) (xs : List ℕ) (i : ℕ) → i < length xs → None ≡ f (get_or xs i 0) → filter_map f (take (i + 1) xs) ≡ filter_map f (take i xs)
none-more f xs i lt is = rw (take_more xs i 0 lt, filter_map-append f (take i xs) (get_or xs i 0 ∷ []), ← is) (append-nil (filter_map f (take i xs)))

pub one-added : (old so new : List ℕ) (f : ℕ → Option ℕ) (xs : List ℕ) (i x : ℕ) → so ≡ old ++ filter_map f (take i xs) → i < length xs → Some x ≡ f (get_or xs i 0) → new ≡ so ++ x ∷ [] →
    new ≡ old ++ filter_map f (take (i + 1) xs)
one-added old so new f xs i x so-far lt is more = rw (more, so-far, some-more f xs i x lt is) (append_assoc old (filter_map f (take i xs)) (x ∷ []))

-- ---- one list more

enumerate-push : (s : ℕ) (xs : List (List ℕ)) (y : List ℕ) → enumerate_from s (xs ++ y ∷ []) ≡ enumerate_from s xs ++ (s + length xs, y) ∷ []
enumerate-push s [] y = rw add-zero refl
enumerate-push s (x ∷ xs) y =
    let e : s + 1 + length xs ≡ s + suc (length xs) = omega arith in
    ap (λ (t : List (ℕ × List ℕ)). (s, x) ∷ t) (rw (enumerate-push (s + 1) xs y, e) refl)

length-listed : (ranks : List (List ℕ)) (s : ℕ) (lists : List (List ℕ)) → length (map (λ (e : ℕ × List ℕ). filter_map (number_of ranks e.0) e.1) (enumerate_from s lists)) ≡ length lists
length-listed ranks s [] = refl
length-listed ranks s (x ∷ lists) = ap suc (length-listed ranks (s + 1) lists)

pub one-listed : (ranks lists : List (List ℕ)) (d : ℕ) → d < length lists → listed_of ranks (take (d + 1) lists) ≡ listed_of ranks (take d lists) ++ filter_map (number_of ranks d) (get_or lists d []) ∷ []
one-listed ranks lists d lt =
    let own = λ (e : ℕ × List ℕ). filter_map (number_of ranks e.0) e.1 in
    let n : 0 + length (take d lists) ≡ d = omega (arith, length-take-le d lists (omega arith)) in
    rw (take_more lists d [] lt, enumerate-push 0 (take d lists) (get_or lists d []), n)
    (map-append own (enumerate_from 0 (take d lists)) ((d, get_or lists d []) ∷ []))

-- ---- distinct contracts

-- a contract that is found is at the hospital
pub found-at : (ranks : List (List ℕ)) (d h x : ℕ) → number_of ranks d h ≡ Some x → hospital_of_number ranks x ≡ h
found-at ranks d h x found =
    let test = λ (p : ℕ × ℕ). (p.0 == d) && (p.1 == h) in
    let there = position-Some test (pairs_of ranks) x (0, 0) (position_from-zero test (pairs_of ranks) ∙ found) in
    let same = (and_parts ((get_or (pairs_of ranks) x (0, 0)).0 == d) ((get_or (pairs_of ranks) x (0, 0)).1 == h) there.1).1 in
    grind (arith, nat_tests, same)

module _ (f : ℕ → Option ℕ) (back : ℕ → ℕ) (inverse : (h x : ℕ) → f h ≡ Some x → back x ≡ h) where
  other-one : (h x k : ℕ) (o : Option ℕ) (rest : List ℕ) → f k ≡ o → back x ≡ h → (h == k) ≡ false → AllByRecursion (λ y. (x == y) ≡ false) rest → AllByRecursion (λ y. (x == y) ≡ false) (cons_option o rest)
  other-one h x k None rest is at other others = others
  other-one h x k (Some y) rest is at other others =
      let there = inverse k y is in
      let apart : x ≢ y = λ same. let e : back x ≡ back y = ap back same in let equal : h ≡ k = omega (arith, at, e, there) in grind (arith, nat_tests, other, equal) in
      (grind (arith, nat_tests, apart), others)

  others-found : (h x : ℕ) (hs : List ℕ) → back x ≡ h → AllByRecursion (λ k. (h == k) ≡ false) hs → AllByRecursion (λ y. (x == y) ≡ false) (filter_map f hs)
  others-found h x [] at others = tt
  others-found h x (k ∷ hs) at others = other-one h x k (f k) (filter_map f hs) refl at others.0 (others-found h x hs at others.1)

  distinct-one : (h : ℕ) (o : Option ℕ) (hs : List ℕ) → f h ≡ o → AllByRecursion (λ k. (h == k) ≡ false) hs → IsDistinct ◌==◌ (filter_map f hs) → IsDistinct ◌==◌ (cons_option o (filter_map f hs))
  unfolding IsDistinct
  distinct-one h None hs is others rest = rest
  distinct-one h (Some x) hs is others rest = (others-found h x hs (inverse h x is) others, rest)

  distinct-found : (hs : List ℕ) → IsDistinct ◌==◌ hs → IsDistinct ◌==◌ (filter_map f hs)
  unfolding IsDistinct
  distinct-found [] distinct = tt
  distinct-found (h ∷ hs) distinct = distinct-one h (f h) hs refl distinct.0 (distinct-found hs distinct.1)

pub distinct-contracts : (ranks : List (List ℕ)) (d : ℕ) (hospitals : List ℕ) → IsDistinct ◌==◌ hospitals → IsDistinct ◌==◌ (filter_map (number_of ranks d) hospitals)
distinct-contracts ranks d hospitals distinct = distinct-found (number_of ranks d) (hospital_of_number ranks) (λ h x found. found-at ranks d h x found) hospitals distinct

-- the lists of the first d doctors are fewer than the most that there may be
pub few-listed : (ranks lists : List (List ℕ)) (d : ℕ) → d < length lists → length lists < 2 ^ 32 → length (listed_of ranks (take d lists)) < 4_294_967_295
few-listed ranks lists d lt few =
    omega (arith, length-listed ranks 0 (take d lists), length-take-le d lists (omega arith))
