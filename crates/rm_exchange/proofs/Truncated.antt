-- What a holder keeps can be read off again from the mere fact that it is kept.
use Rattle.std.proofs.Common.{◌≡◌, ◌∙◌, ◌⊎◌, ℕ, zero, suc, ◌<◌, List, Bool, true, false, ◌&&◌, length, get_or, eqb, Option, Some, None, ℤ, ◌<ℤ◌, refl, ap, inl, inr, ⊎_elim, arith, eqb-true, eq-eqb}
use Rattle.std.specs.Ordering.{nat_cmp}
use Rattle.std.specs.BinaryHeap.{heap_items, IsHeap-prop}
use Rattle.std.proofs.Math.Logic.{∥∥₁_elim}
use Rattle.std.proofs.Props.{props}
use Rattle.std.proofs.lemmas.Int.{ints}
use Rattle.std.proofs.lemmas.Bool.{cases_eq, cases_lt, cases_Bool, and_parts, and_from}
use Rattle.rm_sets.proofs.Sets.{not_both}
use Rattle.rm_market.specs.Board.{Board, sets_of}
use Rattle.rm_market.specs.Tree.{parent, equals_number}
use Rattle.rm_board.specs.TieKeys.{tie_key}
use Rattle.rm_valuation_laws.proofs.Score.{cases_int}
use Rattle.rm_exchange.specs.declared.removal.Removal.{Removal}
use Rattle.rm_exchange.specs.declared.holding.Holding.{Holding}
use Rattle.rm_exchange.specs.Entrants.{ComesFirstOf, IsLeastOf}
use Rattle.rm_exchange.specs.declared.leaf.Leaf.{Leaf}
use Rattle.rm_exchange.specs.Leaves.{IsGreatestOf, IsTieOf, IsLeafOf}
use Rattle.rm_exchange.specs.Holding.{IsAllKept}

first_from : (l : ℤ) (t : ℕ) (m : ℤ) (u : ℕ) → ∥ ComesFirstOf l t m u ∥₁ → ComesFirstOf l t m u
first_from l t m u h =
    ⊎_elim
    (λ lt. inl lt)
    (λ rest. ⊎_elim
    (λ e. ⊎_elim
    (λ lt. absurd (∥∥₁_elim h (Prim.hlevel props) (λ f. tied f e lt)))
    (λ le. inr (e, le))
    (cases_lt t u))
    (λ gt. absurd (∥∥₁_elim h (Prim.hlevel props) (λ f. above f gt)))
    rest)
    (cases_int l m)
  where
    tied : ComesFirstOf l t m u → l ≡ m → t < u → ⊥
    tied (inl lt) e less = omega (arith, ints)
    tied (inr tie) e less = let le = tie.1 in omega arith

    above : ComesFirstOf l t m u → m <ℤ l → ⊥
    above (inl lt) gt = omega (arith, ints)
    above (inr tie) gt = let e = tie.0 in omega (arith, ints)

least_from : (key : ℕ → ℕ) (H : List ℕ) (test : ℕ → Bool) (lost : ℕ → ℤ) (size : ℕ) (o : Option Removal) → ∥ IsLeastOf key H test lost size o ∥₁ → IsLeastOf key H test lost size o
least_from key H test lost size None t = λ y inH. ∥∥₁_elim t (Prim.hlevel props) (λ f. f y inH)
least_from key H test lost size (Some r) t = record {
  held = ∥∥₁_elim t (Prim.hlevel props) (λ k. k.held);
  passes = ∥∥₁_elim t (Prim.hlevel props) (λ k. k.passes);
  tie = ∥∥₁_elim t (Prim.hlevel props) (λ k. k.tie);
  loss = ∥∥₁_elim t (Prim.hlevel props) (λ k. k.loss);
  least = λ y inH u. first_from (lost r.contract) (key r.contract) (lost y) (key y) (∥∥₁_elim t (Prim.hlevel props) (λ k. ∣ k.least y inH u ∣₁));
  low = ∥∥₁_elim t (Prim.hlevel props) (λ k. k.low);
  high = ∥∥₁_elim t (Prim.hlevel props) (λ k. k.high);
}

-- a number below n that passes the test, or that there is none
some_below : (p : ℕ → Bool) (n : ℕ) → ((e : ℕ) × (e < n) × (p e ≡ true)) ⊎ ((e : ℕ) → e < n → p e ≡ false)
some_below p zero = inr (λ e lt. absurd (omega arith))
some_below p (suc n) =
    ⊎_elim
    (λ found. inl (found.0, omega (arith, found.1), found.2))
    (λ none. ⊎_elim
    (λ t. inl (n, omega arith, t))
    (λ f. inr (λ e lt. ⊎_elim (λ same. ap p same ∙ f) (λ ne. none e (omega arith)) (cases_eq e n)))
    (cases_Bool (p n)))
    (some_below p n)

number_is : (o : Option ℕ) (a : ℕ) → equals_number o a ≡ true → o ≡ Some a
number_is None a e = absurd (cc)
number_is (Some k) a e = ap (λ w. Some w) (eqb-true k a e)

is_number_of : (o : Option ℕ) (a : ℕ) → o ≡ Some a → equals_number o a ≡ true
is_number_of o a e = ap (λ w. equals_number w a) e ∙ eq-eqb a a refl

found_from : (b : Board) (places : List ℕ) (j a i : ℕ) → ∥ ((e : ℕ) × (e < j) × (parent (sets_of b) e ≡ Some a) × (get_or places e 0 ≡ i)) ∥₁ → (e : ℕ) × (e < j) × (parent (sets_of b) e ≡ Some a) × (get_or places e 0 ≡ i)
found_from b places j a i t =
    ⊎_elim
    (λ found. let both = and_parts (equals_number (parent (sets_of b) found.0) a) (eqb (get_or places found.0 0) i) found.2 in (found.0, found.1, number_is (parent (sets_of b) found.0) a both.0, eqb-true (get_or places found.0 0) i both.1))
    (λ none. absurd (∥∥₁_elim t (Prim.hlevel props) (λ f. not_both (equals_number (parent (sets_of b) f.0) a && eqb (get_or places f.0 0) i) (and_from (equals_number (parent (sets_of b) f.0) a) (eqb (get_or places f.0 0) i) (is_number_of (parent (sets_of b) f.0) a f.2) (eq-eqb (get_or places f.0 0) i f.3)) (none f.0 f.1))))
    (some_below (λ e. equals_number (parent (sets_of b) e) a && eqb (get_or places e 0) i) j)

greatest_from : (items : List ℕ) (o : Option ℕ) → ∥ IsGreatestOf items o ∥₁ → IsGreatestOf items o
greatest_from items None t = ∥∥₁_elim t (Prim.hlevel props) (λ f. f)
greatest_from items (Some x) t = record {
  member = ∥∥₁_elim t (Prim.hlevel props) (λ k. k.member);
  greatest = λ y i. ∥∥₁_elim t (Prim.hlevel props) (λ k. k.greatest y i);
}

tie_from : (key : ℕ → ℕ) (o : Option ℕ) (tie : ℕ) → ∥ IsTieOf key o tie ∥₁ → IsTieOf key o tie
tie_from key None tie t = tt
tie_from key (Some x) tie t = ∥∥₁_elim t (Prim.hlevel props) (λ f. f)

leaf_from : (b : Board) (H : List ℕ) (h : ℕ) (leaf : Leaf) → ∥ IsLeafOf b H h leaf ∥₁ → IsLeafOf b H h leaf
leaf_from b H h leaf t = record {
  same = λ p. ∥∥₁_elim t (Prim.hlevel props) (λ k. k.same p);
  room = ∥∥₁_elim t (Prim.hlevel props) (λ k. k.room);
  order = ∥∥₁_elim t (IsHeap-prop nat_cmp (heap_items leaf.held)) (λ k. k.order);
  cap = ∥∥₁_elim t (Prim.hlevel props) (λ k. k.cap);
  last = greatest_from (heap_items leaf.held) leaf.last (∥∥₁_elim t (Prim.hlevel props) (λ k. ∣ k.last ∣₁));
  tie = tie_from (tie_key b) leaf.last leaf.tie (∥∥₁_elim t (Prim.hlevel props) (λ k. ∣ k.tie ∣₁));
}

pub kept_from : (b : Board) (places : List ℕ) (h : Holding) → ∥ IsAllKept b places h ∥₁ → IsAllKept b places h
kept_from b places h t = record {
  hospitals = ∥∥₁_elim t (Prim.hlevel props) (λ k. k.hospitals);
  small = ∥∥₁_elim t (Prim.hlevel props) (λ k. k.small);
  all_marked = ∥∥₁_elim t (Prim.hlevel props) (λ k. k.all_marked);
  all_counted = ∥∥₁_elim t (Prim.hlevel props) (λ k. k.all_counted);
  all_nodes = ∥∥₁_elim t (Prim.hlevel props) (λ k. k.all_nodes);
  all_placed = ∥∥₁_elim t (Prim.hlevel props) (λ k. k.all_placed);
  counted = ∥∥₁_elim t (Prim.hlevel props) (λ k. k.counted);
  nexts = record {
    all = ∥∥₁_elim t (Prim.hlevel props) (λ k. k.nexts.all);
    each = λ a la passes. ∥∥₁_elim t (Prim.hlevel props) (λ k. k.nexts.each a la passes);
    range = λ a step is. ∥∥₁_elim t (Prim.hlevel props) (λ k. k.nexts.range a step is);
  };
  leaves = record {
    all = ∥∥₁_elim t (Prim.hlevel props) (λ k. k.leaves.all);
    each = λ a d la. leaf_from b _ a _ (∥∥₁_elim t (Prim.hlevel props) (λ k. ∣ k.leaves.each a d la ∣₁));
  };
  placed = record {
    within = λ e a lt hm. ∥∥₁_elim t (Prim.hlevel props) (λ k. k.placed.within e a lt hm);
    once = λ e f a le lf hm g s. ∥∥₁_elim t (Prim.hlevel props) (λ k. k.placed.once e f a le lf hm g s);
    filled = λ a i la lt. found_from b places (length b.nodes) a i (∥∥₁_elim t (Prim.hlevel props) (λ k. ∣ k.placed.filled a i la lt ∣₁));
  };
  entries = λ e a le hm all. least_from (tie_key b) _ _ _ _ _ (∥∥₁_elim t (Prim.hlevel props) (λ k. ∣ k.entries e a le hm all ∣₁));
}
