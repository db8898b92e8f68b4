-- A board's worth has both exchanges.
use Rattle.std.proofs.Common.{◌≡◌, ℕ, ◌+◌, ◌<◌, ◌≤◌, List, [], ◌∷◌, Bool, true, false, not, ◌&&◌, length, map, get_or, nat_le, nat_lt, count_by, ℤ, ◌+ℤ◌, ◌≤ℤ◌, IsFalse, All, refl, sym, ap, ◌∙◌, subst, inl, inr, ⊎_elim, arith, true≢false, eqb-true}
use Rattle.std.proofs.lemmas.Int.{ints}
use Rattle.std.proofs.lemmas.Bool.{cases_Bool, cases_order, and_parts, and_cases, not-false, not_from_false, leb-true, le-leb, ltb-true, ltb-false}
use Rattle.std.proofs.lemmas.List.{nil_from_length}
use Rattle.std.proofs.lemmas.List.Sums.{AllPass-from_list_all, list_all-from_AllPass}
use Rattle.std.proofs.lemmas.List.Elements.{All-head, All-tail, All-from_get_or}
use Rattle.rm_sets.specs.Sets.{has, IsIn, IsSet, with_one, without, common, minus}
use Rattle.rm_sets.proofs.Sets.{not_both, cases_has, IsSet-without}
use Rattle.rm_sets.proofs.Members.{IsIn-common, IsIn-minus, not_in_nil, not_in_from}
use Rattle.rm_market.specs.Best.{NoLoss, Exchange, SizeExchange, IsValuation, values_of}
use Rattle.rm_market.specs.Board.{Node, Board, leaf_of, count, cap_of, is_feasible, int_sum, total, worth, is_empty, crosses, IsFalling, node_at, no_node}
use Rattle.rm_valuation_laws.specs.Changes.{IsConcaveBoard, in_node, test_at}
use Rattle.rm_valuation_laws.specs.Offers.{IsInside}
use Rattle.rm_valuation_laws.proofs.Moves.{without_other, apart}
use Rattle.rm_valuation_laws.proofs.Counts.{one, count_same, count_all, count-with_one, count-without, count_within}
use Rattle.rm_valuation_laws.proofs.Unions.{IsNested, IsLaminar, both}
use Rattle.rm_valuation_laws.proofs.Descent.{descent, least_test}
use Rattle.rm_valuation_laws.proofs.Steps.{moved}

-- ---- nodes as tests

pub no_member : (S : List ℕ) → is_empty S ≡ true → (x : ℕ) → IsIn x S → ⊥
no_member S e x h =
    let same : S ≡ [] = nil_from_length S (eqb-true (length S) 0 e) in
    not_in_nil x (subst (λ L. IsIn x L) same h)

nested_from_crosses : (A B : List ℕ) → IsFalse (crosses A B) → (leaf : ℕ → ℕ) → IsNested (λ x. has (leaf x) A) (λ x. has (leaf x) B)
nested_from_crosses A B h leaf =
    ⊎_elim
    (λ two. ⊎_elim
    (λ none. inr (inr (λ x p q. no_member (common A B) (not-false (is_empty (common A B)) none) (leaf x) (IsIn-common A B (leaf x) p q))))
    (λ none. inl (λ x p. ⊎_elim (λ q. q) (λ out. absurd (no_member (minus A B) (not-false (is_empty (minus A B)) none) (leaf x) (IsIn-minus A B (leaf x) p out))) (cases_has (leaf x) B)))
    (and_cases (not (is_empty (common A B))) (not (is_empty (minus A B))) two))
    (λ none. inr (inl (λ x p. ⊎_elim (λ q. q) (λ out. absurd (no_member (minus B A) (not-false (is_empty (minus B A)) none) (leaf x) (IsIn-minus B A (leaf x) p out))) (cases_has (leaf x) A))))
    (and_cases (not (is_empty (common A B)) && not (is_empty (minus A B))) (not (is_empty (minus B A))) h)

nested_flip : (p q : ℕ → Bool) → IsNested p q → IsNested q p
nested_flip p q h = ⊎_elim (λ w. inr (inl w)) (λ rest. ⊎_elim (λ w. inl w) (λ a. inr (inr (λ x t u. a x u t))) rest) h

pub board_laminar : (b : Board) → IsConcaveBoard b → IsLaminar (length b.nodes) (test_at b)
board_laminar b ok k l lk ll =
    ⊎_elim
    (λ e. subst (λ z. IsNested (test_at b k) (test_at b z)) e (inl (λ x h. h)))
    (λ rest. ⊎_elim
    (λ lt. nested_from_crosses (node_at b k).leaves (node_at b l).leaves (ok.laminar k l no_node lt ll) (leaf_of b))
    (λ gt. nested_flip (test_at b l) (test_at b k) (nested_from_crosses (node_at b l).leaves (node_at b k).leaves (ok.laminar l k no_node gt lk) (leaf_of b)))
    rest)
    (cases_order k l)

-- ---- from each node to all

-- a move at one node
abbrev NodeMove : Board → List ℕ → List ℕ → List ℕ → List ℕ → Node → Type 0
NodeMove b S T S2 T2 n =
    IsFalling n.steps → count b n.leaves S ≤ length n.steps → count b n.leaves T ≤ length n.steps →
    (count b n.leaves S2 ≤ length n.steps) × (count b n.leaves T2 ≤ length n.steps)
    × ((total n.steps (count b n.leaves S) +ℤ total n.steps (count b n.leaves T)) ≤ℤ (total n.steps (count b n.leaves S2) +ℤ total n.steps (count b n.leaves T2)))

move_from_counts : (steps : List ℤ) → IsFalling steps → (s t : ℕ) (i j : Bool) (cS cT cS2 cT2 : ℕ) → cS ≡ s + one i → cT ≡ t + one j → cS2 ≡ s + one j → cT2 ≡ t + one i →
    (i ≡ true → j ≡ false → t ≤ s) → (i ≡ false → j ≡ true → s ≤ t) → cS ≤ length steps → cT ≤ length steps →
    (cS2 ≤ length steps) × (cT2 ≤ length steps) × ((total steps cS +ℤ total steps cT) ≤ℤ (total steps cS2 +ℤ total steps cT2))
move_from_counts steps falling s t i j cS cT cS2 cT2 eS eT eS2 eT2 down up hS hT =
    let r = moved steps falling s t i j down up (omega arith) (omega arith) in
    let r0 = r.0 in
    let r1 = r.1 in
    (omega arith, omega arith, rw (eS, eT, eS2, eT2) r.2)

pub int_sum-le : (f g f2 g2 : Node → ℤ) (nodes : List Node) → All (λ n. (f n +ℤ g n) ≤ℤ (f2 n +ℤ g2 n)) nodes → (int_sum (map f nodes) +ℤ int_sum (map g nodes)) ≤ℤ (int_sum (map f2 nodes) +ℤ int_sum (map g2 nodes))
int_sum-le f g f2 g2 [] all = omega (arith, ints)
int_sum-le f g f2 g2 (n ∷ nodes) all =
    let here = All-head (λ n. (f n +ℤ g n) ≤ℤ (f2 n +ℤ g2 n)) n nodes all in
    let rest = int_sum-le f g f2 g2 nodes (All-tail (λ n. (f n +ℤ g n) ≤ℤ (f2 n +ℤ g2 n)) n nodes all) in
    omega (arith, ints)

-- what is_feasible says of each node
pub caps_from_feasible : (b : Board) (S : List ℕ) → is_feasible b S ≡ true → All (λ n. count b n.leaves S ≤ length n.steps) b.nodes
unfolding is_feasible
caps_from_feasible b S h k d lt = leb-true (count b (get_or b.nodes k d).leaves S) (length (get_or b.nodes k d).steps) (AllPass-from_list_all (λ n. nat_le (count b n.leaves S) (cap_of n)) b.nodes h k d lt)

pub feasible_from_caps : (b : Board) (S : List ℕ) → All (λ n. count b n.leaves S ≤ length n.steps) b.nodes → is_feasible b S ≡ true
unfolding is_feasible
feasible_from_caps b S all = list_all-from_AllPass (λ n. nat_le (count b n.leaves S) (cap_of n)) b.nodes (λ k d lt. le-leb (count b (get_or b.nodes k d).leaves S) (length (get_or b.nodes k d).steps) (all k d lt))

no_loss_from_nodes : (b : Board) (S T S2 T2 : List ℕ) → IsConcaveBoard b → is_feasible b S ≡ true → is_feasible b T ≡ true → ((k : ℕ) → k < length b.nodes → NodeMove b S T S2 T2 (node_at b k)) → NoLoss (is_feasible b) (worth b) S T S2 T2
unfolding worth
no_loss_from_nodes b S T S2 T2 ok fS fT move =
    let moves = λ (k : ℕ) (lt : k < length b.nodes). move k lt (ok.concave k no_node lt) (caps_from_feasible b S fS k no_node lt) (caps_from_feasible b T fT k no_node lt) in (
      feasible_from_caps b S2 (All-from_get_or (λ n. count b n.leaves S2 ≤ length n.steps) b.nodes no_node (λ k lt. (moves k lt).0)),
      feasible_from_caps b T2 (All-from_get_or (λ n. count b n.leaves T2 ≤ length n.steps) b.nodes no_node (λ k lt. (moves k lt).1)),
      int_sum-le (λ n. total n.steps (count b n.leaves S)) (λ n. total n.steps (count b n.leaves T)) (λ n. total n.steps (count b n.leaves S2)) (λ n. total n.steps (count b n.leaves T2)) b.nodes
          (All-from_get_or (λ n. (total n.steps (count b n.leaves S) +ℤ total n.steps (count b n.leaves T)) ≤ℤ (total n.steps (count b n.leaves S2) +ℤ total n.steps (count b n.leaves T2))) b.nodes no_node (λ k lt. (moves k lt).2)),
    )

-- ---- size exchange

both_all : (p : ℕ → Bool) (x : ℕ) → both p (λ y. true) x ≡ p x
both_all p x = and_true (p x)
  where
    and_true : (a : Bool) → (a && true) ≡ a
    and_true true = refl
    and_true false = refl

pub board_size_exchange : (b : Board) → IsConcaveBoard b → SizeExchange (length b.leaves) (is_feasible b) (worth b)
board_size_exchange b ok S T sS sT fS fT less =
    let aS = count_all S in
    let aT = count_all T in
    let d = descent S T sS.ascending sT.ascending (length b.nodes) (test_at b) (board_laminar b ok) (λ x. true) (λ a. true) (omega arith) in
    let j = d.0 in (
      j,
      d.1,
      not_both_in j S d.2,
      no_loss_from_nodes b S T (with_one S j) (without T j) ok fS fT
          (λ k lt falling hS hT.
          let eT = count-without (test_at b k) T j sT.ascending d.1 in
          let eS2 = count-with_one (test_at b k) S j d.2 in
          let bS = count_same (both (test_at b k) (λ y. true)) (test_at b k) S (both_all (test_at b k)) in
          let bT = count_same (both (test_at b k) (λ y. true)) (test_at b k) T (both_all (test_at b k)) in
          move_from_counts (node_at b k).steps falling (count_by (test_at b k) S) (count_by (test_at b k) (without T j)) false (test_at b k j)
          (count_by (test_at b k) S) (count_by (test_at b k) T) (count_by (test_at b k) (with_one S j)) (count_by (test_at b k) (without T j))
          (omega arith) (sym eT) eS2 (omega arith)
          (λ t u. absurd (true≢false (sym t)))
          (λ t u. let more = d.4 k lt refl u in let e1 : one (test_at b k j) ≡ 1 = ap one u in omega arith)
          hS hT),
    )
  where
    not_both_in : (x : ℕ) (S : List ℕ) → has x S ≡ false → IsIn x S → ⊥
    not_both_in x S out h = not_both (has x S) h out

-- ---- exchange

-- S less i and T less j are what i and j move between
swap_at : (b : Board) (S T : List ℕ) (i j : ℕ) → IsSet S → IsSet T → IsIn i S → has i T ≡ false → IsIn j T → has j S ≡ false → (n : Node) →
    (in_node b n i ≡ true → in_node b n j ≡ false → count b n.leaves T ≤ count b n.leaves (without S i)) →
    (in_node b n i ≡ false → in_node b n j ≡ true → count b n.leaves (without S i) < count b n.leaves T) →
    NodeMove b S T (with_one (without S i) j) (with_one (without T j) i) n
swap_at b S T i j sS sT hi outi hj outj n down up falling hS hT =
    let ne : i ≡ j → ⊥ = apart S i j hi outj in
    let test = in_node b n in
    let eS = count-without test S i sS hi in
    let eT = count-without test T j sT hj in
    let eS2 = count-with_one test (without S i) j (without_other S i j (λ e. ne (sym e)) ∙ outj) in
    let eT2 = count-with_one test (without T j) i (without_other T j i ne ∙ outi) in
    move_from_counts n.steps falling (count_by test (without S i)) (count_by test (without T j)) (test i) (test j)
    (count_by test S) (count_by test T) (count_by test (with_one (without S i) j)) (count_by test (with_one (without T j) i))
    (sym eS) (sym eT) eS2 eT2
    (λ t u. let le = down t u in let e0 : one (test j) ≡ 0 = ap one u in omega arith)
    (λ t u. let lt = up t u in let e1 : one (test j) ≡ 1 = ap one u in omega arith)
    hS hT

alone_at : (b : Board) (S T : List ℕ) (i : ℕ) → IsSet S → IsIn i S → has i T ≡ false → (n : Node) →
    (in_node b n i ≡ true → count b n.leaves T ≤ count b n.leaves (without S i)) → NodeMove b S T (without S i) (with_one T i) n
alone_at b S T i sS hi outi n down falling hS hT =
    let test = in_node b n in
    let eS = count-without test S i sS hi in
    let eT2 = count-with_one test T i outi in
    move_from_counts n.steps falling (count_by test (without S i)) (count_by test T) (test i) false
    (count_by test S) (count_by test T) (count_by test (without S i)) (count_by test (with_one T i))
    (sym eS) (omega arith) (omega arith) eT2
    (λ t u. down t)
    (λ t u. absurd (true≢false (sym u)))
    hS hT

-- a node that i passes, and has more of T than of S less i
abbrev is_short : Board → List ℕ → List ℕ → ℕ → ℕ → Bool
is_short b S T i k = test_at b k i && nat_lt (count_by (test_at b k) (without S i)) (count_by (test_at b k) T)

not_short : (b : Board) (S T : List ℕ) (i k : ℕ) → is_short b S T i k ≡ false → test_at b k i ≡ true → count_by (test_at b k) T ≤ count_by (test_at b k) (without S i)
not_short b S T i k h t =
    ⊎_elim
    (λ out. absurd (not_both (test_at b k i) t out))
    (λ not_less. ltb-false (count_by (test_at b k) (without S i)) (count_by (test_at b k) T) not_less)
    (and_cases (test_at b k i) (nat_lt (count_by (test_at b k) (without S i)) (count_by (test_at b k) T)) h)

-- where a is the least short node, j is one of its contracts, and each node with j and without i has more of T
swap_from_least : (b : Board) (S T : List ℕ) (i : ℕ) → IsConcaveBoard b → IsSet S → IsSet T → is_feasible b S ≡ true → is_feasible b T ≡ true → IsIn i S → has i T ≡ false →
    (a : ℕ) → a < length b.nodes → is_short b S T i a ≡ true → ((k : ℕ) → k < length b.nodes → is_short b S T i k ≡ true → IsInside (test_at b a) (test_at b k)) →
    (j : ℕ) × IsIn j T × (has j S ≡ false) × NoLoss (is_feasible b) (worth b) S T (with_one (without S i) j) (with_one (without T j) i)
swap_from_least b S T i ok sS sT fS fT hi outi a la short least =
    let parts = and_parts (test_at b a i) (nat_lt (count_by (test_at b a) (without S i)) (count_by (test_at b a) T)) short in
    let less = ltb-true (count_by (test_at b a) (without S i)) (count_by (test_at b a) T) parts.1 in
    let d = descent (without S i) T (IsSet-without S i sS) sT (length b.nodes) (test_at b) (board_laminar b ok) (test_at b a) (λ k. not (test_at b k i)) less in
    let j = d.0 in
    let ne : j ≡ i → ⊥ = λ e. not_both (has i T) (subst (λ z. IsIn z T) e d.1) outi in
    let outj : has j S ≡ false = sym (without_other S i j ne) ∙ d.2 in (
      j,
      d.1,
      outj,
      no_loss_from_nodes b S T (with_one (without S i) j) (with_one (without T j) i) ok fS fT
          (λ k lk. swap_at b S T i j sS sT hi outi d.1 outj (node_at b k)
          (λ t u. not_short b S T i k (⊎_elim (λ yes_short. absurd (not_both (test_at b k j) (least k lk yes_short j d.3) u)) (λ out. out) (cases_Bool (is_short b S T i k))) t)
          (λ t u. narrowed k (d.4 k lk (not_from_false (test_at b k i) t) u)
          (⊎_elim
          (λ w. w)
          (λ rest. absurd (⊎_elim (λ w. not_both (test_at b k i) (w i parts.0) t) (λ ap. ap j u d.3) rest))
          (board_laminar b ok k a lk la)))),
    )
  where
    inside_both : (p q : ℕ → Bool) → IsInside p q → (x : ℕ) → both p q x ≡ p x
    inside_both p q w x = and_left_of (p x) (q x) (w x)
      where
        and_left_of : (c d : Bool) → (c ≡ true → d ≡ true) → (c && d) ≡ c
        and_left_of true d f = f refl
        and_left_of false d f = refl

    narrowed : (k : ℕ) → count_by (both (test_at b k) (test_at b a)) (without S i) < count_by (both (test_at b k) (test_at b a)) T → IsInside (test_at b k) (test_at b a) →
        count_by (test_at b k) (without S i) < count_by (test_at b k) T
    narrowed k lt w =
        let eS = count_same (both (test_at b k) (test_at b a)) (test_at b k) (without S i) (inside_both (test_at b k) (test_at b a) w) in
        let eT = count_same (both (test_at b k) (test_at b a)) (test_at b k) T (inside_both (test_at b k) (test_at b a) w) in
        omega arith

pub board_exchange : (b : Board) → IsConcaveBoard b → Exchange (length b.leaves) (is_feasible b) (worth b)
board_exchange b ok S T i sS sT fS fT hi noti =
    let outi = not_in_from i T noti in
    ⊎_elim
    (λ none. inl (no_loss_from_nodes b S T (without S i) (with_one T i) ok fS fT
    (λ k lk. alone_at b S T i sS.ascending hi outi (node_at b k) (not_short b S T i k (none k lk)))))
    (λ some.
    let s = swap_from_least b S T i ok sS.ascending sT.ascending fS fT hi outi some.0 some.1 some.2 some.3 in
    inr (s.0, s.1, (λ h. not_both (has s.0 S) h s.2), s.3))
    (least_test (length b.nodes) (test_at b) i (is_short b S T i) (board_laminar b ok)
    (λ k h. (and_parts (test_at b k i) (nat_lt (count_by (test_at b k) (without S i)) (count_by (test_at b k) T)) h).0)
    (length b.nodes) (omega arith))

-- ---- all laws

pub board_laws : (b : Board) → IsConcaveBoard b → IsValuation (length b.leaves) (values_of b)
board_laws b ok = record {
  empty = feasible_from_caps b [] (λ k d lt. omega arith);
  fewer = λ S T sS sT w fT. feasible_from_caps b S (λ k d lt.
      let more = caps_from_feasible b T fT k d lt in
      let le = count_within (in_node b (get_or b.nodes k d)) S T sS.ascending sT.ascending w in
      omega arith);
  exchange = board_exchange b ok;
  size_exchange = board_size_exchange b ok;
  ties_all = ok.ties_all;
}
