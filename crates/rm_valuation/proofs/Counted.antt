-- Counts by node, and sums of steps along a chain.
use Rattle.std.specs.List.{IsDistinct}
use Rattle.std.proofs.Common.{◌≡◌, ◌∙◌, ℕ, ◌+◌, ◌-◌, ◌<◌, ◌≤◌, List, [], ◌∷◌, Bool, true, false, ◌||◌, length, map, get_or, min, eqb, count_by, Some, None, ℤ, pos, ◌+ℤ◌, ◌-ℤ◌, All, refl, sym, ap, subst, ⊎_elim, arith, rules, eqb-true}
use Rattle.std.specs.Prelude.{◌^◌, slice_get}
use Rattle.std.proofs.lemmas.Int.{ints}
use Rattle.std.proofs.lemmas.Bool.{cases_lt}
use Rattle.std.proofs.lemmas.List.{get_or-map, length-map, ext_get_or}
use Rattle.std.proofs.lemmas.List.Sums.{count_by-le-length}
use Rattle.std.proofs.lemmas.List.Elements.{All-from_get_or}
use Rattle.std.proofs.lemmas.Option.{slice_get-get_or, slice_get_within, get_or_from_slice_get}
use Rattle.rm_sets.specs.Sets.{has, IsIn, IsSet, IsSetBelow, with_one, without}
use Rattle.rm_sets.proofs.Once.{distinct_first, distinct_rest}
use Rattle.rm_sets.proofs.Sets.{not_both, IsSet-with_one, IsIn-with_one_cases}
use Rattle.rm_sets.proofs.Members.{IsIn-get_or, place_from_IsIn}
use Rattle.rm_sets.proofs.Sizes.{length_below}
use Rattle.rm_market.specs.Board.{Board, count, count_at, int_sum, is_feasible, node_at, no_node, total, worth}
use Rattle.rm_laminar.proofs.Members.{flip}
use Rattle.rm_valuation_laws.specs.Changes.{IsChain, next_step, last_step, sum_upto, test_at}
use Rattle.rm_valuation_laws.proofs.Change.{worth_added, worth_removed, added_feasible, added_infeasible, gain_by_chain, loss_by_chain}
use Rattle.rm_valuation_laws.proofs.Counts.{one, count-cons, count-with_one, count-without}
use Rattle.rm_valuation_laws.proofs.Sums.{sum_by_place, sum_upto_same}
use Rattle.rm_valuation.specs.Counts.{AreCounts, IsGain}
use Rattle.rm_valuation.proofs.Sums.{InRange, IsSummed, IsTotal, one_summed}

-- ---- counts by the node's number

pub count_of : (b : Board) (S counts : List ℕ) → AreCounts b S counts → (k : ℕ) → k < length b.nodes → get_or counts k 0 ≡ count_at b S k
count_of b S counts a k lt = ap (λ L. get_or L k 0) (sym a) ∙ get_or-map (λ n. count b n.leaves S) b.nodes k no_node 0 lt

counts_from : (b : Board) (S counts : List ℕ) → length counts ≡ length b.nodes → ((k : ℕ) → k < length b.nodes → get_or counts k 0 ≡ count_at b S k) → AreCounts b S counts
counts_from b S counts e h =
    let l = length-map b.nodes (λ n. count b n.leaves S) in
    ext_get_or 0 (map (λ n. count b n.leaves S) b.nodes) counts (l ∙ sym e)
    (λ k lt. let inside : k < length b.nodes = omega arith in get_or-map (λ n. count b n.leaves S) b.nodes k no_node 0 inside ∙ sym (h k inside))

or_count : (a b : Bool) → (a ≡ true → b ≡ true → ⊥) → one a + one b ≡ one (a || b)
or_count true true f = absurd (f refl refl)
or_count true false f = refl
or_count false true f = refl
or_count false false f = refl

count_once : (ks : List ℕ) (k : ℕ) → IsDistinct eqb ks → count_by (λ p. eqb p k) ks ≡ one (has k ks)
count_once [] k o = refl
count_once (y ∷ ks) k o =
    let e = count-cons (λ p. eqb p k) y ks in
    let rest = count_once ks k (distinct_rest y ks o) in
    let f : one (eqb y k) ≡ one (eqb k y) = ap one (flip k y) in
    let g = or_count (eqb k y) (has k ks) (λ t h. not_both (has y ks) (subst (λ z. IsIn z ks) (eqb-true k y t) h) (distinct_first y ks o)) in
    omega arith

set_more : (n x : ℕ) (S : List ℕ) → IsSetBelow n S → x < n → IsSetBelow n (with_one S x)
set_more n x S s lt = record {
  ascending = IsSet-with_one S x s.ascending;
  below = λ y i. ⊎_elim (λ h. s.below y h) (λ e. subst (λ z. z < n) (sym e) lt) (IsIn-with_one_cases y S x i);
}

-- ---- one contract in, one out

pub counted_in : (b : Board) (x n : ℕ) (S old new chain : List ℕ) → IsSetBelow n S → has x S ≡ false → x < n → n < 2 ^ 32 → AreCounts b S old → IsChain b x chain
    → length old ≡ length b.nodes → length new ≡ length old → ((k : ℕ) → k < length old → get_or new k 0 ≡ min (get_or old k 0 + count_by (λ p. eqb p k) chain) 4294967295) → AreCounts b (with_one S x) new
counted_in b x n S old new chain s out lt small a ch lo ln h =
    let few = length_below n (with_one S x) (set_more n x S s lt) in
    counts_from b (with_one S x) new (ln ∙ lo) (λ k inside.
    let e = h k (omega arith) in
    let o = count_of b S old a k inside in
    let c = count_once chain k ch.once in
    let t : one (has k chain) ≡ one (test_at b k x) = ap one (ch.all k inside) in
    let w = count-with_one (test_at b k) S x out in
    let le = count_by-le-length (test_at b k) (with_one S x) in
    omega arith)

pub counted_out : (b : Board) (z n : ℕ) (S old new chain : List ℕ) → IsSetBelow n S → IsIn z S → AreCounts b S old → IsChain b z chain
    → length old ≡ length b.nodes → length new ≡ length old → ((k : ℕ) → k < length old → get_or new k 0 ≡ get_or old k 0 - count_by (λ p. eqb p k) chain) → AreCounts b (without S z) new
counted_out b z n S old new chain s i a ch lo ln h =
    counts_from b (without S z) new (ln ∙ lo) (λ k inside.
    let e = h k (omega arith) in
    let o = count_of b S old a k inside in
    let c = count_once chain k ch.once in
    let t : one (has k chain) ≡ one (test_at b k z) = ap one (ch.all k inside) in
    let w = count-without (test_at b k) S z s.ascending i in
    omega arith)

pub counted_none : (b : Board) (counts : List ℕ) → length counts ≡ length b.nodes → ((k : ℕ) → k < length counts → get_or counts k 0 ≡ 0) → AreCounts b [] counts
counted_none b counts e h = counts_from b [] counts e (λ k lt. h k (omega arith))

pub chain_nodes : (b : Board) (x m : ℕ) (chain : List ℕ) → IsChain b x chain → m ≡ length b.nodes → All (λ k. k < m) chain
chain_nodes b x m chain ch e = All-from_get_or (λ k. k < m) chain 0 (λ i lt. let k = ch.nodes (get_or chain i 0) (IsIn-get_or chain i 0 lt) in omega arith)

-- ---- worth

abbrev pub total_at : Board → List ℕ → ℕ → ℤ
total_at b counts k = total (node_at b k).steps (get_or counts k 0)

pub worth_is : (b : Board) (S counts : List ℕ) (i : ℕ) (sum : ℤ) → AreCounts b S counts → IsTotal (total_at b counts) i sum → i ≡ length b.nodes → sum ≡ worth b S
unfolding worth
worth_is b S counts i sum a s e =
    s.same
    ∙ (ap (λ m. sum_upto m (total_at b counts)) e
    ∙ (sum_upto_same (length b.nodes) (total_at b counts) (λ k. total (node_at b k).steps (count_at b S k)) (λ k lt. ap (total (node_at b k).steps) (count_of b S counts a k lt))
    ∙ sym (sum_by_place (λ n. total n.steps (count b n.leaves S)) no_node b.nodes)))

-- ---- gain and loss

abbrev pub next_at : Board → List ℕ → List ℕ → ℕ → ℤ
next_at b counts chain j = let k = get_or chain j 0 in get_or (node_at b k).steps (get_or counts k 0) (pos 0)

abbrev pub last_at : Board → List ℕ → List ℕ → ℕ → ℤ
last_at b counts chain j = let k = get_or chain j 0 in get_or (node_at b k).steps (get_or counts k 0 - 1) (pos 0)

-- the steps of the first nodes of a chain, none of which is full
pub record IsGained (b : Board) (counts chain : List ℕ) (i : ℕ) (sum : ℤ) : Type 0 where
  pub summed : IsSummed (next_at b counts chain) i sum
  pub free : (j : ℕ) → j < i → get_or counts (get_or chain j 0) 0 < length (node_at b (get_or chain j 0)).steps

pub one_gained : (b : Board) (counts chain : List ℕ) (i : ℕ) (sum step : ℤ) → IsGained b counts chain i sum → InRange step
    → slice_get (node_at b (get_or chain i 0)).steps (get_or counts (get_or chain i 0) 0) ≡ Some step → IsGained b counts chain (i + 1) (sum +ℤ step)
one_gained b counts chain i sum step s r e =
    let steps : List ℤ = (node_at b (get_or chain i 0)).steps in
    let c : ℕ = get_or counts (get_or chain i 0) 0 in
    record {
      summed = one_summed (next_at b counts chain) i sum step s.summed (sym (get_or_from_slice_get steps c step (pos 0) e)) r;
      free = λ j lt. ⊎_elim
          (λ less. s.free j less)
          (λ le. let same : i ≡ j = omega arith in subst (λ q. get_or counts (get_or chain q 0) 0 < length (node_at b (get_or chain q 0)).steps) same (slice_get_within steps c step e))
          (cases_lt j i);
    }

full_from : (steps : List ℤ) (c : ℕ) → slice_get steps c ≡ None → length steps ≤ c
full_from steps c e = ⊎_elim (λ lt. absurd (some_none (sym (slice_get-get_or steps c (pos 0) lt) ∙ e))) (λ le. le) (cases_lt c (length steps))
  where
    some_none : {z : ℤ} → Some z ≡ None → ⊥
    some_none p = search rules

pub no_gain : (b : Board) (x : ℕ) (S counts chain : List ℕ) (i : ℕ) → has x S ≡ false → AreCounts b S counts → IsChain b x chain → i < length chain
    → slice_get (node_at b (get_or chain i 0)).steps (get_or counts (get_or chain i 0) 0) ≡ None → is_feasible b (with_one S x) ≡ false
no_gain b x S counts chain i out a ch lt e =
    let k : ℕ = get_or chain i 0 in
    let h : IsIn k chain = IsIn-get_or chain i 0 lt in
    let node = ch.nodes k h in
    let full = full_from (node_at b k).steps (get_or counts k 0) e in
    let c = count_of b S counts a k node in
    added_infeasible b S x k out node (sym (ch.all k node) ∙ h) (omega arith)

pub gain_is : (b : Board) (x : ℕ) (S counts chain : List ℕ) (i : ℕ) (sum : ℤ) → has x S ≡ false → is_feasible b S ≡ true → AreCounts b S counts → IsChain b x chain
    → IsGained b counts chain i sum → i ≡ length chain → IsGain b S x (Some sum)
gain_is b x S counts chain i sum out f a ch s e =
    let fits = added_feasible b S x f out (λ k lt t full.
    let p = place_from_IsIn chain k 0 (ch.all k lt ∙ t) in
    let inside = p.1 in
    let free = subst (λ q. get_or counts q 0 < length (node_at b q).steps) p.2 (s.free p.0 (omega arith)) in
    let c = count_of b S counts a k lt in
    omega arith)
    in
    let same : sum_upto (length chain) (next_at b counts chain) ≡ int_sum (map (λ k. next_step b S (node_at b k)) chain) =
    sum_upto_same (length chain) (next_at b counts chain) (λ j. next_step b S (node_at b (get_or chain j 0)))
    (λ j lt. ap (λ c. get_or (node_at b (get_or chain j 0)).steps c (pos 0)) (count_of b S counts a (get_or chain j 0) (ch.nodes (get_or chain j 0) (IsIn-get_or chain j 0 lt))))
    ∙ sym (sum_by_place (λ k. next_step b S (node_at b k)) 0 chain)
    in
    let whole = s.summed.same ∙ (ap (λ m. sum_upto m (next_at b counts chain)) e ∙ (same ∙ sym (gain_by_chain b S x chain ch))) in
    (fits, worth_added b S x out fits ∙ ap (λ g. worth b S +ℤ g) (sym whole))

pub loss_is : (b : Board) (z : ℕ) (S counts chain : List ℕ) (i : ℕ) (sum : ℤ) → IsSet S → IsIn z S → is_feasible b S ≡ true → AreCounts b S counts → IsChain b z chain
    → IsSummed (last_at b counts chain) i sum → i ≡ length chain → sum ≡ worth b S -ℤ worth b (without S z)
loss_is b z S counts chain i sum s h f a ch m e =
    let same : sum_upto (length chain) (last_at b counts chain) ≡ int_sum (map (λ k. last_step b S (node_at b k)) chain) =
    sum_upto_same (length chain) (last_at b counts chain) (λ j. last_step b S (node_at b (get_or chain j 0)))
    (λ j lt. ap (λ c. get_or (node_at b (get_or chain j 0)).steps (c - 1) (pos 0)) (count_of b S counts a (get_or chain j 0) (ch.nodes (get_or chain j 0) (IsIn-get_or chain j 0 lt))))
    ∙ sym (sum_by_place (λ k. last_step b S (node_at b k)) 0 chain)
    in
    let whole = m.same ∙ (ap (λ n. sum_upto n (last_at b counts chain)) e ∙ (same ∙ sym (loss_by_chain b S z chain ch))) in
    let removed = worth_removed b S z s h f in
    omega (arith, ints)
