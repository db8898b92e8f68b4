-- What a swap changes, rated along the walk from the offer's leaf outwards.
use Rattle.std.proofs.Common.{◌≡◌, ◌∙◌, ℕ, zero, suc, ◌-◌, ◌<◌, List, Bool, true, false, not, ◌&&◌, length, get_or, count_by, Some, ℤ, ◌+ℤ◌, ◌-ℤ◌, ◌≤ℤ◌, refl, sym, ap, subst, ⊎_elim, arith, add-one}
use Rattle.std.specs.List.{slice_get}
use Rattle.std.proofs.lemmas.Int.{ints}
use Rattle.std.proofs.lemmas.Bool.{cases_lt}
use Rattle.std.proofs.lemmas.Option.{slice_get-get_or}
use Rattle.std.proofs.lemmas.List.Elements.{All-get_or}
use Rattle.rm_sets.specs.Sets.{IsIn, IsSet}
use Rattle.rm_sets.proofs.Sets.{not_both}
use Rattle.rm_sets.proofs.Members.{IsIn-get_or}
use Rattle.rm_market.specs.Board.{Board, contract_count, leaf_of, node_at, no_node, sets_of, IsFalling}
use Rattle.rm_market.specs.Tree.{is_inside}
use Rattle.rm_laminar.specs.Chains.{IsOrderedChain}
use Rattle.rm_laminar.proofs.Laminar.{chain-holds}
use Rattle.rm_laminar.proofs.Parents.{parent-next}
use Rattle.rm_valuation_laws.specs.Changes.{on, sum_upto, in_node, next_step, last_step, swap_gain, swap_loss, test_at, IsConcaveBoard}
use Rattle.rm_valuation_laws.specs.Order.{is_under}
use Rattle.rm_valuation_laws.specs.Offers.{IsFull}
use Rattle.rm_valuation_laws.proofs.Counts.{one, count-without}
use Rattle.rm_valuation_laws.proofs.Steps.{falls}
use Rattle.rm_valuation_laws.proofs.Sums.{sum_by_place}
use Rattle.rm_valuation_laws.proofs.Order.{inside_tests, under_tests, comparable}
use Rattle.rm_exchange.specs.Entrants.{HasHospitals, inner_cost}
use Rattle.rm_exchange.specs.Prospects.{swap_change}
use Rattle.rm_exchange.proofs.Inner.{inner, inner_next, inner_none, inside_parent}
use Rattle.rm_exchange.proofs.Homes.{holds_test, parent_is, nothing_inside}
use Rattle.rm_exchange.proofs.Mending.{first_node}

-- ---- sums term by term

sum_le : (m : ℕ) (p u t q : ℕ → ℤ) → ((k : ℕ) → k < m → (p k +ℤ u k) ≤ℤ (t k +ℤ q k)) → (sum_upto m p +ℤ sum_upto m u) ≤ℤ (sum_upto m t +ℤ sum_upto m q)
sum_le zero p u t q le = omega (arith, ints)
sum_le (suc m) p u t q le =
    let rest = sum_le m p u t q (λ k lt. le k (omega arith)) in
    let here = le m (omega arith) in
    omega (arith, ints)

sum_same : (m : ℕ) (p u t q : ℕ → ℤ) → ((k : ℕ) → k < m → (p k +ℤ u k) ≡ (t k +ℤ q k)) → (sum_upto m p +ℤ sum_upto m u) ≡ (sum_upto m t +ℤ sum_upto m q)
sum_same zero p u t q e = omega (arith, ints)
sum_same (suc m) p u t q e =
    let rest = sum_same m p u t q (λ k lt. e k (omega arith)) in
    let here = e m (omega arith) in
    omega (arith, ints)

-- at one node: tx and tz say whether it has x and z, i whether it lies inside node a
term_le : (tx tz i : Bool) (next last : ℤ) → (tx ≡ true → tz ≡ false → i ≡ true) → (tz ≡ true → tx ≡ false → i ≡ true) → (tx ≡ true → tz ≡ true → i ≡ true → next ≤ℤ last) →
    (on (tx && i) next +ℤ on (tz && not tx) last) ≤ℤ (on (tx && not tz) next +ℤ on (tz && i) last)
term_le true true true next last f g h = let le = h refl refl refl in omega (arith, ints)
term_le true true false next last f g h = omega (arith, ints)
term_le true false true next last f g h = omega (arith, ints)
term_le true false false next last f g h = absurd (let q = f refl refl in cc)
term_le false true true next last f g h = omega (arith, ints)
term_le false true false next last f g h = absurd (let q = g refl refl in cc)
term_le false false i next last f g h = omega (arith, ints)

term_same : (tx tz i : Bool) (next last : ℤ) → (tx ≡ true → tz ≡ false → i ≡ true) → (tz ≡ true → tx ≡ false → i ≡ true) → (tx ≡ true → tz ≡ true → i ≡ true → ⊥) →
    (on (tx && i) next +ℤ on (tz && not tx) last) ≡ (on (tx && not tz) next +ℤ on (tz && i) last)
term_same true true true next last f g h = absurd (h refl refl refl)
term_same true true false next last f g h = omega (arith, ints)
term_same true false true next last f g h = omega (arith, ints)
term_same true false false next last f g h = absurd (let q = f refl refl in cc)
term_same false true true next last f g h = omega (arith, ints)
term_same false true false next last f g h = absurd (let q = g refl refl in cc)
term_same false false i next last f g h = omega (arith, ints)

-- ---- the rating of a swap at a node that has both contracts

abbrev pub inner_gain : Board → List ℕ → ℕ → ℕ → ℤ
inner_gain b H a x = inner b (λ k. next_step b H (node_at b k)) a x

-- what it would change if no smaller node had both
abbrev pub rate : Board → List ℕ → ℕ → ℕ → ℕ → ℤ
rate b H a x z = inner_gain b H a x -ℤ inner_cost b H a z

one_inside : (b : Board) → IsConcaveBoard b → (a k x z : ℕ) → a < length b.nodes → k < length b.nodes → test_at b a x ≡ true → test_at b a z ≡ true → test_at b k x ≡ true → test_at b k z ≡ false → is_inside (sets_of b) k a ≡ true
one_inside b ok a k x z la lk ax az kx kz =
    ⊎_elim
    (λ e. absurd (not_both (test_at b k z) (subst (λ w. test_at b w z ≡ true) (sym e) az) kz))
    (λ rest. ⊎_elim
    (λ i. i)
    (λ o. absurd (not_both (test_at b k z) (inside_tests b a k o z az) kz))
    rest)
    (comparable b ok k a x lk la kx ax)

gain_by_node : (b : Board) (H : List ℕ) (x z : ℕ) → swap_gain b H x z ≡ sum_upto (length b.nodes) (λ k. on (test_at b k x && not (test_at b k z)) (next_step b H (node_at b k)))
gain_by_node b H x z = sum_by_place (λ n. on (in_node b n x && not (in_node b n z)) (next_step b H n)) no_node b.nodes

loss_by_node : (b : Board) (H : List ℕ) (x z : ℕ) → swap_loss b H x z ≡ sum_upto (length b.nodes) (λ k. on (test_at b k z && not (test_at b k x)) (last_step b H (node_at b k)))
loss_by_node b H x z = sum_by_place (λ n. on (in_node b n z && not (in_node b n x)) (last_step b H n)) no_node b.nodes

-- a node that isn't full and has a held contract takes no more by its next step than it lost by its last
next_not_more : (b : Board) → IsConcaveBoard b → (H : List ℕ) (k z : ℕ) → IsSet H → k < length b.nodes → IsIn z H → test_at b k z ≡ true → ¬ IsFull b H (node_at b k) → next_step b H (node_at b k) ≤ℤ last_step b H (node_at b k)
next_not_more b ok H k z sH lk inH t room =
    let c = count-without (test_at b k) H z sH inH in
    let o : one (test_at b k z) ≡ 1 = ap one t in
    ⊎_elim
    (λ lt. falls (node_at b k).steps (All-get_or (λ n. IsFalling n.steps) b.nodes k no_node lk ok.concave) (count_by (test_at b k) H - 1) (count_by (test_at b k) H) (omega arith) lt)
    (λ full. absurd (room full))
    (cases_lt (count_by (test_at b k) H) (length (node_at b k).steps))

-- it is at most what the swap changes
pub rate_low : (b : Board) → IsConcaveBoard b → (H : List ℕ) (a x z : ℕ) → IsSet H → a < length b.nodes → test_at b a x ≡ true → test_at b a z ≡ true → IsIn z H → ((k : ℕ) → k < length b.nodes → test_at b k x ≡ true → is_inside (sets_of b) k a ≡ true → ¬ IsFull b H (node_at b k)) → rate b H a x z ≤ℤ swap_change b H x z
rate_low b ok H a x z sH la ax az inH free =
    let g = gain_by_node b H x z in
    let l = loss_by_node b H x z in
    let le = sum_le (length b.nodes) (λ k. on (test_at b k x && is_inside (sets_of b) k a) (next_step b H (node_at b k))) (λ k. on (test_at b k z && not (test_at b k x)) (last_step b H (node_at b k)))
    (λ k. on (test_at b k x && not (test_at b k z)) (next_step b H (node_at b k))) (λ k. on (test_at b k z && is_inside (sets_of b) k a) (last_step b H (node_at b k)))
    (λ k lk. term_le (test_at b k x) (test_at b k z) (is_inside (sets_of b) k a) (next_step b H (node_at b k)) (last_step b H (node_at b k))
    (λ kx kz. one_inside b ok a k x z la lk ax az kx kz) (λ kz kx. one_inside b ok a k z x la lk az ax kz kx)
    (λ kx kz i. next_not_more b ok H k z sH lk inH kz (free k lk kx i))) in
    move _ _ _ _ _ _ g l le
  where
    move : (g g2 l l2 p q : ℤ) → g ≡ g2 → l ≡ l2 → (p +ℤ l2) ≤ℤ (g2 +ℤ q) → (p -ℤ q) ≤ℤ (g -ℤ l)
    move g g2 l l2 p q e f le = omega (arith, ints)

-- and it is that where no node inside has both
pub rate_is : (b : Board) → IsConcaveBoard b → (H : List ℕ) (a x z : ℕ) → a < length b.nodes → test_at b a x ≡ true → test_at b a z ≡ true → ((k : ℕ) → k < length b.nodes → test_at b k x ≡ true → test_at b k z ≡ true → is_inside (sets_of b) k a ≡ true → ⊥) → rate b H a x z ≡ swap_change b H x z
rate_is b ok H a x z la ax az none =
    let g = gain_by_node b H x z in
    let l = loss_by_node b H x z in
    let same = sum_same (length b.nodes) (λ k. on (test_at b k x && is_inside (sets_of b) k a) (next_step b H (node_at b k))) (λ k. on (test_at b k z && not (test_at b k x)) (last_step b H (node_at b k)))
    (λ k. on (test_at b k x && not (test_at b k z)) (next_step b H (node_at b k))) (λ k. on (test_at b k z && is_inside (sets_of b) k a) (last_step b H (node_at b k)))
    (λ k lk. term_same (test_at b k x) (test_at b k z) (is_inside (sets_of b) k a) (next_step b H (node_at b k)) (last_step b H (node_at b k))
    (λ kx kz. one_inside b ok a k x z la lk ax az kx kz) (λ kz kx. one_inside b ok a k z x la lk az ax kz kx)
    (λ kx kz i. none k lk kx kz i)) in
    move _ _ _ _ _ _ g l same
  where
    move : (g g2 l l2 p q : ℤ) → g ≡ g2 → l ≡ l2 → (p +ℤ l2) ≡ (g2 +ℤ q) → (p -ℤ q) ≡ (g -ℤ l)
    move g g2 l l2 p q e f same = omega (arith, ints)

-- ---- along the chain

-- the part of the walk before its i-th node: a contract of the node before, and a node under that one
unfoldable pub prior : Board → List ℕ → ℕ → (ℕ → Bool)
prior b nodes zero = λ z. false
prior b nodes (suc j) = test_at b (get_or nodes j 0)

unfoldable pub under_prior : Board → List ℕ → ℕ → ℕ → Bool
under_prior b nodes zero k = false
under_prior b nodes (suc j) k = is_under b k (get_or nodes j 0)

pub chain_node : (b : Board) → HasHospitals b → (x : ℕ) (nodes : List ℕ) → IsOrderedChain (sets_of b) (leaf_of b x) nodes → (i : ℕ) → i < length nodes → (get_or nodes i 0 < length b.nodes) × (test_at b (get_or nodes i 0) x ≡ true)
chain_node b plan x nodes ch i lt = holds_test b (get_or nodes i 0) x (chain-holds (sets_of b) (leaf_of b x) (get_or nodes i 0) nodes ch (IsIn-get_or nodes i 0 lt))

pub chain_parent : (b : Board) → HasHospitals b → (x : ℕ) (nodes : List ℕ) → IsOrderedChain (sets_of b) (leaf_of b x) nodes → (j : ℕ) → suc j < length nodes → Rattle.rm_valuation_laws.specs.Order.IsParent b (get_or nodes j 0) (get_or nodes (suc j) 0)
chain_parent b plan x nodes ch j lt =
    let here = chain_node b plan x nodes ch j (omega arith) in
    (parent_is b plan (get_or nodes j 0) (get_or nodes (suc j) 0) x here.0 here.1
    (parent-next (sets_of b) plan.laminar (leaf_of b x) j (get_or nodes j 0) nodes ch (omega arith) refl ∙ (ap (slice_get nodes) (add-one j) ∙ slice_get-get_or nodes (suc j) 0 lt))).0

leaf_first : (b : Board) → HasHospitals b → (x : ℕ) → x < contract_count b → (nodes : List ℕ) → IsOrderedChain (sets_of b) (leaf_of b x) nodes → 0 < length nodes → get_or nodes 0 0 ≡ leaf_of b x
leaf_first b plan x lx nodes ch lt = same (get_or nodes 0 0) (leaf_of b x) (sym (slice_get-get_or nodes 0 0 lt) ∙ first_node b plan x lx nodes ch)
  where
    same : (s t : ℕ) → Some s ≡ Some t → s ≡ t
    same s t e = cc

-- a node of x is inside the i-th node exactly where it is under the one before
pub inside_prior : (b : Board) → HasHospitals b → (x : ℕ) → x < contract_count b → (nodes : List ℕ) → IsOrderedChain (sets_of b) (leaf_of b x) nodes → (i : ℕ) → i < length nodes → (k : ℕ) → k < length b.nodes → test_at b k x ≡ true → is_inside (sets_of b) k (get_or nodes i 0) ≡ under_prior b nodes i k
unfolding under_prior
inside_prior b plan x lx nodes ch zero lt k lk tk = ap (λ a. is_inside (sets_of b) k a) (leaf_first b plan x lx nodes ch lt) ∙ nothing_inside b plan x k lx lk tk
inside_prior b plan x lx nodes ch (suc j) lt k lk tk =
    let here = chain_node b plan x nodes ch j (omega arith) in
    inside_parent b plan.concave (get_or nodes j 0) (get_or nodes (suc j) 0) x k here.0 lk (chain_parent b plan x nodes ch j lt) here.1 tk

-- what lies before lies in the node
pub prior_in : (b : Board) → HasHospitals b → (x : ℕ) (nodes : List ℕ) → IsOrderedChain (sets_of b) (leaf_of b x) nodes → (i z : ℕ) → i < length nodes → prior b nodes i z ≡ true → test_at b (get_or nodes i 0) z ≡ true
unfolding prior
prior_in b plan x nodes ch zero z lt t = absurd (cc)
prior_in b plan x nodes ch (suc j) z lt t = inside_tests b (get_or nodes j 0) (get_or nodes (suc j) 0) (chain_parent b plan x nodes ch j lt).inside z t

-- a node under the one before has only contracts from before
pub prior_under : (b : Board) (nodes : List ℕ) (i k z : ℕ) → under_prior b nodes i k ≡ true → test_at b k z ≡ true → prior b nodes i z ≡ true
unfolding prior under_prior
prior_under b nodes zero k z u t = absurd (cc)
prior_under b nodes (suc j) k z u t = under_tests b k (get_or nodes j 0) u z t

-- the steps that the nodes before take are the gain inside the node
pub gain_before : (b : Board) → HasHospitals b → (H : List ℕ) (x : ℕ) → x < contract_count b → (nodes : List ℕ) → IsOrderedChain (sets_of b) (leaf_of b x) nodes → (i : ℕ) → i < length nodes → sum_upto i (λ j. next_step b H (node_at b (get_or nodes j 0))) ≡ inner_gain b H (get_or nodes i 0) x
gain_before b plan H x lx nodes ch zero lt =
    sym (inner_none b (λ k. next_step b H (node_at b k)) (get_or nodes 0 0) x (λ k lk tk. ap (λ a. is_inside (sets_of b) k a) (leaf_first b plan x lx nodes ch lt) ∙ nothing_inside b plan x k lx lk tk))
gain_before b plan H x lx nodes ch (suc j) lt =
    let here = chain_node b plan x nodes ch j (omega arith) in
    ap (λ s. s +ℤ next_step b H (node_at b (get_or nodes j 0))) (gain_before b plan H x lx nodes ch j (omega arith))
    ∙ sym (inner_next b (λ k. next_step b H (node_at b k)) plan.concave (get_or nodes j 0) (get_or nodes (suc j) 0) x here.0 (chain_parent b plan x nodes ch j lt) here.1)
