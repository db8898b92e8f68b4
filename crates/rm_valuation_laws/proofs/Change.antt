-- What adding, removing and swapping a contract does to the worth on a board, and where the result is feasible.
use Rattle.std.proofs.Common.{◌≡◌, ℕ, ◌+◌, ◌-◌, ◌<◌, ◌≤◌, List, [], ◌∷◌, Bool, true, false, not, ◌&&◌, length, map, get_or, count_by, ℤ, pos, ◌+ℤ◌, All, refl, sym, ap, ◌∙◌, ⊎_elim, arith}
use Rattle.std.proofs.lemmas.Int.{ints}
use Rattle.std.proofs.lemmas.Bool.{cases_Bool, cases_lt}
use Rattle.std.proofs.lemmas.List.Elements.{All-head, All-tail, All-from_get_or}
use Rattle.rm_sets.specs.Sets.{has, IsIn, IsSet, with_one, without}
use Rattle.rm_sets.proofs.Sets.{not_both}
use Rattle.rm_market.specs.Best.{swapped}
use Rattle.rm_market.specs.Board.{Node, Board, count, is_feasible, int_sum, total, worth, node_at, no_node}
use Rattle.rm_valuation_laws.specs.Changes.{IsChain, in_node, on, next_step, last_step, gain, loss, swap_gain, swap_loss, test_at}
use Rattle.rm_valuation_laws.specs.Offers.{IsFull}
use Rattle.rm_valuation_laws.proofs.Moves.{without_other, apart}
use Rattle.rm_valuation_laws.proofs.Counts.{one, count-with_one, count-without}
use Rattle.rm_valuation_laws.proofs.Sums.{sum_by_members}
use Rattle.rm_valuation_laws.proofs.Steps.{total_more}
use Rattle.rm_valuation_laws.proofs.LaminarExchange.{caps_from_feasible, feasible_from_caps}

-- ---- sums over the nodes

pub int_sum-same : (f g f2 g2 : Node → ℤ) (nodes : List Node) → All (λ n. (f n +ℤ g n) ≡ (f2 n +ℤ g2 n)) nodes → (int_sum (map f nodes) +ℤ int_sum (map g nodes)) ≡ (int_sum (map f2 nodes) +ℤ int_sum (map g2 nodes))
int_sum-same f g f2 g2 [] all = refl
int_sum-same f g f2 g2 (n ∷ nodes) all =
    let here = All-head (λ n. (f n +ℤ g n) ≡ (f2 n +ℤ g2 n)) n nodes all in
    let rest = int_sum-same f g f2 g2 nodes (All-tail (λ n. (f n +ℤ g n) ≡ (f2 n +ℤ g2 n)) n nodes all) in
    omega (arith, ints)

int_sum-zero : (nodes : List Node) → int_sum (map (λ n. pos 0) nodes) ≡ pos 0
int_sum-zero [] = refl
int_sum-zero (n ∷ nodes) = let rest = int_sum-zero nodes in omega (arith, ints)

-- one more at a node, or none
total_next : (steps : List ℤ) (c : ℕ) (i : Bool) → c + one i ≤ length steps → total steps (c + one i) ≡ total steps c +ℤ on i (get_or steps c (pos 0))
total_next steps c true le = total_more steps c (omega arith)
total_next steps c false le = let e : c + 0 ≡ c = omega arith in rw e (omega (arith, ints))

total_from : (steps : List ℤ) (c d : ℕ) (i : Bool) → d ≡ c + one i → d ≤ length steps → total steps d ≡ total steps c +ℤ on i (get_or steps c (pos 0))
total_from steps c d i e le = rw e (total_next steps c i (omega arith))

-- ---- adding and removing

pub worth_added : (b : Board) (S : List ℕ) (x : ℕ) → has x S ≡ false → is_feasible b (with_one S x) ≡ true → worth b (with_one S x) ≡ worth b S +ℤ gain b S x
unfolding worth
worth_added b S x out f =
    let caps = caps_from_feasible b (with_one S x) f in
    let sums = int_sum-same (λ n. total n.steps (count b n.leaves (with_one S x))) (λ n. pos 0) (λ n. total n.steps (count b n.leaves S)) (λ n. on (in_node b n x) (next_step b S n)) b.nodes
    (λ k d lt.
    let n = get_or b.nodes k d in
    let e = total_from n.steps (count b n.leaves S) (count b n.leaves (with_one S x)) (in_node b n x) (count-with_one (in_node b n) S x out) (caps k d lt) in
    omega (arith, ints)) in
    let none = int_sum-zero b.nodes in
    omega (arith, ints)

one_less : (c d : ℕ) (i : Bool) (steps : List ℤ) → d + one i ≡ c → on i (get_or steps d (pos 0)) ≡ on i (get_or steps (c - 1) (pos 0))
one_less c d true steps e = let same : d ≡ c - 1 = omega arith in ap (λ k. get_or steps k (pos 0)) same
one_less c d false steps e = refl

pub worth_removed : (b : Board) (S : List ℕ) (z : ℕ) → IsSet S → IsIn z S → is_feasible b S ≡ true → worth b S ≡ worth b (without S z) +ℤ loss b S z
unfolding worth
worth_removed b S z s h f =
    let caps = caps_from_feasible b S f in
    let sums = int_sum-same (λ n. total n.steps (count b n.leaves S)) (λ n. pos 0) (λ n. total n.steps (count b n.leaves (without S z))) (λ n. on (in_node b n z) (last_step b S n)) b.nodes
    (λ k d lt.
    let n = get_or b.nodes k d in
    let c = count-without (in_node b n) S z s h in
    let e = total_from n.steps (count b n.leaves (without S z)) (count b n.leaves S) (in_node b n z) (sym c) (caps k d lt) in
    let l = one_less (count b n.leaves S) (count b n.leaves (without S z)) (in_node b n z) n.steps c in
    omega (arith, ints)) in
    let none = int_sum-zero b.nodes in
    omega (arith, ints)

-- ---- swaps

pub count-swapped : (p : ℕ → Bool) (H : List ℕ) (z x : ℕ) → IsSet H → IsIn z H → has x H ≡ false → count_by p (swapped H x z) + one (p z) ≡ count_by p H + one (p x)
count-swapped p H z x s h out =
    let ne : z ≡ x → ⊥ = apart H z x h out in
    let e1 = count-without p H z s h in
    let e2 = count-with_one p (without H z) x (without_other H z x (λ e. ne (sym e)) ∙ out) in
    omega arith

swap_steps : (steps : List ℤ) (c d : ℕ) (iz ix : Bool) → d + one iz ≡ c + one ix → c ≤ length steps → d ≤ length steps →
    (total steps d +ℤ on (iz && not ix) (get_or steps (c - 1) (pos 0))) ≡ (total steps c +ℤ on (ix && not iz) (get_or steps c (pos 0)))
swap_steps steps c d true true e lc ld = let same : d ≡ c = omega arith in rw same (omega (arith, ints))
swap_steps steps c d false false e lc ld = let same : d ≡ c = omega arith in rw same (omega (arith, ints))
swap_steps steps c d false true e lc ld =
    let more = total_from steps c d true (omega arith) ld in
    omega (arith, ints)
swap_steps steps c d true false e lc ld =
    let more = total_from steps d c true (omega arith) lc in
    let same : d ≡ c - 1 = omega arith in
    let step : get_or steps d (pos 0) ≡ get_or steps (c - 1) (pos 0) = ap (λ k. get_or steps k (pos 0)) same in
    omega (arith, ints)

-- the worth with x in the place of z
pub worth_swapped : (b : Board) (H : List ℕ) (z x : ℕ) → IsSet H → IsIn z H → has x H ≡ false → is_feasible b H ≡ true → is_feasible b (swapped H x z) ≡ true →
    (worth b (swapped H x z) +ℤ swap_loss b H x z) ≡ (worth b H +ℤ swap_gain b H x z)
unfolding worth
worth_swapped b H z x s h out fH fS =
    let capsH = caps_from_feasible b H fH in
    let capsS = caps_from_feasible b (swapped H x z) fS in
    int_sum-same (λ n. total n.steps (count b n.leaves (swapped H x z))) (λ n. on (in_node b n z && not (in_node b n x)) (last_step b H n))
    (λ n. total n.steps (count b n.leaves H)) (λ n. on (in_node b n x && not (in_node b n z)) (next_step b H n)) b.nodes
    (λ k d lt.
    let n = get_or b.nodes k d in
    swap_steps n.steps (count b n.leaves H) (count b n.leaves (swapped H x z)) (in_node b n z) (in_node b n x) (count-swapped (in_node b n) H z x s h out) (capsH k d lt) (capsS k d lt))

-- ---- where the changes are feasible

pub added_feasible : (b : Board) (H : List ℕ) (x : ℕ) → is_feasible b H ≡ true → has x H ≡ false → ((k : ℕ) → k < length b.nodes → test_at b k x ≡ true → ¬ IsFull b H (node_at b k)) → is_feasible b (with_one H x) ≡ true
added_feasible b H x fH out room =
    let caps = caps_from_feasible b H fH in
    feasible_from_caps b (with_one H x) (All-from_get_or (λ n. count b n.leaves (with_one H x) ≤ length n.steps) b.nodes no_node (λ k lt.
    let e = count-with_one (test_at b k) H x out in
    let cap = caps k no_node lt in
    at k lt (test_at b k x) refl e cap))
  where
    at : (k : ℕ) → k < length b.nodes → (i : Bool) → test_at b k x ≡ i → count_by (test_at b k) (with_one H x) ≡ count_by (test_at b k) H + one i →
        count_by (test_at b k) H ≤ length (node_at b k).steps → count_by (test_at b k) (with_one H x) ≤ length (node_at b k).steps
    at k lt true t e cap = ⊎_elim (λ less. omega arith) (λ full. absurd (room k lt t full)) (cases_lt (count_by (test_at b k) H) (length (node_at b k).steps))
    at k lt false t e cap = omega arith

pub added_infeasible : (b : Board) (H : List ℕ) (x k : ℕ) → has x H ≡ false → k < length b.nodes → test_at b k x ≡ true → IsFull b H (node_at b k) → is_feasible b (with_one H x) ≡ false
added_infeasible b H x k out lt t full =
    ⊎_elim
    (λ f. absurd (let cap = caps_from_feasible b (with_one H x) f k no_node lt in
    let e = count-with_one (test_at b k) H x out in
    let e1 : one (test_at b k x) ≡ 1 = ap one t in
    omega arith))
    (λ f. f)
    (cases_Bool (is_feasible b (with_one H x)))

-- each node of x that is full has z too
pub swap_feasible : (b : Board) (H : List ℕ) (z x : ℕ) → IsSet H → IsIn z H → has x H ≡ false → is_feasible b H ≡ true →
    ((k : ℕ) → k < length b.nodes → test_at b k x ≡ true → IsFull b H (node_at b k) → test_at b k z ≡ true) → is_feasible b (swapped H x z) ≡ true
swap_feasible b H z x s h out fH shared =
    let caps = caps_from_feasible b H fH in
    feasible_from_caps b (swapped H x z) (All-from_get_or (λ n. count b n.leaves (swapped H x z) ≤ length n.steps) b.nodes no_node (λ k lt.
    at k lt (test_at b k z) (test_at b k x) refl refl (count-swapped (test_at b k) H z x s h out) (caps k no_node lt)))
  where
    at : (k : ℕ) → k < length b.nodes → (iz ix : Bool) → test_at b k z ≡ iz → test_at b k x ≡ ix → count_by (test_at b k) (swapped H x z) + one iz ≡ count_by (test_at b k) H + one ix →
        count_by (test_at b k) H ≤ length (node_at b k).steps → count_by (test_at b k) (swapped H x z) ≤ length (node_at b k).steps
    at k lt true true tz tx e cap = omega arith
    at k lt true false tz tx e cap = omega arith
    at k lt false false tz tx e cap = omega arith
    at k lt false true tz tx e cap =
        ⊎_elim
        (λ less. omega arith)
        (λ full. absurd (not_both (test_at b k z) (shared k lt tx full) tz))
        (cases_lt (count_by (test_at b k) H) (length (node_at b k).steps))

-- some full node of x lacks z
pub swap_infeasible : (b : Board) (H : List ℕ) (z x k : ℕ) → IsSet H → IsIn z H → has x H ≡ false → k < length b.nodes → test_at b k x ≡ true → test_at b k z ≡ false → IsFull b H (node_at b k) → is_feasible b (swapped H x z) ≡ false
swap_infeasible b H z x k s h out lt tx tz full =
    ⊎_elim
    (λ f. absurd (let cap = caps_from_feasible b (swapped H x z) f k no_node lt in
    let e = count-swapped (test_at b k) H z x s h out in
    let e1 : one (test_at b k x) ≡ 1 = ap one tx in
    let e0 : one (test_at b k z) ≡ 0 = ap one tz in
    omega arith))
    (λ f. f)
    (cases_Bool (is_feasible b (swapped H x z)))

-- ---- along a chain

pub gain_by_chain : (b : Board) (S : List ℕ) (x : ℕ) (chain : List ℕ) → IsChain b x chain → gain b S x ≡ int_sum (map (λ k. next_step b S (node_at b k)) chain)
gain_by_chain b S x chain c = sum_by_members (next_step b S) no_node (λ n. in_node b n x) b.nodes chain c.once c.nodes c.all

pub loss_by_chain : (b : Board) (S : List ℕ) (z : ℕ) (chain : List ℕ) → IsChain b z chain → loss b S z ≡ int_sum (map (λ k. last_step b S (node_at b k)) chain)
loss_by_chain b S z chain c = sum_by_members (last_step b S) no_node (λ n. in_node b n z) b.nodes chain c.once c.nodes c.all
