-- The walk of an offer: the best swap for it among the contracts of the nodes so far.
use Rattle.std.proofs.Common.{◌≡◌, ◌∙◌, ◌⊎◌, ℕ, zero, suc, ◌+◌, ◌*◌, ◌<◌, List, [], ◌∷◌, Bool, true, false, cond, length, get_or, eqb, Option, Some, None, ℤ, pos, ◌+ℤ◌, ◌-ℤ◌, ◌≤ℤ◌, ◌<ℤ◌, refl, sym, ap, subst, inl, inr, ⊎_elim, arith, eqb-true, eq-eqb, add-one}
use Rattle.std.specs.List.{slice_get}
use Rattle.std.proofs.lemmas.Int.{ints}
use Rattle.std.proofs.lemmas.Bool.{cases_eq, cases_lt, cases_Bool, or_cases, or_left, or_right}
use Rattle.std.proofs.lemmas.List.{length-map}
use Rattle.rm_sets.specs.Sets.{has, IsIn, IsSet}
use Rattle.rm_sets.proofs.Sets.{not_both}
use Rattle.rm_sets.proofs.Members.{place_from_IsIn}
use Rattle.rm_market.specs.Board.{Board, contract_count, leaf_of, node_at, sets_of, is_feasible}
use Rattle.rm_market.specs.Tree.{is_inside, chain}
use Rattle.rm_laminar.specs.Chains.{IsOrderedChain}
use Rattle.rm_laminar.proofs.Laminar.{holds-chain}
use Rattle.rm_laminar.proofs.Parents.{splits}
use Rattle.rm_board.specs.TieKeys.{tie_key}
use Rattle.rm_valuation_laws.specs.Changes.{sum_upto, next_step, test_at}
use Rattle.rm_valuation_laws.specs.Order.{is_under}
use Rattle.rm_valuation_laws.specs.Offers.{IsFull}
use Rattle.rm_valuation_laws.proofs.Sums.{sum_by_place}
use Rattle.rm_valuation_laws.proofs.Change.{added_feasible, gain_by_chain}
use Rattle.rm_valuation_laws.proofs.Order.{under_tests}
use Rattle.rm_valuation.proofs.Chains.{chain_is, chain_length}
use Rattle.rm_valuation.specs.Counts.{AreCounts}
use Rattle.rm_valuation.proofs.Counted.{count_of}
use Rattle.std.proofs.lemmas.Option.{slice_get-get_or, slice_get_within, get_or_from_slice_get}
use Rattle.rm_exchange.specs.declared.removal.Removal.{Removal}
use Rattle.rm_exchange.specs.declared.prospects.Swap.{Swap}
use Rattle.rm_exchange.specs.Entrants.{HasHospitals, inner_cost, ComesFirstOf, IsBestAt}
use Rattle.rm_exchange.specs.Prospects.{swap_change, IsNoGreater, IsBestRated, IsBestRatedOf, exceeds, greater_swap, IsRated, AreProspects}
use Rattle.rm_exchange.proofs.Homes.{holds_from}
use Rattle.rm_exchange.proofs.Mending.{InRange, first_node, later_in}
use Rattle.rm_exchange.proofs.CheapestSwap.{inner_gain, rate_low, rate_is, prior, under_prior, chain_node, inside_prior, prior_in, prior_under, gain_before}

-- ---- the better of two swaps

no_better_trans : (c : ℤ) (t : ℕ) (d : ℤ) (u : ℕ) (e : ℤ) (v : ℕ) → IsNoGreater c t d u → IsNoGreater d u e v → IsNoGreater c t e v
no_better_trans c t d u e v p q = grind (arith, ints)

exceeds_is : (old new : Swap) → exceeds old new ≡ true → (old.change <ℤ new.change) ⊎ ((old.change ≡ new.change) × (old.tie < new.tie))
exceeds_is old new t = grind (arith, ints)

exceeds_isnt : (old new : Swap) → exceeds old new ≡ false → IsNoGreater new.change new.tie old.change old.tie
exceeds_isnt old new t = grind (arith, ints)

-- a swap that is exceeded by the rating of another isn't as good as that one
not_exceeded : (rated change other : ℤ) (tie other_tie : ℕ) → (other <ℤ rated) ⊎ ((other ≡ rated) × (other_tie < tie)) → rated ≤ℤ change → IsNoGreater change tie other other_tie → ⊥
not_exceeded rated change other tie other_tie (inl a) le (inl b) = omega (arith, ints)
not_exceeded rated change other tie other_tie (inl a) le (inr b) = let e = b.0 in omega (arith, ints)
not_exceeded rated change other tie other_tie (inr a) le (inl b) = let e = a.0 in omega (arith, ints)
not_exceeded rated change other tie other_tie (inr a) le (inr b) = let l = a.1 in let m = b.1 in omega arith

weaker : (c : ℤ) (t : ℕ) (d : ℤ) (u : ℕ) → (c <ℤ d) ⊎ ((c ≡ d) × (t < u)) → IsNoGreater c t d u
weaker c t d u (inl a) = inl a
weaker c t d u (inr a) = inr (a.0, (let l = a.1 in omega arith))

-- ---- one node of the walk

pub few_nodes : (b : Board) (x : ℕ) (nodes : List ℕ) → nodes ≡ chain (sets_of b) (leaf_of b x) → length b.nodes < 4294967296 → length nodes < 4294967296
few_nodes b x nodes e small =
    let most = chain_length (sets_of b) (leaf_of b x) in
    let same = length-map b.nodes (λ n. n.leaves) in
    let f = ap length e in
    omega arith

pub record IsWalked (b : Board) (H : List ℕ) (x : ℕ) (nodes : List ℕ) (i : ℕ) (gained : ℤ) (swap : Option Swap) : Type 0 where
  pub same : gained ≡ sum_upto i (λ j. next_step b H (node_at b (get_or nodes j 0)))
  pub low : (pos 0 -ℤ pos (i * 1000000000)) ≤ℤ gained
  pub high : gained ≤ℤ pos (i * 1000000000)
  pub free : (k : ℕ) → k < length b.nodes → test_at b k x ≡ true → under_prior b nodes i k ≡ true → ¬ IsFull b H (node_at b k)
  pub best : IsBestRatedOf b H x (prior b nodes i) swap

pub walk_start : (b : Board) (H : List ℕ) (x : ℕ) (nodes : List ℕ) → IsWalked b H x nodes 0 (pos 0) None
unfolding prior under_prior
walk_start b H x nodes = record {
  same = refl;
  low = omega (arith, ints);
  high = omega (arith, ints);
  free = λ k lk t u. absurd (cc);
  best = λ y inH. refl;
}

-- what is told of the i-th node
record IsStep (b : Board) (H : List ℕ) (x : ℕ) (before : ℕ → Bool) (a : ℕ) (gained : ℤ) : Type 0 where
  pub within : (z : ℕ) → before z ≡ true → test_at b a z ≡ true
  pub at_most : (z : ℕ) → IsIn z H → test_at b a z ≡ true → (gained -ℤ inner_cost b H a z) ≤ℤ swap_change b H x z
  pub exact : (z : ℕ) → IsIn z H → test_at b a z ≡ true → before z ≡ false → (gained -ℤ inner_cost b H a z) ≡ swap_change b H x z

step_at : (b : Board) → HasHospitals b → (H : List ℕ) → IsSet H → (x : ℕ) → x < contract_count b → (nodes : List ℕ) → IsOrderedChain (sets_of b) (leaf_of b x) nodes → (i : ℕ) → i < length nodes → (gained : ℤ) (swap : Option Swap) → IsWalked b H x nodes i gained swap → IsStep b H x (prior b nodes i) (get_or nodes i 0) gained
step_at b plan H sH x lx nodes ch i lt gained swap w =
    let a = get_or nodes i 0 in
    let here = chain_node b plan x nodes ch i lt in
    let g : gained ≡ inner_gain b H a x = w.same ∙ gain_before b plan H x lx nodes ch i lt in
    record {
      within = λ z t. prior_in b plan x nodes ch i z lt t;
      at_most = λ z inH t. subst (λ v. (v -ℤ inner_cost b H a z) ≤ℤ swap_change b H x z) (sym g)
          (rate_low b plan.concave H a x z sH here.0 here.1 t inH (λ k lk kx inside. w.free k lk kx (sym (inside_prior b plan x lx nodes ch i lt k lk kx) ∙ inside)));
      exact = λ z inH t new. ap (λ v. v -ℤ inner_cost b H a z) g
          ∙ rate_is b plan.concave H a x z here.0 here.1 t (λ k lk kx kz inside. not_both (prior b nodes i z) (prior_under b nodes i k z (sym (inside_prior b plan x lx nodes ch i lt k lk kx) ∙ inside) kz) new);
    }

fresh_below : (b : Board) (H : List ℕ) (x : ℕ) (before : ℕ → Bool) (a : ℕ) (gained : ℤ) (r : Removal) (n : Swap) → IsStep b H x before a gained → IsBestAt b H a (Some r) → n.change ≡ gained -ℤ r.loss → n.tie ≡ r.tie → (y : ℕ) → IsIn y H → test_at b a y ≡ true → before y ≡ false → IsNoGreater (swap_change b H x y) (tie_key b y) n.change n.tie
fresh_below b H x before a gained r n s best change tie y inH t new =
    less (inner_cost b H a r.contract) (tie_key b r.contract) (inner_cost b H a y) (tie_key b y) gained r.loss (swap_change b H x y) n.change n.tie best.loss (s.exact y inH t new) change (tie ∙ best.tie) (best.least y inH t)
  where
    less : (l : ℤ) (t : ℕ) (m : ℤ) (u : ℕ) (g k c d : ℤ) (v : ℕ) → k ≡ l → (g -ℤ m) ≡ c → d ≡ g -ℤ k → v ≡ t → ComesFirstOf l t m u → IsNoGreater c u d v
    less l t m u g k c d v e f h o (inl lt) = inl (omega (arith, ints))
    less l t m u g k c d v e f h o (inr tie) = let same = tie.0 in let le = tie.1 in inr (omega (arith, ints), omega arith)

new_best : (b : Board) (H : List ℕ) (x : ℕ) (before : ℕ → Bool) (a : ℕ) (gained : ℤ) (r : Removal) (n : Swap) → IsStep b H x before a gained → IsBestAt b H a (Some r) → n.contract ≡ r.contract → n.change ≡ gained -ℤ r.loss → n.tie ≡ r.tie → before r.contract ≡ false
    → ((y : ℕ) → IsIn y H → before y ≡ true → IsNoGreater (swap_change b H x y) (tie_key b y) n.change n.tie) → IsBestRated b H x (test_at b a) n
new_best b H x before a gained r n s best contract change tie new older = record {
  held = subst (λ w. IsIn w H) (sym contract) best.held;
  passes = ap (test_at b a) contract ∙ best.passes;
  tie = tie ∙ (best.tie ∙ ap (tie_key b) (sym contract));
  change = change ∙ (ap (λ l. gained -ℤ l) best.loss ∙ (s.exact r.contract best.held best.passes new ∙ ap (swap_change b H x) (sym contract)));
  best = λ y inH t. ⊎_elim (λ old. older y inH old) (λ fresh. fresh_below b H x before a gained r n s best change tie y inH t fresh) (cases_Bool (before y));
}

swap_compared : (b : Board) (H : List ℕ) (x : ℕ) (before : ℕ → Bool) (a : ℕ) (gained : ℤ) (t n : Swap) (r : Removal) → IsStep b H x before a gained → IsBestRated b H x before t → IsBestAt b H a (Some r) → n.contract ≡ r.contract → n.change ≡ gained -ℤ r.loss → n.tie ≡ r.tie → (c : Bool) → exceeds t n ≡ c → IsBestRatedOf b H x (test_at b a) (greater_swap (Some t) (Some n))
swap_compared b H x before a gained t n r s old best contract change tie true e =
    let above = exceeds_is t n e in
    let new : before r.contract ≡ false =
    ⊎_elim
    (λ yes. absurd (not_exceeded n.change (swap_change b H x r.contract) t.change (tie_key b r.contract) t.tie (subst (λ w. (t.change <ℤ n.change) ⊎ ((t.change ≡ n.change) × (t.tie < w))) (tie ∙ best.tie) above)
    (subst (λ l. l ≤ℤ swap_change b H x r.contract) (sym (change ∙ ap (λ l. gained -ℤ l) best.loss)) (s.at_most r.contract best.held best.passes)) (old.best r.contract best.held yes)))
    (λ no. no)
    (cases_Bool (before r.contract))
    in
    subst (IsBestRatedOf b H x (test_at b a)) (sym (ap (λ d. cond d (Some n) (Some t)) e))
    (new_best b H x before a gained r n s best contract change tie new (λ y inH yes. no_better_trans (swap_change b H x y) (tie_key b y) t.change t.tie n.change n.tie (old.best y inH yes) (weaker t.change t.tie n.change n.tie above)))
swap_compared b H x before a gained t n r s old best contract change tie false e =
    let kept : IsBestRatedOf b H x (test_at b a) (Some t) = record {
      held = old.held;
      passes = s.within t.contract old.passes;
      tie = old.tie;
      change = old.change;
      best = λ y inH here. ⊎_elim
          (λ yes. old.best y inH yes)
          (λ no. no_better_trans (swap_change b H x y) (tie_key b y) n.change n.tie t.change t.tie (fresh_below b H x before a gained r n s best change tie y inH here no) (exceeds_isnt t n e))
          (cases_Bool (before y));
    } in
    subst (IsBestRatedOf b H x (test_at b a)) (sym (ap (λ d. cond d (Some n) (Some t)) e)) kept

swap_step : (b : Board) (H : List ℕ) (x : ℕ) (before : ℕ → Bool) (a : ℕ) (gained : ℤ) (swap : Option Swap) (o : Option Removal) (next : Option Swap) → IsStep b H x before a gained → IsBestRatedOf b H x before swap → IsBestAt b H a o → IsRated gained o next → IsBestRatedOf b H x (test_at b a) (greater_swap swap next)
swap_step b H x before a gained None None next s old best rated = subst (λ r. IsBestRatedOf b H x (test_at b a) (greater_swap None r)) (sym rated) best
swap_step b H x before a gained (Some t) None next s old best rated = absurd (not_both (test_at b a t.contract) (s.within t.contract old.passes) (best t.contract old.held))
swap_step b H x before a gained None (Some r) next s old best rated =
    let n : Swap = record { contract = r.contract; tie = r.tie; change = gained -ℤ r.loss } in
    subst (λ w. IsBestRatedOf b H x (test_at b a) (greater_swap None w)) (sym rated)
    (new_best b H x before a gained r n s best refl refl refl (old r.contract best.held) (λ y inH t. absurd (not_both (before y) t (old y inH))))
swap_step b H x before a gained (Some t) (Some r) next s old best rated =
    let n : Swap = record { contract = r.contract; tie = r.tie; change = gained -ℤ r.loss } in
    subst (λ w. IsBestRatedOf b H x (test_at b a) (greater_swap (Some t) w)) (sym rated) (swap_compared b H x before a gained t n r s old best refl refl refl (exceeds t n) refl)

pub walked_swap : (b : Board) → HasHospitals b → (H : List ℕ) → IsSet H → (x : ℕ) → x < contract_count b → (nodes : List ℕ) → IsOrderedChain (sets_of b) (leaf_of b x) nodes → (i : ℕ) → i < length nodes → (gained : ℤ) (swap : Option Swap) (o : Option Removal) (next : Option Swap) → IsWalked b H x nodes i gained swap → IsBestAt b H (get_or nodes i 0) o → IsRated gained o next → IsBestRatedOf b H x (test_at b (get_or nodes i 0)) (greater_swap swap next)
walked_swap b plan H sH x lx nodes ch i lt gained swap o next w best rated = swap_step b H x (prior b nodes i) (get_or nodes i 0) gained swap o next (step_at b plan H sH x lx nodes ch i lt gained swap w) w.best best rated

free_up : (b : Board) → HasHospitals b → (H : List ℕ) (x : ℕ) → x < contract_count b → (nodes : List ℕ) → IsOrderedChain (sets_of b) (leaf_of b x) nodes → (i : ℕ) → i < length nodes → (gained : ℤ) (swap : Option Swap) → IsWalked b H x nodes i gained swap → (k : ℕ) → k < length b.nodes → test_at b k x ≡ true → is_inside (sets_of b) k (get_or nodes i 0) ≡ true → ¬ IsFull b H (node_at b k)
free_up b plan H x lx nodes ch i lt gained swap w k lk kx inside = w.free k lk kx (sym (inside_prior b plan x lx nodes ch i lt k lk kx) ∙ inside)

-- the node isn't full
pub walk_more : (b : Board) → HasHospitals b → (H : List ℕ) (x : ℕ) → x < contract_count b → (nodes : List ℕ) → IsOrderedChain (sets_of b) (leaf_of b x) nodes → (i : ℕ) → i < length nodes → (gained : ℤ) (swap next : Option Swap) (step : ℤ) → IsWalked b H x nodes i gained swap → IsBestRatedOf b H x (test_at b (get_or nodes i 0)) next → step ≡ next_step b H (node_at b (get_or nodes i 0)) → InRange step → ¬ IsFull b H (node_at b (get_or nodes i 0)) → IsWalked b H x nodes (i + 1) (gained +ℤ step) next
unfolding prior under_prior
walk_more b plan H x lx nodes ch i lt gained swap next step w best is range room =
    let same = w.same in
    let low = w.low in
    let high = w.high in
    rw (add-one i) (record {
      same = omega (arith, ints);
      low = omega (arith, ints, range.0);
      high = omega (arith, ints, range.1);
      free = λ k lk kx under. ⊎_elim
          (λ e. subst (λ q. ¬ IsFull b H (node_at b q)) (sym (eqb-true k (get_or nodes i 0) e)) room)
          (λ inside. free_up b plan H x lx nodes ch i lt gained swap w k lk kx inside)
          (or_cases (eqb k (get_or nodes i 0)) (is_inside (sets_of b) k (get_or nodes i 0)) under);
      best = best;
    })

-- the node is full
pub walk_full : (b : Board) → HasHospitals b → (H : List ℕ) (x : ℕ) → x < contract_count b → (nodes : List ℕ) → IsOrderedChain (sets_of b) (leaf_of b x) nodes → (i : ℕ) → i < length nodes → (gained : ℤ) (swap next : Option Swap) → IsWalked b H x nodes i gained swap → IsBestRatedOf b H x (test_at b (get_or nodes i 0)) next → IsFull b H (node_at b (get_or nodes i 0)) → AreProspects b H x (record { swap = next; addition = None })
walk_full b plan H x lx nodes ch i lt gained swap next w best full =
    let here = chain_node b plan x nodes ch i lt in
    record {
      node = get_or nodes i 0;
      below = here.0;
      has_x = here.1;
      free = λ k lk kx inside. free_up b plan H x lx nodes ch i lt gained swap w k lk kx inside;
      swap = best;
      addition = full;
    }

-- each node of x is under the last one
under_last : (b : Board) → HasHospitals b → (x : ℕ) (nodes : List ℕ) → IsOrderedChain (sets_of b) (leaf_of b x) nodes → (j : ℕ) → suc j ≡ length nodes → (k : ℕ) → k < length b.nodes → test_at b k x ≡ true → is_under b k (get_or nodes j 0) ≡ true
under_last b plan x nodes ch j end k lk kx =
    let p = place_from_IsIn nodes k 0 (holds-chain (sets_of b) (leaf_of b x) k nodes ch (holds_from b k x lk kx)) in
    ⊎_elim
    (λ e. or_left (eqb k (get_or nodes j 0)) (is_inside (sets_of b) k (get_or nodes j 0)) (eq-eqb k (get_or nodes j 0) (sym p.2 ∙ ap (λ i. get_or nodes i 0) e)))
    (λ ne.
    let s = splits (is_inside (sets_of b)) nodes p.0 ch.ordered p.1 in
    or_right (eqb k (get_or nodes j 0)) (is_inside (sets_of b) k (get_or nodes j 0))
    (subst (λ w. is_inside (sets_of b) w (get_or nodes j 0) ≡ true) p.2 (s.after (get_or nodes j 0) (later_in nodes (get_or nodes j 0) j p.0 (omega arith) (omega (arith, p.1)) refl))))
    (cases_eq p.0 j)

-- no node is full
pub walk_end : (b : Board) → HasHospitals b → (H : List ℕ) (x : ℕ) → x < contract_count b → has x H ≡ false → is_feasible b H ≡ true → (nodes : List ℕ) → IsOrderedChain (sets_of b) (leaf_of b x) nodes → nodes ≡ chain (sets_of b) (leaf_of b x) → (i : ℕ) → i ≡ length nodes → (gained : ℤ) (swap : Option Swap) → IsWalked b H x nodes i gained swap → AreProspects b H x (record { swap = swap; addition = Some gained })
unfolding prior under_prior
walk_end b plan H x lx out fH nodes ch is zero end gained swap w = absurd (some_node nodes (leaf_of b x) (first_node b plan x lx nodes ch) end)
  where
    some_node : (L : List ℕ) (y : ℕ) → slice_get L 0 ≡ Some y → 0 ≡ length L → ⊥
    some_node [] y e l = cc
    some_node (z ∷ L) y e l = omega arith
walk_end b plan H x lx out fH nodes ch is (suc j) end gained swap w =
    let here = chain_node b plan x nodes ch j (omega arith) in
    let all = under_last b plan x nodes ch j end in
    let top = get_or nodes j 0 in
    record {
      node = top;
      below = here.0;
      has_x = here.1;
      free = λ k lk kx inside. w.free k lk kx (all k lk kx);
      swap = w.best;
      addition = (
        added_feasible b H x fH out (λ k lk kx. w.free k lk kx (all k lk kx)),
        w.same ∙ (ap (λ m. sum_upto m (λ l. next_step b H (node_at b (get_or nodes l 0)))) end
            ∙ (sym (sum_by_place (λ k. next_step b H (node_at b k)) 0 nodes) ∙ sym (gain_by_chain b H x nodes (chain_is b x (leaf_of b x) (sets_of b) nodes refl refl is)))),
        λ l ll lx. under_tests b l top (all l ll lx),
      );
    }

-- ---- what is read of a node

pub step_is : (b : Board) (H counts : List ℕ) (a : ℕ) (step : ℤ) → a < length b.nodes → AreCounts b H counts → slice_get (node_at b a).steps (get_or counts a 0) ≡ Some step → step ≡ next_step b H (node_at b a)
step_is b H counts a step la counted e = sym (get_or_from_slice_get (node_at b a).steps (get_or counts a 0) step (pos 0) e) ∙ ap (λ c. get_or (node_at b a).steps c (pos 0)) (count_of b H counts counted a la)

pub room_at : (b : Board) (H counts : List ℕ) (a : ℕ) (step : ℤ) → a < length b.nodes → AreCounts b H counts → slice_get (node_at b a).steps (get_or counts a 0) ≡ Some step → ¬ IsFull b H (node_at b a)
room_at b H counts a step la counted e = λ full.
    let within = slice_get_within (node_at b a).steps (get_or counts a 0) step e in
    let c = count_of b H counts counted a la in
    omega arith

pub full_at : (b : Board) (H counts : List ℕ) (a : ℕ) → a < length b.nodes → AreCounts b H counts → slice_get (node_at b a).steps (get_or counts a 0) ≡ None → IsFull b H (node_at b a)
full_at b H counts a la counted e =
    let c = count_of b H counts counted a la in
    ⊎_elim
    (λ lt. absurd (let s = slice_get-get_or (node_at b a).steps (get_or counts a 0) (pos 0) lt in cc))
    (λ full. omega arith)
    (cases_lt (get_or counts a 0) (length (node_at b a).steps))
