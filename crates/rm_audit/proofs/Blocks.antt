-- The walk of a contract that isn't placed: it stops where a swap raises the worth, or wins its tie, or at the first full node.
use Rattle.std.proofs.Common.{not, ◌≡◌, ◌≢◌, ◌∙◌, ◌⊎◌, ℕ, ◌+◌, ◌*◌, ◌<◌, ◌≤◌, List, Bool, true, false, cond, length, get_or, Option, Some, None, option_map, ℤ, pos, ◌+ℤ◌, ◌-ℤ◌, ◌≤ℤ◌, ◌<ℤ◌, refl, sym, ap, subst, inl, inr, ⊎_elim, arith}
use Rattle.std.proofs.lemmas.Int.{ints}
use Rattle.std.proofs.lemmas.Bool.{cases_Bool}
use Rattle.rm_sets.specs.Sets.{has, IsIn, IsSetBelow, with_one}
use Rattle.rm_sets.proofs.Sets.{not_both}
use Rattle.rm_sets.proofs.Members.{IsIn-with_one_new, IsSetBelow-with_one}
use Rattle.rm_market.specs.Board.{Board, contract_count, leaf_of, node_at, sets_of, worth, is_feasible}
use Rattle.rm_market.specs.Best.{IsBest, values_of, is_better, swapped}
use Rattle.rm_market.specs.Tree.{chain, is_inside}
use Rattle.rm_laminar.specs.Chains.{IsOrderedChain}
use Rattle.rm_board.specs.TieKeys.{tie_key}
use Rattle.rm_board.proofs.TieKeys.{key_order}
use Rattle.rm_valuation_laws.specs.Scores.{place}
use Rattle.rm_valuation_laws.specs.Changes.{test_at, next_step}
use Rattle.rm_valuation_laws.specs.Offers.{IsFull}
use Rattle.rm_valuation_laws.proofs.Best.{best_unique}
use Rattle.rm_valuation_laws.proofs.Change.{worth_swapped, swap_feasible}
use Rattle.rm_valuation_laws.proofs.Decision.{swap_better}
use Rattle.rm_valuation_laws.proofs.GreedySteps.{unimproved_from_best}
use Rattle.rm_valuation_laws.proofs.Order.{comparable, inside_tests}
use Rattle.rm_exchange.specs.declared.removal.Removal.{Removal as AnyRemoval}
use Rattle.rm_exchange.specs.declared.prospects.Swap.{Swap}
use Rattle.rm_exchange.specs.declared.prospects.Prospects.{Prospects}
use Rattle.rm_exchange.specs.Entrants.{HasHospitals, IsBestAt}
use Rattle.rm_exchange.specs.Prospects.{swap_change, IsBestRated, IsBestRatedOf, AreProspects, IsRated, exceeds, greater_swap}
use Rattle.rm_exchange.proofs.Mending.{InRange}
use Rattle.rm_exchange.proofs.CheapestSwap.{chain_node, inside_prior}
use Rattle.rm_exchange.proofs.Chain.{is_chain}
use Rattle.rm_exchange.proofs.Walked.{IsWalked, walk_start, walked_swap, walk_more, walk_full, walk_end}
use Rattle.rm_exchange.proofs.Deciding.{IsOffer, kept_best, refused_best}
use Rattle.rm_audit.specs.Placed.{bare, IsCheapestOf}
use Rattle.rm_audit.specs.Blocking.{IsAnswer, IsUnmoved, IsWeighed, gains_by}
use Rattle.std.specs.Prelude.{IfSome, int_le}
use Rattle.rm_audit.specs.declared.placed.Removal.{Removal}

-- ---- swaps that don't raise the worth, and don't win their tie

abbrev IsVain : ℕ → Swap → Type 0
IsVain tie s = (s.change <ℤ pos 0) ⊎ ((s.change ≡ pos 0) × (s.tie ≤ tie))

abbrev pub NoGain : ℕ → Option Swap → Type 0
NoGain tie swap = (s : Swap) → swap ≡ Some s → (s.change <ℤ pos 0) ⊎ ((s.change ≡ pos 0) × (s.tie ≤ tie))

abbrev Gains : ℕ → Swap → Type 0
Gains tie s = (pos 0 <ℤ s.change) ⊎ ((s.change ≡ pos 0) × (tie < s.tie))

some_same : {A : Type 0} (s t : A) → Some s ≡ Some t → s ≡ t
some_same s t e = cc

-- of two such swaps the better one is such a swap
no_gain_more : (tie : ℕ) (swap next : Option Swap) → NoGain tie swap → NoGain tie next → NoGain tie (greater_swap swap next)
no_gain_more tie None next f g = g
no_gain_more tie (Some a) None f g = f
no_gain_more tie (Some a) (Some n) f g = by (exceeds a n)
  where
    by : (c : Bool) → NoGain tie (cond c (Some n) (Some a))
    by true = g
    by false = f

-- the better one gains where the second one does
some_gain : (tie : ℕ) (swap : Option Swap) (n : Swap) → Gains tie n → (s : Swap) × (greater_swap swap (Some n) ≡ Some s) × Gains tie s
some_gain tie None n g = (n, refl, g)
some_gain tie (Some a) n g = by (exceeds a n) refl
  where
    as_great : exceeds a n ≡ false → (n.change <ℤ a.change) ⊎ ((n.change ≡ a.change) × (n.tie ≤ a.tie))
    as_great e = grind (arith, ints)

    up : (c d : ℤ) (t u : ℕ) → (c <ℤ d) ⊎ ((c ≡ d) × (t ≤ u)) → (pos 0 <ℤ c) ⊎ ((c ≡ pos 0) × (tie < t)) → (pos 0 <ℤ d) ⊎ ((d ≡ pos 0) × (tie < u))
    up c d t u (inl p) (inl q) = inl (omega (arith, ints))
    up c d t u (inl p) (inr q) = let e = q.0 in inl (omega (arith, ints))
    up c d t u (inr p) (inl q) = let e = p.0 in inl (omega (arith, ints))
    up c d t u (inr p) (inr q) = let e = p.0 in let h = q.0 in let l = p.1 in let m = q.1 in inr (omega (arith, ints), omega arith)

    by : (c : Bool) → exceeds a n ≡ c → (s : Swap) × (cond c (Some n) (Some a) ≡ Some s) × Gains tie s
    by true e = (n, refl, g)
    by false e = (a, refl, up n.change a.change n.tie a.tie (as_great e) g)

-- the swap for a removal
abbrev rated : ℤ → Option AnyRemoval → Option Swap
rated gain None = None
rated gain (Some r) = Some (record { contract = r.contract; tie = r.tie; change = gain -ℤ r.loss })

rated_is : (gain : ℤ) (r : Option AnyRemoval) → IsRated gain r (rated gain r)
rated_is gain None = refl
rated_is gain (Some r) = refl

no_gain_next : (gain : ℤ) (tie : ℕ) (r : Option AnyRemoval) → gains_by gain tie (option_map bare r) ≡ false → NoGain tie (rated gain r)
no_gain_next gain tie None f s e = absurd (cc)
no_gain_next gain tie (Some r) f s e = subst (IsVain tie) (some_same (record { contract = r.contract; tie = r.tie; change = gain -ℤ r.loss }) s e) (vain r.loss r.tie f)
  where
    vain : (loss : ℤ) (t : ℕ) → gains_by gain tie (Some (record { loss = loss; tie = t })) ≡ false → ((gain -ℤ loss) <ℤ pos 0) ⊎ (((gain -ℤ loss) ≡ pos 0) × (t ≤ tie))
    vain loss t h = by (not_less h)
      where
        not_less : gains_by gain tie (Some (record { loss = loss; tie = t })) ≡ false → (gain <ℤ loss) ⊎ ((loss ≡ gain) × (t ≤ tie))
        not_less h = grind (arith, ints)

        by : (gain <ℤ loss) ⊎ ((loss ≡ gain) × (t ≤ tie)) → ((gain -ℤ loss) <ℤ pos 0) ⊎ (((gain -ℤ loss) ≡ pos 0) × (t ≤ tie))
        by (inl q) = inl (omega (arith, ints))
        by (inr q) = let e = q.0 in inr (omega (arith, ints), q.1)

next_gains : (gain : ℤ) (tie : ℕ) (r : Option AnyRemoval) → gains_by gain tie (option_map bare r) ≡ true → (n : Swap) × (rated gain r ≡ Some n) × Gains tie n
next_gains gain tie None t = absurd (cc)
next_gains gain tie (Some r) t = (record { contract = r.contract; tie = r.tie; change = gain -ℤ r.loss }, refl, up r.loss r.tie t)
  where
    up : (loss : ℤ) (k : ℕ) → gains_by gain tie (Some (record { loss = loss; tie = k })) ≡ true → (pos 0 <ℤ (gain -ℤ loss)) ⊎ (((gain -ℤ loss) ≡ pos 0) × (tie < k))
    up loss k h = by (less h)
      where
        less : gains_by gain tie (Some (record { loss = loss; tie = k })) ≡ true → (loss <ℤ gain) ⊎ ((loss ≡ gain) × (tie < k))
        less h = grind (arith, ints)

        by : (loss <ℤ gain) ⊎ ((loss ≡ gain) × (tie < k)) → (pos 0 <ℤ (gain -ℤ loss)) ⊎ (((gain -ℤ loss) ≡ pos 0) × (tie < k))
        by (inl q) = inl (omega (arith, ints))
        by (inr q) = let e = q.0 in inr (omega (arith, ints), q.1)

-- ---- the walk

-- as far as the walk has come: the best swap so far
pub record IsWalkedSo (b : Board) (S : List ℕ) (x : ℕ) (nodes : List ℕ) (i : ℕ) (gained : ℤ) : Type 0 where
  pub swap : Option Swap
  pub walked : IsWalked b S x nodes i gained swap
  pub vain : NoGain (tie_key b x) swap

module _ (b : Board) (plan : HasHospitals b) (S : List ℕ) (sS : IsSetBelow (contract_count b) S) (own : IsBest (values_of b) S S) (x : ℕ) (lx : x < contract_count b) (out : has x S ≡ false) (nodes : List ℕ) (is : nodes ≡ chain (sets_of b) (leaf_of b x)) where
  ch : IsOrderedChain (sets_of b) (leaf_of b x) nodes
  ch = is_chain b plan x nodes is

  pub walk_begins : IsWalkedSo b S x nodes 0 (pos 0)
  walk_begins = record { swap = None; walked = walk_start b S x nodes; vain = λ s e. absurd (cc) }

  offer : (p : Prospects) → AreProspects b S x p → IsOffer b S x p
  offer p a = record {
    concave = plan.concave;
    leaves = plan.leaves;
    set = subst (λ n. IsSetBelow n S) (sym plan.leaves) sS;
    contract = subst (λ n. x < n) (sym plan.leaves) lx;
    new = out;
    own = own;
    prospects = a;
  }

  -- of two contracts the one of the smaller tie key stands first
  earlier : (z : ℕ) → z < contract_count b → tie_key b x < tie_key b z → place b.ties x < place b.ties z
  earlier z lz lt = (key_order b (λ w lw. (plan.concave.ties_all w).1 (subst (λ n. w < n) (sym plan.leaves) lw)) x z lx lz).0 lt

  module _ (i : ℕ) (lt : i < length nodes) (gained : ℤ) (w : IsWalkedSo b S x nodes i gained) (r : Option AnyRemoval) (best : IsBestAt b S (get_or nodes i 0) r) where
    abbrev next : Option Swap
    next = greater_swap w.swap (rated gained r)

    next_best : IsBestRatedOf b S x (test_at b (get_or nodes i 0)) next
    next_best = walked_swap b plan S sS.ascending x lx nodes ch i lt gained w.swap r (rated gained r) w.walked best (rated_is gained r)

    -- the cheapest removal at the node doesn't gain, and the node isn't full
    pub walks_on : gains_by gained (tie_key b x) (option_map bare r) ≡ false → (step : ℤ) → step ≡ next_step b S (node_at b (get_or nodes i 0)) → InRange step → ¬ IsFull b S (node_at b (get_or nodes i 0)) → IsWalkedSo b S x nodes (i + 1) (gained +ℤ step)
    walks_on f step same range room = record {
      swap = next;
      walked = walk_more b plan S x lx nodes ch i lt gained w.swap next step w.walked next_best same range room;
      vain = no_gain_more (tie_key b x) w.swap (rated gained r) w.vain (no_gain_next gained (tie_key b x) r f);
    }

    -- or it is full
    pub ends_full : gains_by gained (tie_key b x) (option_map bare r) ≡ false → IsFull b S (node_at b (get_or nodes i 0)) → IsUnmoved b S x
    ends_full f full =
        let p : Prospects = record { swap = next; addition = None } in
        refused_best b S x p (offer p (walk_full b plan S x lx nodes ch i lt gained w.swap next w.walked next_best full)) (tie_key b x) refl
        (λ change e. absurd (cc), no_gain_more (tie_key b x) w.swap (rated gained r) w.vain (no_gain_next gained (tie_key b x) r f))

    -- the swap for the cheapest removal is feasible
    swap_fits : (z : ℕ) → IsIn z S → test_at b (get_or nodes i 0) z ≡ true → is_feasible b (swapped S x z) ≡ true
    swap_fits z inz t =
        let a = get_or nodes i 0 in
        let here = chain_node b plan x nodes ch i lt in
        swap_feasible b S z x sS.ascending inz out own.feasible (λ k lk kx full.
        ⊎_elim
        (λ e. subst (λ w. test_at b w z ≡ true) (sym e) t)
        (λ rest. ⊎_elim
        (λ inside. absurd (w.walked.free k lk kx (sym (inside_prior b plan x lx nodes ch i lt k lk kx) ∙ inside) full))
        (λ outside. inside_tests b a k outside z t)
        rest)
        (comparable b plan.concave k a x lk here.0 kx here.1))

    -- a swap that gains is better
    swap_blocks : (s : Swap) → IsBestRated b S x (test_at b (get_or nodes i 0)) s → Gains (tie_key b x) s → ¬ IsUnmoved b S x
    swap_blocks s h g stays =
        let z = s.contract in
        let lz = sS.below z h.held in
        let f = swap_fits z h.held h.passes in
        let e = worth_swapped b S z x sS.ascending h.held out own.feasible f in
        let sum : worth b (swapped S x z) ≡ worth b S +ℤ s.change = let c = h.change in omega (arith, ints) in
        let up : is_better (values_of b) (swapped S x z) S ≡ true = swap_better (values_of b) S z x h.held out f
        (above (worth b S) (worth b (swapped S x z)) s.change s.tie (place b.ties x) (place b.ties z) sum (λ l. earlier z lz (subst (λ k. tie_key b x < k) h.tie l)) g) in
        not_both (is_better (values_of b) (swapped S x z) S) up
        ((unimproved_from_best (values_of b) (with_one S x) S stays).swap x z (IsIn-with_one_new S x) (λ i. not_both (has x S) i out) h.held)
      where
        above : (h d c : ℤ) (u v y : ℕ) → d ≡ h +ℤ c → (tie_key b x < u → v < y) → (pos 0 <ℤ c) ⊎ ((c ≡ pos 0) × (tie_key b x < u)) → (h <ℤ d) ⊎ ((d ≡ h) × (v < y))
        above h d c u v y e first (inl p) = inl (omega (arith, ints))
        above h d c u v y e first (inr p) = let same = p.0 in inr (omega (arith, ints), first p.1)

    -- the cheapest removal gains
    pub ends_gaining : gains_by gained (tie_key b x) (option_map bare r) ≡ true → ¬ IsUnmoved b S x
    ends_gaining t =
        let n = next_gains gained (tie_key b x) r t in
        let s = some_gain (tie_key b x) w.swap n.0 n.2 in
        let is_next : next ≡ Some s.0 = ap (greater_swap w.swap) n.1 ∙ s.1 in
        swap_blocks s.0 (subst (IsBestRatedOf b S x (test_at b (get_or nodes i 0))) is_next next_best) s.2

  -- no node is full
  module _ (i : ℕ) (end : i ≡ length nodes) (gained : ℤ) (w : IsWalkedSo b S x nodes i gained) where
    abbrev last : Prospects
    last = record { swap = w.swap; addition = Some gained }

    last_offer : IsOffer b S x last
    last_offer = offer last (walk_end b plan S x lx out own.feasible nodes ch is i end gained w.swap w.walked)

    pub ends_lower : gained <ℤ pos 0 → IsUnmoved b S x
    ends_lower low = refused_best b S x last last_offer (tie_key b x) refl (λ change e. subst (λ c. c <ℤ pos 0) (some_same gained change e) low, w.vain)

    pub ends_higher : pos 0 ≤ℤ gained → ¬ IsUnmoved b S x
    ends_higher high stays =
        let added = kept_best b S x last last_offer (gained, refl, high, λ s e. most s.change s.tie (w.vain s e)) in
        let same = best_unique (contract_count b) (values_of b) (with_one S x) S (with_one S x) (IsSetBelow-with_one (contract_count b) S x sS lx) stays added in
        not_both (has x S) (ap (has x) same ∙ IsIn-with_one_new S x) out
      where
        most : (c : ℤ) (t : ℕ) → (c <ℤ pos 0) ⊎ ((c ≡ pos 0) × (t ≤ tie_key b x)) → c ≤ℤ gained
        most c t (inl p) = omega (arith, ints)
        most c t (inr p) = let e = p.0 in omega (arith, ints)

    -- what the sign tells
    pub ends : IsAnswer b S x (int_le (pos 0) gained)
    ends = by (int_le (pos 0) gained) refl
      where
        high : (g : ℤ) → int_le (pos 0) g ≡ true → pos 0 ≤ℤ g
        high g e = grind (arith, ints)

        low : (g : ℤ) → int_le (pos 0) g ≡ false → g <ℤ pos 0
        low g e = grind (arith, ints)

        by : (t : Bool) → int_le (pos 0) gained ≡ t → IsAnswer b S x t
        by true e = ends_higher (high gained e)
        by false e = ends_lower (low gained e)

-- ---- what is read at a node

-- what is told of the entry at a node
pub told : (gained : ℤ) (tie key : ℕ) (entry : Option Removal) (r : Option AnyRemoval) (result answer : Bool) → tie ≡ key → entry ≡ option_map bare r → result ≡ gains_by gained tie entry → result ≡ answer → gains_by gained key (option_map bare r) ≡ answer
told gained tie key entry r result answer e f g h = ap (λ k. gains_by gained k (option_map bare r)) (sym e) ∙ (ap (gains_by gained tie) (sym f) ∙ (sym g ∙ h))

pub in_range : (o : Option ℤ) (step : ℤ) → IfSome o (λ s. ((pos 0 -ℤ pos 1000000000) ≤ℤ s) × (s ≤ℤ pos 1000000000)) → o ≡ Some step → InRange step
in_range o step range e = subst (λ p. IfSome p (λ s. ((pos 0 -ℤ pos 1000000000) ≤ℤ s) × (s ≤ℤ pos 1000000000))) e range
