-- Without a policy a placement is stable exactly where no hospital holds too many and there is no blocking pair.
use Rattle.std.proofs.Common.{◌≡◌, ℕ, zero, suc, ◌+◌, ◌<◌, ◌≤◌, Bool, true, false, not, ◌||◌, List, [], ◌∷◌, length, map, get_or, replicate, eqb, ℤ, pos, ◌<ℤ◌, ◌≤ℤ◌, refl, sym, ap, ◌∙◌, subst, inl, inr, ⊎_elim, arith, All, eqb-true, eq-eqb, ne_eqb}
use Rattle.std.specs.Prelude.{slice_index}
use Rattle.std.proofs.lemmas.Int.{ints}
use Rattle.std.proofs.lemmas.Bool.{and_parts, not-true, cases_eq, cases_order, lt-ltb}
use Rattle.std.proofs.lemmas.List.{append-nil, get_or-map, length-map, length-replicate}
use Rattle.std.proofs.lemmas.List.Elements.{All-head, All-tail, All-from_get_or}
use Rattle.rm_sets.specs.Sets.{has, IsIn, IsSet, IsSetBelow, IsWithin, with_one, without, below}
use Rattle.rm_sets.proofs.Sets.{not_both, IsSet-with_one, IsIn-with_one_cases}
use Rattle.rm_sets.proofs.Members.{within_refl, within-with_one, with_one-without, not_in_without, IsIn-with_one_new, IsSetBelow-with_one}
use Rattle.rm_sets.proofs.Once.{length-below, get_or-below}
use Rattle.rm_market.specs.Board.{Board, Node, no_node, contract_count, hospital_of, pairs_of, is_feasible, worth, total, int_sum, node_at, count}
use Rattle.rm_market.specs.Best.{IsBest, Values, values_of, swapped}
use Rattle.rm_market.specs.Stable.{IsPlacement, wants, prefers, owner, at}
use Rattle.rm_market.specs.Market.{Market, IsMarket, IsStableIn, wishes_of}
use Rattle.rm_board_laws.specs.HospitalBoards.{AreListsBelow, plain_market}
use Rattle.rm_board_laws.proofs.Contracts.{hospital_ranked}
use Rattle.rm_board_laws.proofs.HospitalBoards.{plain_markets}
use Rattle.rm_valuation_laws.specs.Changes.{test_at}
use Rattle.rm_valuation_laws.specs.Choice.{IsFeasible}
use Rattle.rm_valuation_laws.specs.Scores.{score, place}
use Rattle.rm_valuation_laws.proofs.Best.{best_from_top}
use Rattle.rm_valuation_laws.proofs.Change.{added_feasible, swap_feasible, count-swapped}
use Rattle.rm_valuation_laws.proofs.ChoiceLaws.{top_from_upper}
use Rattle.rm_valuation_laws.proofs.Counts.{one, count_same, count-with_one}
use Rattle.rm_valuation_laws.proofs.Decision.{held_over_swap}
use Rattle.rm_valuation_laws.proofs.LaminarExchange.{caps_from_feasible, feasible_from_caps}
use Rattle.rm_valuation_laws.proofs.Leads.{score_of_addition, score_by_tie, leads_of_swap}
use Rattle.rm_valuation_laws.proofs.Market.{market_board_laws}
use Rattle.rm_valuation_laws.proofs.Moves.{swapped_within}
use Rattle.rm_valuation_laws.proofs.Offers.{IsSet-swapped}
use Rattle.rm_valuation_laws.proofs.Score.{higher_from_better, scores_differ, score_exchange}
use Rattle.rm_valuation_laws.proofs.SingleChanges.{upper_from_stuck}
use Rattle.rm_valuation_laws.proofs.TieOrder.{place_from_before}
use Rattle.rm_plain_laws.specs.Stability.{held, IsBlockingPair, IsPairwiseStable, PlainStability}
use Rattle.rm_market_laws.proofs.Wishes.{are_wishes}

-- ---- zeros

total_zeros : (c k : ℕ) → total (replicate c (pos 0)) k ≡ pos 0
total_zeros c zero = refl
total_zeros zero (suc k) = refl
total_zeros (suc c) (suc k) = let rest = total_zeros c k in omega (arith, ints)

sum_zeros : (f : Node → ℤ) (nodes : List Node) → All (λ n. f n ≡ pos 0) nodes → int_sum (map f nodes) ≡ pos 0
sum_zeros f [] a = refl
sum_zeros f (n ∷ nodes) a =
    let first = All-head (λ n. f n ≡ pos 0) n nodes a in
    let rest = sum_zeros f nodes (All-tail (λ n. f n ≡ pos 0) n nodes a) in
    omega (arith, ints)

-- a feasible subset with a greater score is better
beaten : (v : Values) (X S T : List ℕ) → IsBest v X S → IsSet T → IsWithin T X → v.feasible T ≡ true → score v S <ℤ score v T → ⊥
beaten v X S T best set within f lt =
    let same : T ≡ S → ⊥ = λ e. let up = subst (λ U. score v S <ℤ score v U) e lt in omega (arith, ints, up) in
    let down = higher_from_better v S T f (best.beats T set within same) in
    omega (arith, ints, lt, down)

leaf_is : (pairs : List (ℕ × ℕ)) (x : ℕ) → get_or (map (λ (c : ℕ × ℕ). c.1) pairs) x 0 ≡ (get_or pairs x (0, 0)).1
leaf_is [] x = refl
leaf_is (c ∷ pairs) zero = refl
leaf_is (c ∷ pairs) (suc x) = leaf_is pairs x

module _ (ranks : List (List ℕ)) (capacities : List ℕ) (lists : List (List ℕ)) where
  abbrev m : Market
  m = plain_market ranks capacities lists

  abbrev b : Board
  b = m.board

  abbrev own_node : ℕ → Node
  own_node h = record { leaves = h ∷ []; steps = replicate (slice_index capacities h) (pos 0) }

  pub nodes_long : length b.nodes ≡ length ranks
  nodes_long = ap length (append-nil (map own_node (below (length ranks)))) ∙ (length-map (below (length ranks)) own_node ∙ length-below (length ranks))

  node_is : (k : ℕ) → k < length ranks → node_at b k ≡ own_node k
  node_is k lt =
      ap (λ (L : List Node). get_or L k no_node) (append-nil (map own_node (below (length ranks))))
      ∙ (get_or-map own_node (below (length ranks)) k 0 no_node (let e = length-below (length ranks) in omega arith)
      ∙ ap own_node (get_or-below (length ranks) k 0 lt))

  or_false : (c : Bool) → (c || false) ≡ c
  or_false true = refl
  or_false false = refl

  -- a node has the contracts of its hospital
  pub test_is : (k x : ℕ) → k < length ranks → test_at b k x ≡ eqb (hospital_of b x) k
  test_is k x lt = ap (λ (n : Node). has (get_or (map (λ (c : ℕ × ℕ). c.1) (pairs_of ranks)) x 0) n.leaves) (node_is k lt) ∙ (or_false _ ∙ ap (λ h. eqb h k) (leaf_is (pairs_of ranks) x))

  held_is : (S : List ℕ) (k : ℕ) → k < length ranks → count b (node_at b k).leaves S ≡ held b S k
  held_is S k lt = count_same (test_at b k) (λ x. eqb (hospital_of b x) k) S (λ x. test_is k x lt)

  cap_is : (k : ℕ) → k < length ranks → length (node_at b k).steps ≡ slice_index capacities k
  cap_is k lt = ap (λ (n : Node). length n.steps) (node_is k lt) ∙ length-replicate (slice_index capacities k) (pos 0)

  no_worth : (S : List ℕ) → worth b S ≡ pos 0
  unfolding worth
  no_worth S = sum_zeros (λ n. total n.steps (count b n.leaves S)) b.nodes (All-from_get_or (λ n. total n.steps (count b n.leaves S) ≡ pos 0) b.nodes no_node (λ k lt.
      let low : k < length ranks = subst (λ l. k < l) nodes_long lt in
      subst (λ (n : Node). total n.steps (count b n.leaves S) ≡ pos 0) (sym (node_is k low)) (total_zeros (slice_index capacities k) (count b (k ∷ []) S))))

  module _ (ranked : AreListsBelow (length lists) ranks) (listed : AreListsBelow (length ranks) lists) (S : List ℕ) (placement : IsPlacement (wishes_of m) S) where
    abbrev n : ℕ
    n = contract_count b

    abbrev v : Values
    v = values_of b

    ok : IsMarket m
    ok = plain_markets ranks capacities lists ranked listed

    long : length (wishes_of m).owners ≡ n
    long = (are_wishes m ok).contracts

    set : IsSetBelow n S
    set = subst (λ k. IsSetBelow k S) long placement.set

    in_ties : (x : ℕ) → x < n → IsIn x b.ties
    in_ties x lt = (ok.board.ties.all x).1 lt

    same_worth : (T U : List ℕ) → worth b T ≡ worth b U
    same_worth T U = no_worth T ∙ sym (no_worth U)

    ranked_first : (x y : ℕ) → x < y → y < n → hospital_of b x ≡ hospital_of b y → place b.ties x < place b.ties y
    ranked_first x y lt ly e = place_from_before x y b.ties ok.board.ties.once (ok.board.ties.agrees x y lt ly e)

    -- the hospital of a contract has a rank list
    low : (x : ℕ) → x < n → hospital_of b x < length ranks
    low x lt = hospital_ranked b x lt

    wanted_out : (x : ℕ) → wants (wishes_of m) S x ≡ true → has x S ≡ false
    wanted_out x w = not-true (has x S) (and_parts (not (has x S)) (prefers (wishes_of m) (owner (wishes_of m) x) x (at (wishes_of m) (owner (wishes_of m) x) S)) w).0

    -- ---- a stable placement

    module _ (stable : IsStableIn m S) where
      within_capacities : (h : ℕ) → h < length ranks → held b S h ≤ slice_index capacities h
      within_capacities h lt =
          let cap = caps_from_feasible b S stable.kept.feasible h no_node (subst (λ l. h < l) (sym nodes_long) lt) in
          let e = held_is S h lt in
          let c = cap_is h lt in
          omega (arith, cap, e, c)

      no_pair : (x : ℕ) → x < n → ¬ IsBlockingPair m S (slice_index capacities (hospital_of b x)) x
      no_pair x lt pair = ⊎_elim free taken pair.welcome
        where
          out : has x S ≡ false
          out = wanted_out x pair.wanted

          best : IsBest v (with_one S x) S
          best = stable.unblocked x (subst (λ k. x < k) (sym long) lt) pair.wanted

          free : held b S (hospital_of b x) < slice_index capacities (hospital_of b x) → ⊥
          free room =
              beaten v (with_one S x) S (with_one S x) best (IsSet-with_one S x set.ascending) (within_refl (with_one S x))
              (added_feasible b S x stable.kept.feasible out (λ k lk t full.
              let lr : k < length ranks = subst (λ l. k < l) nodes_long lk in
              let own : hospital_of b x ≡ k = eqb-true (hospital_of b x) k (sym (test_is k x lr) ∙ t) in
              let e = held_is S k lr in
              let c = cap_is k lr in
              let r = subst (λ h. held b S h < slice_index capacities h) own room in
              omega (arith, full, e, c, r)))
              (score_of_addition v S x out (in_ties x lt) (let e = same_worth S (with_one S x) in omega (arith, ints, e)))

          taken : (y : ℕ) × IsIn y S × (hospital_of b y ≡ hospital_of b x) × (x < y) → ⊥
          taken (y, iy, same, below) =
              beaten v (with_one S x) S (swapped S x y) best (IsSet-swapped S y x set.ascending)
              (swapped_within S (with_one S x) y x (within-with_one S x) (IsIn-with_one_new S x))
              (swap_feasible b S y x set.ascending iy out stable.kept.feasible (λ k lk t full.
              let lr : k < length ranks = subst (λ l. k < l) nodes_long lk in
              test_is k y lr ∙ (ap (λ h. eqb h k) same ∙ (sym (test_is k x lr) ∙ t))))
              (score_by_tie v (swapped S x y) S (same_worth (swapped S x y) S)
              (leads_of_swap b.ties S x y out iy ∙ lt-ltb (place b.ties x) (place b.ties y) (ranked_first x y below (set.below y iy) (sym same))))

      pub pairwise_from_stable : IsPairwiseStable m capacities S
      pairwise_from_stable = record { in_capacities = within_capacities; unblocked = no_pair }

    -- ---- a placement without a blocking pair

    module _ (pairwise : IsPairwiseStable m capacities S) where
      feasible : is_feasible b S ≡ true
      feasible = feasible_from_caps b S (All-from_get_or (λ k. count b k.leaves S ≤ length k.steps) b.nodes no_node (λ k lk.
          let lr : k < length ranks = subst (λ l. k < l) nodes_long lk in
          let e = held_is S k lr in
          let c = cap_is k lr in
          let cap = pairwise.in_capacities k lr in
          omega (arith, e, c, cap)))

      -- a set in which the hospital of x holds one more isn't feasible where x is wanted
      no_room : (x : ℕ) (T : List ℕ) → x < n → wants (wishes_of m) S x ≡ true → held b T (hospital_of b x) ≡ held b S (hospital_of b x) + 1 → is_feasible b T ≡ true → ⊥
      no_room x T lt w more f =
          let h = hospital_of b x in
          let lr = low x lt in
          let cap = caps_from_feasible b T f h no_node (subst (λ l. h < l) (sym nodes_long) lr) in
          let e = held_is T h lr in
          let c = cap_is h lr in
          pairwise.unblocked x lt (record { wanted = w; welcome = inl (omega (arith, cap, e, c, more)) })

      -- S is the best subset of itself with contracts that are wanted
      best : (X : List ℕ) → IsSetBelow n X → IsWithin S X → ((x : ℕ) → IsIn x X → has x S ≡ false → wants (wishes_of m) S x ≡ true) → IsBest v X S
      best X sX within wanted =
          let laws = market_board_laws (length lists) b ok.board in
          let fS : IsFeasible n v.feasible S = record { is_set = set; passes = feasible } in
          best_from_top n v X S
          (top_from_upper n v.feasible (score v) X S (scores_differ n v laws.ties_all) fS within
          (upper_from_stuck n v.feasible (score v) X S (score_exchange n v laws.exchange)
          (record { is_feasible = fS; within = within; add = add; remove = remove; swap = swap })))
          sX
        where
          add : (x : ℕ) → IsIn x X → has x S ≡ false → v.feasible (with_one S x) ≡ true → score v (with_one S x) ≤ℤ score v S
          add x i out f = absurd (no_room x (with_one S x) (sX.below x i) (wanted x i out)
              (count-with_one (λ y. eqb (hospital_of b y) (hospital_of b x)) S x out ∙ ap (λ c. held b S (hospital_of b x) + one c) (eq-eqb (hospital_of b x) (hospital_of b x) refl)) f)

          remove : (z : ℕ) → IsIn z S → v.feasible (without S z) ≡ true → score v (without S z) ≤ℤ score v S
          remove z i f =
              let whole = with_one-without S z set.ascending i in
              let up = score_of_addition v (without S z) z (not_in_without S z) (in_ties z (set.below z i)) (let e = same_worth (without S z) (with_one (without S z) z) in omega (arith, ints, e)) in
              let up' = subst (λ T. score v (without S z) <ℤ score v T) whole up in
              omega (arith, ints, up')

          swap : (x z : ℕ) → IsIn x X → has x S ≡ false → IsIn z S → v.feasible (swapped S x z) ≡ true → score v (swapped S x z) ≤ℤ score v S
          swap x z i out iz f =
              ⊎_elim
              (λ same. ⊎_elim
              (λ e. absurd (not_both (has x S) (subst (λ y. IsIn y S) (sym e) iz) out))
              (λ order. ⊎_elim
              (λ below. absurd (pairwise.unblocked x (sX.below x i) (record { wanted = wanted x i out; welcome = inr (z, iz, same, below) })))
              (λ above.
              let down = held_over_swap v S z x iz out (inr (same_worth S (swapped S x z), ranked_first z x above (sX.below x i) same)) in
              omega (arith, ints, down))
              order)
              (cases_order x z))
              (λ apart. absurd (no_room x (swapped S x z) (sX.below x i) (wanted x i out) (more apart) f))
              (cases_eq (hospital_of b z) (hospital_of b x))
            where
              more : (hospital_of b z ≡ hospital_of b x → ⊥) → held b (swapped S x z) (hospital_of b x) ≡ held b S (hospital_of b x) + 1
              more apart =
                  let e = count-swapped (λ y. eqb (hospital_of b y) (hospital_of b x)) S z x set.ascending iz out in
                  let e1 : one (eqb (hospital_of b x) (hospital_of b x)) ≡ 1 = ap one (eq-eqb (hospital_of b x) (hospital_of b x) refl) in
                  let e0 : one (eqb (hospital_of b z) (hospital_of b x)) ≡ 0 = ap one (ne_eqb (hospital_of b z) (hospital_of b x) apart) in
                  omega (arith, e, e1, e0)

      pub stable_from_pairwise : IsStableIn m S
      stable_from_pairwise = record {
        placement = placement;
        kept = best S set (within_refl S) (λ x i out. absurd (not_both (has x S) i out));
        unblocked = λ x lt w.
            let lx : x < n = subst (λ k. x < k) long lt in
            best (with_one S x) (IsSetBelow-with_one n S x set lx) (within-with_one S x) (λ y i out. ⊎_elim
            (λ inS. absurd (not_both (has y S) inS out))
            (λ e. subst (λ z. wants (wishes_of m) S z ≡ true) (sym e) w)
            (IsIn-with_one_cases y S x i));
      }

pub plain_stability : PlainStability
plain_stability ranks capacities lists S ranked listed placement = (
  pairwise_from_stable ranks capacities lists ranked listed S placement,
  stable_from_pairwise ranks capacities lists ranked listed S placement,
)
