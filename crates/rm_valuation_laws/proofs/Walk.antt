-- Which contracts an offer may displace: those inside the innermost full node of the offer, or inside its outermost node where none is full; and which of those at one step of the walk is the best.
use Rattle.std.proofs.Common.{◌≡◌, ℕ, suc, ◌+◌, ◌<◌, List, [], ◌∷◌, Bool, true, false, not, ◌&&◌, ◌⊎◌, length, map, count_by, ℤ, ◌+ℤ◌, ◌≤ℤ◌, ◌<ℤ◌, All, refl, sym, ap, ◌∙◌, subst, ⊎_elim, arith}
use Rattle.std.proofs.lemmas.Int.{ints}
use Rattle.std.proofs.lemmas.Bool.{cases_eq, cases_Bool, lt-ltb}
use Rattle.std.proofs.lemmas.List.Elements.{All-from_get_or}
use Rattle.rm_sets.specs.Sets.{has, IsIn, IsSet, IsSetBelow, with_one, without}
use Rattle.rm_sets.proofs.Sets.{not_both}
use Rattle.rm_sets.proofs.Members.{not_in_without, without_within, IsSetBelow-without}
use Rattle.rm_market.specs.Best.{Values, is_better, IsBest, values_of, swapped}
use Rattle.rm_market.specs.Board.{Node, Board, count, is_feasible, int_sum, total, worth, node_at, no_node}
use Rattle.rm_valuation_laws.specs.Scores.{bit, score, place}
use Rattle.rm_valuation_laws.specs.Changes.{IsConcaveBoard, in_node, on, next_step, swap_gain, swap_loss, test_at}
use Rattle.rm_valuation_laws.specs.Offers.{IsInside, EndsWalk, IsWalkAnswer, AtOneStep}
use Rattle.rm_valuation_laws.proofs.Moves.{with_other, without_other, swapped_new, swapped_old, swapped_other, apart}
use Rattle.rm_valuation_laws.proofs.Counts.{one, count-with_one, count-without}
use Rattle.rm_valuation_laws.proofs.Score.{SameTogether, score_together, better_from_higher, higher_from_better, infeasible_not_better}
use Rattle.rm_valuation_laws.proofs.Leads.{score_by_worth, score_by_tie, leads_of_swaps}
use Rattle.rm_valuation_laws.proofs.ChoiceLaws.{unequal}
use Rattle.rm_valuation_laws.proofs.Best.{top_from_best}
use Rattle.rm_valuation_laws.proofs.Offers.{offer_best}
use Rattle.rm_valuation_laws.proofs.LaminarExchange.{int_sum-le, board_laws}
use Rattle.rm_valuation_laws.proofs.Change.{count-swapped, worth_swapped, swap_infeasible}

-- ---- a contract that shares no node with the offer

-- the four totals at a node that x and z do not share
unshared : (steps : List ℤ) (h a r s : ℕ) (iz ix : Bool) → (iz ≡ true → ix ≡ true → ⊥) → a ≡ h + one ix → r + one iz ≡ h → s + one iz ≡ h + one ix →
    (total steps s +ℤ total steps h) ≤ℤ (total steps a +ℤ total steps r)
unshared steps h a r s true true no_both ea er es = absurd (no_both refl refl)
unshared steps h a r s true false no_both ea er es = let p : a ≡ h = omega arith in let q : s ≡ r = omega arith in rw (p, q) (omega (arith, ints))
unshared steps h a r s false true no_both ea er es = let p : r ≡ h = omega arith in let q : s ≡ a = omega arith in rw (p, q) (omega (arith, ints))
unshared steps h a r s false false no_both ea er es = let p : r ≡ h = omega arith in let q : s ≡ h = omega arith in let o : a ≡ h = omega arith in rw (p, q, o) (omega (arith, ints))

-- H with x for z, and H, have the members of H with x, and of H without z
together_unshared : (H : List ℕ) (z x : ℕ) → IsIn z H → has x H ≡ false → SameTogether (swapped H x z) H (with_one H x) (without H z)
together_unshared H z x inz out y =
    let ne : z ≡ x → ⊥ = apart H z x inz out in
    ⊎_elim
    (λ e. subst (λ w. (bit (has w (swapped H x z)) +ℤ bit (has w H)) ≡ (bit (has w (with_one H x)) +ℤ bit (has w (without H z)))) (sym e)
    (bits (has z (swapped H x z)) (has z H) (has z (with_one H x)) (has z (without H z)) false true true false (swapped_old H z x ne) inz (with_other H x z ne ∙ inz) (not_in_without H z) refl))
    (λ nz. ⊎_elim
    (λ e. subst (λ w. (bit (has w (swapped H x z)) +ℤ bit (has w H)) ≡ (bit (has w (with_one H x)) +ℤ bit (has w (without H z)))) (sym e)
    (bits (has x (swapped H x z)) (has x H) (has x (with_one H x)) (has x (without H z)) true false true false (swapped_new H z x) out (with_new H x) (without_other H z x (λ f. ne (sym f)) ∙ out) refl))
    (λ nx. bits (has y (swapped H x z)) (has y H) (has y (with_one H x)) (has y (without H z)) (has y H) (has y H) (has y H) (has y H) (swapped_other H z x y nz nx) refl (with_other H x y nx) (without_other H z y nz) refl)
    (cases_eq y x))
    (cases_eq y z)
  where
    with_new : (S : List ℕ) (w : ℕ) → has w (with_one S w) ≡ true
    with_new S w = swapped_none S w
      where
        swapped_none : (S : List ℕ) (w : ℕ) → has w (with_one S w) ≡ true
        swapped_none S w = Rattle.rm_sets.proofs.Members.IsIn-with_one_new S w

    bits : (s t u w s' t' u' w' : Bool) → s ≡ s' → t ≡ t' → u ≡ u' → w ≡ w' → (bit s' +ℤ bit t') ≡ (bit u' +ℤ bit w') → (bit s +ℤ bit t) ≡ (bit u +ℤ bit w)
    bits s t u w s' t' u' w' p q r o e = rw (p, q, r, o) e

-- such a swap is no better than the addition
pub unshared_not_better : (b : Board) (H : List ℕ) (z x : ℕ) → IsConcaveBoard b → IsSetBelow (length b.leaves) H → IsBest (values_of b) H H → IsIn z H → has x H ≡ false →
    ((k : ℕ) → k < length b.nodes → test_at b k z ≡ true → test_at b k x ≡ true → ⊥) → is_feasible b (with_one H x) ≡ true →
    score (values_of b) (swapped H x z) <ℤ score (values_of b) (with_one H x)
unfolding worth
unshared_not_better b H z x ok sH own inz out apart_nodes fA =
    let v = values_of b in
    let laws = board_laws b ok in
    let sR = IsSetBelow-without (length b.leaves) H z sH in
    let fR = laws.fewer (without H z) H sR sH (without_within H z) own.feasible in
    let top = top_from_best (length b.leaves) v H H own sH in
    let lower = top.above (without H z) (record { is_set = sR; passes = fR }) (without_within H z) (λ e. unequal H (without H z) z inz (not_in_without H z) (sym e)) in
    let sums = int_sum-le (λ n. total n.steps (count b n.leaves (swapped H x z))) (λ n. total n.steps (count b n.leaves H)) (λ n. total n.steps (count b n.leaves (with_one H x))) (λ n. total n.steps (count b n.leaves (without H z))) b.nodes
    (All-from_get_or (λ n. (total n.steps (count b n.leaves (swapped H x z)) +ℤ total n.steps (count b n.leaves H)) ≤ℤ (total n.steps (count b n.leaves (with_one H x)) +ℤ total n.steps (count b n.leaves (without H z)))) b.nodes no_node
    (λ k lt. unshared (node_at b k).steps (count_by (test_at b k) H) (count_by (test_at b k) (with_one H x)) (count_by (test_at b k) (without H z)) (count_by (test_at b k) (swapped H x z))
    (test_at b k z) (test_at b k x) (apart_nodes k lt) (count-with_one (test_at b k) H x out) (count-without (test_at b k) H z sH.ascending inz) (count-swapped (test_at b k) H z x sH.ascending inz out))) in
    let scores = score_together (swapped H x z) H (with_one H x) (without H z) (together_unshared H z x inz out) b.ties (worth b (swapped H x z)) (worth b H) (worth b (with_one H x)) (worth b (without H z)) sums in
    add_up (score v (swapped H x z)) (score v H) (score v (with_one H x)) (score v (without H z)) scores lower
  where
    add_up : (s h a r : ℤ) → (s +ℤ h) ≤ℤ (a +ℤ r) → r <ℤ h → s <ℤ a
    add_up s h a r le lt = omega (arith, ints)

-- ---- where the walk ends

not_better_through : (v : Values) (S A D : List ℕ) → v.feasible A ≡ true → v.feasible D ≡ true → score v S <ℤ score v A → is_better v A D ≡ false → is_better v S D ≡ false
not_better_through v S A D fA fD lt h =
    ⊎_elim
    (λ t.
    let up = higher_from_better v S D fD t in
    absurd (not_both (is_better v A D) (better_from_higher v A D fA (chain (score v D) (score v S) (score v A) up lt)) h))
    (λ f. f)
    (cases_Bool (is_better v S D))
  where
    chain : (p q r : ℤ) → p <ℤ q → q <ℤ r → p <ℤ r
    chain p q r l m = omega (arith, ints)

-- the answer of the walk is the best subset
pub walk_best : (b : Board) (H : List ℕ) (x k : ℕ) (D : List ℕ) → IsConcaveBoard b → IsSetBelow (length b.leaves) H → x < length b.leaves → has x H ≡ false → IsBest (values_of b) H H →
    k < length b.nodes → EndsWalk b H x k → IsWalkAnswer b H x k D → IsBest (values_of b) (with_one H x) D
walk_best b H x k D ok sH lt out own lk ends answer =
    offer_best (length b.leaves) (values_of b) H x D (board_laws b ok) sH lt out own (record {
      set = answer.set;
      within = answer.within;
      feasible = answer.feasible;
      not_refused = answer.not_refused;
      not_added = answer.not_added;
      not_swapped = λ z inz. ⊎_elim
          (λ inside. answer.not_swapped z inz inside)
          (λ outside. ⊎_elim
          (λ full. infeasible_not_better (values_of b) (swapped H x z) D (swap_infeasible b H z x k sH.ascending inz out lk ends.0 outside full))
          (λ open_end. not_better_through (values_of b) (swapped H x z) (with_one H x) D open_end.0 answer.feasible
          (unshared_not_better b H z x ok sH own inz out (λ l ll tz tx. not_both (test_at b k z) (open_end.1 l ll tx z tz) outside) open_end.0)
          answer.not_added)
          ends.1)
          (cases_Bool (test_at b k z));
    })

-- ---- one step of the walk

-- so do two contracts that lie in a node of x, and not in the part below it that has all smaller nodes of x
pub at_one_step : (b : Board) (x a z y : ℕ) (child : ℕ → Bool) → ((k : ℕ) → k < length b.nodes → test_at b k x ≡ true → IsInside (test_at b a) (test_at b k) ⊎ IsInside (test_at b k) child) →
    test_at b a z ≡ true → test_at b a y ≡ true → child z ≡ false → child y ≡ false → AtOneStep b x z y
at_one_step b x a z y child step tz ty cz cy k lk tx =
    ⊎_elim
    (λ w. w z tz ∙ sym (w y ty))
    (λ w. none k w z cz ∙ sym (none k w y cy))
    (step k lk tx)
  where
    none : (k : ℕ) → IsInside (test_at b k) child → (u : ℕ) → child u ≡ false → test_at b k u ≡ false
    none k w u c = ⊎_elim (λ t. absurd (not_both (child u) (w u t) c)) (λ f. f) (cases_Bool (test_at b k u))

-- what is gained by x is the same for both
same_gain : (b : Board) (H : List ℕ) (x z y : ℕ) → AtOneStep b x z y → (nodes : List Node) → All (λ n. in_node b n x ≡ true → in_node b n z ≡ in_node b n y) nodes →
    int_sum (map (λ n. on (in_node b n x && not (in_node b n z)) (next_step b H n)) nodes) ≡ int_sum (map (λ n. on (in_node b n x && not (in_node b n y)) (next_step b H n)) nodes)
same_gain b H x z y one_step [] all = refl
same_gain b H x z y one_step (n ∷ nodes) all =
    let rest = same_gain b H x z y one_step nodes (λ k d lt. all (suc k) d (omega arith)) in
    let here = same (in_node b n x) (in_node b n z) (in_node b n y) (next_step b H n) (all 0 n (omega arith)) in
    omega (arith, ints)
  where
    same : (i j l : Bool) (s : ℤ) → (i ≡ true → j ≡ l) → on (i && not j) s ≡ on (i && not l) s
    same true j l s e = ap (λ c. on (true && not c) s) (e refl)
    same false j l s e = refl

pub swap_worths : (b : Board) (H : List ℕ) (x z y : ℕ) → IsSet H → IsIn z H → IsIn y H → has x H ≡ false → is_feasible b H ≡ true → is_feasible b (swapped H x z) ≡ true → is_feasible b (swapped H x y) ≡ true →
    AtOneStep b x z y → (worth b (swapped H x z) +ℤ swap_loss b H x z) ≡ (worth b (swapped H x y) +ℤ swap_loss b H x y)
swap_worths b H x z y s inz iny out fH fz fy one_step =
    let ez = worth_swapped b H z x s inz out fH fz in
    let ey = worth_swapped b H y x s iny out fH fy in
    let same : swap_gain b H x z ≡ swap_gain b H x y = same_gain b H x z y one_step b.nodes (All-from_get_or (λ n. in_node b n x ≡ true → in_node b n z ≡ in_node b n y) b.nodes no_node (λ k lt. one_step k lt)) in
    omega (arith, ints)

-- the one whose removal loses less is the better to displace, and of two that lose the same the later in tie order
pub better_swap : (b : Board) (H : List ℕ) (x z y : ℕ) → IsSet H → IsIn z H → IsIn y H → has x H ≡ false → is_feasible b H ≡ true → is_feasible b (swapped H x z) ≡ true → is_feasible b (swapped H x y) ≡ true →
    AtOneStep b x z y → (swap_loss b H x z <ℤ swap_loss b H x y) ⊎ ((swap_loss b H x z ≡ swap_loss b H x y) × (place b.ties y < place b.ties z)) → is_better (values_of b) (swapped H x z) (swapped H x y) ≡ true
better_swap b H x z y s inz iny out fH fz fy one_step how =
    let v = values_of b in
    let e = swap_worths b H x z y s inz iny out fH fz fy one_step in
    better_from_higher v (swapped H x z) (swapped H x y) fz
    (⊎_elim
    (λ lt. score_by_worth v (swapped H x z) (swapped H x y) (omega (arith, ints)))
    (λ tie.
    let l = tie.0 in
    let p = tie.1 in
    let ne : z ≡ y → ⊥ = λ f. (let g : place b.ties z ≡ place b.ties y = ap (place b.ties) f in omega arith) in
    score_by_tie v (swapped H x z) (swapped H x y) (omega (arith, ints)) (leads_of_swaps b.ties H x z y out inz iny ne ∙ lt-ltb (place b.ties y) (place b.ties z) p))
    how)
