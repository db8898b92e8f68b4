-- The held contract whose removal costs least at a node: from the children, what it depends on, and what it decides for an offer.
use Rattle.std.proofs.Common.{◌≡◌, ℕ, ◌-◌, ◌<◌, ◌≤◌, List, Bool, true, false, not, ◌&&◌, ◌||◌, ◌⊎◌, length, filter, get_or, eqb, count_by, ℤ, pos, ◌+ℤ◌, ◌<ℤ◌, refl, sym, ap, ◌∙◌, subst, inl, inr, ⊎_elim, arith, true≢false, eqb-true}
use Rattle.std.proofs.lemmas.Int.{ints}
use Rattle.std.proofs.lemmas.Bool.{cases_eq, cases_Bool}
use Rattle.std.proofs.lemmas.List.Sums.{length-filter}
use Rattle.rm_sets.specs.Sets.{has, IsIn, IsSet}
use Rattle.rm_sets.proofs.Sets.{not_both, same_sets, IsSet-filter, has-filter}
use Rattle.rm_market.specs.Best.{Values, is_better, values_of, swapped}
use Rattle.rm_market.specs.Board.{Board, is_feasible, node_at, no_node}
use Rattle.rm_valuation_laws.specs.Scores.{place}
use Rattle.rm_valuation_laws.specs.Changes.{in_node, on, last_step, swap_loss, test_at, loss_upto, IsCheaper, less, tied, IsCheapest, IsJustAbove}
use Rattle.rm_valuation_laws.specs.Offers.{IsInside, AtOneStep}
use Rattle.rm_valuation_laws.proofs.Sums.{sum_upto_same, sum_upto_add, sum_upto_one, sum_by_place, on_or}
use Rattle.rm_valuation_laws.proofs.Score.{better_from_higher, higher_from_better, infeasible_not_better}
use Rattle.rm_valuation_laws.proofs.Leads.{place_same}
use Rattle.rm_valuation_laws.proofs.Change.{swap_feasible, swap_infeasible}
use Rattle.rm_valuation_laws.proofs.Walk.{better_swap}

-- ---- the cost, one node further up

on_split : (p q e : Bool) (s : ℤ) → (q ≡ true → e ≡ true → ⊥) → on (p && (q || e)) s ≡ on (p && q) s +ℤ on (p && e) s
on_split false q e s f = refl
on_split true q e s f = on_or q e s f

on_at : (p e : Bool) (s : ℤ) → (e ≡ true → p ≡ true) → on (p && e) s ≡ on e s
on_at true e s f = refl
on_at false true s f = absurd (true≢false (sym (f refl)))
on_at false false s f = refl

on_same : (p q r : Bool) (s : ℤ) → (p ≡ true → q ≡ r) → on (p && q) s ≡ on (p && r) s
on_same true q r s f = ap (λ b. on b s) (f refl)
on_same false q r s f = refl

-- the cost at a is that at d just below, and the last step of a
pub loss_above : (b : Board) (under : ℕ → ℕ → Bool) (H : List ℕ) (a d z : ℕ) → a < length b.nodes → IsJustAbove b under a d z → loss_upto b under H a z ≡ loss_upto b under H d z +ℤ last_step b H (node_at b a)
loss_above b under H a d z la j =
    let m = length b.nodes in
    let step = λ (k : ℕ). last_step b H (node_at b k) in
    let split = sum_upto_same m (λ k. on (test_at b k z && under k a) (step k)) (λ k. on (test_at b k z && under k d) (step k) +ℤ on (eqb k a) (step k))
    (λ k lt.
    on_same (test_at b k z) (under k a) (under k d || eqb k a) (step k) (λ t. j.just k lt t)
    ∙ (on_split (test_at b k z) (under k d) (eqb k a) (step k) (λ u e. not_both (under a d) (subst (λ w. under w d ≡ true) (eqb-true k a e) u) j.not_under)
    ∙ ap (λ w. on (test_at b k z && under k d) (step k) +ℤ w) (on_at (test_at b k z) (eqb k a) (step k) (λ e. subst (λ w. test_at b w z ≡ true) (sym (eqb-true k a e)) j.above)))) in
    let add = sum_upto_add m (λ k. on (test_at b k z && under k d) (step k)) (λ k. on (eqb k a) (step k)) in
    let one = sum_upto_one m a step la in
    split ∙ (add ∙ ap (λ w. loss_upto b under H d z +ℤ w) one)

-- at a leaf the cost is its last step
pub loss_of_leaf : (b : Board) (under : ℕ → ℕ → Bool) (H : List ℕ) (a z : ℕ) → a < length b.nodes → test_at b a z ≡ true → ((k : ℕ) → k < length b.nodes → test_at b k z ≡ true → under k a ≡ eqb k a) →
    loss_upto b under H a z ≡ last_step b H (node_at b a)
loss_of_leaf b under H a z la t leaf =
    let m = length b.nodes in
    let step = λ (k : ℕ). last_step b H (node_at b k) in
    sum_upto_same m (λ k. on (test_at b k z && under k a) (step k)) (λ k. on (eqb k a) (step k))
    (λ k lt.
    on_same (test_at b k z) (under k a) (eqb k a) (step k) (λ u. leaf k lt u)
    ∙ on_at (test_at b k z) (eqb k a) (step k) (λ e. subst (λ w. test_at b w z ≡ true) (sym (eqb-true k a e)) t))
    ∙ sum_upto_one m a step la

-- what a swap loses is the cost at the node d that has z and, of the nodes of z, exactly those without x at or below it
pub loss_of_swap : (b : Board) (under : ℕ → ℕ → Bool) (H : List ℕ) (d x z : ℕ) → ((k : ℕ) → k < length b.nodes → test_at b k z ≡ true → not (test_at b k x) ≡ under k d) → swap_loss b H x z ≡ loss_upto b under H d z
loss_of_swap b under H d x z same =
    sum_by_place (λ n. on (in_node b n z && not (in_node b n x)) (last_step b H n)) no_node b.nodes
    ∙ sum_upto_same (length b.nodes) (λ k. on (test_at b k z && not (test_at b k x)) (last_step b H (node_at b k))) (λ k. on (test_at b k z && under k d) (last_step b H (node_at b k)))
    (λ k lt. on_same (test_at b k z) (not (test_at b k x)) (under k d) (last_step b H (node_at b k)) (λ t. same k lt t))

-- ---- the cheapest

pub cheaper_trans : (b : Board) (under : ℕ → ℕ → Bool) (H : List ℕ) (a z c y e w : ℕ) → IsCheaper b under H a z c y → IsCheaper b under H c y e w → IsCheaper b under H a z e w
cheaper_trans b under H a z c y e w (less p) (less q) = less (omega (arith, ints))
cheaper_trans b under H a z c y e w (less p) (tied q r) = less (subst (λ t. loss_upto b under H a z <ℤ t) q p)
cheaper_trans b under H a z c y e w (tied p o) (less q) = less (subst (λ t. t <ℤ loss_upto b under H e w) (sym p) q)
cheaper_trans b under H a z c y e w (tied p o) (tied q r) = tied (p ∙ q) (omega arith)

-- from the nodes just below a
cheaper_above : (b : Board) (under : ℕ → ℕ → Bool) (H : List ℕ) (a d z e y : ℕ) → a < length b.nodes → IsJustAbove b under a d z → IsJustAbove b under a e y → IsCheaper b under H d z e y → IsCheaper b under H a z a y
cheaper_above b under H a d z e y la jd je (less p) =
    let s = loss_above b under H a d z la jd in
    let t = loss_above b under H a e y la je in
    less (omega (arith, ints))
cheaper_above b under H a d z e y la jd je (tied p o) =
    let s = loss_above b under H a d z la jd in
    let t = loss_above b under H a e y la je in
    tied (s ∙ (ap (λ w. w +ℤ last_step b H (node_at b a)) p ∙ sym t)) o

-- the cheapest at a node is the cheapest of those at its children: z is that of d, and each other child e has a cheapest that is no cheaper
pub cheapest_from_children : (b : Board) (under : ℕ → ℕ → Bool) (H : List ℕ) (a d z : ℕ) → a < length b.nodes → IsIn z H → IsJustAbove b under a d z →
    ((y : ℕ) → IsIn y H → test_at b a y ≡ true → (e : ℕ) × IsJustAbove b under a e y × ((w : ℕ) × IsCheapest b under H e w × IsCheaper b under H d z e w)) → IsCheapest b under H a z
cheapest_from_children b under H a d z la inz j children = record {
  held = inz;
  inside = j.above;
  cheapest = λ y iny ty.
      let c = children y iny ty in
      let e = c.0 in
      let w = c.2.0 in
      cheaper_above b under H a d z e y la j c.1 (cheaper_trans b under H d z e w e y c.2.2 (c.2.1.cheapest y iny c.1.inside));
}

-- at a leaf it is the last held contract in tie order
pub cheapest_of_leaf : (b : Board) (under : ℕ → ℕ → Bool) (H : List ℕ) (a z : ℕ) → a < length b.nodes → IsIn z H → test_at b a z ≡ true →
    ((y k : ℕ) → test_at b a y ≡ true → k < length b.nodes → test_at b k y ≡ true → under k a ≡ eqb k a) →
    ((y : ℕ) → IsIn y H → test_at b a y ≡ true → place b.ties y ≤ place b.ties z) → IsCheapest b under H a z
cheapest_of_leaf b under H a z la inz tz leaf last = record {
  held = inz;
  inside = tz;
  cheapest = λ y iny ty. tied
      (loss_of_leaf b under H a z la tz (λ k lt t. leaf z k tz lt t) ∙ sym (loss_of_leaf b under H a y la ty (λ k lt t. leaf y k ty lt t)))
      (last y iny ty);
}

-- ---- it depends on what is held inside the node alone

pub count_agree : (p : ℕ → Bool) (S T : List ℕ) → IsSet S → IsSet T → ((y : ℕ) → p y ≡ true → has y S ≡ has y T) → count_by p S ≡ count_by p T
count_agree p S T sS sT agree =
    let same = same_sets (filter p S) (filter p T) (IsSet-filter p S sS) (IsSet-filter p T sT)
    (λ y. has-filter p S y ∙ (both_ways (has y S) (has y T) (p y) (agree y) ∙ sym (has-filter p T y))) in
    sym (length-filter p S) ∙ (ap length same ∙ length-filter p T)
  where
    both_ways : (s t q : Bool) → (q ≡ true → s ≡ t) → (s && q) ≡ (t && q)
    both_ways s t true f = ap (λ c. c && true) (f refl)
    both_ways true true false f = refl
    both_ways true false false f = refl
    both_ways false true false f = refl
    both_ways false false false f = refl

-- the sets agree inside the node a, and what lies under it is inside it
pub loss_agree : (b : Board) (under : ℕ → ℕ → Bool) (H K : List ℕ) (a z : ℕ) → IsSet H → IsSet K → ((y : ℕ) → test_at b a y ≡ true → has y H ≡ has y K) →
    ((k : ℕ) → k < length b.nodes → under k a ≡ true → IsInside (test_at b k) (test_at b a)) → loss_upto b under H a z ≡ loss_upto b under K a z
loss_agree b under H K a z sH sK agree inner =
    sum_upto_same (length b.nodes) (λ k. on (test_at b k z && under k a) (last_step b H (node_at b k))) (λ k. on (test_at b k z && under k a) (last_step b K (node_at b k)))
    (λ k lt. at k lt (under k a) refl)
  where
    at : (k : ℕ) → k < length b.nodes → (u : Bool) → under k a ≡ u → on (test_at b k z && under k a) (last_step b H (node_at b k)) ≡ on (test_at b k z && under k a) (last_step b K (node_at b k))
    at k lt true e =
        let counts = count_agree (test_at b k) H K sH sK (λ y t. agree y (inner k lt e y t)) in
        ap (λ c. on (test_at b k z && under k a) (get_or (node_at b k).steps (c - 1) (pos 0))) counts
    at k lt false e = off (test_at b k z) (under k a) (last_step b H (node_at b k)) (last_step b K (node_at b k)) e
      where
        off : (p q : Bool) (s t : ℤ) → q ≡ false → on (p && q) s ≡ on (p && q) t
        off true q s t f = ap (λ c. on c s) f ∙ sym (ap (λ c. on c t) f)
        off false q s t f = refl

pub cheapest_agree : (b : Board) (under : ℕ → ℕ → Bool) (H K : List ℕ) (a z : ℕ) → IsSet H → IsSet K → ((y : ℕ) → test_at b a y ≡ true → has y H ≡ has y K) →
    ((k : ℕ) → k < length b.nodes → under k a ≡ true → IsInside (test_at b k) (test_at b a)) → IsCheapest b under H a z → IsCheapest b under K a z
cheapest_agree b under H K a z sH sK agree inner c = record {
  held = sym (agree z c.inside) ∙ c.held;
  inside = c.inside;
  cheapest = λ y iny ty. moved (loss_agree b under H K a z sH sK agree inner) (loss_agree b under H K a y sH sK agree inner) (c.cheapest y (agree y ty ∙ iny) ty);
}
  where
    moved : {y : ℕ} → loss_upto b under H a z ≡ loss_upto b under K a z → loss_upto b under H a y ≡ loss_upto b under K a y → IsCheaper b under H a z a y → IsCheaper b under K a z a y
    moved p q (less r) = less (omega (arith, ints))
    moved p q (tied r o) = tied (sym p ∙ (r ∙ q)) o

-- ---- what it decides

-- z and y lie at one step of the walk, z is to be displaced before y, and the swap for z is no better than D: nor is that for y
pub step_decides : (b : Board) (H : List ℕ) (x z y : ℕ) (D : List ℕ) → IsSet H → IsIn z H → IsIn y H → has x H ≡ false → IsIn z b.ties → is_feasible b H ≡ true → is_feasible b D ≡ true → AtOneStep b x z y →
    (swap_loss b H x z <ℤ swap_loss b H x y) ⊎ ((swap_loss b H x z ≡ swap_loss b H x y) × (place b.ties y ≤ place b.ties z)) →
    is_better (values_of b) (swapped H x z) D ≡ false → is_better (values_of b) (swapped H x y) D ≡ false
step_decides b H x z y D s inz iny out inTies fH fD one_step how not_better =
    ⊎_elim
    (λ same. subst (λ w. is_better (values_of b) (swapped H x w) D ≡ false) same not_better)
    (λ ne. ⊎_elim
    (λ fy.
    let fz : is_feasible b (swapped H x z) ≡ true = swap_feasible b H z x s inz out fH (λ k lk tx full.
    one_step k lk tx ∙ ⊎_elim (λ t. t) (λ f. absurd (not_both (is_feasible b (swapped H x y)) fy (swap_infeasible b H y x k s iny out lk tx f full))) (cases_Bool (test_at b k y))) in
    let strictly : (swap_loss b H x z <ℤ swap_loss b H x y) ⊎ ((swap_loss b H x z ≡ swap_loss b H x y) × (place b.ties y < place b.ties z)) =
    ⊎_elim (λ l. inl l) (λ t. inr (t.0, (let le = t.1 in let differ : place b.ties z ≡ place b.ties y → ⊥ = λ e. ne (place_same b.ties z y inTies e) in omega arith))) how in
    let better = better_swap b H x z y s inz iny out fH fz fy one_step strictly in
    not_better_after (values_of b) (swapped H x z) (swapped H x y) D fz fy fD better not_better)
    (λ fy. infeasible_not_better (values_of b) (swapped H x y) D fy)
    (cases_Bool (is_feasible b (swapped H x y))))
    (cases_eq z y)
  where
    not_better_after : (v : Values) (A B D : List ℕ) → v.feasible A ≡ true → v.feasible B ≡ true → v.feasible D ≡ true → is_better v A B ≡ true → is_better v A D ≡ false → is_better v B D ≡ false
    not_better_after v A B D fA fB fD up no_gain =
        ⊎_elim
        (λ t.
        let one = higher_from_better v A B fB up in
        let two = higher_from_better v B D fD t in
        absurd (not_both (is_better v A D) (better_from_higher v A D fA (omega (arith, ints))) no_gain))
        (λ f. f)
        (cases_Bool (is_better v B D))
