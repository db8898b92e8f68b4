-- What is decided of an offer is the best subset of what is held with it.
use Rattle.std.proofs.Common.{◌≡◌, ◌≢◌, ◌∙◌, ◌⊎◌, ℕ, ◌<◌, ◌≤◌, List, true, false, length, Option, Some, None, ℤ, pos, ◌+ℤ◌, ◌≤ℤ◌, ◌<ℤ◌, refl, sym, ap, subst, inl, inr, ⊎_elim, arith}
use Rattle.std.proofs.lemmas.Int.{ints}
use Rattle.std.proofs.lemmas.Bool.{cases_eq, cases_lt, cases_Bool, lt-ltb}
use Rattle.rm_sets.specs.Sets.{has, IsIn, IsSetBelow, with_one}
use Rattle.rm_sets.proofs.Sets.{not_both, IsSet-with_one}
use Rattle.rm_sets.proofs.Members.{within_refl, within-with_one, IsIn-with_one_new}
use Rattle.rm_market.specs.Best.{Values, is_better, IsBest, values_of, swapped}
use Rattle.rm_market.specs.Board.{Board, contract_count, node_at, is_feasible, worth}
use Rattle.rm_valuation_laws.specs.Scores.{score, place}
use Rattle.rm_valuation_laws.specs.Changes.{IsConcaveBoard, test_at}
use Rattle.rm_valuation_laws.specs.Offers.{IsFull, IsInside, EndsWalk, IsWalkAnswer}
use Rattle.rm_valuation_laws.proofs.Moves.{apart, swapped_within}
use Rattle.rm_valuation_laws.proofs.Score.{higher_from_better, infeasible_not_better}
use Rattle.rm_valuation_laws.proofs.Leads.{score_by_worth, score_by_tie, score_of_addition, leads_of_swaps, place_same}
use Rattle.rm_valuation_laws.proofs.Decision.{addition_over_swap, swap_over_held, held_over_swap}
use Rattle.rm_valuation_laws.proofs.Change.{worth_added, worth_swapped, added_infeasible, swap_feasible}
use Rattle.rm_valuation_laws.proofs.Walk.{walk_best}
use Rattle.rm_valuation_laws.proofs.Order.{inside_tests, comparable}
use Rattle.rm_valuation_laws.proofs.Offers.{IsSet-swapped}
use Rattle.rm_board.specs.TieKeys.{tie_key}
use Rattle.rm_board.proofs.TieKeys.{key_order}
use Rattle.rm_exchange.specs.declared.prospects.Swap.{Swap}
use Rattle.rm_exchange.specs.declared.prospects.Prospects.{Prospects}
use Rattle.rm_exchange.specs.Prospects.{swap_change, IsNoGreater, IsBestRated, IsBestRatedOf, AreProspects, IsOwnAddition, IsKeeping, IsSwapping, IsRefusing}

-- a set is no better where its score is no higher, if it is feasible at all
not_better : (v : Values) (S D : List ℕ) → v.feasible D ≡ true → (v.feasible S ≡ true → score v S ≤ℤ score v D) → is_better v S D ≡ false
not_better v S D fD le =
    ⊎_elim
    (λ fS. ⊎_elim
    (λ t. absurd (let up = higher_from_better v S D fD t in let low = le fS in omega (arith, ints)))
    (λ f. f)
    (cases_Bool (is_better v S D)))
    (λ fS. infeasible_not_better v S D fS)
    (cases_Bool (v.feasible S))

-- an offer to a set that is its own best subset, and its prospects
pub record IsOffer (b : Board) (H : List ℕ) (x : ℕ) (p : Prospects) : Type 0 where
  pub concave : IsConcaveBoard b
  pub leaves : length b.leaves ≡ contract_count b
  pub set : IsSetBelow (length b.leaves) H
  pub contract : x < length b.leaves
  pub new : has x H ≡ false
  pub own : IsBest (values_of b) H H
  pub prospects : AreProspects b H x p

-- where the walk ends, as the laws of one offer have it
ends : (b : Board) (H : List ℕ) (x : ℕ) (p : Prospects) → (o : IsOffer b H x p) → EndsWalk b H x o.prospects.node
ends b H x p o = (o.prospects.has_x, at p.addition o.prospects.addition)
  where
    at : (a : Option ℤ) → IsOwnAddition b H x o.prospects.node a → IsFull b H (node_at b o.prospects.node)
        ⊎ ((is_feasible b (with_one H x) ≡ true) × ((l : ℕ) → l < length b.nodes → test_at b l x ≡ true → IsInside (test_at b l) (test_at b o.prospects.node)))
    at None full = inl full
    at (Some change) open_end = inr (open_end.0, open_end.2)

answer : (b : Board) (H : List ℕ) (x : ℕ) (p : Prospects) (D : List ℕ) → (o : IsOffer b H x p) → IsWalkAnswer b H x o.prospects.node D → IsBest (values_of b) (with_one H x) D
answer b H x p D o a = walk_best b H x o.prospects.node D o.concave o.set o.contract o.new o.own o.prospects.below (ends b H x p o) a

-- the worth with a swap
worth_with : (b : Board) (H : List ℕ) (x : ℕ) (p : Prospects) → IsOffer b H x p → (z : ℕ) → IsIn z H → is_feasible b (swapped H x z) ≡ true → worth b (swapped H x z) ≡ worth b H +ℤ swap_change b H x z
worth_with b H x p o z inz f = let e = worth_swapped b H z x o.set.ascending inz o.new o.own.feasible f in omega (arith, ints)

-- the addition, if it is feasible, has its change
addition_is : (b : Board) (H : List ℕ) (x : ℕ) (p : Prospects) → (o : IsOffer b H x p) → is_feasible b (with_one H x) ≡ true → (change : ℤ) × (p.addition ≡ Some change) × (worth b (with_one H x) ≡ worth b H +ℤ change)
addition_is b H x p o f = at p.addition refl
  where
    at : (a : Option ℤ) → p.addition ≡ a → (change : ℤ) × (p.addition ≡ Some change) × (worth b (with_one H x) ≡ worth b H +ℤ change)
    at None e = absurd (let full = subst (IsOwnAddition b H x o.prospects.node) e o.prospects.addition in not_both (is_feasible b (with_one H x)) f (added_infeasible b H x o.prospects.node o.new o.prospects.below o.prospects.has_x full))
    at (Some change) e = let a = subst (IsOwnAddition b H x o.prospects.node) e o.prospects.addition in (change, e, worth_added b H x o.new f ∙ ap (λ w. worth b H +ℤ w) (sym a.1))

-- each swap within the node is no better than the best one
best_swap : (b : Board) (H : List ℕ) (x : ℕ) (p : Prospects) → (o : IsOffer b H x p) → (z : ℕ) → IsIn z H → test_at b o.prospects.node z ≡ true → (s : Swap) × (p.swap ≡ Some s) × IsBestRated b H x (test_at b o.prospects.node) s
best_swap b H x p o z inz t = at p.swap refl o.prospects.swap
  where
    at : (s : Option Swap) → p.swap ≡ s → IsBestRatedOf b H x (test_at b o.prospects.node) s → (r : Swap) × (p.swap ≡ Some r) × IsBestRated b H x (test_at b o.prospects.node) r
    at None e none = absurd (not_both (test_at b o.prospects.node z) t (none z inz))
    at (Some s) e best = (s, e, best)

the_swap : (b : Board) (H : List ℕ) (x : ℕ) (p : Prospects) → (o : IsOffer b H x p) → (s : Swap) → p.swap ≡ Some s → IsBestRated b H x (test_at b o.prospects.node) s
the_swap b H x p o s e = subst (IsBestRatedOf b H x (test_at b o.prospects.node)) e o.prospects.swap

in_ties : (b : Board) (H : List ℕ) (x : ℕ) (p : Prospects) → IsOffer b H x p → (z : ℕ) → z < length b.leaves → IsIn z b.ties
in_ties b H x p o z lt = (o.concave.ties_all z).1 lt

-- of two contracts, the one of no greater tie key stands first
earlier : (b : Board) (H : List ℕ) (x : ℕ) (p : Prospects) → IsOffer b H x p → (y z : ℕ) → y < length b.leaves → z < length b.leaves → y ≢ z → tie_key b y ≤ tie_key b z → place b.ties y < place b.ties z
earlier b H x p o y z ly lz ne le =
    let all = o.leaves in
    let differ : place b.ties y ≢ place b.ties z = λ e. ne (place_same b.ties y z (in_ties b H x p o y ly) e) in
    let order = key_order b (λ w lw. in_ties b H x p o w (omega (arith, all, lw))) z y (omega (arith, all, lz)) (omega (arith, all, ly)) in
    ⊎_elim
    (λ lt. lt)
    (λ ge. absurd (let less = order.1 (omega (arith, ge, differ)) in omega (arith, less, le)))
    (cases_lt (place b.ties y) (place b.ties z))

-- the best swap is feasible
fits : (b : Board) (H : List ℕ) (x : ℕ) (p : Prospects) → (o : IsOffer b H x p) → (z : ℕ) → IsIn z H → test_at b o.prospects.node z ≡ true → is_feasible b (swapped H x z) ≡ true
fits b H x p o z inz t =
    let a = o.prospects.node in
    swap_feasible b H z x o.set.ascending inz o.new o.own.feasible (λ k lk kx full.
    ⊎_elim
    (λ e. subst (λ w. test_at b w z ≡ true) (sym e) t)
    (λ rest. ⊎_elim
    (λ inside. absurd (o.prospects.free k lk kx inside full))
    (λ outside. inside_tests b a k outside z t)
    rest)
    (comparable b o.concave k a x lk o.prospects.below kx o.prospects.has_x))

some_same : {A : Type 0} (s t : A) → Some s ≡ Some t → s ≡ t
some_same s t e = cc

-- ---- the three answers

pub kept_best : (b : Board) (H : List ℕ) (x : ℕ) (p : Prospects) → (o : IsOffer b H x p) → IsKeeping p → IsBest (values_of b) (with_one H x) (with_one H x)
kept_best b H x p o k =
    let v = values_of b in
    let A = with_one H x in
    let change = k.0 in
    let add = subst (IsOwnAddition b H x o.prospects.node) k.1 o.prospects.addition in
    let w : worth b A ≡ worth b H +ℤ change = worth_added b H x o.new add.0 ∙ ap (λ g. worth b H +ℤ g) (sym add.1) in
    let up = k.2 in
    answer b H x p A o (record {
      set = IsSet-with_one H x o.set.ascending;
      within = within_refl A;
      feasible = add.0;
      not_refused = not_better v H A add.0 (λ f. let s = score_of_addition v H x o.new (in_ties b H x p o x o.contract) (omega (arith, ints)) in omega (arith, ints));
      not_added = not_better v A A add.0 (λ f. omega (arith, ints));
      not_swapped = λ z inz t. not_better v (swapped H x z) A add.0 (λ f.
          let s = best_swap b H x p o z inz t in
          let le = k.3 s.0 s.1 in
          let ws = worth_with b H x p o z inz f in
          let most = s.2.best z inz t in
          let less = addition_over_swap v H z x o.set.ascending inz o.new (in_ties b H x p o z (o.set.below z inz)) (at_most (worth b H) (worth b A) (worth b (swapped H x z)) (swap_change b H x z) s.0.change change (tie_key b z) s.0.tie w ws most le) in
          omega (arith, ints));
    })
  where
    at_most : (h a s c d g : ℤ) (t u : ℕ) → a ≡ h +ℤ g → s ≡ h +ℤ c → IsNoGreater c t d u → d ≤ℤ g → s ≤ℤ a
    at_most h a s c d g t u e f (inl lt) le = omega (arith, ints)
    at_most h a s c d g t u e f (inr tie) le = let same = tie.0 in omega (arith, ints)

-- of two swaps the one that is no better has no higher score
swap_scores : (b : Board) (H : List ℕ) (x : ℕ) (p : Prospects) → IsOffer b H x p → (z y : ℕ) → IsIn z H → IsIn y H → (c d : ℤ) → worth b (swapped H x z) ≡ worth b H +ℤ c → worth b (swapped H x y) ≡ worth b H +ℤ d → IsNoGreater c (tie_key b z) d (tie_key b y) → score (values_of b) (swapped H x z) ≤ℤ score (values_of b) (swapped H x y)
swap_scores b H x p o z y inz iny c d wz wy (inl lt) = let s = score_by_worth (values_of b) (swapped H x y) (swapped H x z) (omega (arith, ints)) in omega (arith, ints)
swap_scores b H x p o z y inz iny c d wz wy (inr tie) =
    let same = tie.0 in
    let le = tie.1 in
    ⊎_elim
    (λ e. subst (λ w. score (values_of b) (swapped H x w) ≤ℤ score (values_of b) (swapped H x y)) (sym e) (omega (arith, ints)))
    (λ ne.
    let lt = earlier b H x p o z y (o.set.below z inz) (o.set.below y iny) ne le in
    let s = score_by_tie (values_of b) (swapped H x y) (swapped H x z) (omega (arith, ints)) (leads_of_swaps b.ties H x y z o.new iny inz (λ e. ne (sym e)) ∙ lt-ltb (place b.ties z) (place b.ties y) lt) in
    omega (arith, ints))
    (cases_eq z y)

pub swapped_best : (b : Board) (H : List ℕ) (x : ℕ) (p : Prospects) → (o : IsOffer b H x p) → (tie : ℕ) → tie ≡ tie_key b x → (z : ℕ) → IsSwapping p tie z → IsIn z H × IsBest (values_of b) (with_one H x) (swapped H x z)
swapped_best b H x p o tie tied z sw =
    let v = values_of b in
    let s = sw.0 in
    let best = the_swap b H x p o s sw.1 in
    let inz : IsIn z H = subst (λ w. IsIn w H) (sym sw.2) best.held in
    let t : test_at b o.prospects.node z ≡ true = ap (test_at b o.prospects.node) sw.2 ∙ best.passes in
    let D = swapped H x z in
    let fD = fits b H x p o z inz t in
    let change : swap_change b H x z ≡ s.change = ap (swap_change b H x) sw.2 ∙ sym best.change in
    let wD : worth b D ≡ worth b H +ℤ s.change = worth_with b H x p o z inz fD ∙ ap (λ c. worth b H +ℤ c) change in
    let key_is : s.tie ≡ tie_key b z = best.tie ∙ ap (tie_key b) (sym sw.2) in (
      inz,
      answer b H x p D o (record {
        set = IsSet-swapped H z x o.set.ascending;
        within = swapped_within H (with_one H x) z x (within-with_one H x) (IsIn-with_one_new H x);
        feasible = fD;
        not_refused = not_better v H D fD (λ f. let lt = swap_over_held v H z x inz o.new (above (worth b H) (worth b D) s.change tie s.tie (place b.ties x) (place b.ties z) wD (λ lt. earlier b H x p o x z o.contract (o.set.below z inz) (λ e. apart H z x inz o.new (sym e)) (omega (arith, tied, key_is, lt))) sw.3) in omega (arith, ints));
        not_added = not_better v (with_one H x) D fD (λ f.
            let add = addition_is b H x p o f in
            let lt = score_by_worth v D (with_one H x) (below (worth b H) (worth b D) (worth b (with_one H x)) s.change add.0 tie s.tie wD add.2 sw.3 (sw.4 add.0 add.1)) in
            omega (arith, ints));
        not_swapped = λ y iny ty. not_better v (swapped H x y) D fD (λ f.
            swap_scores b H x p o y z iny inz (swap_change b H x y) s.change (worth_with b H x p o y iny f) wD
            (subst (λ w. IsNoGreater (swap_change b H x y) (tie_key b y) s.change w) key_is (best.best y iny ty)));
      }),
    )
  where
    above : (h d c : ℤ) (t u v w : ℕ) → d ≡ h +ℤ c → (t < u → v < w) → (pos 0 <ℤ c) ⊎ ((c ≡ pos 0) × (t < u)) → (h <ℤ d) ⊎ ((d ≡ h) × (v < w))
    above h d c t u v w e first (inl lt) = inl (omega (arith, ints))
    above h d c t u v w e first (inr tie) = let same = tie.0 in inr (omega (arith, ints), first tie.1)

    below : (h d a c g : ℤ) (t u : ℕ) → d ≡ h +ℤ c → a ≡ h +ℤ g → (pos 0 <ℤ c) ⊎ ((c ≡ pos 0) × (t < u)) → (g <ℤ pos 0) ⊎ (g <ℤ c) → a <ℤ d
    below h d a c g t u e f (inl p1) (inl q) = omega (arith, ints)
    below h d a c g t u e f (inl p1) (inr q) = omega (arith, ints)
    below h d a c g t u e f (inr p1) (inl q) = let same = p1.0 in omega (arith, ints)
    below h d a c g t u e f (inr p1) (inr q) = omega (arith, ints)

pub refused_best : (b : Board) (H : List ℕ) (x : ℕ) (p : Prospects) → (o : IsOffer b H x p) → (tie : ℕ) → tie ≡ tie_key b x → IsRefusing p tie → IsBest (values_of b) (with_one H x) H
refused_best b H x p o tie tied r =
    let v = values_of b in
    let fH = o.own.feasible in
    answer b H x p H o (record {
      set = o.set.ascending;
      within = within-with_one H x;
      feasible = fH;
      not_refused = not_better v H H fH (λ f. omega (arith, ints));
      not_added = not_better v (with_one H x) H fH (λ f.
          let add = addition_is b H x p o f in
          let less = r.0 add.0 add.1 in
          let w = add.2 in
          let lt = score_by_worth v H (with_one H x) (omega (arith, ints)) in
          omega (arith, ints));
      not_swapped = λ z inz t. not_better v (swapped H x z) H fH (λ f.
          let s = best_swap b H x p o z inz t in
          let most = s.2.best z inz t in
          let w = worth_with b H x p o z inz f in
          let first : tie_key b z ≤ tie → place b.ties z < place b.ties x = λ le. earlier b H x p o z x (o.set.below z inz) o.contract (apart H z x inz o.new) (omega (arith, tied, le)) in
          let lt = held_over_swap v H z x inz o.new (under (worth b H) (worth b (swapped H x z)) (swap_change b H x z) s.0.change (tie_key b z) s.0.tie tie (place b.ties z) (place b.ties x) w first most (r.1 s.0 s.1)) in
          omega (arith, ints));
    })
  where
    under : (h d c m : ℤ) (t u v y z : ℕ) → d ≡ h +ℤ c → (t ≤ v → y < z) → IsNoGreater c t m u → (m <ℤ pos 0) ⊎ ((m ≡ pos 0) × (u ≤ v)) → (d <ℤ h) ⊎ ((h ≡ d) × (y < z))
    under h d c m t u v y z e first (inl lt) (inl q) = inl (omega (arith, ints))
    under h d c m t u v y z e first (inl lt) (inr q) = let same = q.0 in inl (omega (arith, ints))
    under h d c m t u v y z e first (inr tie) (inl q) = let same = tie.0 in inl (omega (arith, ints))
    under h d c m t u v y z e first (inr tie) (inr q) = let s = tie.0 in let l = tie.1 in let s2 = q.0 in let l2 = q.1 in inr (omega (arith, ints), first (omega arith))
