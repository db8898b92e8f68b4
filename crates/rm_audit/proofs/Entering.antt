-- Contracts enter at their nodes, one after another, and at each node the cheapest removal is kept.
use Rattle.std.proofs.Common.{◌≡◌, ◌∙◌, ◌⊎◌, ℕ, zero, suc, ◌+◌, ◌-◌, ◌*◌, ◌<◌, ◌≤◌, List, [], ◌∷◌, ◌++◌, Bool, true, false, cond, length, get_or, set, take, eqb, Option, Some, None, option_map, ℤ, pos, ◌+ℤ◌, ◌-ℤ◌, ◌≤ℤ◌, ◌<ℤ◌, refl, sym, ap, subst, inl, inr, ⊎_elim, arith, eqb-true, eq-eqb, replicate, add-one, length-set, drop, drop-cons, ne_eqb, ◌||◌}
use Rattle.std.proofs.lemmas.Int.{ints}
use Rattle.std.proofs.lemmas.Bool.{cases_Bool, cases_eq, cases_lt}
use Rattle.std.proofs.lemmas.List.{get_or-set_same, get_or-set_other, get_or-replicate, length-replicate, drop_all, take_more}
use Rattle.std.proofs.lemmas.Option.{slice_get-get_or}
use Rattle.rm_sets.specs.Sets.{has, IsIn}
use Rattle.rm_sets.proofs.Sets.{not_both, has-append, IsIn-here, IsIn-later, IsIn-cases}
use Rattle.rm_sets.proofs.Members.{not_in_nil, not_in_from, IsIn-append_left, IsIn-append_right, IsIn-append_cases, IsIn-get_or}
use Rattle.rm_market.specs.Board.{Board, contract_count, leaf_of, node_at, sets_of}
use Rattle.rm_market.specs.Tree.{chain, parent, is_inside}
use Rattle.rm_laminar.specs.Chains.{IsOrderedChain}
use Rattle.rm_laminar.proofs.Parents.{splits}
use Rattle.rm_valuation_laws.proofs.Order.{inside_once}
use Rattle.rm_board.specs.TieKeys.{tie_key}
use Rattle.rm_valuation.specs.Counts.{AreCounts}
use Rattle.rm_valuation.proofs.Counted.{count_of}
use Rattle.rm_valuation_laws.specs.Changes.{test_at, last_step}
use Rattle.rm_exchange.specs.declared.removal.Removal.{Removal as AnyRemoval}
use Rattle.rm_exchange.specs.Entrants.{HasHospitals, inner_cost, inner_size, ComesFirstOf, IsCheapestHeld, IsLeastOf}
use Rattle.rm_exchange.proofs.Chain.{is_chain, node_of, chain_home}
use Rattle.rm_exchange.proofs.CheapestSwap.{chain_node}
use Rattle.rm_exchange.proofs.Homes.{at_home, leaf_test, nothing_inside}
use Rattle.rm_exchange.proofs.Inner.{inner_none, upto_own}
use Rattle.rm_exchange.proofs.Mending.{InRange, comes_first_trans, first_node, off_path}
use Rattle.rm_audit.specs.Placed.{IsWalkable, bare, is_no_dearer, cheaper_of, IsCheapestOf, AreCheapest}
use Rattle.rm_audit.specs.declared.placed.Removal.{Removal}

-- ---- one contract more

-- the removal of z, as it is entered
abbrev pub entered : (ℕ → ℕ) → ℕ → ℤ → AnyRemoval
entered key z loss = record { contract = z; tie = key z; loss = loss }

-- of those so far and of z, the cheaper one is kept
abbrev with_entry : Option AnyRemoval → AnyRemoval → AnyRemoval
with_entry None new = new
with_entry (Some old) new = cond (is_no_dearer (bare old) (bare new)) old new

bare_entry : (old : Option AnyRemoval) (new : AnyRemoval) → cheaper_of (option_map bare old) (bare new) ≡ bare (with_entry old new)
bare_entry None new = refl
bare_entry (Some old) new = by (is_no_dearer (bare old) (bare new))
  where
    by : (t : Bool) → cond t (bare old) (bare new) ≡ bare (cond t old new)
    by true = refl
    by false = refl

dearer : (a c : Removal) → is_no_dearer a c ≡ true → ComesFirstOf a.loss a.tie c.loss c.tie
dearer a c t = grind (arith, ints)

not_dearer : (a c : Removal) → is_no_dearer a c ≡ false → ComesFirstOf c.loss c.tie a.loss a.tie
not_dearer a c t = grind (arith, ints)

module _ (key : ℕ → ℕ) (H : List ℕ) (test : ℕ → Bool) (lost : ℕ → ℤ) (size : ℕ) (z : ℕ) where
  -- z isn't one of the node's contracts
  pub passed_by : test z ≡ false → (r : Option AnyRemoval) → IsLeastOf key H test lost size r → IsLeastOf key (H ++ z ∷ []) test lost size r
  passed_by out None none = λ y i. ⊎_elim (λ old. none y old) (λ new. subst (λ w. test w ≡ false) (sym (one_of y new)) out) (IsIn-append_cases H (z ∷ []) y i)
    where
      one_of : (y : ℕ) → IsIn y (z ∷ []) → y ≡ z
      one_of y i = ⊎_elim (λ e. e) (λ none. absurd (not_in_nil y none)) (IsIn-cases y z [] i)
  passed_by out (Some r) c = record {
    held = IsIn-append_left H (z ∷ []) r.contract c.held;
    passes = c.passes;
    tie = c.tie;
    loss = c.loss;
    least = λ y i t. ⊎_elim (λ old. c.least y old t) (λ new. absurd (not_both (test z) (subst (λ w. test w ≡ true) (one_of y new) t) out)) (IsIn-append_cases H (z ∷ []) y i);
    low = c.low;
    high = c.high;
  }
    where
      one_of : (y : ℕ) → IsIn y (z ∷ []) → y ≡ z
      one_of y i = ⊎_elim (λ e. e) (λ none. absurd (not_in_nil y none)) (IsIn-cases y z [] i)

  module _ (inside : test z ≡ true) (loss : ℤ) (same : loss ≡ lost z) (low : (pos 0 -ℤ pos (size * 1000000000)) ≤ℤ loss) (high : loss ≤ℤ pos (size * 1000000000)) where
    self : ComesFirstOf (lost z) (key z) (lost z) (key z)
    self = inr (refl, omega arith)

    one_of : (y : ℕ) → IsIn y (z ∷ []) → y ≡ z
    one_of y i = ⊎_elim (λ e. e) (λ none. absurd (not_in_nil y none)) (IsIn-cases y z [] i)

    taken : ((y : ℕ) → IsIn y H → test y ≡ true → ComesFirstOf (lost z) (key z) (lost y) (key y)) → IsCheapestHeld key (H ++ z ∷ []) test lost size (entered key z loss)
    taken first = record {
      held = IsIn-append_right H (z ∷ []) z (IsIn-here z []);
      passes = inside;
      tie = refl;
      loss = same;
      least = λ y i t. ⊎_elim (λ old. first y old t) (λ new. subst (λ w. ComesFirstOf (lost z) (key z) (lost w) (key w)) (sym (one_of y new)) self) (IsIn-append_cases H (z ∷ []) y i);
      low = low;
      high = high;
    }

    -- z is one of them
    pub entry_kept : (r : Option AnyRemoval) → IsLeastOf key H test lost size r → IsLeastOf key (H ++ z ∷ []) test lost size (Some (with_entry r (entered key z loss)))
    entry_kept None none = taken (λ y i t. absurd (not_both (test y) t (none y i)))
    entry_kept (Some r) c = by (is_no_dearer (bare r) (bare (entered key z loss))) refl
      where
        told : (a : ℤ) (t : ℕ) (m : ℤ) (u : ℕ) (l : ℤ) (k : ℕ) → a ≡ l → t ≡ k → m ≡ lost z → u ≡ key z → ComesFirstOf a t m u → ComesFirstOf l k (lost z) (key z)
        told a t m u l k e f g h (inl lt) = inl (omega (arith, ints))
        told a t m u l k e f g h (inr q) = let is = q.0 in let le = q.1 in inr (omega (arith, ints), omega arith)

        back : (a : ℤ) (t : ℕ) (m : ℤ) (u : ℕ) (l : ℤ) (k : ℕ) → a ≡ l → t ≡ k → m ≡ lost z → u ≡ key z → ComesFirstOf m u a t → ComesFirstOf (lost z) (key z) l k
        back a t m u l k e f g h (inl lt) = inl (omega (arith, ints))
        back a t m u l k e f g h (inr q) = let is = q.0 in let le = q.1 in inr (omega (arith, ints), omega arith)

        by : (b : Bool) → is_no_dearer (bare r) (bare (entered key z loss)) ≡ b → IsCheapestHeld key (H ++ z ∷ []) test lost size (cond b r (entered key z loss))
        by true e =
            let first = told r.loss r.tie loss (key z) (lost r.contract) (key r.contract) c.loss c.tie same refl (dearer (bare r) (bare (entered key z loss)) e) in
            record {
              held = IsIn-append_left H (z ∷ []) r.contract c.held;
              passes = c.passes;
              tie = c.tie;
              loss = c.loss;
              least = λ y i t. ⊎_elim (λ old. c.least y old t) (λ new. subst (λ w. ComesFirstOf (lost r.contract) (key r.contract) (lost w) (key w)) (sym (one_of y new)) first) (IsIn-append_cases H (z ∷ []) y i);
              low = c.low;
              high = c.high;
            }
        by false e =
            let first = back r.loss r.tie loss (key z) (lost r.contract) (key r.contract) c.loss c.tie same refl (not_dearer (bare r) (bare (entered key z loss)) e) in
            taken (λ y i t. comes_first_trans (lost z) (key z) (lost r.contract) (key r.contract) (lost y) (key y) first (c.least y i t))

-- ---- along the nodes of z

-- at the nodes from the i-th on z isn't entered yet
pub IsEntered : Board → List ℕ → List ℕ → ℕ → List ℕ → ℕ → List (Option Removal) → Type 0
IsEntered b S before z nodes i cheapest =
    (k : ℕ) → k < length b.nodes → IsCheapestOf b S (cond (has k (drop i nodes)) before (before ++ z ∷ [])) k (get_or cheapest k None)

-- what is lost without z inside the i-th node, if there is one
pub IsLostSoFar : Board → List ℕ → ℕ → List ℕ → ℕ → ℤ → Type 0
IsLostSoFar b S z nodes i loss = i < length nodes → (loss ≡ inner_cost b S (get_or nodes i 0) z) × (i ≤ inner_size b (get_or nodes i 0))

module _ (b : Board) (plan : HasHospitals b) (z : ℕ) (lz : z < contract_count b) (nodes : List ℕ) (is : nodes ≡ chain (sets_of b) (leaf_of b z)) where
  ch : IsOrderedChain (sets_of b) (leaf_of b z) nodes
  ch = is_chain b plan z nodes is

  -- at first nothing is lost
  pub lost_start : (S : List ℕ) → IsLostSoFar b S z nodes 0 (pos 0)
  unfolding IsLostSoFar
  lost_start S lt =
      let h : get_or nodes 0 0 ≡ leaf_of b z = some_same (sym (slice_get-get_or nodes 0 0 lt) ∙ first_node b plan z lz nodes ch) in
      let none : inner_cost b S (leaf_of b z) z ≡ pos 0 = inner_none b (λ k. last_step b S (node_at b k)) (leaf_of b z) z (λ k lk t. nothing_inside b plan z k lz lk t) in
      (sym none ∙ ap (λ a. inner_cost b S a z) (sym h), omega arith)
    where
      some_same : {A : Type 0} {x y : A} → Some x ≡ Some y → x ≡ y
      some_same e = cc

  pub lost_more : (S : List ℕ) (i : ℕ) (loss step : ℤ) → i < length nodes → IsLostSoFar b S z nodes i loss → step ≡ last_step b S (node_at b (get_or nodes i 0)) → IsLostSoFar b S z nodes (i + 1) (loss +ℤ step)
  unfolding IsLostSoFar
  lost_more S i loss step lt so e more =
      let c = get_or nodes i 0 in
      let a = get_or nodes (i + 1) 0 in
      let here = chain_node b plan z nodes ch i lt in
      let up : parent (sets_of b) (get_or nodes (i + 1 - 1) 0) ≡ Some a = chain_home b plan z nodes (i + 1) is (omega arith) more in
      let same : i + 1 - 1 ≡ i = omega arith in
      let home = at_home b plan c a z here.0 (subst (λ j. parent (sets_of b) (get_or nodes j 0) ≡ Some a) same up) here.1 in
      let was = so lt in
      let size = home.smaller in
      let le = was.1 in
      (ap (λ l. l +ℤ step) was.0 ∙ (ap (λ s. inner_cost b S c z +ℤ s) e ∙ (sym (upto_own b S c z here.0 here.1) ∙ sym (home.lost S))), omega arith)

  -- before the first node
  pub entered_start : (S before : List ℕ) (cheapest : List (Option Removal)) → AreCheapest b S before cheapest → IsEntered b S before z nodes 0 cheapest
  unfolding IsEntered
  entered_start S before cheapest table k lk = by (has k nodes) refl
    where
      by : (t : Bool) → has k nodes ≡ t → IsCheapestOf b S (cond t before (before ++ z ∷ [])) k (get_or cheapest k None)
      by true e = table.each k lk
      by false e =
          let old = table.each k lk in
          (old.0, old.1, passed_by (tie_key b) before (test_at b k) (inner_cost b S k) (inner_size b k) z (off_path b z nodes ch k lk e) old.0 old.2)

  -- past the last one
  pub entered_end : (S before : List ℕ) (i : ℕ) (cheapest : List (Option Removal)) → length nodes ≤ i → length cheapest ≡ length b.nodes → IsEntered b S before z nodes i cheapest → AreCheapest b S (before ++ z ∷ []) cheapest
  unfolding IsEntered
  entered_end S before i cheapest past all so = record {
    all = all;
    each = λ k lk. subst (λ L. IsCheapestOf b S (cond (has k L) before (before ++ z ∷ [])) k (get_or cheapest k None)) (drop_all i nodes past) (so k lk);
  }

  -- at the i-th node
  pub entered_more : (S before : List ℕ) (i : ℕ) (cheapest : List (Option Removal)) (old : Option Removal) (loss : ℤ) (tie : ℕ) → i < length nodes → length cheapest ≡ length b.nodes → IsEntered b S before z nodes i cheapest
      → IsLostSoFar b S z nodes i loss → (pos 0 -ℤ pos (i * 1000000000)) ≤ℤ loss → loss ≤ℤ pos (i * 1000000000) → tie ≡ tie_key b z → old ≡ get_or cheapest (get_or nodes i 0) None
      → IsEntered b S before z nodes (i + 1) (set cheapest (get_or nodes i 0) (Some (cheaper_of old (record { loss = loss; tie = tie }))))
  unfolding IsEntered IsLostSoFar
  entered_more S before i cheapest old loss tie lt all so lost low high tied read k lk = by (cases_eq k a)
    where
      a : ℕ
      a = get_or nodes i 0

      new : Removal
      new = record { loss = loss; tie = tie }

      here : (a < length b.nodes) × (test_at b a z ≡ true)
      here = chain_node b plan z nodes ch i lt

      front : drop i nodes ≡ a ∷ drop (i + 1) nodes
      front = rw (add-one i) (drop-cons nodes i 0 lt)

      gone : has a (drop (i + 1) nodes) ≡ false
      gone = rw (add-one i) (not_in_from a (drop (suc i) nodes) (λ y. let up = (splits (is_inside (sets_of b)) nodes i ch.ordered lt).after a y in inside_once b a a up up))

      here_kept : IsCheapestOf b S (before ++ z ∷ []) a (Some (cheaper_of old new))
      here_kept =
          let was : IsCheapestOf b S before a (get_or cheapest a None) = subst (λ t. IsCheapestOf b S (cond t before (before ++ z ∷ [])) a (get_or cheapest a None)) (ap (has a) front ∙ IsIn-here a (drop (i + 1) nodes)) (so a here.0) in
          let l = lost lt in
          let size = l.1 in (
            Some (with_entry was.0 (entered (tie_key b) z loss)),
            ap Some (ap (λ o. cheaper_of o new) (read ∙ was.1) ∙ (ap (λ t. cheaper_of (option_map bare was.0) (record { loss = loss; tie = t })) tied ∙ bare_entry was.0 (entered (tie_key b) z loss))),
            entry_kept (tie_key b) before (test_at b a) (inner_cost b S a) (inner_size b a) z here.1 loss l.0 (omega (arith, ints)) (omega (arith, ints)) was.0 was.2,
          )

      by : (k ≡ a) ⊎ (k ≡ a → ⊥) → IsCheapestOf b S (cond (has k (drop (i + 1) nodes)) before (before ++ z ∷ [])) k (get_or (set cheapest a (Some (cheaper_of old new))) k None)
      by (inl e) =
          let la = here.0 in
          subst (λ j. IsCheapestOf b S (cond (has j (drop (i + 1) nodes)) before (before ++ z ∷ [])) j (get_or (set cheapest a (Some (cheaper_of old new))) j None)) (sym e)
          (rw (gone, get_or-set_same cheapest a (Some (cheaper_of old new)) None (omega arith)) here_kept)
      by (inr ne) =
          let same : has k (drop i nodes) ≡ has k (drop (i + 1) nodes) = ap (has k) front ∙ ap (λ t. t || has k (drop (i + 1) nodes)) (ne_eqb k a ne) in
          rw (get_or-set_other cheapest a k (Some (cheaper_of old new)) None ne) (subst (λ t. IsCheapestOf b S (cond t before (before ++ z ∷ [])) k (get_or cheapest k None)) same (so k lk))

-- ---- all contracts

-- at first none is entered
pub none_entered : (b : Board) (S : List ℕ) (cheapest : List (Option Removal)) → cheapest ≡ replicate (length b.nodes) None → AreCheapest b S [] cheapest
none_entered b S cheapest e = record {
  all = ap length e ∙ length-replicate (length b.nodes) None;
  each = λ k lk. (None, ap (λ L. get_or L k None) e ∙ get_or-replicate (length b.nodes) k None None lk, λ y i. absurd (not_in_nil y i));
}

pub next_taken : (i : ℕ) (S : List ℕ) → i < length S → take (i + 1) S ≡ take i S ++ get_or S i 0 ∷ []
next_taken i S lt = take_more S i 0 lt

-- the step that the last contract of a node takes, told by the counts
pub last_is : (b : Board) (S counts : List ℕ) (a : ℕ) (step : ℤ) → a < length b.nodes → AreCounts b S counts → step ≡ get_or (node_at b a).steps (get_or counts a 0 - 1) (pos 0) → step ≡ last_step b S (node_at b a)
last_is b S counts a step la counted e = e ∙ ap (λ n. get_or (node_at b a).steps (n - 1) (pos 0)) (count_of b S counts counted a la)
