-- The steps of the loops over a group and over groups.
use Rattle.std.proofs.Common.{◌≡◌, ◌∙◌, ℕ, zero, suc, ◌+◌, ◌<◌, ◌≤◌, ◌^◌, List, [], ◌∷◌, ◌++◌, Bool, true, false, cond, ◌||◌, ◌&&◌, eqb, ltb, get_or, set, length, take, replicate, count_by, position, Option, Some, None, Err, All, refl, sym, ap, ⊎_elim, arith}
use Rattle.std.specs.Prelude.{nat_le, option_map}
use Rattle.std.specs.List.{list_any}
use Rattle.std.proofs.lemmas.Bool.{cases_lt, cases_eq, eq-eqb, ne_eqb, lt-ltb, le-ltb}
use Rattle.std.proofs.lemmas.List.{take_more, take_all, length-set, get_or-set_same, get_or-set_other, get_or_past, length-replicate, get_or-replicate, get_or-take}
use Rattle.std.proofs.lemmas.List.Sums.{count_by-le-length}
use Rattle.rm_sets.specs.Sets.{has, IsSetBelow}
use Rattle.rm_sets.proofs.Members.{IsIn-get_or, All-from_members, not_in_nil}
use Rattle.rm_base.specs.Checks.{check, first_of}
use Rattle.rm_base.proofs.CheckLemmas.{AreThrough, through-start, through-more, through-stop, through-end}
use Rattle.rm_market.specs.Board.{is_empty, crosses}
use Rattle.rm_market.specs.Tree.{set_of, tree_sets, put, crossing, group_checks, tree_fault}
use Rattle.rm_market.specs.declared.TreeFault.{TreeFault}
use Rattle.rm_market.specs.declared.TreeFault.TheVariants.{Empty, Crossing, Deep, NoMemory}
use Rattle.rm_laminar.specs.Chains.{IsOrdered, PassesChains, HasChains, AreChains, AreHospitalGroups, AreChanged, is_larger}
use Rattle.rm_laminar.proofs.Laminar.{chain-holds}
use Rattle.rm_laminar.proofs.Trees.{tree-length, set-hospital, tree-are_sets}
use Rattle.rm_laminar.proofs.Counts.{one-count, count-push, deep-same}
use Rattle.rm_laminar.proofs.Grown.{chains-more, single-crosses}
use Rattle.rm_laminar.proofs.Members.{has-more, flip}

-- ---- counting

pub count-step : (hospitals : ℕ) (groups lists : List (List ℕ)) (group : List ℕ) (i a s t : ℕ) → AreChains hospitals groups lists → IsSetBelow hospitals group → i < length group → a < length groups
    → s ≡ count_by (λ h. has h (get_or groups a [])) (take i group) → t ≡ s + count_by (λ k. eqb k (hospitals + a)) (get_or lists (get_or group i 0) [])
    → t ≡ count_by (λ h. has h (get_or groups a [])) (take (i + 1) group)
count-step hospitals groups lists group i a s t c set lt less so_far more =
    let below = set.below (get_or group i 0) (IsIn-get_or group i 0 lt) in
    more ∙ rw (so_far, one-count hospitals groups lists (get_or group i 0) a c below less, take_more group i 0 lt, count-push (λ (h : ℕ). has h (get_or groups a [])) (take i group) (get_or group i 0)) refl

pub shared-room : (shared chain : List ℕ) (n i : ℕ) (p : ℕ → ℕ → Bool) (group : List ℕ) → length shared ≡ n → ((a : ℕ) → a < n → get_or shared a 0 ≡ count_by (p a) (take i group)) → length group ≤ 10000 → length chain ≤ 32
    → (a : ℕ) → get_or shared a 0 + length chain < 2 ^ 32
shared-room shared chain n i p group len counts few shallow a = ⊎_elim
    (λ (less : a < n).
    let most = count_by-le-length (p a) (take i group) in
    let part = take-le i group in
    let is = counts a less in
    omega arith)
    (λ (past : n ≤ a). let none = get_or_past shared a 0 (omega arith) in omega arith)
    (cases_lt a n)
  where
    take-le : (i : ℕ) (xs : List ℕ) → length (take i xs) ≤ length xs
    take-le zero xs = omega arith
    take-le (suc i) [] = omega arith
    take-le (suc i) (x ∷ xs) = let le = take-le i xs in omega arith

pub nodes-below : (hospitals : ℕ) (groups lists : List (List ℕ)) (h : ℕ) → AreChains hospitals groups lists → h < hospitals → All (λ k. k < hospitals + length groups) (get_or lists h [])
nodes-below hospitals groups lists h c lt = All-from_members (λ (k : ℕ). k < hospitals + length groups) (get_or lists h [])
    (λ k i. rw tree-length at (chain-holds (tree_sets hospitals groups) h k (get_or lists h []) (c.chains h lt) i).node)

-- ---- putting

pub none-changed : (change : List ℕ → List ℕ) (old : List (List ℕ)) → AreChanged change old old []
none-changed change old = record { lengths = refl; each = λ h lt. refl }

pub unchanged : (change : List ℕ → List ℕ) (h : ℕ) (old now : List (List ℕ)) (done : List ℕ) → AreChanged change old now done → has h done ≡ false → h < length old → get_or now h [] ≡ get_or old h []
unchanged change h old now done p fresh below = p.each h below ∙ rw fresh refl

pub one-changed : (change : List ℕ → List ℕ) (i : ℕ) (old now new : List (List ℕ)) (asked : List ℕ) → AreChanged change old now (take i asked) → i < length asked → has (get_or asked i 0) (take i asked) ≡ false → get_or asked i 0 < length old
    → new ≡ set now (get_or asked i 0) (change (get_or now (get_or asked i 0) [])) → AreChanged change old new (take (i + 1) asked)
one-changed change i old now new asked p lt fresh below is =
    let h : ℕ = get_or asked i 0 in
    let here = unchanged change h old now (take i asked) p fresh below in
    let done : new ≡ set now h (change (get_or old h [])) = is ∙ rw here refl in
    record {
      lengths = rw (done, length-set) p.lengths;
      each = λ x less. rw (done, has-more asked i x lt) (⊎_elim
          (λ (same : x ≡ h). rw (same, eq-eqb h h refl, get_or-set_same now h (change (get_or old h [])) [] (let e = p.lengths in omega arith)) (or_true (has h (take i asked))))
          (λ apart. rw (get_or-set_other now h x (change (get_or old h [])) [] apart, ne_eqb x h apart) (p.each x less ∙ or_false (has x (take i asked)) x))
          (cases_eq x h));
    }
  where
    or_true : (b : Bool) → change (get_or old (get_or asked i 0) []) ≡ cond (b || true) (change (get_or old (get_or asked i 0) [])) (get_or old (get_or asked i 0) [])
    or_true true = refl
    or_true false = refl

    or_false : (b : Bool) (x : ℕ) → cond b (change (get_or old x [])) (get_or old x []) ≡ cond (b || false) (change (get_or old x [])) (get_or old x [])
    or_false true x = refl
    or_false false x = refl

-- ---- own chains

pub record AreOwn (hospitals h : ℕ) (lists : List (List ℕ)) : Type 0 where
  pub lengths : length lists ≡ hospitals
  pub own : (k : ℕ) → k < h → get_or lists k [] ≡ k ∷ []
  pub rest : (k : ℕ) → h ≤ k → k < hospitals → get_or lists k [] ≡ []

pub none-own : (hospitals : ℕ) (lists : List (List ℕ)) → lists ≡ replicate hospitals [] → AreOwn hospitals 0 lists
none-own hospitals lists e = record {
  lengths = rw e (length-replicate {A = List ℕ} hospitals []);
  own = λ k lt. absurd (omega arith);
  rest = λ k le lt. rw e (get_or-replicate {A = List ℕ} hospitals k [] [] lt);
}

pub one-own : (hospitals h : ℕ) (lists new : List (List ℕ)) → AreOwn hospitals h lists → h < hospitals → new ≡ set lists h (get_or lists h [] ++ h ∷ []) → AreOwn hospitals (h + 1) new
one-own hospitals h lists new o lt e =
    let done : new ≡ set lists h (h ∷ []) = e ∙ rw (o.rest h (omega arith) lt) refl in
    record {
      lengths = rw (done, length-set) o.lengths;
      own = λ k less. rw done (⊎_elim
          (λ (same : k ≡ h). rw (same, get_or-set_same lists h (h ∷ []) [] (let e = o.lengths in omega arith)) refl)
          (λ apart. get_or-set_other lists h k (h ∷ []) [] apart ∙ o.own k (strictly k h less apart))
          (cases_eq k h));
      rest = λ k le less. rw done (get_or-set_other lists h k (h ∷ []) [] (λ same. omega arith) ∙ o.rest k (omega arith) less);
    }
  where
    strictly : (k h : ℕ) → k < h + 1 → (k ≡ h → ⊥) → k < h
    strictly k h less apart = omega arith

-- ---- the checks of a group

pub group-empty : (groups : List (List ℕ)) (group : List ℕ) → is_empty group ≡ true → first_of (group_checks groups group) ≡ Some (Empty (length groups))
group-empty groups group e = rw e refl

pub group-crosses : (groups : List (List ℕ)) (group : List ℕ) (a : ℕ) → is_empty group ≡ false → position (λ earlier. crosses earlier group) groups ≡ Some a
    → first_of (group_checks groups group) ≡ Some (crossing a (set_of groups a) (length groups) group)
group-crosses groups group a e p = rw (e, p) refl

pub group-deep : (groups : List (List ℕ)) (group : List ℕ) → is_empty group ≡ false → position (λ earlier. crosses earlier group) groups ≡ None
    → list_any (λ h. nat_le 32 (count_by (has h) (groups ++ group ∷ []))) group ≡ true → first_of (group_checks groups group) ≡ Some (Deep (length groups))
group-deep groups group e p d = rw (e, p, d) refl

pub group-passes : (groups : List (List ℕ)) (group : List ℕ) → is_empty group ≡ false → position (λ earlier. crosses earlier group) groups ≡ None
    → list_any (λ h. nat_le 32 (count_by (has h) (groups ++ group ∷ []))) group ≡ false → first_of (group_checks groups group) ≡ None
group-passes groups group e p d = rw (e, p, d) refl

-- ---- groups one after another

-- the groups before group b pass, and these are their chains
pub record AreRead (hospitals : ℕ) (groups : List (List ℕ)) (b : ℕ) (lists : List (List ℕ)) : Type 0 where
  pub through : AreThrough group_checks groups 0 b (take b groups)
  pub chains : AreChains hospitals (take b groups) lists

take-length : (groups : List (List ℕ)) (b : ℕ) → length (take b groups) ≤ length groups
take-length groups zero = omega arith
take-length [] (suc b) = omega arith
take-length (g ∷ groups) (suc b) = let le = take-length groups b in omega arith

take-short : (groups : List (List ℕ)) (b : ℕ) → length (take b groups) ≤ b
take-short groups zero = omega arith
take-short [] (suc b) = omega arith
take-short (g ∷ groups) (suc b) = let le = take-short groups b in omega arith

-- the first groups are groups
pub first-groups : (hospitals : ℕ) (groups : List (List ℕ)) (b : ℕ) → AreHospitalGroups hospitals groups → AreHospitalGroups hospitals (take b groups)
first-groups hospitals groups b g =
    let le = take-length groups b in
    let short = take-short groups b in
    record {
      few_hospitals = g.few_hospitals;
      few_groups = (let few = g.few_groups in omega arith);
      sets = λ k lt. rw (get_or-take b groups k [] (omega arith)) (g.sets k (omega arith));
    }

own-each : (hospitals h k : ℕ) → h < hospitals → has k (h ∷ []) ≡ (ltb k (length (tree_sets hospitals [])) && has h (set_of (tree_sets hospitals []) k))
own-each hospitals h k lt = ⊎_elim
    (λ (less : k < hospitals). rw (lt-ltb k (length (tree_sets hospitals [])) (rw tree-length (omega arith)), set-hospital hospitals [] k less, flip k h) refl)
    (λ (le : hospitals ≤ k). rw (le-ltb k (length (tree_sets hospitals [])) (rw tree-length (omega arith)), ne_eqb k h (λ e. omega arith)) refl)
    (cases_lt k hospitals)

own-chains : (hospitals : ℕ) (lists : List (List ℕ)) → length lists ≡ hospitals → ((h : ℕ) → h < hospitals → get_or lists h [] ≡ h ∷ []) → AreChains hospitals [] lists
unfolding IsOrdered
own-chains hospitals lists len own = record {
  laminar = record {
    are_sets = tree-are_sets hospitals [] (λ g lt. absurd (omega arith));
    apart = λ i j less lt. let short = rw tree-length at lt in rw (set-hospital hospitals [] i (omega arith)) (single-crosses i (set_of (tree_sets hospitals []) j));
  };
  filled = λ g lt. absurd (omega arith);
  each_hospital = len;
  chains = λ h lt. rw (own h lt) (record { ordered = ((λ y i. absurd (not_in_nil y i)), tt); each = λ k. own-each hospitals h k lt });
  shallow = λ h lt. rw (own h lt) (omega arith);
  depths = λ h lt. rw (own h lt) refl;
}

pub none-read : (hospitals : ℕ) (groups lists : List (List ℕ)) → length lists ≡ hospitals → ((h : ℕ) → h < hospitals → get_or lists h [] ≡ h ∷ []) → AreRead hospitals groups 0 lists
none-read hospitals groups lists len own = record {
  through = through-start group_checks groups 0;
  chains = own-chains hospitals lists len own;
}

pub group-stops : (hospitals : ℕ) (groups lists : List (List ℕ)) (b : ℕ) (group : List ℕ) (f : TreeFault) → AreRead hospitals groups b lists → b < length groups → group ≡ get_or groups b []
    → first_of (group_checks (take b groups) group) ≡ Some f → tree_fault groups ≡ Some f
unfolding tree_fault
group-stops hospitals groups lists b group f r lt at e = through-stop group_checks groups 0 b (take b groups) group [] f r.through lt at e

three-none : (p q : Bool) (o : Option ℕ) (f : ℕ → TreeFault) (e d : TreeFault) → first_of (check p e ∷ option_map f o ∷ check q d ∷ []) ≡ None → (p ≡ false) × (o ≡ None) × (q ≡ false)
three-none true q o f e d h = cc
three-none false q (Some a) f e d h = cc
three-none false true None f e d h = cc
three-none false false None f e d h = (refl, refl, refl)

passed : (groups : List (List ℕ)) (group : List ℕ) → first_of (group_checks groups group) ≡ None
    → (is_empty group ≡ false) × (position (λ earlier. crosses earlier group) groups ≡ None) × (list_any (λ h. nat_le 32 (count_by (has h) (groups ++ group ∷ []))) group ≡ false)
passed groups group e =
    three-none (is_empty group) (list_any (λ h. nat_le 32 (count_by (has h) (groups ++ group ∷ []))) group) (position (λ earlier. crosses earlier group) groups)
    (λ a. crossing a (set_of groups a) (length groups) group) (Empty (length groups)) (Deep (length groups)) e

pub one-read : (hospitals : ℕ) (groups lists new : List (List ℕ)) (b : ℕ) (group : List ℕ) → AreHospitalGroups hospitals groups → AreRead hospitals groups b lists → b < length groups → group ≡ get_or groups b []
    → first_of (group_checks (take b groups) group) ≡ None
    → AreChanged (put (is_larger (length group) (tree_sets hospitals (take b groups))) (hospitals + length (take b groups))) lists new group
    → AreRead hospitals groups (b + 1) new
one-read hospitals groups lists new b group g r lt at passes p =
    let next : take (b + 1) groups ≡ take b groups ++ group ∷ [] = take_more groups b [] lt ∙ ap (λ (q : List ℕ). take b groups ++ q ∷ []) (sym at) in
    let set : IsSetBelow hospitals group = rw at (g.sets b lt) in
    let both = passed (take b groups) group passes in
    record {
      through = rw next (through-more group_checks groups 0 b (take b groups) group [] r.through lt at passes);
      chains = rw next (chains-more hospitals (take b groups) lists new group (first-groups hospitals groups b g) r.chains set both.0 both.1
          (sym (deep-same hospitals (take b groups) lists group r.chains set) ∙ both.2) p);
    }

pub all-read : (hospitals : ℕ) (groups lists : List (List ℕ)) (b : ℕ) → AreRead hospitals groups b lists → length groups ≤ b → (tree_fault groups ≡ None) × AreChains hospitals groups lists
unfolding tree_fault
all-read hospitals groups lists b r le = ((through-end group_checks groups 0 b (take b groups) r.through le).0, rw (take_all b groups le) at r.chains)

pub passes-stops : (first whole : Option TreeFault) (hospitals : ℕ) (groups : List (List ℕ)) (f : TreeFault) → ((g : TreeFault) → first ≡ Some g → whole ≡ Some g) → PassesChains first (Err f) → HasChains whole hospitals groups (Err f)
passes-stops first whole hospitals groups (Empty b) h e = h (Empty b) e
passes-stops first whole hospitals groups (Crossing a b x y z) h e = h (Crossing a b x y z) e
passes-stops first whole hospitals groups (Deep b) h e = h (Deep b) e
passes-stops first whole hospitals groups NoMemory h e = tt
