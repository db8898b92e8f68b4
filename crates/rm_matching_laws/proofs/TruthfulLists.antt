-- No doctor gains by another list.
use Rattle.std.proofs.Common.{◌≡◌, ℕ, zero, suc, ◌<◌, ◌≤◌, List, [], ◌∷◌, true, false, length, set, take, eqb, sym, ap, ◌∙◌, subst, ⊎_elim, arith, Option, Some, None, get_or-set_same, get_or-set_other}
use Rattle.std.proofs.lemmas.Bool.{cases_eq, cases_lt, cases_Bool}
use Rattle.std.proofs.lemmas.List.{get_or_past, set-get_or}
use Rattle.std.proofs.lemmas.List.Elements.{All-take, All-from_recursion, recursion_from_All}
use Rattle.std.specs.List.{IsDistinct}
use Rattle.rm_sets.specs.Sets.{has, IsIn}
use Rattle.rm_sets.proofs.Sets.{IsIn-here, IsIn-cases, not_both}
use Rattle.rm_sets.proofs.Members.{not_in_nil}
use Rattle.rm_market.specs.Stable.{Wishes, owner, list_of, at, IsStable, IsOptimal, Takes}
use Rattle.rm_market.specs.Laws.{IsListOf}
use Rattle.rm_matching_laws.proofs.Stable.{AreLawful, stable_from, unblocked, no_better}
use Rattle.rm_matching_laws.proofs.Places.{place, has_place, Prefers, PrefersPlace, Wants, from_take, in_take, place-take, place-lt_take, cases_contract, contract_is, from_placed, placed_from, none_from_not_placed, wants_from, wants_earlier}
use Rattle.rm_matching_laws.proofs.ClosedRuns.{optimal_exists}
use Rattle.rm_matching_laws.proofs.RuralHospitals.{same_placed}

-- ---- a list cut

IsDistinct-take : (k : ℕ) (L : List ℕ) → IsDistinct eqb L → IsDistinct eqb (take k L)
unfolding IsDistinct
IsDistinct-take zero L h = tt
IsDistinct-take (suc k) [] h = tt
IsDistinct-take (suc k) (y ∷ L) h =
    (recursion_from_All (λ z. eqb y z ≡ false) (take k L) (All-take (λ z. eqb y z ≡ false) k L (All-from_recursion (λ z. eqb y z ≡ false) L h.0)), IsDistinct-take k L h.1)

IsDistinct-one : (x : ℕ) → IsDistinct eqb (x ∷ [])
unfolding IsDistinct
IsDistinct-one x = (tt, tt)

-- ---- a replaced list

-- the wishes with the list of d replaced
abbrev pub replaced : Wishes → ℕ → List ℕ → Wishes
replaced D d l = record D { listed = set D.listed d l }

pub prefers_alike : (D E : Wishes) (d x : ℕ) (p : Option ℕ) → list_of D d ≡ list_of E d → Prefers D d x p → Prefers E d x p
prefers_alike D E d x None e h = subst (IsIn x) e h
prefers_alike D E d x (Some y) e h = subst (λ L. IsIn x L × IsIn y L × (place x L < place y L)) e h

module _ (C : List ℕ → List ℕ) (D : Wishes) (m : AreLawful C D) (d : ℕ) (there : d < length D.listed) where
  pub list_here : (l : List ℕ) → list_of (replaced D d l) d ≡ l
  list_here l = get_or-set_same D.listed d l [] there

  pub list_other : (l : List ℕ) (e : ℕ) → (e ≡ d → ⊥) → list_of (replaced D d l) e ≡ list_of D e
  list_other l e ne = get_or-set_other D.listed d e l [] ne

  list_owned : (l : List ℕ) (x : ℕ) → owner D x ≡ d → list_of (replaced D d l) (owner D x) ≡ l
  list_owned l x own = ap (list_of (replaced D d l)) own ∙ list_here l

  pub AreLawful-replaced : (l : List ℕ) → IsListOf D d l → AreLawful C (replaced D d l)
  AreLawful-replaced l h = record {
    choice = m.choice;
    lists = λ e. ⊎_elim
        (λ same. lists_from e l (ap (list_of (replaced D d l)) same ∙ list_here l) (subst (λ k. IsListOf D k l) (sym same) h))
        (λ ne. lists_from e (list_of D e) (list_other l e ne) (m.lists e))
        (cases_eq e d);
  }
    where
      lists_from : (e : ℕ) (L : List ℕ) → list_of (replaced D d l) e ≡ L → IsListOf D e L → IsListOf (replaced D d l) e (list_of (replaced D d l) e)
      lists_from e L same k = record {
        distinct = subst (IsDistinct eqb) (sym same) k.distinct;
        owned = λ x i. k.owned x (subst (IsIn x) same i);
        below = λ x i. k.below x (subst (IsIn x) same i);
      }

  replaced_by_own : replaced D d (list_of D d) ≡ D
  replaced_by_own = let e : set D.listed d (list_of D d) ≡ D.listed = set-get_or D.listed d [] in ap (λ (L : List (List ℕ)). record D { listed = L }) e

  -- stability under another list of d
  stable_moves :
      (l k S : List ℕ) → IsListOf D d k → IsStable (Takes C) (replaced D d l) S → ((x : ℕ) → IsIn x S → owner D x ≡ d → IsIn x k) →
      ((x : ℕ) → owner D x ≡ d → IsIn x k → Wants (replaced D d k) S x → Wants (replaced D d l) S x) → IsStable (Takes C) (replaced D d k) S
  stable_moves l k S h s own moves =
      stable_from C (replaced D d k) (AreLawful-replaced k h) S s.placement.set s.placement.once
      (λ x i. ⊎_elim
      (λ mine. subst (IsIn x) (sym (list_owned k x mine)) (own x i mine))
      (λ ne. subst (IsIn x) (list_other l (owner D x) ne ∙ sym (list_other k (owner D x) ne)) (s.placement.listed x i))
      (cases_eq (owner D x) d))
      s.kept
      (λ x lt w. unblocked C (replaced D d l) S x s lt (⊎_elim
      (λ mine. moves x mine (subst (IsIn x) (list_owned k x mine) w.listed) w)
      (λ ne. let same : list_of (replaced D d k) (owner D x) ≡ list_of (replaced D d l) (owner D x) = list_other k (owner D x) ne ∙ sym (list_other l (owner D x) ne) in
      record {
        listed = subst (IsIn x) same w.listed;
        absent = w.absent;
        prefers = prefers_alike (replaced D d k) (replaced D d l) (owner D x) x (at D (owner D x) S) same w.prefers;
      })
      (cases_eq (owner D x) d)))

prefers_listed : (D : Wishes) (d x : ℕ) (p : Option ℕ) → Prefers D d x p → IsIn x (list_of D d)
prefers_listed D d x None h = h
prefers_listed D d x (Some y) h = h.0

-- what comes no later than a preferred contract is preferred too
prefers_down : (D : Wishes) (d x y : ℕ) (p : Option ℕ) → IsIn y (list_of D d) → place y (list_of D d) ≤ place x (list_of D d) → Prefers D d x p → Prefers D d y p
prefers_down D d x y None i le h = i
prefers_down D d x y (Some z) i le h = let lt : place x (list_of D d) < place z (list_of D d) = h.2 in (i, h.1, omega arith)

only_one : (x g : ℕ) → IsIn x (g ∷ []) → x ≡ g
only_one x g i = ⊎_elim (λ e. e) (λ none. absurd (not_in_nil x none)) (IsIn-cases x g [] i)

module _ (C : List ℕ → List ℕ) (D : Wishes) (m : AreLawful C D) (d : ℕ) (there : d < length D.listed) where
  list_cut : ℕ → List ℕ
  list_cut g = take (suc (place g (list_of D d))) (list_of D d)

  IsListOf-cut : (g : ℕ) → IsListOf D d (list_cut g)
  unfolding list_cut
  IsListOf-cut g = record {
    distinct = IsDistinct-take (suc (place g (list_of D d))) (list_of D d) (m.lists d).distinct;
    owned = λ x i. (m.lists d).owned x (from_take x (suc (place g (list_of D d))) (list_of D d) i);
    below = λ x i. (m.lists d).below x (from_take x (suc (place g (list_of D d))) (list_of D d) i);
  }

  IsListOf-one : (g : ℕ) → owner D g ≡ d → g < (length D.owners) → IsListOf D d (g ∷ [])
  IsListOf-one g own lt = record {
    distinct = IsDistinct-one g;
    owned = λ x i. ap (owner D) (only_one x g i) ∙ own;
    below = λ x i. let e : x ≡ g = only_one x g i in omega arith;
  }

  -- a placement that gives d the contract g is stable where d lists g alone
  stable_alone : (l T : List ℕ) (g : ℕ) → IsStable (Takes C) (replaced D d l) T → IsIn g T → owner D g ≡ d → IsStable (Takes C) (replaced D d (g ∷ [])) T
  stable_alone l T g s i own =
      stable_moves C D m d there l (g ∷ []) T (IsListOf-one g own (s.placement.set.below g i)) s
      (λ x j mine. subst (λ z. IsIn z (g ∷ [])) (s.placement.once g x i j (own ∙ sym mine)) (IsIn-here g []))
      (λ x mine j w. absurd (not_both (has x T) (subst (λ z. IsIn z T) (sym (only_one x g j)) i) w.absent))

  in_cut : (g x : ℕ) → IsIn x (list_of D d) → place x (list_of D d) ≤ place g (list_of D d) → IsIn x (list_cut g)
  unfolding list_cut
  in_cut g x i le = in_take x (suc (place g (list_of D d))) (list_of D d) i (omega arith)

  from_cut : (g x : ℕ) → IsIn x (list_cut g) → IsIn x (list_of D d) × (place x (list_of D d) ≤ place g (list_of D d)) × (place x (list_cut g) ≡ place x (list_of D d))
  unfolding list_cut
  from_cut g x i =
      let lt : place x (list_of D d) < suc (place g (list_of D d)) = place-lt_take x (suc (place g (list_of D d))) (list_of D d) i in
      (from_take x (suc (place g (list_of D d))) (list_of D d) i, omega arith, place-take x (suc (place g (list_of D d))) (list_of D d) i)

  -- where d isn't placed under the cut list, nor is he where he lists g alone
  unplaced_alone : (S : List ℕ) (g : ℕ) → IsIn g (list_of D d) → IsStable (Takes C) (replaced D d (list_cut g)) S → ((x : ℕ) → IsIn x S → owner D x ≡ d → ⊥) → IsStable (Takes C) (replaced D d (g ∷ [])) S
  unplaced_alone S g i s none =
      stable_moves C D m d there (list_cut g) (g ∷ []) S (IsListOf-one g ((m.lists d).owned g i) ((m.lists d).below g i)) s
      (λ x j mine. absurd (none x j mine))
      (λ x mine j w. wants_from (replaced D d (list_cut g)) S s.placement.listed x
      (subst (IsIn x) (sym (list_owned C D m d there (list_cut g) x mine)) (subst (λ z. IsIn z (list_cut g)) (sym (only_one x g j)) (in_cut g g i (omega arith))))
      w.absent
      (λ y k same. absurd (none y k (same ∙ mine))))

  -- a placement that places d under the cut list is stable under the whole list
  stable_whole : (S : List ℕ) (g y : ℕ) → IsStable (Takes C) (replaced D d (list_cut g)) S → IsIn y S → owner D y ≡ d → IsStable (Takes C) D S
  stable_whole S g y s j own =
      subst (λ E. IsStable (Takes C) E S) (replaced_by_own C D m d there)
      (stable_moves C D m d there (list_cut g) (list_of D d) S (m.lists d) s
      (λ x i mine. (from_cut g x (listed x i mine)).0)
      (λ x mine i w.
      let early : place x (list_of D d) < place y (list_of D d) =
      subst (λ L. place x L < place y L) (list_owned C D m d there (list_of D d) x mine)
      (wants_earlier (replaced D d (list_of D d)) S x s.placement.once w y j (own ∙ sym mine)) in
      let spot = from_cut g y (listed y j own) in
      let low : place y (list_of D d) ≤ place g (list_of D d) = spot.1 in
      let there_x : IsIn x (list_cut g) = in_cut g x i (omega arith) in
      wants_from (replaced D d (list_cut g)) S s.placement.listed x
      (subst (IsIn x) (sym (list_owned C D m d there (list_cut g) x mine)) there_x)
      w.absent
      (λ z k same. subst (λ L. place x L < place z L) (sym (list_owned C D m d there (list_cut g) x mine))
      (let e : place z (list_cut g) ≡ place y (list_cut g) = ap (λ a. place a (list_cut g)) (s.placement.once z y k j (same ∙ (mine ∙ sym own))) in
      let p : place y (list_cut g) ≡ place y (list_of D d) = spot.2 in
      let q : place x (list_cut g) ≡ place x (list_of D d) = (from_cut g x there_x).2 in
      omega arith))))
    where
      listed : (x : ℕ) → IsIn x S → owner D x ≡ d → IsIn x (list_cut g)
      listed x i mine = subst (IsIn x) (list_owned C D m d there (list_cut g) x mine) (s.placement.listed x i)

  -- the cut list places d
  cut_places : (l T S : List ℕ) (g : ℕ) → IsStable (Takes C) (replaced D d l) T → IsIn g T → owner D g ≡ d → IsIn g (list_of D d) → IsStable (Takes C) (replaced D d (list_cut g)) S → has_place D d S ≡ true
  cut_places l T S g s i own listed k =
      ⊎_elim
      (λ yes'. yes')
      (λ out. absurd (not_both (has_place D d S)
      (sym (same_placed C (replaced D d (g ∷ [])) (AreLawful-replaced C D m d there (g ∷ []) (IsListOf-one g own (s.placement.set.below g i)))
      T S (stable_alone l T g s i own) (unplaced_alone S g listed k (none_from_not_placed D d S out)) d)
      ∙ placed_from D d T g i own)
      out))
      (cases_Bool (has_place D d S))

  no_gain : (l P T : List ℕ) (g : ℕ) → IsOptimal (Takes C) D P → IsStable (Takes C) (replaced D d l) T → IsIn g T → owner D g ≡ d → Prefers D d g (at D d P) → ⊥
  no_gain l P T g o s i own h =
      let listed : IsIn g (list_of D d) = prefers_listed D d g (at D d P) h in
      let best = optimal_exists C (replaced D d (list_cut g)) (AreLawful-replaced C D m d there (list_cut g) (IsListOf-cut g)) in
      let k : IsStable (Takes C) (replaced D d (list_cut g)) best.0 = best.1.stable in
      let y = from_placed D d best.0 (cut_places l T best.0 g s i own listed k) in
      let spot = from_cut g y.0 (subst (IsIn y.0) (list_owned C D m d there (list_cut g) y.0 y.2) (k.placement.listed y.0 y.1)) in
      no_better C D P o best.0 (stable_whole best.0 g y.0 k y.1 y.2) d
      (subst (λ p. PrefersPlace D d p (at D d P)) (sym (contract_is D d best.0 y.0 k.placement.once y.1 y.2))
      (prefers_down D d g y.0 (at D d P) spot.0 spot.1 h))

-- by no other list does d get a place that he prefers
pub truthful :
    (C : List ℕ → List ℕ) (D : Wishes) → AreLawful C D → (d : ℕ) (l : List ℕ) → IsListOf D d l → (S T : List ℕ) → IsOptimal (Takes C) D S → IsOptimal (Takes C) (replaced D d l) T →
    PrefersPlace D d (at D d T) (at D d S) → ⊥
truthful C D m d l h S T o q better =
    ⊎_elim
    (λ g.
    let p : Prefers D d g.0 (at D d S) = subst (λ z. PrefersPlace D d z (at D d S)) g.3 better in
    ⊎_elim
    (λ there. no_gain C D m d there l S T g.0 o q.stable g.1 g.2 p)
    (λ past. not_in_nil g.0 (subst (IsIn g.0) (get_or_past D.listed d [] past) (prefers_listed D d g.0 (at D d S) p)))
    (cases_lt d (length D.listed)))
    (λ none. subst (λ z. PrefersPlace D d z (at D d S)) none.1 better)
    (cases_contract D d T)
