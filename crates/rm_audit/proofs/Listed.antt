-- The contracts of listed places are a placement.
use Rattle.std.proofs.Common.{◌≡◌, ◌∙◌, ◌+◌, ◌<◌, ℕ, suc, List, [], ◌∷◌, length, get_or, Option, Some, None, refl, sym, ap, subst, ⊎_elim, arith}
use Rattle.std.proofs.lemmas.Bool.{cases_lt}
use Rattle.std.proofs.lemmas.List.{get_or_past}
use Rattle.std.specs.List.{filter_map, cons_option, enumerate_from}
use Rattle.rm_sets.specs.Sets.{has, IsIn, IsSetBelow}
use Rattle.rm_sets.proofs.Sets.{IsIn-cases, IsSetBelow-all_below, below-all_below}
use Rattle.rm_sets.proofs.Members.{not_in_nil}
use Rattle.rm_market.specs.Board.{Board, contract_count, contract_of}
use Rattle.rm_market.specs.Market.{contract_at, set_of_places, wishes_of}
use Rattle.rm_market.specs.Stable.{IsPlacement, list_of, owner}
use Rattle.rm_market_laws.proofs.Wishes.{are_wishes, listed_long}
use Rattle.rm_case.specs.Case.{CaseData, IsCase, market}
use Rattle.rm_audit.specs.Placement.{AreListedPlaces}

-- x is the contract of the doctor n + d at his place
IsOfPlace : Board → ℕ → List (Option ℕ) → ℕ → Type 0
IsOfPlace b n places x = (d : ℕ) × (h : ℕ) × (get_or places d None ≡ Some h) × (contract_of b (n + d) h ≡ Some x)

-- each contract of places is that of a doctor at his place
of_place : (b : Board) (n : ℕ) (places : List (Option ℕ)) (x : ℕ) → IsIn x (filter_map (λ e. contract_at b e.0 e.1) (enumerate_from n places)) → IsOfPlace b n places x
unfolding IsOfPlace
of_place b n [] x i = absurd (not_in_nil x i)
of_place b n (p ∷ places) x i = by p (contract_at b n p) refl (of_place b (n + 1) places x) i
  where
    later : (q : Option ℕ) → (d : ℕ) × (h : ℕ) × (get_or places d None ≡ Some h) × (contract_of b (n + 1 + d) h ≡ Some x) → (d : ℕ) × (h : ℕ) × (get_or (q ∷ places) d None ≡ Some h) × (contract_of b (n + d) h ≡ Some x)
    later q r = let e : n + 1 + r.0 ≡ n + suc r.0 = omega arith in (suc r.0, r.1, r.2, subst (λ k. contract_of b k r.1 ≡ Some x) e r.3)

    by : (q o : Option ℕ) → contract_at b n q ≡ o → (IsIn x (filter_map (λ e. contract_at b e.0 e.1) (enumerate_from (n + 1) places)) → (d : ℕ) × (h : ℕ) × (get_or places d None ≡ Some h) × (contract_of b (n + 1 + d) h ≡ Some x))
        → IsIn x (cons_option o (filter_map (λ e. contract_at b e.0 e.1) (enumerate_from (n + 1) places))) → (d : ℕ) × (h : ℕ) × (get_or (q ∷ places) d None ≡ Some h) × (contract_of b (n + d) h ≡ Some x)
    by q None e rest j = later q (rest j)
    by None (Some y) e rest j = absurd (cc e)
    by (Some h) (Some y) e rest j =
        ⊎_elim
        (λ same. let z : n + 0 ≡ n = omega arith in (0, h, refl, subst (λ k. contract_of b k h ≡ Some x) (sym z) (e ∙ ap Some (sym same))))
        (λ more. later (Some h) (rest more))
        (IsIn-cases x y (filter_map (λ e. contract_at b e.0 e.1) (enumerate_from (n + 1) places)) j)

-- the same, where the doctor is told
pub placed_at : (b : Board) (n : ℕ) (places : List (Option ℕ)) (x : ℕ) → IsIn x (filter_map (λ e. contract_at b e.0 e.1) (enumerate_from n places)) → (d : ℕ) × (h : ℕ) × (get_or places d None ≡ Some h) × (contract_of b (n + d) h ≡ Some x)
unfolding IsOfPlace
placed_at b n places x i = of_place b n places x i

module _ (c : CaseData) (places : List (Option ℕ)) (ok : IsCase c) (l : AreListedPlaces c places) where
  -- what is told of a contract of the set
  record IsPlaced (x : ℕ) : Type 0 where
    doctor : ℕ
    hospital : ℕ
    place : get_or places doctor None ≡ Some hospital
    contract : contract_of (market c).board doctor hospital ≡ Some x
    listed : IsIn x (list_of (wishes_of (market c)) doctor)
    owned : owner (wishes_of (market c)) x ≡ doctor

  placed : (x : ℕ) → IsIn x (set_of_places (market c) places) → IsPlaced x
  unfolding set_of_places IsOfPlace
  placed x i =
      let b = (market c).board in
      let at = of_place b 0 places x (below-all_below (contract_count b) (λ y. has y (filter_map (λ e. contract_at b e.0 e.1) (enumerate_from 0 places))) x i).1 in
      let d = at.0 in
      let zero_more : 0 + d ≡ d = omega arith in
      let is : contract_of b d at.1 ≡ Some x = subst (λ k. contract_of b k at.1 ≡ Some x) zero_more at.3 in
      let own = l.listed d at.1 at.2 in
      let same : own.0 ≡ x = some_same own.0 x (sym own.1 ∙ is) in
      let inside : IsIn x (list_of (wishes_of (market c)) d) = subst (λ y. IsIn y (list_of (wishes_of (market c)) d)) same own.2 in
      let low : d < length (wishes_of (market c)).listed = ⊎_elim
      (λ lt. let long = listed_long (market c) ok.market in let each = ok.roster.list_each in let all = l.doctors in omega arith)
      (λ ge. absurd (let none = get_or_past places d None ge in let place = at.2 in cc))
      (cases_lt d (length places)) in
      record { doctor = d; hospital = at.1; place = at.2; contract = is; listed = inside; owned = ((are_wishes (market c) ok.market).lists d low).owned x inside }
    where
      some_same : (y z : ℕ) → Some y ≡ Some z → y ≡ z
      some_same y z e = cc

  pub is_placement : IsPlacement (wishes_of (market c)) (set_of_places (market c) places)
  unfolding set_of_places
  is_placement = record {
    set = subst (λ n. IsSetBelow n (set_of_places (market c) places)) (sym (are_wishes (market c) ok.market).contracts)
        (IsSetBelow-all_below (contract_count (market c).board) (λ x. has x (filter_map (λ e. contract_at (market c).board e.0 e.1) (enumerate_from 0 places))));
    once = λ x y i j same.
        let p = placed x i in
        let q = placed y j in
        let d : p.doctor ≡ q.doctor = sym p.owned ∙ (same ∙ q.owned) in
        let place : get_or places q.doctor None ≡ Some p.hospital = subst (λ k. get_or places k None ≡ Some p.hospital) d p.place in
        let h : p.hospital ≡ q.hospital = some_same p.hospital q.hospital (sym place ∙ q.place) in
        let there : contract_of (market c).board q.doctor q.hospital ≡ Some x = subst (λ k. contract_of (market c).board k q.hospital ≡ Some x) d (subst (λ k. contract_of (market c).board p.doctor k ≡ Some x) h p.contract) in
        some_same x y (sym there ∙ q.contract);
    listed = λ x i. let p = placed x i in subst (λ d. IsIn x (list_of (wishes_of (market c)) d)) (sym p.owned) p.listed;
  }
    where
      some_same : (y z : ℕ) → Some y ≡ Some z → y ≡ z
      some_same y z e = cc
