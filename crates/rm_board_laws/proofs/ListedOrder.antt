-- A listed tie order without a fault is a strict order that agrees with the rank lists.
use Rattle.std.proofs.Common.{◌≡◌, ◌↔◌, ℕ, zero, suc, ◌+◌, ◌<◌, ◌≤◌, Bool, true, false, not, ◌&&◌, List, [], ◌∷◌, length, get_or, take, eqb, ltb, Option, Some, None, refl, sym, ap, ◌∙◌, subst, subst₂, ⊎_elim, arith, eq-eqb, true≢false}
use Rattle.std.specs.Prelude.{flat_map, filter_map, find, is_none, position, option_and_then}
use Rattle.std.specs.List.{IsDistinct, enumerate_from, list_any, cons_option}
use Rattle.std.specs.Option.{option_map_or}
use Rattle.std.proofs.lemmas.Bool.{cases_order, and_from, not-false, lt-ltb, eqb-false}
use Rattle.std.proofs.lemmas.List.FromFn.{length-enumerate_from, get_or-enumerate_from}
use Rattle.rm_sets.specs.Sets.{has, IsIn}
use Rattle.rm_sets.proofs.Members.{place_from_IsIn}
use Rattle.rm_sets.proofs.Once.{distinct_from_pairs}
use Rattle.rm_base.specs.Checks.{check, first_of, checks_of}
use Rattle.rm_market.specs.declared.ListedPair.{ListedPair}
use Rattle.rm_base.proofs.CheckLemmas.{checks-by-place}
use Rattle.rm_market.specs.declared.BoardFault.TheVariants.{AgainstRank}
use Rattle.rm_market.specs.Board.{pairs_of, hospital_of_number, stands_before, IsTieOrder}
use Rattle.rm_market.specs.Ties.{contract_of_names, contract_of_pair, listed_order, listed_fault, element_checks, named_checks, contract_checks, is_named_by, is_at_hospital_of, is_ranked_below, missing}
use Rattle.rm_board_laws.proofs.Searches.{none_cons, none_append, none_flat, check_none, option_map_none, some_from, find_nowhere, position_nowhere, position_bound, any_at, last_passing}
use Rattle.rm_board_laws.proofs.TieOrders.{before_at}

pub no_fault_at : {A : Type 0} (L : List (Option A)) → first_of L ≡ None → (k : ℕ) → k < length L → get_or L k None ≡ None
no_fault_at [] e k lt = refl
no_fault_at (c ∷ L) e zero lt = (none_cons c L e).0
no_fault_at (c ∷ L) e (suc k) lt = no_fault_at L (none_cons c L e).1 k (omega arith)

-- where each has a number, the numbers stand in the same places
pub numbers_of : {A : Type 0} (F : A → Option ℕ) (L : List A) (d : A) → ((k : ℕ) → k < length L → is_none (F (get_or L k d)) ≡ false) →
    (length (filter_map F L) ≡ length L) × ((k : ℕ) → k < length L → F (get_or L k d) ≡ Some (get_or (filter_map F L) k 0))
numbers_of F [] d h = (refl, λ k lt. absurd (omega arith))
numbers_of F (a ∷ L) d h =
    let first = some_from (F a) (h zero (omega arith)) in
    let rest = numbers_of F L d (λ k lt. h (suc k) (omega arith)) in
    let e : filter_map F (a ∷ L) ≡ first.0 ∷ filter_map F L = here (F a) first.0 first.1 in (
      ap length e ∙ ap suc rest.0,
      λ k lt. subst (λ M. F (get_or (a ∷ L) k d) ≡ Some (get_or M k 0)) (sym e) (at first.0 first.1 rest.1 k lt),
    )
  where
    here : (o : Option ℕ) (n : ℕ) → o ≡ Some n → cons_option o (filter_map F L) ≡ n ∷ filter_map F L
    here None n e = absurd (no n e)
      where
        no : (m : ℕ) → None ≡ Some m → ⊥
        no m g = cc
    here (Some m) n e = let same' : m ≡ n = cc in ap (λ z. z ∷ filter_map F L) same'

    at : (n : ℕ) → F a ≡ Some n → ((k : ℕ) → k < length L → F (get_or L k d) ≡ Some (get_or (filter_map F L) k 0)) → (k : ℕ) → k < length (a ∷ L) → F (get_or (a ∷ L) k d) ≡ Some (get_or (n ∷ filter_map F L) k 0)
    at n e rest zero lt = e
    at n e rest (suc k) lt = rest k (omega arith)

pub taken : {A : Type 0} (L : List A) (j i : ℕ) → i < j → j ≤ length L → i < length (take j L)
taken L zero i lt ll = absurd (omega arith)
taken [] (suc j) i lt ll = absurd (omega arith)
taken (a ∷ L) (suc j) zero lt ll = omega arith
taken (a ∷ L) (suc j) (suc i) lt ll = let t = taken L j i (omega arith) (omega arith) in omega arith

pub take_at : {A : Type 0} (L : List A) (d : A) (j i : ℕ) → i < j → get_or (take j L) i d ≡ get_or L i d
take_at L d zero i lt = absurd (omega arith)
take_at [] d (suc j) i lt = refl
take_at (a ∷ L) d (suc j) zero lt = refl
take_at (a ∷ L) d (suc j) (suc i) lt = take_at L d j i (omega arith)

abbrev no_pair : ListedPair
no_pair = record { doctor = None; hospital = None }

-- where its checks find no fault, an element names a contract
named : (ranks : List (List ℕ)) (before : List ListedPair) (o : Option ℕ) → first_of (named_checks ranks before o) ≡ None → is_none o ≡ false
named ranks before None e = absurd (no e)
  where
    no : first_of (named_checks ranks before None) ≡ None → ⊥
    no g = cc
named ranks before (Some x) e = refl

module _ (ranks : List (List ℕ)) (pairs : List ListedPair) (clean : listed_fault ranks pairs ≡ None) where
  elements_clean : first_of (flat_map (λ e. element_checks ranks (take e.0 pairs) e.1) (enumerate_from 0 pairs)) ≡ None
  unfolding listed_fault
  elements_clean = subst (λ L. first_of L ≡ None) (checks-by-place (element_checks ranks) pairs) (none_append (checks_of (element_checks ranks) pairs) (missing ranks pairs ∷ []) clean).0

  nothing_missing : missing ranks pairs ≡ None
  unfolding listed_fault
  nothing_missing = (none_cons (missing ranks pairs) [] (none_append (checks_of (element_checks ranks) pairs) (missing ranks pairs ∷ []) clean).1).0

  element : (k : ℕ) → k < length pairs → first_of (element_checks ranks (take k pairs) (get_or pairs k no_pair)) ≡ None
  element k lt =
      let l = length-enumerate_from 0 pairs in
      let g = none_flat (λ e. element_checks ranks (take e.0 pairs) e.1) (enumerate_from 0 pairs) (0, no_pair) elements_clean k (omega arith) in
      let h = subst (λ e. first_of (element_checks ranks (take e.0 pairs) e.1) ≡ None) (get_or-enumerate_from 0 pairs k (0, no_pair) lt) g in
      let z : 0 + k ≡ k = omega arith in
      subst (λ n. first_of (element_checks ranks (take n pairs) (get_or pairs k no_pair)) ≡ None) z h

  numbers : (length (filter_map (contract_of_pair ranks) pairs) ≡ length pairs) × ((k : ℕ) → k < length pairs → contract_of_pair ranks (get_or pairs k no_pair) ≡ Some (get_or (filter_map (contract_of_pair ranks) pairs) k 0))
  numbers = numbers_of (contract_of_pair ranks) pairs no_pair (λ k lt. named ranks (take k pairs) (contract_of_pair ranks (get_or pairs k no_pair)) (element k lt))

  number_at : (k : ℕ) → k < length pairs → contract_of_pair ranks (get_or pairs k no_pair) ≡ Some (get_or (filter_map (contract_of_pair ranks) pairs) k 0)
  number_at = numbers.1

  known : (k : ℕ) → k < length pairs → first_of (contract_checks ranks (take k pairs) (get_or (filter_map (contract_of_pair ranks) pairs) k 0)) ≡ None
  known k lt = subst (λ o. first_of (named_checks ranks (take k pairs) o) ≡ None) (number_at k lt) (element k lt)

  apart : (i k : ℕ) → i < k → k < length (filter_map (contract_of_pair ranks) pairs) → get_or (filter_map (contract_of_pair ranks) pairs) i 0 ≡ get_or (filter_map (contract_of_pair ranks) pairs) k 0 → ⊥
  apart i k lt ll equal =
      let F = contract_of_pair ranks in
      let long = numbers.0 in
      let lk : k < length pairs = omega arith in
      let li : i < length pairs = omega arith in
      let x = get_or (filter_map F pairs) k 0 in
      let c = no_fault_at (contract_checks ranks (take k pairs) x) (known k lk) 0 (omega arith) in
      let found = option_map_none _ (position (is_named_by ranks x) (take k pairs)) c in
      let off = position_nowhere (is_named_by ranks x) (take k pairs) no_pair found i (taken pairs k i lt (omega arith)) in
      let unlike : eqb (get_or (filter_map F pairs) i 0) x ≡ false =
      sym (ap (λ q. is_named_by ranks x q) (take_at pairs no_pair k i lt) ∙ ap (λ o. option_map_or (λ y. eqb y x) o false) (number_at i li)) ∙ off in
      eqb-false (get_or (filter_map F pairs) i 0) x unlike equal

  once_listed : IsDistinct eqb (filter_map (contract_of_pair ranks) pairs)
  once_listed = distinct_from_pairs (filter_map (contract_of_pair ranks) pairs) apart

  contract_below : (p : ListedPair) (x : ℕ) → contract_of_pair ranks p ≡ Some x → x < length (pairs_of ranks)
  contract_below p x e = by p.doctor p.hospital e
    where
      no : None ≡ Some x → ⊥
      no g = cc

      by : (d h : Option ℕ) → contract_of_names ranks d h ≡ Some x → x < length (pairs_of ranks)
      by None h g = absurd (no g)
      by (Some d) None g = absurd (no g)
      by (Some d) (Some h) g = let b = position_bound (λ q. eqb q.0 d && eqb q.1 h) 0 (pairs_of ranks) x g in omega arith

  all_listed : (x : ℕ) → IsIn x (filter_map (contract_of_pair ranks) pairs) ↔ (x < length (pairs_of ranks))
  unfolding listed_order
  all_listed x = (
    λ i.
        let L = filter_map (contract_of_pair ranks) pairs in
        let p = place_from_IsIn L x 0 i in
        let long = numbers.0 in
        let lk : p.0 < length pairs = (let lt = p.1 in omega arith) in
        contract_below (get_or pairs p.0 no_pair) x (number_at p.0 lk ∙ ap Some p.2),
    λ lt.
        let L = filter_map (contract_of_pair ranks) pairs in
        let found = option_map_none _ (find (λ e. not (has e.0 L)) (enumerate_from 0 (pairs_of ranks))) nothing_missing in
        let l = length-enumerate_from 0 (pairs_of ranks) in
        let off = find_nowhere (λ e. not (has e.0 L)) (enumerate_from 0 (pairs_of ranks)) (0, (0, 0)) found x (omega arith) in
        let at : (get_or (enumerate_from 0 (pairs_of ranks)) x (0, (0, 0))).0 ≡ x = ap (λ e. e.0) (get_or-enumerate_from 0 (pairs_of ranks) x (0, (0, 0)) lt) ∙ (omega arith) in
        not-false (has x L) (ap (λ z. not (has z L)) (sym at) ∙ off),
  )

  -- no element stands after one of a lower rank at its hospital
  not_against : (i j : ℕ) → j < i → i < length pairs → get_or (filter_map (contract_of_pair ranks) pairs) i 0 < get_or (filter_map (contract_of_pair ranks) pairs) j 0 →
      hospital_of_number ranks (get_or (filter_map (contract_of_pair ranks) pairs) i 0) ≡ hospital_of_number ranks (get_or (filter_map (contract_of_pair ranks) pairs) j 0) → ⊥
  not_against i j lt li less same =
      let F = contract_of_pair ranks in
      let before = take i pairs in
      let x = get_or (filter_map F pairs) i 0 in
      let y = get_or (filter_map F pairs) j 0 in
      let none = no_fault_at (contract_checks ranks before x) (known i li) 1 (omega arith) in
      let t = taken pairs i j lt (omega arith) in
      let fj : F (get_or before j no_pair) ≡ Some y = ap F (take_at pairs no_pair i j lt) ∙ number_at j (omega arith) in
      let here : is_at_hospital_of ranks x (get_or before j no_pair) ≡ true =
      ap (λ o. option_map_or (λ z. eqb (hospital_of_number ranks z) (hospital_of_number ranks x)) o false) fj ∙ eq-eqb (hospital_of_number ranks y) (hospital_of_number ranks x) (sym same) in
      let below_x : option_map_or (λ z. ltb x z) (F (get_or before j no_pair)) false ≡ true = ap (λ o. option_map_or (λ z. ltb x z) o false) fj ∙ lt-ltb x y less in
      let against : list_any (is_ranked_below ranks x) before ≡ true =
      any_at (is_ranked_below ranks x) before no_pair j t (and_from (is_at_hospital_of ranks x (get_or before j no_pair)) (option_map_or (λ z. ltb x z) (F (get_or before j no_pair)) false) here below_x) in
      let l = length-enumerate_from 1 before in
      let last = last_passing (λ e. e.0) (λ e. is_at_hospital_of ranks x e.1) (enumerate_from 1 before) (0, no_pair) j (omega arith)
      (ap (λ e. is_at_hospital_of ranks x e.1) (get_or-enumerate_from 1 before j (0, no_pair) t) ∙ here) in
      faulty (length before + 1) last.0 (list_any (is_ranked_below ranks x) before) against
      (sym (ap (λ o. option_and_then (λ f. check (list_any (is_ranked_below ranks x) before) (AgainstRank (length before + 1) f)) o) last.1) ∙ none)
    where
      faulty : (k f : ℕ) (c : Bool) → c ≡ true → check c (AgainstRank k f) ≡ None → ⊥
      faulty k f c e g = true≢false (sym e ∙ check_none c (AgainstRank k f) g)

  pub listed_ties : IsTieOrder ranks (listed_order ranks pairs)
  unfolding listed_order
  listed_ties = record {
    once = once_listed;
    all = all_listed;
    agrees = λ x y lt ly e.
        let L = filter_map (contract_of_pair ranks) pairs in
        let p = place_from_IsIn L x 0 ((all_listed x).1 (omega arith)) in
        let q = place_from_IsIn L y 0 ((all_listed y).1 ly) in
        let long = numbers.0 in
        let lp : p.0 < length pairs = (let a = p.1 in omega arith) in
        let ex : get_or L p.0 0 ≡ x = p.2 in
        let ey : get_or L q.0 0 ≡ y = q.2 in
        ⊎_elim
        (λ same. absurd (let g = ap (λ k. get_or L k 0) same in omega arith))
        (λ other. ⊎_elim
        (λ up. subst₂ (λ a b. stands_before a b L ≡ true) ex ey (before_at L p.0 q.0 once_listed up q.1))
        (λ down. absurd (not_against p.0 q.0 down lp (omega arith)
        (ap (hospital_of_number ranks) ex ∙ (e ∙ ap (hospital_of_number ranks) (sym ey)))))
        other)
        (cases_order p.0 q.0);
  }
