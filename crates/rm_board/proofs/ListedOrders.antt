-- A listed order, element by element.
use Rattle.std.proofs.Common.{Err, eqb, ◌≡◌, ◌∙◌, sym, ap, refl, ℕ, zero, suc, ◌+◌, ◌<◌, ◌≤◌, List, [], ◌∷◌, ◌++◌, length, map, filter, filter_map, get_or, set, replicate, Bool, true, false, not, ◌&&◌, nat_lt, cond, Option, Some, None, option_map, option_and_then, inl, inr, arith, length-append, length-set, add-zero}
use Rattle.std.specs.Bool.{◌==◌}
use Rattle.std.specs.List.{IsDistinct, list_any, position, position_from, enumerate_from, last_or, find}
use Rattle.std.proofs.lemmas.Bool.{cases_lt, cases_eq}
use Rattle.std.proofs.lemmas.Bool.Decides.{nat_tests}
use Rattle.std.proofs.lemmas.List.{get_or-replicate, get_or_past, length-replicate, get_or_read, append-nil, get_or-set_same, get_or-set_other, map-append}
use Rattle.std.proofs.lemmas.List.Elements.{filter_map-append, filter-append}
use Rattle.std.proofs.lemmas.List.Folds.{list_any-append}
use Rattle.std.proofs.lemmas.Iterator.Adapters.{position_from-zero}
use Rattle.rm_sets.specs.Sets.{has, IsIn}
use Rattle.rm_sets.proofs.Sets.{has-append, IsIn-cases, not_both}
use Rattle.rm_sets.proofs.Members.{not_in_nil, IsIn-append_cases}
use Rattle.rm_sets.proofs.Once.{distinct_append, distinct_none, distinct_one}
use Rattle.std.proofs.lemmas.Map.Steps.{length-le_from_distinct_below}
use Rattle.rm_base.specs.Checks.{first_of, checks_of}
use Rattle.rm_market.specs.declared.ListedPair.{ListedPair}
use Rattle.rm_market.specs.Board.{pairs_of, hospital_of_number, doctor_of_number}
use Rattle.rm_market.specs.Ties.{listed_order, listed_fault, missing, contract_of_pair, is_named_by, is_at_hospital_of, is_ranked_below, last_at_hospital_of, element_checks}
use Rattle.rm_market.specs.declared.BoardFault.{BoardFault}
use Rattle.rm_market.specs.declared.BoardFault.TheVariants.{Unknown, Repeated, AgainstRank, Missing, NoMemory}
use Rattle.rm_board.proofs.Numbering.{none-after, shifted}
use Rattle.rm_board_laws.proofs.Contracts.{pair_in}
use Rattle.rm_base.proofs.CheckLemmas.{first-none, first-some, AreThrough, through-start, through-more, through-stop, through-end}
use Rattle.rm_board.specs.ListedElements.{place_of_number, number_if_any, IsWide, IsListing, ReadsElement, ReadsElements, ReadsOrder}

module _ (ranks : List (List ℕ)) (before : List ListedPair) (order named last greatest : List ℕ) (l : IsListing ranks before order named last greatest) where
  pub against : (p : ListedPair) (x : ℕ) → x < length (pairs_of ranks) → contract_of_pair ranks p ≡ Some x → get_or named x 0 ≡ 0 → x + 1 < get_or greatest (hospital_of_number ranks x) 0 →
      first_of (element_checks ranks before p) ≡ Some (AgainstRank (length order + 1) (get_or last (hospital_of_number ranks x) 0))
  against p x lt names new less =
      let h = hospital_of_number ranks x in
      let place : position (is_named_by ranks x) before ≡ None = rw new at (l.place x lt) in
      let test : list_any (is_ranked_below ranks x) before ≡ true = l.below x lt ∙ grind (arith, nat_tests) in
      rw (names, place, test, l.latest x lt, l.long) (go (get_or last h 0) refl)
    where
      go : (n : ℕ) → get_or last (hospital_of_number ranks x) 0 ≡ n →
          first_of (option_and_then (λ f. Some (AgainstRank (length before + 1) f)) (number_if_any n) ∷ []) ≡ Some (AgainstRank (length before + 1) n)
      go zero is = let none = l.some (hospital_of_number ranks x) is in absurd (omega arith)
      go (suc n) is = refl

  pub against-read : (p : ListedPair) (x h f g t n : ℕ) → x < length (pairs_of ranks) → Some x ≡ contract_of_pair ranks p → IsWide ranks named last greatest → h ≡ hospital_of_number ranks x → h < length ranks →
      f ≡ get_or named x f → f ≡ 0 → g ≡ get_or greatest h g → x + 1 < g → t ≡ get_or last h t → n ≡ length order → first_of (element_checks ranks before p) ≡ Some (AgainstRank (n + 1) t)
  against-read p x h f g t n lt names wide h-is within f-is none g-is less t-is n-is =
      let new : get_or named x 0 ≡ 0 = sym (get_or_read named x f (omega (arith, wide.contracts)) f-is 0) ∙ none in
      let above : x + 1 < get_or greatest (hospital_of_number ranks x) 0 = rw (← h-is, ← get_or_read greatest h g (omega (arith, wide.all_hospitals)) g-is 0) less in
      let e : get_or last (hospital_of_number ranks x) 0 ≡ t = rw (← h-is) (sym (get_or_read last h t (omega (arith, wide.hospitals)) t-is 0)) in
      rw (n-is, ← e) (against p x lt (sym names) new above)

-- ---- one element more

cond-none : (b : Bool) (a : ℕ) (o : Option ℕ) → cond b (Some a) o ≡ None → (b ≡ false) × (o ≡ None)
cond-none true a o h = cc
cond-none false a o h = (refl, h)

pos-some : {X : Type 0} (t : X → Bool) (k : ℕ) (xs : List X) (y : X) → position_from t k xs ≡ None → t y ≡ true → position_from t k (xs ++ y ∷ []) ≡ Some (k + length xs)
pos-some t k [] y none passes = rw (passes, add-zero) refl
pos-some t k (x ∷ xs) y none passes =
    let e : k + 1 + length xs ≡ k + suc (length xs) = omega arith in
    let b = cond-none (t x) k (position_from t (k + 1) xs) none in
    rw (b.0, ← e) (pos-some t (k + 1) xs y b.1 passes)

pos-same : {X : Type 0} (t : X → Bool) (xs : List X) (y : X) → t y ≡ false → position_from t 0 (xs ++ y ∷ []) ≡ position_from t 0 xs
pos-same t xs y fails = none-after t 0 xs (y ∷ []) (λ n. rw fails refl)

place-some : {X : Type 0} (t : X → Bool) (xs : List X) (y : X) → position t xs ≡ None → t y ≡ true → position t (xs ++ y ∷ []) ≡ Some (length xs)
place-some t xs y none passes =
    let z : 0 + length xs ≡ length xs = omega arith in
    position_from-zero t (xs ++ y ∷ []) ∙ pos-some t 0 xs y (sym (position_from-zero t xs) ∙ none) passes ∙ ap Some z

place-same : {X : Type 0} (t : X → Bool) (xs : List X) (y : X) → t y ≡ false → position t (xs ++ y ∷ []) ≡ position t xs
place-same t xs y fails = position_from-zero t (xs ++ y ∷ []) ∙ pos-same t xs y fails ∙ sym (position_from-zero t xs)

enumerate-push : {X : Type 0} (s : ℕ) (xs : List X) (y : X) → enumerate_from s (xs ++ y ∷ []) ≡ enumerate_from s xs ++ (s + length xs, y) ∷ []
enumerate-push s [] y = rw add-zero refl
enumerate-push s (x ∷ xs) y =
    let e : s + 1 + length xs ≡ s + suc (length xs) = omega arith in
    rw (enumerate-push (s + 1) xs y, e) refl

last-push : (o : Option ℕ) (xs : List ℕ) (z : ℕ) → last_or o (xs ++ z ∷ []) ≡ Some z
last-push o [] z = refl
last-push o (x ∷ xs) z = last-push (Some x) xs z

latest-here : (ranks : List (List ℕ)) (x : ℕ) (before : List ListedPair) (p : ListedPair) → is_at_hospital_of ranks x p ≡ true → last_at_hospital_of ranks x (before ++ p ∷ []) ≡ Some (1 + length before)
latest-here ranks x before p here =
    let f = λ (e : ℕ × ListedPair). is_at_hospital_of ranks x e.1 in
    rw (
      enumerate-push 1 before p,
      filter-append f (enumerate_from 1 before) ((1 + length before, p) ∷ []),
      here,
      map-append (λ (e : ℕ × ListedPair). e.0) (filter f (enumerate_from 1 before)) ((1 + length before, p) ∷ []),
    )
    (last-push None (map (λ (e : ℕ × ListedPair). e.0) (filter f (enumerate_from 1 before))) (1 + length before))

latest-elsewhere : (ranks : List (List ℕ)) (x : ℕ) (before : List ListedPair) (p : ListedPair) → is_at_hospital_of ranks x p ≡ false → last_at_hospital_of ranks x (before ++ p ∷ []) ≡ last_at_hospital_of ranks x before
latest-elsewhere ranks x before p elsewhere =
    let f = λ (e : ℕ × ListedPair). is_at_hospital_of ranks x e.1 in
    rw (enumerate-push 1 before p, filter-append f (enumerate_from 1 before) ((1 + length before, p) ∷ []), elsewhere, append-nil (filter f (enumerate_from 1 before))) refl

-- the contracts named so far, with one more
module _ (ranks : List (List ℕ)) (before : List ListedPair) (order named last greatest : List ℕ) (l : IsListing ranks before order named last greatest)
    (p : ListedPair) (x : ℕ) (lt : x < length (pairs_of ranks)) (names : contract_of_pair ranks p ≡ Some x) (wide : IsWide ranks named last greatest) where
  named-by : (y : ℕ) → is_named_by ranks y p ≡ (x == y)
  named-by y = rw names refl

  at-hospital : (y : ℕ) → is_at_hospital_of ranks y p ≡ (hospital_of_number ranks x == hospital_of_number ranks y)
  at-hospital y = rw names refl

  ranked-below : (y : ℕ) → is_ranked_below ranks y p ≡ ((hospital_of_number ranks x == hospital_of_number ranks y) && nat_lt y x)
  ranked-below y = rw names refl

  within-named : x < length named
  within-named = omega (arith, wide.contracts)

  place-more : (n y : ℕ) → n ≡ length order + 1 → get_or named x 0 ≡ 0 → y < length (pairs_of ranks) → position (is_named_by ranks y) (before ++ p ∷ []) ≡ place_of_number (get_or (set named x n) y 0)
  place-more n y n-is new lt-y = elim (cases_eq y x) [
    | inl same ↦
        let hit : is_named_by ranks x p ≡ true = named-by x ∙ grind (arith, nat_tests) in
        let was : position (is_named_by ranks x) before ≡ None = rw new at (l.place x lt) in
        let m : n ≡ suc (length before) = omega (arith, l.long) in
        rw (same, get_or-set_same named x n 0 within-named, m) (place-some (is_named_by ranks x) before p was hit)
    | inr other ↦
        let miss : is_named_by ranks y p ≡ false = named-by y ∙ grind (arith, nat_tests, other) in
        rw (get_or-set_other named x y n 0 other) (place-same (is_named_by ranks y) before p miss ∙ l.place y lt-y)
  ]

  latest-more : (n y : ℕ) → n ≡ length order + 1 → hospital_of_number ranks x < length ranks → y < length (pairs_of ranks) →
      last_at_hospital_of ranks y (before ++ p ∷ []) ≡ number_if_any (get_or (set last (hospital_of_number ranks x) n) (hospital_of_number ranks y) 0)
  latest-more n y n-is h lt-y = elim (cases_eq (hospital_of_number ranks y) (hospital_of_number ranks x)) [
    | inl same ↦
        let hit : is_at_hospital_of ranks y p ≡ true = at-hospital y ∙ grind (arith, nat_tests) in
        let m : n ≡ suc (length before) = omega (arith, l.long) in
        let e : 1 + length before ≡ suc (length before) = omega arith in
        let there : number_if_any (get_or (set last (hospital_of_number ranks x) n) (hospital_of_number ranks y) 0) ≡ Some (suc (length before)) =
        rw (same, get_or-set_same last (hospital_of_number ranks x) n 0 (omega (arith, wide.hospitals)), m) refl in
        latest-here ranks y before p hit ∙ ap Some e ∙ sym there
    | inr other ↦
        let miss : is_at_hospital_of ranks y p ≡ false = at-hospital y ∙ grind (arith, nat_tests, other) in
        rw (get_or-set_other last (hospital_of_number ranks x) (hospital_of_number ranks y) n 0 other) (latest-elsewhere ranks y before p miss ∙ l.latest y lt-y)
  ]

  below-more : (y : ℕ) → get_or greatest (hospital_of_number ranks x) 0 ≤ x + 1 → hospital_of_number ranks x < length ranks → y < length (pairs_of ranks) →
      list_any (is_ranked_below ranks y) (before ++ p ∷ []) ≡ nat_lt (y + 1) (get_or (set greatest (hospital_of_number ranks x) (x + 1)) (hospital_of_number ranks y) 0)
  below-more y above h lt-y =
      list_any-append (is_ranked_below ranks y) before (p ∷ []) ∙ rw (ranked-below y, l.below y lt-y) (elim (cases_eq (hospital_of_number ranks y) (hospital_of_number ranks x)) [
        | inl same ↦ rw (same, get_or-set_same greatest (hospital_of_number ranks x) (x + 1) 0 (omega (arith, wide.all_hospitals))) (grind (arith, nat_tests))
        | inr other ↦ rw (get_or-set_other greatest (hospital_of_number ranks x) (hospital_of_number ranks y) (x + 1) 0 other) (grind (arith, nat_tests, other))
      ])

  in-order-more : (n y : ℕ) → 0 < n → y < length (pairs_of ranks) → has y (order ++ x ∷ []) ≡ nat_lt 0 (get_or (set named x n) y 0)
  in-order-more n y some lt-y = has-append order (x ∷ []) y ∙ elim (cases_eq y x) [
    | inl same ↦ rw (same, get_or-set_same named x n 0 within-named) (grind (arith, nat_tests))
    | inr other ↦ rw (get_or-set_other named x y n 0 other, l.in_order y lt-y) (grind (arith, nat_tests, other))
  ]

  new-once : get_or named x 0 ≡ 0 → IsDistinct eqb (order ++ x ∷ [])
  new-once new = distinct_append order (x ∷ []) l.once (distinct_one x) (λ y there here.
      let same : y ≡ x = only y here in
      let no : has y order ≡ false = l.in_order y (omega arith) ∙ rw (same, new) (grind (arith, nat_tests)) in
      not_both (has y order) there no)
    where
      only : (y : ℕ) → IsIn y (x ∷ []) → y ≡ x
      only y here = elim (IsIn-cases y x [] here) [ inl same ↦ same | inr none ↦ absurd (not_in_nil y none) ]

  new-within : (y : ℕ) → IsIn y (order ++ x ∷ []) → y < length (pairs_of ranks)
  new-within y there = elim (IsIn-append_cases order (x ∷ []) y there) [
    | inl old ↦ l.within y old
    | inr here ↦ elim (IsIn-cases y x [] here) [ inl same ↦ omega arith | inr none ↦ absurd (not_in_nil y none) ]
  ]

  some-more : (n h : ℕ) → 0 < n → hospital_of_number ranks x < length ranks → get_or (set last (hospital_of_number ranks x) n) h 0 ≡ 0 → get_or (set greatest (hospital_of_number ranks x) (x + 1)) h 0 ≡ 0
  some-more n h some within none = elim (cases_eq h (hospital_of_number ranks x)) [
    | inl same ↦ let e = get_or-set_same last (hospital_of_number ranks x) n 0 (omega (arith, wide.hospitals)) in let f = rw (same, e) at none in absurd (omega arith)
    | inr other ↦ get_or-set_other greatest (hospital_of_number ranks x) h (x + 1) 0 other ∙ l.some h (sym (get_or-set_other last (hospital_of_number ranks x) h n 0 other) ∙ none)
  ]

  pub listing-more : (n : ℕ) → n ≡ length order + 1 → get_or named x 0 ≡ 0 → get_or greatest (hospital_of_number ranks x) 0 ≤ x + 1 → hospital_of_number ranks x < length ranks →
      IsListing ranks (before ++ p ∷ []) (order ++ x ∷ []) (set named x n) (set last (hospital_of_number ranks x) n) (set greatest (hospital_of_number ranks x) (x + 1))
  listing-more n n-is new above h =
      let some : 0 < n = omega arith in
      record {
        contracts = rw (l.contracts, filter_map-append (contract_of_pair ranks) before (p ∷ []), names) refl;
        long = omega (arith, l.long, length-append order (x ∷ []), length-append before (p ∷ []));
        once = new-once new;
        within = new-within;
        in_order = λ y lt-y. in-order-more n y some lt-y;
        place = λ y lt-y. place-more n y n-is new lt-y;
        latest = λ y lt-y. latest-more n y n-is h lt-y;
        below = λ y lt-y. below-more y above h lt-y;
        some = λ k none. some-more n k some h none;
      }

pub wide-more : (ranks : List (List ℕ)) (named last greatest : List ℕ) (x h n m : ℕ) → IsWide ranks named last greatest → IsWide ranks (set named x n) (set last h n) (set greatest h m)
wide-more ranks named last greatest x h n m wide =
    record {
      contracts = length-set named x n ∙ wide.contracts;
      hospitals = length-set last h n ∙ wide.hospitals;
      all_hospitals = length-set greatest h m ∙ wide.all_hospitals;
    }

-- ---- no element

zeros : (n k : ℕ) → ◌≡◌ {A = ℕ} (get_or (replicate n 0) k 0) 0
zeros n k = elim (cases_lt k n) [
  | inl lt ↦ get_or-replicate {A = ℕ} n k 0 0 lt
  | inr past ↦ get_or_past {X = ℕ} (replicate n 0) k 0 (omega (arith, length-replicate {A = ℕ} n 0))
]

pub none-listed : (ranks : List (List ℕ)) (n h : ℕ) → IsListing ranks [] [] (replicate n 0) (replicate h 0) (replicate h 0)
none-listed ranks n h =
    record {
      contracts = refl;
      long = refl;
      once = distinct_none;
      within = λ x there. absurd (not_in_nil x there);
      in_order = λ x lt. rw (zeros n x) (grind (arith, nat_tests));
      place = λ x lt. rw (zeros n x) refl;
      latest = λ x lt. rw (zeros h (hospital_of_number ranks x)) refl;
      below = λ x lt. rw (zeros h (hospital_of_number ranks x)) (grind (arith, nat_tests));
      some = λ k none. zeros h k;
    }

pub few-listed : (ranks : List (List ℕ)) (before : List ListedPair) (order named last greatest : List ℕ) → IsListing ranks before order named last greatest → length order ≤ length (pairs_of ranks)
few-listed ranks before order named last greatest l =
    length-le_from_distinct_below order (length (pairs_of ranks)) l.once (λ q there. l.within q there)

-- ---- the end

pub record ReadAll (ranks : List (List ℕ)) (pairs : List ListedPair) (order named : List ℕ) : Type 0 where
  pub checked : first_of (checks_of (element_checks ranks) pairs) ≡ None
  pub contracts : order ≡ filter_map (contract_of_pair ranks) pairs
  pub wide : length named ≡ length (pairs_of ranks)
  pub in_order : (x : ℕ) → x < length (pairs_of ranks) → has x order ≡ nat_lt 0 (get_or named x 0)

-- the first pair whose contract isn't in the order
one-on : (s : ℕ) (p : ℕ × ℕ) (ps : List (ℕ × ℕ)) (o : Option ℕ) →
    option_map {U = ℕ × (ℕ × ℕ)} (λ x. (s + 1 + x, get_or ps x (0, 0))) o ≡ option_map {U = ℕ × (ℕ × ℕ)} (λ x. (s + x, get_or (p ∷ ps) x (0, 0))) (option_map (λ i. 1 + i) o)
one-on s p ps None = refl
one-on s p ps (Some i) =
    let e : 1 + i ≡ suc i = omega arith in
    let f : s + suc i ≡ s + 1 + i = omega arith in
    rw (e, f) refl

missing-from : (order named : List ℕ) (s : ℕ) (ps : List (ℕ × ℕ)) (ns : List ℕ) → length ns ≡ length ps → ((k : ℕ) → k < length ps → has (s + k) order ≡ nat_lt 0 (get_or ns k 0)) →
    find (λ e. not (has e.0 order)) (enumerate_from s ps) ≡ option_map {U = ℕ × (ℕ × ℕ)} (λ x. (s + x, get_or ps x (0, 0))) (position_from (λ n. n == 0) 0 ns)
missing-from order named s [] [] as_long in_order = refl
missing-from order named s [] (n ∷ ns) as_long in_order = absurd (omega arith)
missing-from order named s (p ∷ ps) [] as_long in_order = absurd (omega arith)
missing-from order named s (p ∷ ps) (zero ∷ ns) as_long in_order =
    let e : s + 0 ≡ s = omega arith in
    let here : has s order ≡ false = rw e at (in_order 0 (omega arith)) in
    rw (here, e) refl
missing-from order named s (p ∷ ps) (suc n ∷ ns) as_long in_order =
    let e : s + 0 ≡ s = omega arith in
    let some : nat_lt 0 (suc n) ≡ true = grind (arith, nat_tests) in
    let here : has s order ≡ true = rw (e, some) at (in_order 0 (omega arith)) in
    let not_zero : (suc n == 0) ≡ false = grind (arith, nat_tests) in
    let rest = missing-from order named (s + 1) ps ns (omega arith) (λ k lt. let f : s + 1 + k ≡ s + suc k = omega arith in rw f (in_order (suc k) (omega arith))) in
    rw (here, not_zero, rest, shifted (λ m. m == 0) 1 0 ns) (one-on s p ps (position_from (λ m. m == 0) 0 ns))

missing-is : (ranks : List (List ℕ)) (pairs : List ListedPair) (order named : List ℕ) → ReadAll ranks pairs order named →
    missing ranks pairs ≡ option_map (λ (e : ℕ × (ℕ × ℕ)). Missing e.1.0 e.1.1) (option_map {U = ℕ × (ℕ × ℕ)} (λ x. (0 + x, get_or (pairs_of ranks) x (0, 0))) (position (λ n. n == 0) named))
unfolding listed_order
missing-is ranks pairs order named all =
    let from = missing-from order named 0 (pairs_of ranks) named all.wide (λ k lt. let e : 0 + k ≡ k = omega arith in rw e (all.in_order k lt)) in
    rw (← all.contracts, from, position_from-zero (λ n. n == 0) named) refl

pub all-read-is : (ranks : List (List ℕ)) (pairs : List ListedPair) (order named last greatest : List ℕ) →
    (first_of (checks_of (element_checks ranks) pairs) ≡ None) × IsListing ranks pairs order named last greatest × IsWide ranks named last greatest → ReadAll ranks pairs order named
all-read-is ranks pairs order named last greatest (checked, listing, wide) =
    record { checked = checked; contracts = listing.contracts; wide = wide.contracts; in_order = listing.in_order }

pub none-missing : (ranks : List (List ℕ)) (pairs : List ListedPair) (order named : List ℕ) → ReadAll ranks pairs order named → None ≡ position (λ n. n == 0) named → (listed_fault ranks pairs ≡ None) × (order ≡ listed_order ranks pairs)
unfolding listed_fault listed_order
none-missing ranks pairs order named all none =
    (first-none (checks_of (element_checks ranks) pairs) (missing ranks pairs ∷ []) all.checked ∙ rw (missing-is ranks pairs order named all, ← none) refl, all.contracts)

pub one-missing : (ranks : List (List ℕ)) (pairs : List ListedPair) (order named : List ℕ) (x d h : ℕ) → ReadAll ranks pairs order named → Some x ≡ position (λ n. n == 0) named →
    d ≡ doctor_of_number ranks x → h ≡ hospital_of_number ranks x → listed_fault ranks pairs ≡ Some (Missing d h)
unfolding listed_fault
one-missing ranks pairs order named x d h all some d-is h-is =
    first-none (checks_of (element_checks ranks) pairs) (missing ranks pairs ∷ []) all.checked ∙ rw (missing-is ranks pairs order named all, ← some, d-is, h-is) refl

pub read-fault : (ranks : List (List ℕ)) (pairs : List ListedPair) (f : BoardFault) → first_of (checks_of (element_checks ranks) pairs) ≡ Some f → listed_fault ranks pairs ≡ Some f
unfolding listed_fault
read-fault ranks pairs f found = first-some (checks_of (element_checks ranks) pairs) (missing ranks pairs ∷ []) f found

-- ---- elements read one after another

abbrev pub no_pair : ListedPair
no_pair = record { doctor = None; hospital = None }

pub record AreRead (ranks : List (List ℕ)) (pairs : List ListedPair) (i : ℕ) (order named last greatest : List ℕ) : Type 0 where
  pub before : List ListedPair
  pub through : AreThrough (element_checks ranks) pairs 0 i before
  pub listing : IsListing ranks before order named last greatest
  pub wide : IsWide ranks named last greatest

pub none-read : (ranks : List (List ℕ)) (pairs : List ListedPair) (order named last greatest : List ℕ) → order ≡ [] → named ≡ replicate (length (pairs_of ranks)) 0 → last ≡ replicate (length ranks) 0 → greatest ≡ replicate (length ranks) 0 →
    AreRead ranks pairs 0 order named last greatest
none-read ranks pairs order named last greatest o n l g =
    rw (o, n, l, g) (record {
      before = [];
      through = through-start (element_checks ranks) pairs 0;
      listing = none-listed ranks (length (pairs_of ranks)) (length ranks);
      wide = record {
        contracts = length-replicate {A = ℕ} (length (pairs_of ranks)) 0;
        hospitals = length-replicate {A = ℕ} (length ranks) 0;
        all_hospitals = length-replicate {A = ℕ} (length ranks) 0;
      };
    })

module _ (ranks : List (List ℕ)) (pairs : List ListedPair) (i : ℕ) (order named last greatest : List ℕ) (r : AreRead ranks pairs i order named last greatest) where
  pub one-read : (p d : ListedPair) (x : ℕ) (order' named' last' greatest' : List ℕ) → i < length pairs → p ≡ get_or pairs i d → first_of (element_checks ranks r.before p) ≡ None → contract_of_pair ranks p ≡ Some x → x < length (pairs_of ranks) →
      get_or named x 0 ≡ 0 → get_or greatest (hospital_of_number ranks x) 0 ≤ x + 1 →
      order' ≡ order ++ x ∷ [] → named' ≡ set named x (length order + 1) → last' ≡ set last (hospital_of_number ranks x) (length order + 1) → greatest' ≡ set greatest (hospital_of_number ranks x) (x + 1) →
      AreRead ranks pairs (i + 1) order' named' last' greatest'
  one-read p d x order' named' last' greatest' lt is fine names lt-x new above o n l g =
      let h : hospital_of_number ranks x < length ranks = omega (arith, (pair_in 0 ranks x lt-x).1) in
      rw (o, n, l, g) (record {
        before = r.before ++ p ∷ [];
        through = through-more (element_checks ranks) pairs 0 i r.before p d r.through lt is fine;
        listing = listing-more ranks r.before order named last greatest r.listing p x lt-x names r.wide (length order + 1) refl new above h;
        wide = wide-more ranks named last greatest x (hospital_of_number ranks x) (length order + 1) (x + 1) r.wide;
      })

  pub one-bad : (p d : ListedPair) (f : BoardFault) → i < length pairs → p ≡ get_or pairs i d → first_of (element_checks ranks r.before p) ≡ Some f → first_of (checks_of (element_checks ranks) pairs) ≡ Some f
  one-bad p d f lt is bad = through-stop (element_checks ranks) pairs 0 i r.before p d f r.through lt is bad

  pub all-read : length pairs ≤ i → (first_of (checks_of (element_checks ranks) pairs) ≡ None) × IsListing ranks pairs order named last greatest × IsWide ranks named last greatest
  all-read end =
      let e = through-end (element_checks ranks) pairs 0 i r.before r.through end in
      (e.0, rw e.1 r.listing, r.wide)

  pub few-read : length order ≤ length (pairs_of ranks)
  few-read = few-listed ranks r.before order named last greatest r.listing

-- a fault of an element is that of all elements
pub fault-on : (first all : Option BoardFault) (contract : Option ℕ) (ranks : List (List ℕ)) (pairs : List ListedPair) (e : BoardFault) → ((f : BoardFault) → first ≡ Some f → all ≡ Some f) →
    ReadsElement first contract (Err e) → ReadsElements all ranks pairs (Err e)
fault-on first all contract ranks pairs (Unknown k) on h = on (Unknown k) h
fault-on first all contract ranks pairs (Repeated k f) on h = on (Repeated k f) h
fault-on first all contract ranks pairs (AgainstRank k f) on h = on (AgainstRank k f) h
fault-on first all contract ranks pairs (Missing d k) on h = on (Missing d k) h
fault-on first all contract ranks pairs NoMemory on h = tt

pub order-fault : (ranks : List (List ℕ)) (pairs : List ListedPair) (e : BoardFault) → ReadsElements (first_of (checks_of (element_checks ranks) pairs)) ranks pairs (Err e) → ReadsOrder ranks pairs (Err e)
order-fault ranks pairs (Unknown k) h = read-fault ranks pairs (Unknown k) h
order-fault ranks pairs (Repeated k f) h = read-fault ranks pairs (Repeated k f) h
order-fault ranks pairs (AgainstRank k f) h = read-fault ranks pairs (AgainstRank k f) h
order-fault ranks pairs (Missing d k) h = read-fault ranks pairs (Missing d k) h
order-fault ranks pairs NoMemory h = tt
