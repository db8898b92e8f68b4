-- The numbers of contracts: one rank list after the other, and where a contract of one hospital stands.
use Rattle.std.proofs.Common.{inl, inr, ◌≡◌, ◌≢◌, ◌∙◌, sym, ap, refl, ℕ, zero, suc, ◌+◌, ◌-◌, ◌<◌, ◌≤◌, ◌^◌, nat_lt, IfSome, List, [], ◌∷◌, ◌++◌, length, map, take, drop, get_or, replicate, Bool, true, false, ◌&&◌, cond, Option, Some, None, option_map, arith, append_assoc, add-zero, length-append, take-append-drop}
use Rattle.std.specs.Bool.{◌==◌}
use Rattle.std.specs.List.{sum_by, position, position_from, slice_range, AllByRecursion}
use Rattle.std.proofs.lemmas.Bool.{cases_lt}
use Rattle.std.proofs.lemmas.Bool.Decides.{nat_tests}
use Rattle.std.proofs.lemmas.List.{get_or-map, get_or-take, get_or-drop, take_all, take_at, drop_at, ext_get_or, get_or_append_left, get_or_push, append-nil, length-map, map-append, take_more, length-take-le}
use Rattle.std.proofs.lemmas.Iterator.Adapters.{position_from-zero}
use Rattle.std.proofs.lemmas.List.Sums.{sum_by-cons, position_or_len_is}
use Rattle.rm_sets.specs.Sets.{IsIn, below}
use Rattle.rm_sets.proofs.Members.{IsIn-all_below}
use Rattle.rm_sets.proofs.Once.{length-below, get_or-below}
use Rattle.rm_sets.proofs.Sets.{below-all_below}
use Rattle.rm_market.specs.Board.{pairs_from, pairs_of, number_of, owners_of_ranks}
use Rattle.rm_board.specs.ByDoctor.{AreByDoctor, IsFirstWithin, contracts_of_doctor}
use Rattle.rm_lists.proofs.Grouped.{grouped-at, no-places}
use Rattle.rm_board.specs.Numbers.{AreContracts, AreRuns, rank_lists}
use Rattle.rm_board.specs.declared.hospitals.ByHospital.{ByHospital}

-- the contracts of one rank list
abbrev pub own : ℕ → List ℕ → List (ℕ × ℕ)
own h rank = map (λ d. (d, h)) rank

pub pairs-append : (s : ℕ) (xs ys : List (List ℕ)) → pairs_from s (xs ++ ys) ≡ pairs_from s xs ++ pairs_from (s + length xs) ys
pairs-append s [] ys = rw add-zero refl
pairs-append s (x ∷ xs) ys =
    let e : s + 1 + length xs ≡ s + suc (length xs) = omega arith in
    rw (pairs-append (s + 1) xs ys, e) (sym (append_assoc (own s x) (pairs_from (s + 1) xs) (pairs_from (s + suc (length xs)) ys)))

pub pairs-more : (ranks : List (List ℕ)) (h : ℕ) → h < length ranks → pairs_of (take (h + 1) ranks) ≡ pairs_of (take h ranks) ++ own h (get_or ranks h [])
pairs-more ranks h lt =
    let n : 0 + length (take h ranks) ≡ h = omega (arith, length-take-le h ranks (omega arith)) in
    rw (take_more ranks h [] lt, pairs-append 0 (take h ranks) (get_or ranks h [] ∷ []), n, append-nil (own h (get_or ranks h []))) refl

-- the contracts of the first hospitals are no more than all
pub pairs-front : (ranks : List (List ℕ)) (h : ℕ) → length (pairs_of (take h ranks)) ≤ length (pairs_of ranks)
pairs-front ranks h =
    let e : pairs_of ranks ≡ pairs_of (take h ranks) ++ pairs_from (0 + length (take h ranks)) (drop h ranks) = ap pairs_of (sym (take-append-drop h ranks)) ∙ pairs-append 0 (take h ranks) (drop h ranks) in
    omega (arith, ap length e, length-append (pairs_of (take h ranks)) (pairs_from (0 + length (take h ranks)) (drop h ranks)))

doctors-own : (h : ℕ) (rank : List ℕ) → map (λ p. p.0) (own h rank) ≡ rank
doctors-own h [] = refl
doctors-own h (d ∷ rank) = ap (λ (ds : List ℕ). d ∷ ds) (doctors-own h rank)

pub hospitals-own : (h : ℕ) (rank : List ℕ) → map (λ p. p.1) (own h rank) ≡ replicate (length rank) h
hospitals-own h [] = refl
hospitals-own h (d ∷ rank) = ap (λ (hs : List ℕ). h ∷ hs) (hospitals-own h rank)

pub doctors-more : (ranks : List (List ℕ)) (h : ℕ) → h < length ranks → owners_of_ranks (take (h + 1) ranks) ≡ owners_of_ranks (take h ranks) ++ get_or ranks h []
doctors-more ranks h lt =
    rw (pairs-more ranks h lt, map-append (λ (p : ℕ × ℕ). p.0) (pairs_of (take h ranks)) (own h (get_or ranks h [])), doctors-own h (get_or ranks h [])) refl

pub length-own : (h : ℕ) (rank : List ℕ) → length (own h rank) ≡ length rank
length-own h rank = length-map {B = ℕ × ℕ} rank (λ d. (d, h))

-- the doctors of a hospital's contracts are its rank list
pub rank-is : (ranks : List (List ℕ)) (h start end : ℕ) → h < length ranks → start ≡ length (pairs_of (take h ranks)) → end ≡ length (pairs_of (take (h + 1) ranks)) →
    slice_range (owners_of_ranks ranks) start end ≡ get_or ranks h []
rank-is ranks h start end lt start-is end-is =
    let before = owners_of_ranks (take h ranks) in
    let rank = get_or ranks h [] in
    let after = map (λ (p : ℕ × ℕ). p.0) (pairs_from (0 + length (take (h + 1) ranks)) (drop (h + 1) ranks)) in
    let parts : pairs_of ranks ≡ pairs_of (take (h + 1) ranks) ++ pairs_from (0 + length (take (h + 1) ranks)) (drop (h + 1) ranks) =
    ap pairs_of (sym (take-append-drop (h + 1) ranks)) ∙ pairs-append 0 (take (h + 1) ranks) (drop (h + 1) ranks) in
    let whole : owners_of_ranks ranks ≡ before ++ (rank ++ after) =
    ap (map (λ (p : ℕ × ℕ). p.0)) parts
    ∙ map-append (λ (p : ℕ × ℕ). p.0) (pairs_of (take (h + 1) ranks)) (pairs_from (0 + length (take (h + 1) ranks)) (drop (h + 1) ranks))
    ∙ ap (λ (ds : List ℕ). ds ++ after) (doctors-more ranks h lt)
    ∙ append_assoc before rank after in
    let long : length before ≡ start = length-map {B = ℕ} (pairs_of (take h ranks)) (λ p. p.0) ∙ sym start-is in
    let longer : length rank ≡ end - start =
    omega (arith, start-is, end-is, ap length (pairs-more ranks h lt), length-append (pairs_of (take h ranks)) (own h rank), length-own h rank) in
    rw (whole, drop_at before (rank ++ after) start long) (take_at rank after (end - start) longer)

pub length-pairs : (s : ℕ) (ranks : List (List ℕ)) → length (pairs_from s ranks) ≡ sum_by length ranks
length-pairs s [] = refl
length-pairs s (r ∷ ranks) = omega (arith, length-append (own s r) (pairs_from (s + 1) ranks), length-own s r, length-pairs (s + 1) ranks, sum_by-cons length r ranks)

-- ---- where a contract stands

abbrev is_pair : ℕ → ℕ → ℕ × ℕ → Bool
is_pair d h p = (p.0 == d) && (p.1 == h)

past : {X : Type 0} (t : X → Bool) (k : ℕ) (xs ys : List X) → AllByRecursion (λ x. t x ≡ false) xs → position_from t k (xs ++ ys) ≡ position_from t (k + length xs) ys
past t k [] ys none = rw add-zero refl
past t k (x ∷ xs) ys none = let e : k + 1 + length xs ≡ k + suc (length xs) = omega arith in rw (none.0, ← e) (past t (k + 1) xs ys none.1)

pub none-after : {X : Type 0} (t : X → Bool) (k : ℕ) (xs ys : List X) → ((n : ℕ) → position_from t n ys ≡ None) → position_from t k (xs ++ ys) ≡ position_from t k xs
none-after t k [] ys none = none k
none-after t k (x ∷ xs) ys none = rw (none-after t (k + 1) xs ys none) refl

pub shifted : {X : Type 0} (t : X → Bool) (k j : ℕ) (xs : List X) → position_from t (k + j) xs ≡ option_map (λ i. k + i) (position_from t j xs)
shifted t k j [] = refl
shifted t k j (x ∷ xs) =
    let e : k + j + 1 ≡ k + (j + 1) = omega arith in
    rw (e, shifted t k (j + 1) xs) (elim (t x) as (λ b. cond b (Some (k + j)) (option_map (λ i. k + i) (position_from t (j + 1) xs)) ≡ option_map (λ i. k + i) (cond b (Some j) (position_from t (j + 1) xs))) [ true ↦ refl | false ↦ refl ])

own-place : (d h k : ℕ) (rank : List ℕ) → position_from (is_pair d h) k (own h rank) ≡ position_from (λ x. x == d) k rank
own-place d h k [] = refl
own-place d h k (x ∷ rank) =
    let e : ((x == d) && (h == h)) ≡ (x == d) = grind (arith, nat_tests) in
    rw (e, own-place d h (k + 1) rank) refl

not-own : (d g h : ℕ) (rank : List ℕ) → (h == g) ≡ false → AllByRecursion (λ p. is_pair d g p ≡ false) (own h rank)
not-own d g h [] other = tt
not-own d g h (x ∷ rank) other = (grind (arith, nat_tests, other), not-own d g h rank other)

nowhere : (d g s k : ℕ) (ranks : List (List ℕ)) → g < s → position_from (is_pair d g) k (pairs_from s ranks) ≡ None
nowhere d g s k [] lt = refl
nowhere d g s k (r ∷ ranks) lt =
    past (is_pair d g) k (own s r) (pairs_from (s + 1) ranks) (not-own d g s r (grind (arith, nat_tests))) ∙ nowhere d g (s + 1) (k + length (own s r)) ranks (omega arith)

number-from : (d h s k n g : ℕ) (ranks : List (List ℕ)) → h < length ranks → g ≡ s + h → n ≡ k + length (pairs_from s (take h ranks)) →
    position_from (is_pair d g) k (pairs_from s ranks) ≡ option_map (λ i. n + i) (position_from (λ x. x == d) 0 (get_or ranks h []))
number-from d h s k n g [] lt g-is n-is = absurd (omega arith)
number-from d zero s k n g (r ∷ ranks) lt g-is n-is =
    let e : g ≡ s = omega arith in
    let f : n ≡ k = omega arith in
    let z : k + 0 ≡ k = omega arith in
    rw (e, f, none-after (is_pair d s) k (own s r) (pairs_from (s + 1) ranks) (λ m. nowhere d s (s + 1) m ranks (omega arith)), own-place d s k r)
    (rw z at (shifted (λ x. x == d) k 0 r))
number-from d (suc h) s k n g (r ∷ ranks) lt g-is n-is =
    past (is_pair d g) k (own s r) (pairs_from (s + 1) ranks) (not-own d g s r (grind (arith, nat_tests)))
    ∙ number-from d h (s + 1) (k + length (own s r)) n g ranks (omega arith) (omega arith) (omega (arith, length-append (own s r) (pairs_from (s + 1) (take h ranks))))

-- the number of a contract: the contracts of the hospitals before, and the place in the rank list
pub number-is : (ranks : List (List ℕ)) (d h : ℕ) → h < length ranks → number_of ranks d h ≡ option_map (λ i. length (pairs_of (take h ranks)) + i) (position (λ x. x == d) (get_or ranks h []))
number-is ranks d h lt =
    number-from d h 0 0 (length (pairs_of (take h ranks))) h ranks lt (omega arith) (omega arith)
    ∙ ap (option_map (λ i. length (pairs_of (take h ranks)) + i)) (sym (position_from-zero (λ x. x == d) (get_or ranks h [])))

pub number-within : (ranks : List (List ℕ)) (h place : ℕ) → h < length ranks → place < length (get_or ranks h []) → length (pairs_of (take h ranks)) + place < length (pairs_of ranks)
number-within ranks h place lt within =
    let longer = length-append (pairs_of (take h ranks)) (own h (get_or ranks h [])) in
    omega (arith, within, pairs-front ranks (h + 1), ap length (pairs-more ranks h lt), longer, length-own h (get_or ranks h []))

-- ---- what finding a contract answers

module _ (ranks : List (List ℕ)) (d h start end : ℕ) (lt : h < length ranks) (start-is : start ≡ length (pairs_of (take h ranks))) (end-is : end ≡ length (pairs_of (take (h + 1) ranks))) where
  abbrev rank : List ℕ
  rank = get_or ranks h []

  abbrev owners : List ℕ
  owners = owners_of_ranks ranks

  long : end ≡ start + length rank
  long = omega (arith, start-is, end-is, ap length (pairs-more ranks h lt), length-append (pairs_of (take h ranks)) (own h rank), length-own h rank)

  fits : end ≤ length owners
  fits = omega (arith, end-is, pairs-front ranks (h + 1), length-map {B = ℕ} (pairs_of ranks) (λ p. p.0))

  ranked : (k : ℕ) → k < length rank → get_or rank k 0 ≡ get_or owners (start + k) 0
  ranked k less =
      ap (λ (ds : List ℕ). get_or ds k 0) (sym (rank-is ranks h start end lt start-is end-is))
      ∙ get_or-take (end - start) (drop start owners) k 0 (omega (arith, long))
      ∙ get_or-drop start owners k 0

  -- a doctor who stands at a place of the rank list has that contract
  is-own : (k : ℕ) → k < length rank → get_or rank k 0 ≡ d → IsIn (start + k) (contracts_of_doctor owners d)
  is-own k less same = IsIn-all_below (length owners) (λ x. get_or owners x 0 == d) (start + k) (omega (arith, long, fits)) (let e = ranked k less in grind (arith, nat_tests, e, same))

  first-place : (place : ℕ) → place < length rank → get_or rank place 0 ≡ d → ((k : ℕ) → k < place → get_or rank k 0 ≢ d) → position (λ x. x == d) rank ≡ Some place
  first-place place less here others =
      let first = position_or_len_is (λ x. x == d) rank place 0 (omega arith) (λ k before. let other = others k before in grind (arith, nat_tests, other)) (λ within. grind (arith, nat_tests, here)) in
      let inside : nat_lt place (length rank) ≡ true = grind (arith, nat_tests) in
      rw (first, inside) refl

  no-place : ((k : ℕ) → k < length rank → get_or rank k 0 ≢ d) → position (λ x. x == d) rank ≡ None
  no-place others =
      let none = position_or_len_is (λ x. x == d) rank (length rank) 0 (omega arith) (λ k before. let other = others k before in grind (arith, nat_tests, other)) (λ within. absurd (omega arith)) in
      let past : nat_lt (length rank) (length rank) ≡ false = grind (arith, nat_tests) in
      rw (none, past) refl

  pub found : (r : Option ℕ) → IsFirstWithin (contracts_of_doctor owners d) start end r → r ≡ number_of ranks d h
  found (Some x) first =
      let mine = below-all_below (length owners) (λ y. get_or owners y 0 == d) x first.0 in
      let e : start + (x - start) ≡ x = omega (arith, first.1) in
      let less : x - start < length rank = omega (arith, first.1, first.2, long) in
      let same : get_or owners x 0 ≡ d = let passes = mine.1 in grind (arith, nat_tests, passes) in
      let here : get_or rank (x - start) 0 ≡ d = ranked (x - start) less ∙ rw e same in
      let place = first-place (x - start) less here (λ k before other. let least = first.3 (start + k) (is-own k (omega (arith, less)) other) (omega arith) in omega (arith, least)) in
      let is : length (pairs_of (take h ranks)) + (x - start) ≡ x = omega (arith, e, start-is) in
      sym (number-is ranks d h lt ∙ rw (place, is) refl)
  found None none =
      let nowhere = no-place (λ k less same. let past = none (start + k) (is-own k less same) (omega arith) in omega (arith, past, long)) in
      sym (number-is ranks d h lt ∙ rw nowhere refl)

  pub found-within : (r : Option ℕ) → IsFirstWithin (contracts_of_doctor owners d) start end r → length (pairs_of ranks) < 4_000_000_000 → IfSome r (λ x. (x < length (pairs_of ranks)) × (x < 4_000_000_000))
  found-within (Some x) first few = (omega (arith, first.2, end-is, pairs-front ranks (h + 1)), omega (arith, first.2, end-is, pairs-front ranks (h + 1), few))
  found-within None none few = tt

-- ---- the contracts of the first h hospitals

pub few-contracts : (ranks : List (List ℕ)) → sum_by length ranks < 4_000_000_000 → length (pairs_of ranks) < 4_000_000_000
few-contracts ranks few = omega (arith, length-pairs 0 ranks)

length-doctors : (ranks : List (List ℕ)) (h : ℕ) → length (owners_of_ranks (take h ranks)) ≡ length (pairs_of (take h ranks))
length-doctors ranks h = length-map {B = ℕ} (pairs_of (take h ranks)) (λ p. p.0)

pub record AreNumbered (ranks : List (List ℕ)) (h : ℕ) (b : ByHospital) : Type 0 where
  pub doctor : b.doctors.items ≡ owners_of_ranks (take h ranks)
  pub as_many : length b.starts.items ≡ h + 1
  pub start : (k : ℕ) → k ≤ h → get_or b.starts.items k 0 ≡ length (pairs_of (take k ranks))

module _ (ranks : List (List ℕ)) (h : ℕ) (b : ByHospital) (done : AreNumbered ranks h b) where
  pub count-is : length b.doctors.items ≡ length (pairs_of (take h ranks))
  count-is = ap length done.doctor ∙ length-doctors ranks h

  -- with the contracts of the next hospital added
  pub added-count : (rank : List ℕ) → h < length ranks → rank ≡ get_or ranks h [] → length b.doctors.items + length rank ≡ length (pairs_of (take (h + 1) ranks))
  added-count rank lt rank-is =
      omega (arith, count-is, ap length rank-is, ap length (pairs-more ranks h lt), length-append (pairs_of (take h ranks)) (own h (get_or ranks h [])), length-own h (get_or ranks h []))

  pub add-fits : (rank : List ℕ) → h < length ranks → rank ≡ get_or ranks h [] → sum_by length ranks < 4_000_000_000 → length b.doctors.items + length rank < 4_000_000_000
  add-fits rank lt rank-is few =
      omega (arith, added-count rank lt rank-is, few-contracts ranks few, pairs-front ranks (h + 1))

  pub numbered-more : (new : ByHospital) (rank : List ℕ) → h < length ranks → rank ≡ get_or ranks h [] → new.doctors.items ≡ b.doctors.items ++ rank →
      new.starts.items ≡ b.starts.items ++ (length b.doctors.items + length rank) ∷ [] → AreNumbered ranks (h + 1) new
  numbered-more new rank lt rank-is doctors starts =
      let end = length b.doctors.items + length rank in
      let ended : end ≡ length (pairs_of (take (h + 1) ranks)) = added-count rank lt rank-is in
      record {
        doctor = rw (doctors, done.doctor, rank-is) (sym (doctors-more ranks h lt));
        as_many = omega (arith, ap length starts, length-append b.starts.items (end ∷ []), done.as_many);
        start = λ k le. rw starts (elim (cases_lt k (h + 1)) [
          | inl before ↦ get_or_append_left b.starts.items (end ∷ []) 0 k (omega (arith, done.as_many)) ∙ done.start k (omega arith)
          | inr here ↦ let e : k ≡ h + 1 = omega arith in get_or_push b.starts.items end 0 k (omega (arith, done.as_many)) ∙ ended ∙ ap (λ (i : ℕ). length (pairs_of (take i ranks))) (sym e)
        ]);
      }

  pub numbered-all : (new : ByHospital) (by_doctor : List (List ℕ)) → new.doctors.items ≡ b.doctors.items → new.starts.items ≡ b.starts.items → AreRuns ranks new.runs.items →
      sum_by length ranks < 4_000_000_000 → length ranks < 2 ^ 32 → length ranks ≡ h → AreByDoctor new.doctors.items by_doctor → AreContracts ranks new by_doctor
  numbered-all new by_doctor doctors starts runs few few-hospitals end index =
      let all : take h ranks ≡ ranks = take_all h ranks (omega arith) in
      record {
        few = few-contracts ranks few;
        few_hospitals = few-hospitals;
        doctor = doctors ∙ (rw all at done.doctor);
        as_many = omega (arith, ap length starts, done.as_many);
        start = λ k le. rw starts (done.start k (omega arith));
        runs = runs;
        own = index;
      }

-- the spans of the hospitals give the rank lists
pub lists-are : (ranks : List (List ℕ)) (b : ByHospital) (by_doctor : List (List ℕ)) → AreContracts ranks b by_doctor → rank_lists b ≡ ranks
lists-are ranks b by_doctor are =
    let starts = b.starts.items in
    let lists = λ (h : ℕ). slice_range b.doctors.items (get_or starts h 0) (get_or starts (h + 1) 0) in
    let long : length (below (length starts - 1)) ≡ length ranks = omega (arith, length-below (length starts - 1), are.as_many) in
    ext_get_or [] (rank_lists b) ranks (length-map (below (length starts - 1)) lists ∙ long) (λ h less.
    let lt : h < length ranks = omega (arith, long, length-map (below (length starts - 1)) lists) in
    get_or-map lists (below (length starts - 1)) h 0 [] (omega (arith, long))
    ∙ ap lists (get_or-below (length starts - 1) h 0 (omega (arith, are.as_many)))
    ∙ ap (λ (ds : List ℕ). slice_range ds (get_or starts h 0) (get_or starts (h + 1) 0)) are.doctor
    ∙ rank-is ranks h (get_or starts h 0) (get_or starts (h + 1) 0) lt (are.start h (omega arith)) (are.start (h + 1) (omega arith)))

-- ---- what is kept answers

module _ (ranks : List (List ℕ)) (b : ByHospital) (by_doctor : List (List ℕ)) (are : AreContracts ranks b by_doctor) where
  count-are : length b.doctors.items ≡ length (pairs_of ranks)
  count-are = ap length are.doctor ∙ length-map {B = ℕ} (pairs_of ranks) (λ p. p.0)

  pub starts-forward : (h start end : ℕ) → h < length ranks → start ≡ length (pairs_of (take h ranks)) → end ≡ length (pairs_of (take (h + 1) ranks)) → start ≤ end
  starts-forward h start end lt start-is end-is =
      omega (arith, start-is, end-is, ap length (pairs-more ranks h lt), length-append (pairs_of (take h ranks)) (own h (get_or ranks h [])))

  pub starts-inside : (h end : ℕ) → end ≡ length (pairs_of (take h ranks)) → end ≤ length b.doctors.items
  starts-inside h end end-is = omega (arith, end-is, pairs-front ranks h, count-are)

  pub rank-read : (h start end : ℕ) → h < length ranks → start ≡ length (pairs_of (take h ranks)) → end ≡ length (pairs_of (take (h + 1) ranks)) → slice_range b.doctors.items start end ≡ get_or ranks h []
  rank-read h start end lt start-is end-is = ap (λ (ds : List ℕ). slice_range ds start end) are.doctor ∙ rank-is ranks h start end lt start-is end-is

  pub own-read : (d : ℕ) → d < length by_doctor → get_or by_doctor d [] ≡ contracts_of_doctor (owners_of_ranks ranks) d
  own-read d lt = rw (← are.doctor) (ap (λ (ls : List (List ℕ)). get_or ls d []) are.own.own ∙ grouped-at (length by_doctor) b.doctors.items d lt)

  pub none-own : (d : ℕ) → length by_doctor ≤ d → [] ≡ contracts_of_doctor (owners_of_ranks ranks) d
  none-own d past = rw (← are.doctor) (sym (no-places (length by_doctor) b.doctors.items d are.own.known past))

pub rank-fits : (ranks : List (List ℕ)) (h : ℕ) → h < length ranks → length (pairs_of ranks) < 4_000_000_000 → length (get_or ranks h []) < 4_000_000_000
rank-fits ranks h lt few =
    omega (arith, pairs-front ranks (h + 1), ap length (pairs-more ranks h lt), length-append (pairs_of (take h ranks)) (own h (get_or ranks h [])), length-own h (get_or ranks h []))

pub number-fits : (ranks : List (List ℕ)) (h place start : ℕ) → h < length ranks → place < length (get_or ranks h []) → start ≡ length (pairs_of (take h ranks)) → length (pairs_of ranks) < 4_000_000_000 → start + place < 2 ^ 32
number-fits ranks h place start lt within start-is few = omega (arith, start-is, number-within ranks h place lt within, few)
