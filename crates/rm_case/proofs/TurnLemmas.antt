-- The turns of hospitals in the orders of their prefectures.
use Rattle.std.proofs.Common.{◌≡◌, eqb, ◌≢◌, ◌∙◌, ◌+◌, ◌*◌, ◌<◌, ◌≤◌, ◌||◌, ◌==◌, ℕ, zero, suc, Bool, true, false, cond, List, [], ◌∷◌, ◌++◌, length, get_or, set, take, map, max, Option, Some, inl, inr, refl, sym, ap, subst, arith, add-one, mul_comm, mul-le-mul, ℤ, All}
use Rattle.std.specs.Prelude.{find, fold, position}
use Rattle.std.specs.List.{IsDistinct, enumerate_from, position_from}
use Rattle.std.specs.Option.{option_map_or}
use Rattle.std.proofs.lemmas.Bool.{cases_eq, ne_eqb, eq-eqb, eqb-true}
use Rattle.std.proofs.lemmas.Iterator.Adapters.{position_from-zero}
use Rattle.std.proofs.lemmas.List.{ext_get_or, get_or-map, get_or-set_same, get_or-set_other, length-map, map-append, take_more}
use Rattle.std.proofs.lemmas.List.Elements.{AllZip-get_or}
use Rattle.std.proofs.lemmas.Map.Steps.{length-le_from_distinct_below}
use Rattle.rm_flexible_laws.specs.Region.{no_seat, seat_at}
use Rattle.rm_flexible_laws.proofs.Pick.{capacity_le}
use Rattle.rm_market.specs.Flexible.{Seat, full_worth, greatest_capacity_of}
use Rattle.rm_policy.specs.Policy.{PolicyData}
use Rattle.rm_roster.specs.Roster.{RosterData, IsRoster}
use Rattle.rm_sets.specs.Sets.{has, below, IsIn}
use Rattle.rm_sets.proofs.Members.{IsIn-get_or, IsIn-all_below, not_in_from, place_from_IsIn}
use Rattle.rm_sets.proofs.Once.{get_or-below, length-below, distinct_first, distinct_rest}
use Rattle.rm_sets.proofs.Sets.{below-all_below, has-append, not_both}
use Rattle.rm_case.specs.Compiled.{flexible_steps, order_of_prefecture, region_of, seat_of, steps_in_region}
use Rattle.rm_case.specs.Suits.{SuitsRoster}
use Rattle.rm_case.specs.NodeSteps.{hospital_turn, place_from_one, seats_region, turn_in, turn_steps, AreSome, IsTurn}
use Rattle.rm_case.specs.declared.turns.Turn.{Turn}

-- ---- orders

pub order_known : (r : RosterData) (order : List ℕ) (i d : ℕ) → AreSome r order → i < length order → get_or order i d < length r.hospitals
order_known r order i d some lt = some.known (get_or order i d) (IsIn-get_or order i d lt)

pub order_short : (r : RosterData) (order : List ℕ) → IsRoster r → AreSome r order → length order ≤ 10000
order_short r order roster some =
    let few = length-le_from_distinct_below order (length r.hospitals) some.once (λ h i. some.known h i) in
    omega (arith, few, roster.few_hospitals)

-- the hospitals in the order of prefecture q are those of the prefecture
pub in_order : (r : RosterData) (p : PolicyData) (q h : ℕ) → SuitsRoster r p → q < length r.prefectures → IsIn h (order_of_prefecture r p q) → (h < length r.hospitals) × (get_or r.prefecture_of h 0 ≡ q)
in_order r p q h fits lt i =
    let there = below-all_below (length r.hospitals) (λ k. get_or r.prefecture_of k 0 == q) h (sym ((fits.orders q lt).hospitals h) ∙ i) in
    (there.0, eqb-true (get_or r.prefecture_of h 0) q there.1)

pub has_turn : (r : RosterData) (p : PolicyData) (h : ℕ) → SuitsRoster r p → get_or r.prefecture_of h 0 < length r.prefectures → h < length r.hospitals → IsIn h (order_of_prefecture r p (get_or r.prefecture_of h 0))
has_turn r p h fits lq lt =
    let q = get_or r.prefecture_of h 0 in
    (fits.orders q lq).hospitals h ∙ IsIn-all_below (length r.hospitals) (λ k. get_or r.prefecture_of k 0 == q) h lt (eq-eqb q q refl)

pub some_in_order : (r : RosterData) (p : PolicyData) (q : ℕ) → SuitsRoster r p → q < length r.prefectures → AreSome r (order_of_prefecture r p q)
some_in_order r p q fits lt = record { once = (fits.orders q lt).once; known = λ h i. (in_order r p q h fits lt i).0 }

-- ---- the place of a hospital in an order

place_from : (L : List ℕ) (o k : ℕ) → IsDistinct eqb L → k < length L → position_from (λ x. x == get_or L k 0) o L ≡ Some (o + k)
place_from [] o k once lt = absurd (omega (arith, lt))
place_from (y ∷ L) o zero once lt = rw (eq-eqb y y refl) (ap (λ (n : ℕ). Some n) (omega arith))
place_from (y ∷ L) o (suc k) once lt =
    let other : y ≢ get_or L k 0 = λ e. not_both (has y L) (subst (λ (z : ℕ). IsIn z L) (sym e) (IsIn-get_or L k 0 (omega (arith, lt)))) (distinct_first y L once) in
    let rest = place_from L (o + 1) k (distinct_rest y L once) (omega (arith, lt)) in
    rw (ne_eqb y (get_or L k 0) other) (rest ∙ ap (λ (n : ℕ). Some n) (omega arith))

pub place_is : (order : List ℕ) (k : ℕ) → IsDistinct eqb order → k < length order → position (λ x. x == get_or order k 0) order ≡ Some k
place_is order k once lt = position_from-zero (λ x. x == get_or order k 0) order ∙ place_from order 0 k once lt ∙ ap (λ (n : ℕ). Some n) (omega arith)

place_one : (order : List ℕ) (k : ℕ) → IsDistinct eqb order → k < length order → place_from_one order (get_or order k 0) ≡ k + 1
place_one order k once lt = ap (λ (o : Option ℕ). option_map_or (λ n. n + 1) o 0) (place_is order k once lt)

-- ---- turns that are given

has_more : (order : List ℕ) (i h : ℕ) → i < length order → has h (take (i + 1) order) ≡ (has h (take i order) || (h == get_or order i 0))
has_more order i h lt = rw (take_more order i 0 lt) (has-append (take i order) (get_or order i 0 ∷ []) h ∙ ap (λ (b : Bool). has h (take i order) || b) (or_false (h == get_or order i 0)))
  where
    or_false : (b : Bool) → (b || false) ≡ b
    or_false true = refl
    or_false false = refl

or_true : (b : Bool) → (b || true) ≡ true
or_true true = refl
or_true false = refl

or_none : (b : Bool) → (b || false) ≡ b
or_none true = refl
or_none false = refl

pub given_one : (r : RosterData) (order : List ℕ) (old turns : List Turn) (i full : ℕ) → AreSome r order → i < length order → full ≡ full_worth (seats_region r order) → length turns ≡ length r.hospitals
    → ((h : ℕ) (t : Turn) → get_or turns h t ≡ cond (has h (take i order)) (turn_in r order h) (get_or old h t))
    → (h : ℕ) (t : Turn) → get_or (set turns (get_or order i 0) (record { full = full; hospitals = length order; place = i + 1 })) h t ≡ cond (has h (take (i + 1) order)) (turn_in r order h) (get_or old h t)
given_one r order old turns i full some lt worth long before h t =
    let x = get_or order i 0 in
    let turn : Turn = record { full = full; hospitals = length order; place = i + 1 } in
    let inside : x < length turns = omega (arith, order_known r order i 0 some lt, long) in
    elim (cases_eq h x) [
      | inl same ↦
          let own : turn ≡ turn_in r order x = rw (worth, place_one order i some.once lt) refl in
          rw (same, has_more order i x lt, eq-eqb x x refl, or_true (has x (take i order))) (get_or-set_same turns x turn t inside ∙ own)
      | inr other ↦ rw (has_more order i h lt, ne_eqb h x other, or_none (has h (take i order))) (get_or-set_other turns x h turn t other ∙ before h t)
    ]

-- ---- the turns of all prefectures

pub turned_one : (r : RosterData) (p : PolicyData) (old new : List Turn) (q : ℕ) (order : List ℕ) → SuitsRoster r p → q < length r.prefectures → order ≡ order_of_prefecture r p q
    → ((h : ℕ) (t : Turn) → h < length r.hospitals → get_or r.prefecture_of h 0 < q → get_or old h t ≡ hospital_turn r p h)
    → ((h : ℕ) (t : Turn) → get_or new h t ≡ cond (has h order) (turn_in r order h) (get_or old h t))
    → (h : ℕ) (t : Turn) → h < length r.hospitals → get_or r.prefecture_of h 0 < q + 1 → get_or new h t ≡ hospital_turn r p h
turned_one r p old new q order fits lq is before given h t lt le =
    elim (cases_eq (get_or r.prefecture_of h 0) q) [
      | inl same ↦
          let there : has h order ≡ true = ap (λ (L : List ℕ). has h L) is ∙ subst (λ (n : ℕ). IsIn h (order_of_prefecture r p n)) same (has_turn r p h fits (subst (λ (n : ℕ). n < length r.prefectures) (sym same) lq) lt) in
          given h t ∙ rw (there, is, same) refl
      | inr other ↦
          let absent : has h order ≡ false = ap (λ (L : List ℕ). has h L) is ∙ not_in_from h (order_of_prefecture r p q) (λ i. other (in_order r p q h fits lq i).1) in
          given h t ∙ rw absent (before h t lt (omega (arith, le, other)))
    ]

pub all_turned : (r : RosterData) (p : PolicyData) (turns : List Turn) (q : ℕ) (t : Turn) → IsRoster r → length r.prefectures ≤ q → length turns ≡ length r.hospitals
    → ((h : ℕ) (d : Turn) → h < length r.hospitals → get_or r.prefecture_of h 0 < q → get_or turns h d ≡ hospital_turn r p h) → turns ≡ map (hospital_turn r p) (below (length r.hospitals))
all_turned r p turns q t roster le long all =
    let wide = length-below (length r.hospitals) in
    ext_get_or t turns (map (hospital_turn r p) (below (length r.hospitals))) (long ∙ sym (length-map (below (length r.hospitals)) (hospital_turn r p) ∙ wide))
    (λ h lt.
    let lh : h < length r.hospitals = omega (arith, lt, long) in
    let low = roster.prefecture_of h 0 (omega (arith, lh, roster.prefecture_each)) in
    all h t lh (omega (arith, low, le))
    ∙ sym (get_or-map (hospital_turn r p) (below (length r.hospitals)) h 0 t (omega (arith, lh, wide)) ∙ ap (hospital_turn r p) (get_or-below (length r.hospitals) h 0 lh)))

-- ---- the worth of a seat up to the target

pub worth_fits : (r : RosterData) (order : List ℕ) (greatest : ℕ) → IsRoster r → AreSome r order → greatest ≤ 10000 → length order * greatest ≤ 100000000
worth_fits r order greatest roster some few = product (length order) greatest (order_short r order roster some) few
  where
    product : (m c : ℕ) → m ≤ 10000 → c ≤ 10000 → m * c ≤ 100000000
    product m c a b = mul-le-mul a b

-- ---- the steps of a turn are those of the region's seat

pub find_seat : (r : RosterData) (order : List ℕ) (n k : ℕ) → IsDistinct eqb order → k < length order
    → find (λ e. e.1.hospital == get_or order k 0) (enumerate_from n (map (seat_of r) order)) ≡ Some (n + k, seat_of r (get_or order k 0))
find_seat r [] n k once lt = absurd (omega (arith, lt))
find_seat r (y ∷ order) n zero once lt = rw (eq-eqb y y refl) (ap (λ (i : ℕ). Some (i, seat_of r y)) (omega arith))
find_seat r (y ∷ order) n (suc k) once lt =
    let other : y ≢ get_or order k 0 = λ e. not_both (has y order) (subst (λ (z : ℕ). IsIn z order) (sym e) (IsIn-get_or order k 0 (omega (arith, lt)))) (distinct_first y order once) in
    let rest = find_seat r order (n + 1) k (distinct_rest y order once) (omega (arith, lt)) in
    rw (ne_eqb y (get_or order k 0) other) (rest ∙ ap (λ (i : ℕ). Some (i, seat_of r (get_or order k 0))) (omega arith))

steps_at : (r : RosterData) (p : PolicyData) (q k : ℕ) → IsDistinct eqb (order_of_prefecture r p q) → k < length (order_of_prefecture r p q)
    → turn_steps (turn_in r (order_of_prefecture r p q) (get_or (order_of_prefecture r p q) k 0)) (get_or r.targets (get_or (order_of_prefecture r p q) k 0) 0) (get_or r.capacities (get_or (order_of_prefecture r p q) k 0) 0)
    ≡ steps_in_region (region_of r p q) (get_or (order_of_prefecture r p q) k 0)
steps_at r p q k once lt =
    let order = order_of_prefecture r p q in
    let h = get_or order k 0 in
    let place : k + 1 ≡ 1 + k = omega arith in
    rw (find_seat r order 1 k once lt, place_one order k once lt, length-map order (seat_of r), place) refl

pub steps_of_turn : (r : RosterData) (p : PolicyData) (h : ℕ) → IsRoster r → SuitsRoster r p → h < length r.hospitals → turn_steps (hospital_turn r p h) (get_or r.targets h 0) (get_or r.capacities h 0) ≡ flexible_steps r p h
steps_of_turn r p h roster fits lt =
    let q = get_or r.prefecture_of h 0 in
    let lq : q < length r.prefectures = roster.prefecture_of h 0 (omega (arith, lt, roster.prefecture_each)) in
    let at = place_from_IsIn (order_of_prefecture r p q) h 0 (has_turn r p h fits lq lt) in
    subst (λ (k : ℕ). turn_steps (turn_in r (order_of_prefecture r p q) k) (get_or r.targets k 0) (get_or r.capacities k 0) ≡ steps_in_region (region_of r p q) k) at.2
    (steps_at r p q at.0 (fits.orders q lq).once at.1)

-- ---- what a turn is

max_within : (a b : ℕ) (xs : List ℕ) → a ≤ b → All (λ x. x ≤ b) xs → fold max a xs ≤ b
max_within a b [] le all = le
max_within a b (x ∷ xs) le all = max_within (max a x) b xs (omega (arith, le, all 0 0 (omega arith))) (λ k d lt. all (suc k) d (omega (arith, lt)))

seat_in : (r : RosterData) (order : List ℕ) (k : ℕ) → k < length order → seat_at (seats_region r order) k ≡ seat_of r (get_or order k 0)
seat_in r order k lt = get_or-map (seat_of r) order k 0 no_seat lt

greatest_within : (r : RosterData) (order : List ℕ) → IsRoster r → AreSome r order → greatest_capacity_of (seats_region r order) ≤ 10000
greatest_within r order roster some =
    let seats = map (seat_of r) order in
    max_within 0 10000 (map (λ s. s.capacity) seats) (omega arith)
    (λ k d lt.
    let long = length-map seats (λ (s : Seat). s.capacity) in
    let wide = length-map order (seat_of r) in
    let lk : k < length order = omega (arith, lt, long, wide) in
    let at : get_or (map (λ (s : Seat). s.capacity) seats) k d ≡ get_or r.capacities (get_or order k 0) 0 =
    get_or-map (λ (s : Seat). s.capacity) seats k no_seat d (omega (arith, lk, wide)) ∙ ap (λ (s : Seat). s.capacity) (seat_in r order k lk) in
    let within = roster.capacities (get_or order k 0) 0 (omega (arith, order_known r order k 0 some lk, roster.capacity_each)) in
    omega (arith, at, within))

turn_at : (r : RosterData) (order : List ℕ) (k : ℕ) → IsRoster r → AreSome r order → k < length order
    → IsTurn (turn_in r order (get_or order k 0)) (get_or r.targets (get_or order k 0) 0) (get_or r.capacities (get_or order k 0) 0)
turn_at r order k roster some lt =
    let h = get_or order k 0 in
    let lh = order_known r order k 0 some lt in
    let place = place_one order k some.once lt in
    let capacity = roster.capacities h 0 (omega (arith, lh, roster.capacity_each)) in
    let m = length order in
    let c = greatest_capacity_of (seats_region r order) in
    let seats = length-map order (seat_of r) in
    let big : get_or r.capacities h 0 ≤ c = omega (arith, capacity_le (seats_region r order) k (omega (arith, lt, seats)), ap (λ (s : Seat). s.capacity) (seat_in r order k lt)) in
    let same : m ≤ m = omega arith in
    let product : get_or r.capacities h 0 * m ≤ c * m = mul-le-mul big same in
    let worth : full_worth (seats_region r order) ≡ 1 + m * c = ap (λ (n : ℕ). 1 + n * c) seats in
    let all = worth_fits r order c roster some (greatest_within r order roster some) in
    record {
      seats = AllZip-get_or (λ target capacity. target ≤ capacity) r.targets r.capacities h 0 0 roster.targets (omega (arith, lh, roster.target_each));
      few = omega (arith, capacity);
      place = omega (arith, place);
      within = omega (arith, place, lt);
      worth = omega (arith, product, worth, mul_comm c m);
      bounded = omega (arith, worth, all);
    }

pub turn_fits : (r : RosterData) (p : PolicyData) (h : ℕ) → IsRoster r → SuitsRoster r p → h < length r.hospitals → IsTurn (hospital_turn r p h) (get_or r.targets h 0) (get_or r.capacities h 0)
turn_fits r p h roster fits lt =
    let q = get_or r.prefecture_of h 0 in
    let lq : q < length r.prefectures = roster.prefecture_of h 0 (omega (arith, lt, roster.prefecture_each)) in
    let at = place_from_IsIn (order_of_prefecture r p q) h 0 (has_turn r p h fits lq lt) in
    subst (λ (k : ℕ). IsTurn (turn_in r (order_of_prefecture r p q) k) (get_or r.targets k 0) (get_or r.capacities k 0)) at.2
    (turn_at r (order_of_prefecture r p q) at.0 roster (some_in_order r p q fits lq) at.1)

-- ---- the steps of all hospitals, one after the other

pub turns_long : (r : RosterData) (p : PolicyData) (turns : List Turn) → turns ≡ map (hospital_turn r p) (below (length r.hospitals)) → length turns ≡ length r.hospitals
turns_long r p turns all = ap length all ∙ (length-map (below (length r.hospitals)) (hospital_turn r p) ∙ length-below (length r.hospitals))

pub turn_is : (r : RosterData) (p : PolicyData) (turns : List Turn) (h : ℕ) (t : Turn) → turns ≡ map (hospital_turn r p) (below (length r.hospitals)) → h < length r.hospitals → t ≡ get_or turns h t → t ≡ hospital_turn r p h
turn_is r p turns h t all lt at =
    let n = length r.hospitals in
    at ∙ (ap (λ (L : List Turn). get_or L h t) all ∙ (get_or-map (hospital_turn r p) (below n) h 0 t (omega (arith, lt, length-below n)) ∙ ap (hospital_turn r p) (get_or-below n h 0 lt)))

pub steps_pushed : (r : RosterData) (p : PolicyData) (now new : List (List ℤ)) (h target capacity : ℕ) (t : Turn) (own : List ℤ) → IsRoster r → SuitsRoster r p → h < length r.hospitals
    → now ≡ map (flexible_steps r p) (below h) → new ≡ now ++ own ∷ [] → own ≡ turn_steps t target capacity → t ≡ hospital_turn r p h → target ≡ get_or r.targets h 0 → capacity ≡ get_or r.capacities h 0
    → new ≡ map (flexible_steps r p) (below (h + 1))
steps_pushed r p now new h target capacity t own roster fits lt before pushed steps turn reached seats =
    let same : own ≡ flexible_steps r p h = steps ∙ rw (turn, reached, seats) (steps_of_turn r p h roster fits lt) in
    rw (pushed, before, same, add-one h, map-append (flexible_steps r p) (below h) (h ∷ [])) refl
