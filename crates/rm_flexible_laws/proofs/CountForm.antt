-- The count form, read as facts.
use Rattle.std.proofs.Common.{◌≡◌, ◌⊎◌, ℕ, zero, suc, ◌+◌, ◌-◌, ◌*◌, ◌<◌, ◌≤◌, Bool, true, false, cond, not, ◌&&◌, ◌||◌, List, [], ◌∷◌, length, get_or, eqb, ltb, map, refl, sym, ap, ◌∙◌, subst, subst₂, inl, inr, ⊎_elim, arith, eq-eqb, ne_eqb, eqb-true}
use Rattle.std.specs.List.{list_all, range_with_len, enumerate_from}
use Rattle.std.proofs.lemmas.Bool.{cases_lt, cases_eq, cases_order, and_parts, and_from, or_cases, or_left, or_right, lt-ltb, le-ltb, ltb-true, le-leb, lt-leb, not_from_false, not_from_true}
use Rattle.std.proofs.lemmas.List.Folds.{list_all-append, list_all-map}
use Rattle.std.proofs.lemmas.List.FromFn.{length-enumerate_from, get_or-enumerate_from, length-range_with_len, get_or-range_with_len}
use Rattle.rm_sets.specs.Sets.{IsIn}
use Rattle.rm_sets.proofs.Sets.{not_both, same_tests, IsIn-here, IsIn-later, IsIn-cases}
use Rattle.rm_sets.proofs.Members.{not_in_nil, IsIn-filter, IsIn-from_filter}
use Rattle.rm_market.specs.Board.{Board, hospital_of}
use Rattle.rm_market.specs.Flexible.{Seat, Region, at_hospital, seat_turn, is_later, held_at, held_turns, region_count, has_no_seat, is_full, is_passed_over}
use Rattle.rm_flexible_laws.specs.Region.{no_seat, seat_at, no_region, region_at, IsPlace}
use Rattle.rm_flexible_laws.proofs.ByCounts.{count_at, turn_number, turn_of, IsFull, IsPassed}
use Rattle.rm_flexible_laws.proofs.Keys.{turn_low, turn_high, past, rows, turn_rises}
use Rattle.rm_flexible_laws.proofs.Tests.{all_at, at_all}

-- ---- pairs of turns, and turn numbers

turn_pair_low : (s : Seat) (p k : ℕ) → k ≤ s.target → seat_turn s p k ≡ (0, 0)
turn_pair_low s p k le = ap (λ c. cond c (0, 0) (k - s.target, p)) (le-leb k s.target le)

turn_pair_high : (s : Seat) (p k e : ℕ) → k ≡ s.target + (e + 1) → seat_turn s p k ≡ (e + 1, p)
turn_pair_high s p k e h =
    ap (λ c. cond c (0, 0) (k - s.target, p)) (lt-leb k s.target (omega arith)) ∙ ap (λ d. (d, p)) (rest h)
  where
    rest : k ≡ s.target + (e + 1) → k - s.target ≡ e + 1
    rest g = omega arith

never_before : (b : ℕ × ℕ) → is_later (0, 0) b ≡ false
never_before b = by (ltb b.0 0) (le-ltb b.0 0 (omega arith)) (eqb 0 b.0) (ltb b.1 0) (le-ltb b.1 0 (omega arith))
  where
    by : (u : Bool) → u ≡ false → (v w : Bool) → w ≡ false → (u || (v && w)) ≡ false
    by u e v w g = subst₂ (λ a c. (a || (v && c)) ≡ false) (sym e) (sym g) (off v)
      where
        off : (v : Bool) → (false || (v && false)) ≡ false
        off true = refl
        off false = refl

rows_decide : (m a c j k : ℕ) → j < m → k < m → (ltb (c + 1) (a + 1) || (eqb (a + 1) (c + 1) && ltb (1 + k) (1 + j))) ≡ ltb (c * m + (k + 1)) (a * m + (j + 1))
rows_decide m a c j k jm km =
    same_tests (ltb (c + 1) (a + 1) || (eqb (a + 1) (c + 1) && ltb (1 + k) (1 + j))) (ltb (c * m + (k + 1)) (a * m + (j + 1)))
    (λ h. ⊎_elim
    (λ less. let lt = ltb-true (c + 1) (a + 1) less in let r = rows m c a (omega arith) in lt-ltb (c * m + (k + 1)) (a * m + (j + 1)) (omega arith))
    (λ tie. let both = and_parts (eqb (a + 1) (c + 1)) (ltb (1 + k) (1 + j)) tie in
    let e = eqb-true (a + 1) (c + 1) both.0 in
    let lt = ltb-true (1 + k) (1 + j) both.1 in
    let same : a ≡ c = omega arith in
    let r = ap (λ z. z * m) same in
    lt-ltb (c * m + (k + 1)) (a * m + (j + 1)) (omega arith))
    (or_cases (ltb (c + 1) (a + 1)) (eqb (a + 1) (c + 1) && ltb (1 + k) (1 + j)) h))
    (λ h.
    let lt = ltb-true (c * m + (k + 1)) (a * m + (j + 1)) h in
    ⊎_elim
    (λ same.
    let r = ap (λ z. z * m) same in
    or_right (ltb (c + 1) (a + 1)) (eqb (a + 1) (c + 1) && ltb (1 + k) (1 + j))
    (and_from (eqb (a + 1) (c + 1)) (ltb (1 + k) (1 + j)) (eq-eqb (a + 1) (c + 1) (omega arith)) (lt-ltb (1 + k) (1 + j) (omega arith))))
    (λ other. ⊎_elim
    (λ down. let r = rows m a c down in absurd (omega arith))
    (λ up. or_left (ltb (c + 1) (a + 1)) (eqb (a + 1) (c + 1) && ltb (1 + k) (1 + j)) (lt-ltb (c + 1) (a + 1) (omega arith)))
    other)
    (cases_order a c))

-- a pair is later exactly where its number is greater
pub later-turn : (m : ℕ) (s q : Seat) (j k a c : ℕ) → j < m → k < m → is_later (seat_turn s (1 + j) a) (seat_turn q (1 + k) c) ≡ ltb (turn_number m k q.target c) (turn_number m j s.target a)
later-turn m s q j k a c jm km =
    ⊎_elim
    (λ highA.
    let pa = past s.target a highA in
    let ta = turn_pair_high s (1 + j) a pa.0 pa.1 in
    let na = turn_high m j s.target a pa.0 pa.1 in
    ⊎_elim
    (λ highC.
    let pc = past q.target c highC in
    let tc = turn_pair_high q (1 + k) c pc.0 pc.1 in
    let nc = turn_high m k q.target c pc.0 pc.1 in
    ap (λ t. is_later t (seat_turn q (1 + k) c)) ta ∙ (ap (λ t. is_later (pa.0 + 1, 1 + j) t) tc ∙ (rows_decide m pa.0 pc.0 j k jm km
    ∙ (ap (λ n. ltb n (pa.0 * m + (j + 1))) (sym nc) ∙ ap (λ n. ltb (turn_number m k q.target c) n) (sym na)))))
    (λ lowC.
    let tc = turn_pair_low q (1 + k) c lowC in
    let nc = turn_low m k q.target c lowC in
    ap (λ t. is_later t (seat_turn q (1 + k) c)) ta ∙ (ap (λ t. is_later (pa.0 + 1, 1 + j) t) tc
    ∙ (or_left (ltb 0 (pa.0 + 1)) (eqb (pa.0 + 1) 0 && ltb 0 (1 + j)) (lt-ltb 0 (pa.0 + 1) (omega arith))
    ∙ sym (lt-ltb (turn_number m k q.target c) (turn_number m j s.target a) (omega arith)))))
    (cases_lt q.target c))
    (λ lowA.
    let ta = turn_pair_low s (1 + j) a lowA in
    let na = turn_low m j s.target a lowA in
    ap (λ t. is_later t (seat_turn q (1 + k) c)) ta ∙ (never_before (seat_turn q (1 + k) c) ∙ sym (le-ltb (turn_number m k q.target c) (turn_number m j s.target a) (omega arith))))
    (cases_lt s.target a)

-- ---- tests on each member

pub all_members : (p : ℕ → Bool) (L : List ℕ) → list_all p L ≡ true → (y : ℕ) → IsIn y L → p y ≡ true
all_members p [] h y i = absurd (not_in_nil y i)
all_members p (z ∷ L) h y i =
    let both = and_parts (p z) (list_all p L) h in
    ⊎_elim (λ e. ap p e ∙ both.0) (λ later. all_members p L both.1 y later) (IsIn-cases y z L i)

pub members_all : (p : ℕ → Bool) (L : List ℕ) → ((y : ℕ) → IsIn y L → p y ≡ true) → list_all p L ≡ true
members_all p [] h = refl
members_all p (z ∷ L) h = and_from (p z) (list_all p L) (h z (IsIn-here z L)) (members_all p L (λ y i. h y (IsIn-later y z L i)))

-- ---- the held turns

module _ (b : Board) (S : List ℕ) (T : ℕ × ℕ) where
  -- of one hospital
  own_turns : (s : Seat) (p n : ℕ) → list_all (is_later T) (map (seat_turn s p) (range_with_len 1 n)) ≡ true → (q : ℕ) → 0 < q → q ≤ n → is_later T (seat_turn s p q) ≡ true
  own_turns s p n h q lo hi =
      let g = all_at (λ k. is_later T (seat_turn s p k)) (range_with_len 1 n) 0 (sym (list_all-map (is_later T) (seat_turn s p) (range_with_len 1 n)) ∙ h) (q - 1) (let l = length-range_with_len 1 n in omega arith) in
      let e : get_or (range_with_len 1 n) (q - 1) 0 ≡ q = get_or-range_with_len 1 n (q - 1) 0 (omega arith) ∙ (omega arith) in
      subst (λ k. is_later T (seat_turn s p k) ≡ true) e g

  turns_own : (s : Seat) (p n : ℕ) → ((q : ℕ) → 0 < q → q ≤ n → is_later T (seat_turn s p q) ≡ true) → list_all (is_later T) (map (seat_turn s p) (range_with_len 1 n)) ≡ true
  turns_own s p n h =
      list_all-map (is_later T) (seat_turn s p) (range_with_len 1 n)
      ∙ at_all (λ k. is_later T (seat_turn s p k)) (range_with_len 1 n) 0 (λ k lt.
      let l = length-range_with_len 1 n in
      let e = get_or-range_with_len 1 n k 0 (omega arith) in
      subst (λ q. is_later T (seat_turn s p q) ≡ true) (sym e) (h (1 + k) (omega arith) (omega arith)))

  pub each_turn : (p : ℕ) (seats : List Seat) → list_all (is_later T) (held_turns b S p seats) ≡ true →
      (k : ℕ) → k < length seats → (q : ℕ) → 0 < q → q ≤ held_at b S (get_or seats k no_seat) → is_later T (seat_turn (get_or seats k no_seat) (p + k) q) ≡ true
  each_turn p [] h k lt q lo hi = absurd (omega arith)
  each_turn p (s ∷ seats) h zero lt q lo hi =
      let both = and_parts (list_all (is_later T) (map (seat_turn s p) (range_with_len 1 (held_at b S s)))) (list_all (is_later T) (held_turns b S (p + 1) seats))
      (sym (list_all-append (is_later T) (map (seat_turn s p) (range_with_len 1 (held_at b S s))) (held_turns b S (p + 1) seats)) ∙ h) in
      let e : p + zero ≡ p = omega arith in
      subst (λ z. is_later T (seat_turn s z q) ≡ true) (sym e) (own_turns s p (held_at b S s) both.0 q lo hi)
  each_turn p (s ∷ seats) h (suc k) lt q lo hi =
      let both = and_parts (list_all (is_later T) (map (seat_turn s p) (range_with_len 1 (held_at b S s)))) (list_all (is_later T) (held_turns b S (p + 1) seats))
      (sym (list_all-append (is_later T) (map (seat_turn s p) (range_with_len 1 (held_at b S s))) (held_turns b S (p + 1) seats)) ∙ h) in
      let e : (p + 1) + k ≡ p + suc k = omega arith in
      subst (λ z. is_later T (seat_turn (get_or seats k no_seat) z q) ≡ true) e (each_turn (p + 1) seats both.1 k (omega arith) q lo hi)

  pub turn_each : (p : ℕ) (seats : List Seat) →
      ((k : ℕ) → k < length seats → (q : ℕ) → 0 < q → q ≤ held_at b S (get_or seats k no_seat) → is_later T (seat_turn (get_or seats k no_seat) (p + k) q) ≡ true) →
      list_all (is_later T) (held_turns b S p seats) ≡ true
  turn_each p [] h = refl
  turn_each p (s ∷ seats) h =
      list_all-append (is_later T) (map (seat_turn s p) (range_with_len 1 (held_at b S s))) (held_turns b S (p + 1) seats)
      ∙ and_from (list_all (is_later T) (map (seat_turn s p) (range_with_len 1 (held_at b S s)))) (list_all (is_later T) (held_turns b S (p + 1) seats))
      (turns_own s p (held_at b S s) (λ q lo hi. let e : p + zero ≡ p = omega arith in subst (λ z. is_later T (seat_turn s z q) ≡ true) e (h zero (omega arith) q lo hi)))
      (turn_each (p + 1) seats (λ k lt q lo hi. let e : p + suc k ≡ (p + 1) + k = omega arith in subst (λ z. is_later T (seat_turn (get_or seats k no_seat) z q) ≡ true) e (h (suc k) (omega arith) q lo hi)))

-- ---- a hospital without a seat for more

module _ (b : Board) (r : Region) (S : List ℕ) (j : ℕ) (lj : j < length r.seats) where
  pub no_seat_says : has_no_seat b r S (1 + j) (seat_at r j) ≡ true → (count_at (hospital_of b) (seat_at r j) S ≡ (seat_at r j).capacity) ⊎ IsFull (hospital_of b) r S j
  unfolding has_no_seat
  no_seat_says h =
      let f = hospital_of b in
      let c = count_at f (seat_at r j) S in
      let T = seat_turn (seat_at r j) (1 + j) (c + 1) in
      ⊎_elim
      (λ full. inl (eqb-true c (seat_at r j).capacity full))
      (λ rest.
      let both = and_parts (eqb (region_count b r S) r.cap) (list_all (is_later T) (held_turns b S 1 r.seats)) rest in
      inr (record {
        full = eqb-true (region_count b r S) r.cap both.0;
        later = λ k lk pos'.
            let g = each_turn b S T 1 r.seats both.1 k lk (count_at f (seat_at r k) S) pos' (omega arith) in
            ltb-true (turn_of r k (count_at f (seat_at r k) S)) (turn_of r j (c + 1))
            (sym (later-turn (length r.seats) (seat_at r j) (seat_at r k) j k (c + 1) (count_at f (seat_at r k) S) lj lk) ∙ g);
      }))
      (or_cases (eqb c (seat_at r j).capacity) (eqb (region_count b r S) r.cap && list_all (is_later T) (held_turns b S 1 r.seats)) h)

  pub no_seat_from : (count_at (hospital_of b) (seat_at r j) S ≡ (seat_at r j).capacity) ⊎ IsFull (hospital_of b) r S j → has_no_seat b r S (1 + j) (seat_at r j) ≡ true
  unfolding has_no_seat
  no_seat_from how =
      let f = hospital_of b in
      let c = count_at f (seat_at r j) S in
      let T = seat_turn (seat_at r j) (1 + j) (c + 1) in
      ⊎_elim
      (λ full. or_left (eqb c (seat_at r j).capacity) (eqb (region_count b r S) r.cap && list_all (is_later T) (held_turns b S 1 r.seats)) (eq-eqb c (seat_at r j).capacity full))
      (λ d. or_right (eqb c (seat_at r j).capacity) (eqb (region_count b r S) r.cap && list_all (is_later T) (held_turns b S 1 r.seats))
      (and_from (eqb (region_count b r S) r.cap) (list_all (is_later T) (held_turns b S 1 r.seats)) (eq-eqb (region_count b r S) r.cap d.full)
      (turn_each b S T 1 r.seats (λ k lk q lo hi.
      let up = turn_rises (length r.seats) k (seat_at r k).target q (count_at f (seat_at r k) S) hi in
      let lt = d.later k lk (omega arith) in
      later-turn (length r.seats) (seat_at r j) (seat_at r k) j k (c + 1) q lj lk ∙ lt-ltb (turn_of r k q) (turn_of r j (c + 1)) (omega arith)))))
      how

-- ---- a contract that is passed over

module _ (b : Board) (regions : List Region) (one_place : (h i j k l : ℕ) → IsPlace regions h i j → IsPlace regions h k l → (i ≡ k) × (j ≡ l)) (S : List ℕ) (x i j : ℕ) (p : IsPlace regions (hospital_of b x) i j) where
  entry : (k l : ℕ) → l < length (region_at regions k).seats → get_or (enumerate_from 1 (region_at regions k).seats) l (0, no_seat) ≡ (1 + l, seat_at (region_at regions k) l)
  entry k l lt = get_or-enumerate_from 1 (region_at regions k).seats l (0, no_seat) lt

  pub passed_says : is_passed_over b regions S x ≡ true → IsPassed (hospital_of b) (region_at regions i) S j x
  passed_says h =
      let r = region_at regions i in
      let hx = hospital_of b x in
      let both = and_parts (list_all (λ y. ltb y x) (at_hospital b hx S)) (list_all (λ q. is_full b q S hx) regions) h in
      let mine = all_at (λ q. is_full b q S hx) regions no_region both.1 i p.region in
      let le = length-enumerate_from 1 r.seats in
      let at = all_at (λ e. not (eqb e.1.hospital hx) || has_no_seat b r S e.0 e.1) (enumerate_from 1 r.seats) (0, no_seat) mine j (let lt = p.seat in omega arith) in
      let here : (not (eqb (seat_at r j).hospital hx) || has_no_seat b r S (1 + j) (seat_at r j)) ≡ true =
      subst (λ e. (not (eqb e.1.hospital hx) || has_no_seat b r S e.0 e.1) ≡ true) (entry i j p.seat) at in
      record {
        above = λ y iy e. ltb-true y x (all_members (λ z. ltb z x) (at_hospital b hx S) both.0 y (IsIn-filter (λ z. eqb (hospital_of b z) hx) S y iy (eq-eqb (hospital_of b y) hx e)));
        no_seat = ⊎_elim
            (λ off. absurd (not_both (not (eqb (seat_at r j).hospital hx)) off (not_from_true (eqb (seat_at r j).hospital hx) (eq-eqb (seat_at r j).hospital hx p.hospital))))
            (λ g. no_seat_says b r S j p.seat g)
            (or_cases (not (eqb (seat_at r j).hospital hx)) (has_no_seat b r S (1 + j) (seat_at r j)) here);
      }

  pub passed_from : IsPassed (hospital_of b) (region_at regions i) S j x → is_passed_over b regions S x ≡ true
  passed_from d =
      let hx = hospital_of b x in
      and_from (list_all (λ y. ltb y x) (at_hospital b hx S)) (list_all (λ q. is_full b q S hx) regions)
      (members_all (λ z. ltb z x) (at_hospital b hx S) (λ y iy.
      let a = IsIn-from_filter (λ z. eqb (hospital_of b z) hx) S y iy in
      lt-ltb y x (d.above y a.0 (eqb-true (hospital_of b y) hx a.1))))
      (at_all (λ q. is_full b q S hx) regions no_region (λ k lk.
      let r = region_at regions k in
      at_all (λ e. not (eqb e.1.hospital hx) || has_no_seat b r S e.0 e.1) (enumerate_from 1 r.seats) (0, no_seat) (λ l ll.
      let le = length-enumerate_from 1 r.seats in
      let lt : l < length r.seats = omega arith in
      subst (λ e. (not (eqb e.1.hospital hx) || has_no_seat b r S e.0 e.1) ≡ true) (sym (entry k l lt)) (at k l lk lt))))
    where
      at : (k l : ℕ) → k < length regions → l < length (region_at regions k).seats →
          (not (eqb (seat_at (region_at regions k) l).hospital (hospital_of b x)) || has_no_seat b (region_at regions k) S (1 + l) (seat_at (region_at regions k) l)) ≡ true
      at k l lk ll =
          ⊎_elim
          (λ e.
          let same = one_place (hospital_of b x) i j k l p (record { region = lk; seat = ll; hospital = e }) in
          or_right (not (eqb (seat_at (region_at regions k) l).hospital (hospital_of b x))) (has_no_seat b (region_at regions k) S (1 + l) (seat_at (region_at regions k) l))
          (subst₂ (λ q t. has_no_seat b (region_at regions q) S (1 + t) (seat_at (region_at regions q) t) ≡ true) same.0 same.1 (no_seat_from b (region_at regions i) S j p.seat d.no_seat)))
          (λ ne. or_left (not (eqb (seat_at (region_at regions k) l).hospital (hospital_of b x))) (has_no_seat b (region_at regions k) S (1 + l) (seat_at (region_at regions k) l))
          (not_from_false (eqb (seat_at (region_at regions k) l).hospital (hospital_of b x)) (ne_eqb (seat_at (region_at regions k) l).hospital (hospital_of b x) ne)))
          (cases_eq (seat_at (region_at regions k) l).hospital (hospital_of b x))
