-- On the board of regions: which sets are feasible, and what one contract adds to the worth.
use Rattle.std.proofs.Common.{◌≡◌, ℕ, zero, suc, ◌+◌, ◌-◌, ◌*◌, ◌<◌, ◌≤◌, Bool, true, false, cond, List, [], ◌∷◌, length, get_or, eqb, leb, count_by, replicate, ℤ, pos, ◌+ℤ◌, ◌-ℤ◌, ◌<ℤ◌, refl, sym, ap, ◌∙◌, ⊎_elim, arith, eq-eqb}
use Rattle.std.proofs.lemmas.Int.{ints}
use Rattle.std.proofs.lemmas.List.Sums.{length-filter}
use Rattle.std.proofs.lemmas.List.Elements.{All-from_get_or}
use Rattle.std.proofs.lemmas.List.FromFn.{get_or-map-range_with_len, length-map-range_with_len}
use Rattle.rm_sets.specs.Sets.{has, IsIn, IsSetBelow, with_one}
use Rattle.rm_sets.proofs.Sets.{IsIn-here, IsIn-later}
use Rattle.rm_sets.proofs.Members.{IsSetBelow-with_one}
use Rattle.rm_valuation_laws.specs.Changes.{in_node, test_at, on, next_step, gain, sum_upto}
use Rattle.rm_valuation_laws.proofs.Counts.{one, count-cons}
use Rattle.rm_valuation_laws.proofs.Sums.{sum_by_place, sum_upto_same, sum_upto_one}
use Rattle.rm_valuation_laws.proofs.LaminarExchange.{caps_from_feasible, feasible_from_caps}
use Rattle.rm_valuation_laws.proofs.Change.{worth_added}
use Rattle.rm_market.specs.Board.{Board, Node, contract_count, hospital_of, count, is_feasible, worth, node_at, no_node}
use Rattle.rm_market.specs.Flexible.{Region, seat_worth, greatest_capacity_of, full_worth, seat_steps}
use Rattle.rm_flexible_laws.specs.Region.{no_seat, seat_at, region_at, IsRegions, IsPlace}
use Rattle.rm_flexible_laws.proofs.ByCounts.{count_at, count_in, is_of, turn_of, IsInCaps}
use Rattle.rm_flexible_laws.specs.Compiled.{IsSeatNode, IsCapNode, IsCompiled}
use Rattle.rm_flexible_laws.proofs.Keys.{turn_bound}
use Rattle.rm_flexible_laws.proofs.Tests.{sums_le}
use Rattle.rm_flexible_laws.proofs.Counts.{eqb-sym, count_in-sum, passing-with_one}
use Rattle.rm_flexible_laws.proofs.Pick.{capacity_le, region_ok}

-- the worth of the seat k of hospital j
abbrev pub value : Region → ℕ → ℕ → ℤ
value r j k = pos (full_worth r) -ℤ pos (turn_of r j k)

seat_worth-value : (r : Region) (j k : ℕ) → seat_worth (full_worth r) (length r.seats) (j + 1) (seat_at r j).target k ≡ value r j k
seat_worth-value r j k = by (leb k (seat_at r j).target) ((k - (seat_at r j).target - 1) * length r.seats + (j + 1))
  where
    by : (c : Bool) (y : ℕ) → cond c (pos (full_worth r)) (pos (full_worth r) -ℤ pos y) ≡ pos (full_worth r) -ℤ pos (cond c 0 y)
    by true y = omega (arith, ints)
    by false y = refl

-- an earlier turn is worth more
pub value_less : (r : Region) (j k l m : ℕ) → turn_of r j k < turn_of r l m → value r l m <ℤ value r j k
value_less r j k l m lt = omega (arith, ints)

-- each seat is worth something
pub value_positive : (r : Region) (j k : ℕ) → j < length r.seats → k ≤ (seat_at r j).capacity → pos 0 <ℤ value r j k
value_positive r j k lj le =
    let big = capacity_le r j lj in
    let b = turn_bound (length r.seats) j (seat_at r j).target k (greatest_capacity_of r) lj (omega arith) in
    let e : greatest_capacity_of r * length r.seats ≡ length r.seats * greatest_capacity_of r = omega arith in
    omega (arith, ints)

-- tests that agree on a set's members count alike
count_alike : (p q : ℕ → Bool) (S : List ℕ) → ((x : ℕ) → IsIn x S → p x ≡ q x) → count_by p S ≡ count_by q S
count_alike p q [] h = refl
count_alike p q (x ∷ S) h =
    let e1 = count-cons p x S in
    let e2 = count-cons q x S in
    let here = ap one (h x (IsIn-here x S)) in
    let rest = count_alike p q S (λ y i. h y (IsIn-later y x S i)) in
    omega arith

get_or-replicate_zero : (c k : ℕ) → get_or (replicate c (pos 0)) k (pos 0) ≡ pos 0
get_or-replicate_zero zero k = refl
get_or-replicate_zero (suc c) zero = refl
get_or-replicate_zero (suc c) (suc k) = get_or-replicate_zero c k

length_zeros : (c : ℕ) → length (replicate c (pos 0)) ≡ c
length_zeros zero = refl
length_zeros (suc c) = ap suc (length_zeros c)

on_zero : (c : Bool) → on c (pos 0) ≡ pos 0
on_zero true = refl
on_zero false = refl

module _ (b : Board) (regions : List Region) (ok : IsRegions (contract_count b) (hospital_of b) regions) (made : IsCompiled b regions) where
  -- ---- counts

  seat_count : (r : Region) (j : ℕ) (n : Node) (S : List ℕ) → IsSeatNode b r j n → IsSetBelow (contract_count b) S → count b n.leaves S ≡ count_at (hospital_of b) (seat_at r j) S
  seat_count r j n S c s =
      count_alike (in_node b n) (λ x. eqb (hospital_of b x) (seat_at r j).hospital) S (λ x i. c.contracts x (s.below x i))
      ∙ sym (length-filter (λ x. eqb (hospital_of b x) (seat_at r j).hospital) S)

  cap_count : (r : Region) (n : Node) (S : List ℕ) → IsCapNode b r n → IsSetBelow (contract_count b) S → count b n.leaves S ≡ count_in (hospital_of b) r S
  cap_count r n S c s =
      count_alike (in_node b n) (is_of (hospital_of b) r) S (λ x i. c.contracts x (s.below x i))
      ∙ sym (length-filter (is_of (hospital_of b) r) S)

  seat_cap : (r : Region) (j : ℕ) (n : Node) → IsSeatNode b r j n → length n.steps ≡ (seat_at r j).capacity
  seat_cap r j n c = ap length c.steps ∙ length-map-range_with_len (seat_worth (full_worth r) (length r.seats) (j + 1) (seat_at r j).target) 1 (seat_at r j).capacity

  cap_cap : (r : Region) (n : Node) → IsCapNode b r n → length n.steps ≡ r.cap
  cap_cap r n c = ap length c.steps ∙ length_zeros r.cap

  -- ---- feasible sets

  pub caps_of_feasible : (S : List ℕ) → IsSetBelow (contract_count b) S → is_feasible b S ≡ true → IsInCaps (hospital_of b) regions S
  caps_of_feasible S s h = record { in_region = region_fits; at_seat = seat_fits }
    where
      seat_fits : (i j : ℕ) → i < length regions → j < length (region_at regions i).seats → count_at (hospital_of b) (seat_at (region_at regions i) j) S ≤ (seat_at (region_at regions i) j).capacity
      seat_fits i j li lj =
          let r = region_at regions i in
          let node = made.hospitals (seat_at r j).hospital i j (record { region = li; seat = lj; hospital = refl }) in
          let c = seat_count r j (node_at b (seat_at r j).hospital) S node.1 s in
          let l = seat_cap r j (node_at b (seat_at r j).hospital) node.1 in
          let le = caps_from_feasible b S h (seat_at r j).hospital no_node node.0 in
          omega arith

      region_fits : (i : ℕ) → i < length regions → count_in (hospital_of b) (region_at regions i) S ≤ (region_at regions i).cap
      region_fits i li =
          let r = region_at regions i in
          ⊎_elim
          (λ node.
          let c = cap_count r (node_at b node.0) S node.2 s in
          let l = cap_cap r (node_at b node.0) node.2 in
          let le = caps_from_feasible b S h node.0 no_node node.1 in
          omega arith)
          (λ free.
          let e = count_in-sum (hospital_of b) r S (region_ok (contract_count b) (hospital_of b) regions ok i li) in
          let le = sums_le (λ q. count_at (hospital_of b) q S) (λ q. q.capacity) r.seats no_seat (λ k lk. seat_fits i k li lk) in
          omega arith)
          (made.caps i li)

  pub feasible_of_caps : (S : List ℕ) → IsSetBelow (contract_count b) S → IsInCaps (hospital_of b) regions S → is_feasible b S ≡ true
  feasible_of_caps S s caps =
      feasible_from_caps b S (All-from_get_or (λ n. count b n.leaves S ≤ length n.steps) b.nodes no_node (λ k lt.
      ⊎_elim
      (λ seat.
      let i = seat.0 in
      let j = seat.1 in
      let p : IsPlace regions k i j = seat.2 in
      let r = region_at regions i in
      let node = made.hospitals k i j p in
      let c = seat_count r j (node_at b k) S node.1 s in
      let l = seat_cap r j (node_at b k) node.1 in
      let le = caps.at_seat i j p.region p.seat in
      omega arith)
      (λ region.
      let r = region_at regions region.0 in
      let c = cap_count r (node_at b k) S region.2 s in
      let l = cap_cap r (node_at b k) region.2 in
      let le = caps.in_region region.0 region.1 in
      omega arith)
      (made.others k lt)))

  -- ---- the worth of one more contract

  gain_is : (S : List ℕ) (x i j : ℕ) → IsSetBelow (contract_count b) S → x < contract_count b → IsPlace regions (hospital_of b x) i j →
      count_at (hospital_of b) (seat_at (region_at regions i) j) S < (seat_at (region_at regions i) j).capacity →
      gain b S x ≡ value (region_at regions i) j (count_at (hospital_of b) (seat_at (region_at regions i) j) S + 1)
  gain_is S x i j s lx p room =
      let r = region_at regions i in
      let h = hospital_of b x in
      let node = made.hospitals h i j p in
      let term = λ (k : ℕ). next_step b S (node_at b k) in
      let all : gain b S x ≡ sum_upto (length b.nodes) (λ k. on (test_at b k x) (term k)) = sum_by_place (λ n. on (in_node b n x) (next_step b S n)) no_node b.nodes in
      let same = sum_upto_same (length b.nodes) (λ k. on (test_at b k x) (term k)) (λ k. on (eqb k h) (term k)) (λ k lt. each k lt) in
      let own = sum_upto_one (length b.nodes) h term node.0 in
      let c = seat_count r j (node_at b h) S node.1 s in
      let step : term h ≡ value r j (count_at (hospital_of b) (seat_at r j) S + 1) =
      ap (λ st. get_or st (count b (node_at b h).leaves S) (pos 0)) node.1.steps
      ∙ (ap (λ q. get_or (seat_steps r (j + 1) (seat_at r j)) q (pos 0)) c
      ∙ (get_or-map-range_with_len (seat_worth (full_worth r) (length r.seats) (j + 1) (seat_at r j).target) 1 (seat_at r j).capacity (count_at (hospital_of b) (seat_at r j) S) (count_at (hospital_of b) (seat_at r j) S + 1) (pos 0) room (omega arith)
      ∙ seat_worth-value r j (count_at (hospital_of b) (seat_at r j) S + 1))) in
      all ∙ (same ∙ (own ∙ step))
    where
      each : (k : ℕ) → k < length b.nodes → on (test_at b k x) (next_step b S (node_at b k)) ≡ on (eqb k (hospital_of b x)) (next_step b S (node_at b k))
      each k lt =
          ⊎_elim
          (λ seat.
          let q : IsPlace regions k seat.0 seat.1 = seat.2 in
          let node = made.hospitals k seat.0 seat.1 q in
          ap (λ c. on c (next_step b S (node_at b k)))
          (node.1.contracts x lx ∙ (ap (λ z. eqb (hospital_of b x) z) q.hospital ∙ eqb-sym (hospital_of b x) k)))
          (λ region.
          let z : next_step b S (node_at b k) ≡ pos 0 =
          ap (λ st. get_or st (count b (node_at b k).leaves S) (pos 0)) region.2.steps ∙ get_or-replicate_zero (region_at regions region.0).cap (count b (node_at b k).leaves S) in
          ap (on (test_at b k x)) z ∙ (on_zero (test_at b k x) ∙ (sym (on_zero (eqb k (hospital_of b x))) ∙ ap (on (eqb k (hospital_of b x))) (sym z))))
          (made.others k lt)

  -- adding x
  pub worth_with : (S : List ℕ) (x i j : ℕ) → IsSetBelow (contract_count b) S → x < contract_count b → has x S ≡ false → IsPlace regions (hospital_of b x) i j → is_feasible b (with_one S x) ≡ true →
      worth b (with_one S x) ≡ worth b S +ℤ value (region_at regions i) j (count_at (hospital_of b) (seat_at (region_at regions i) j) S + 1)
  worth_with S x i j s lx out p h =
      let r = region_at regions i in
      let caps = caps_of_feasible (with_one S x) (IsSetBelow-with_one (contract_count b) S x s lx) h in
      let le = caps.at_seat i j p.region p.seat in
      let e = passing-with_one (λ y. eqb (hospital_of b y) (seat_at r j).hospital) S x out in
      let o : one (eqb (hospital_of b x) (seat_at r j).hospital) ≡ 1 = ap one (eq-eqb (hospital_of b x) (seat_at r j).hospital (sym p.hospital)) in
      worth_added b S x out h ∙ ap (λ z. worth b S +ℤ z) (gain_is S x i j s lx p (omega arith))
