-- On the board of regions, the best subset is one that the regions keep.
use Rattle.std.proofs.Common.{◌≡◌, ◌⊎◌, ℕ, ◌+◌, ◌<◌, ◌≤◌, true, false, List, length, eqb, ℤ, pos, ◌+ℤ◌, ◌<ℤ◌, sym, ap, ◌∙◌, subst, inl, inr, ⊎_elim, arith, eq-eqb, eqb-true}
use Rattle.std.proofs.Math.Path.{subst₂}
use Rattle.std.proofs.lemmas.Int.{ints}
use Rattle.std.proofs.lemmas.Bool.{cases_lt, cases_eq, cases_order, cases_Bool}
use Rattle.rm_sets.specs.Sets.{has, IsIn, IsSetBelow, with_one}
use Rattle.rm_sets.proofs.Sets.{not_both}
use Rattle.rm_sets.proofs.Members.{IsSetBelow-with_one, IsSetBelow-smaller}
use Rattle.rm_valuation_laws.proofs.Moves.{IsSetBelow-swapped}
use Rattle.rm_valuation_laws.proofs.Counts.{one}
use Rattle.rm_valuation_laws.proofs.Decision.{swap_better}
use Rattle.rm_valuation_laws.proofs.GreedySteps.{unimproved_from_best}
use Rattle.rm_market.specs.Board.{Board, IsBoard, contract_count, hospital_of, is_feasible, worth}
use Rattle.rm_market.specs.Best.{is_better, IsBest, values_of, swapped}
use Rattle.rm_market.specs.Flexible.{Region}
use Rattle.rm_flexible_laws.specs.Region.{no_seat, seat_at, region_at, IsRegions, IsPlace}
use Rattle.rm_flexible_laws.proofs.ByCounts.{count_at, count_in, is_of, turn_of, IsPassed, IsPickedBy}
use Rattle.rm_flexible_laws.specs.Compiled.{IsCompiled}
use Rattle.rm_flexible_laws.proofs.Keys.{turn_low, turn_grows, turns_apart, turn_positive, past_from_turn}
use Rattle.rm_flexible_laws.proofs.Tests.{some_less}
use Rattle.rm_flexible_laws.proofs.Counts.{count_in-sum, passing-with_one, passing_member}
use Rattle.rm_flexible_laws.proofs.First.{seats_one}
use Rattle.rm_flexible_laws.proofs.Pick.{one_place, of_seat, region_ok, of_place, one_region}
use Rattle.rm_flexible_laws.proofs.Compiled.{value, value_less, value_positive, caps_of_feasible, feasible_of_caps, worth_with}
use Rattle.rm_flexible_laws.proofs.Best.{before, same_worth, swap_worths, passing-swapped, greater_better}

module _ (doctors : ℕ) (b : Board) (regions : List Region) (board : IsBoard doctors b) (ok : IsRegions (contract_count b) (hospital_of b) regions) (made : IsCompiled b regions) where
  -- the counts after x comes into the place of z, where x has a seat left and its region has room or z
  module _ (S : List ℕ) (s : IsSetBelow (contract_count b) S) (hS : is_feasible b S ≡ true) (x : ℕ) (lx : x < contract_count b) (out : has x S ≡ false) (i j : ℕ) (p : IsPlace regions (hospital_of b x) i j) where
    swap_fits : (z : ℕ) → IsIn z S →
        (hospital_of b z ≡ hospital_of b x) ⊎ (count_at (hospital_of b) (seat_at (region_at regions i) j) S < (seat_at (region_at regions i) j).capacity) →
        is_of (hospital_of b) (region_at regions i) z ≡ true → is_feasible b (swapped S x z) ≡ true
    swap_fits z iz how inside =
        let caps = caps_of_feasible b regions ok made S s hS in
        feasible_of_caps b regions ok made (swapped S x z) (IsSetBelow-swapped (contract_count b) S z x s lx) (record {
          in_region = λ k lk.
              let e = passing-swapped (is_of (hospital_of b) (region_at regions k)) S z x s.ascending iz out in
              let le = caps.in_region k lk in
              ⊎_elim
              (λ yes.
              let same = one_region (contract_count b) (hospital_of b) regions ok x k i lk p.region yes (of_place (contract_count b) (hospital_of b) regions ok x i j p) in
              let ox = ap one yes in
              let oz : one (is_of (hospital_of b) (region_at regions k) z) ≡ 1 = ap one (subst (λ q. is_of (hospital_of b) (region_at regions q) z ≡ true) (sym same) inside) in
              omega arith)
              (λ no. let ox = ap one no in omega arith)
              (cases_Bool (is_of (hospital_of b) (region_at regions k) x));
          at_seat = λ k l lk ll.
              let h = (seat_at (region_at regions k) l).hospital in
              let e = passing-swapped (λ y. eqb (hospital_of b y) h) S z x s.ascending iz out in
              let le = caps.at_seat k l lk ll in
              ⊎_elim
              (λ yes.
              let at : h ≡ hospital_of b x = sym (eqb-true (hospital_of b x) h yes) in
              let one' = one_place (contract_count b) (hospital_of b) regions ok (hospital_of b x) k l i j (record { region = lk; seat = ll; hospital = at }) p in
              let ox = ap one yes in
              ⊎_elim
              (λ same. let oz : one (eqb (hospital_of b z) h) ≡ 1 = ap one (eq-eqb (hospital_of b z) h (same ∙ sym at)) in omega arith)
              (λ room. let room' = subst₂ (λ q t. count_at (hospital_of b) (seat_at (region_at regions q) t) S < (seat_at (region_at regions q) t).capacity) (sym one'.0) (sym one'.1) room in omega arith)
              how)
              (λ no. let ox = ap one no in omega arith)
              (cases_Bool (eqb (hospital_of b x) h));
        })

    -- x can be added where its hospital and its region have a seat left
    add_fits : count_at (hospital_of b) (seat_at (region_at regions i) j) S < (seat_at (region_at regions i) j).capacity → count_in (hospital_of b) (region_at regions i) S < (region_at regions i).cap →
        is_feasible b (with_one S x) ≡ true
    add_fits room open' =
        let caps = caps_of_feasible b regions ok made S s hS in
        feasible_of_caps b regions ok made (with_one S x) (IsSetBelow-with_one (contract_count b) S x s lx) (record {
          in_region = λ k lk.
              let e = passing-with_one (is_of (hospital_of b) (region_at regions k)) S x out in
              let le = caps.in_region k lk in
              ⊎_elim
              (λ yes.
              let same = one_region (contract_count b) (hospital_of b) regions ok x k i lk p.region yes (of_place (contract_count b) (hospital_of b) regions ok x i j p) in
              let ox = ap one yes in
              let o = subst (λ q. count_in (hospital_of b) (region_at regions q) S < (region_at regions q).cap) (sym same) open' in
              omega arith)
              (λ no. let ox = ap one no in omega arith)
              (cases_Bool (is_of (hospital_of b) (region_at regions k) x));
          at_seat = λ k l lk ll.
              let h = (seat_at (region_at regions k) l).hospital in
              let e = passing-with_one (λ y. eqb (hospital_of b y) h) S x out in
              let le = caps.at_seat k l lk ll in
              ⊎_elim
              (λ yes.
              let at : h ≡ hospital_of b x = sym (eqb-true (hospital_of b x) h yes) in
              let one' = one_place (contract_count b) (hospital_of b) regions ok (hospital_of b x) k l i j (record { region = lk; seat = ll; hospital = at }) p in
              let ox = ap one yes in
              let room' = subst₂ (λ q t. count_at (hospital_of b) (seat_at (region_at regions q) t) S < (seat_at (region_at regions q) t).capacity) (sym one'.0) (sym one'.1) room in
              omega arith)
              (λ no. let ox = ap one no in omega arith)
              (cases_Bool (eqb (hospital_of b x) h));
        })

    -- no single change that takes x in makes S better
    module _ (no_add : is_better (values_of b) (with_one S x) S ≡ false) (no_swap : (z : ℕ) → IsIn z S → is_better (values_of b) (swapped S x z) S ≡ false) where
      all_above : (y : ℕ) → IsIn y S → hospital_of b y ≡ hospital_of b x → y < x
      all_above y iy e =
          ⊎_elim
          (λ same. absurd (not_both (has x S) (subst (λ z. IsIn z S) same iy) out))
          (λ other. ⊎_elim
          (λ up. up)
          (λ down.
          let inside = of_seat (hospital_of b) (region_at regions i) y j p.seat (p.hospital ∙ sym e) in
          let h = swap_fits y iy (inl e) inside in
          let w = same_worth doctors b regions board ok made S y x i j s hS iy lx out e p h in
          let t = before doctors b regions board ok made x y down (s.below y iy) (sym e) in
          absurd (not_both (is_better (values_of b) (swapped S x y) S) (swap_better (values_of b) S y x iy out h (inr (w, t))) (no_swap y iy)))
          other)
          (cases_order y x)

      -- the region is full, if the hospital isn't
      region_full : count_at (hospital_of b) (seat_at (region_at regions i) j) S < (seat_at (region_at regions i) j).capacity → count_in (hospital_of b) (region_at regions i) S ≡ (region_at regions i).cap
      region_full room =
          let caps = caps_of_feasible b regions ok made S s hS in
          let le = caps.in_region i p.region in
          ⊎_elim
          (λ open'.
          let h = add_fits room open' in
          let w = worth_with b regions ok made S x i j s lx out p h in
          let up = value_positive (region_at regions i) j (count_at (hospital_of b) (seat_at (region_at regions i) j) S + 1) p.seat (omega arith) in
          absurd (not_both (is_better (values_of b) (with_one S x) S)
          (greater_better (values_of b) S (with_one S x) h (more (worth b (with_one S x)) (worth b S) (value (region_at regions i) j (count_at (hospital_of b) (seat_at (region_at regions i) j) S + 1)) w up)) no_add))
          (λ full. omega arith)
          (cases_lt (count_in (hospital_of b) (region_at regions i) S) (region_at regions i).cap)
        where
          more : (A B C : ℤ) → A ≡ B +ℤ C → pos 0 <ℤ C → B <ℤ A
          more A B C e lt = omega (arith, ints)

      -- no other hospital of the region holds a seat of a later turn
      not_later : count_at (hospital_of b) (seat_at (region_at regions i) j) S < (seat_at (region_at regions i) j).capacity → (k : ℕ) → k < length (region_at regions i).seats → (k ≡ j → ⊥) → 0 < count_at (hospital_of b) (seat_at (region_at regions i) k) S →
          turn_of (region_at regions i) k (count_at (hospital_of b) (seat_at (region_at regions i) k) S) ≤ turn_of (region_at regions i) j (count_at (hospital_of b) (seat_at (region_at regions i) j) S + 1)
      not_later room k lk ne pos' =
          let r = region_at regions i in
          let m = passing_member (λ y. eqb (hospital_of b y) (seat_at r k).hospital) S pos' in
          let z = m.0 in
          let iz : IsIn z S = m.1 in
          let at : hospital_of b z ≡ (seat_at r k).hospital = eqb-true (hospital_of b z) (seat_at r k).hospital m.2 in
          let q : IsPlace regions (hospital_of b z) i k = record { region = p.region; seat = lk; hospital = sym at } in
          let inside = of_seat (hospital_of b) r z k lk (sym at) in
          let h = swap_fits z iz (inr room) inside in
          let apart : hospital_of b z ≡ hospital_of b x → ⊥ = λ e. ne (seats_one r (region_ok (contract_count b) (hospital_of b) regions ok i p.region) k j lk p.seat (sym at ∙ (e ∙ sym p.hospital))) in
          let w = swap_worths doctors b regions board ok made S z x i j k s hS iz lx out apart p q h in
          ⊎_elim
          (λ less.
          let v = value_less r j (count_at (hospital_of b) (seat_at r j) S + 1) k (count_at (hospital_of b) (seat_at r k) S) less in
          absurd (not_both (is_better (values_of b) (swapped S x z) S)
          (greater_better (values_of b) S (swapped S x z) h (more (worth b (swapped S x z)) (worth b S) (value r k (count_at (hospital_of b) (seat_at r k) S)) (value r j (count_at (hospital_of b) (seat_at r j) S + 1)) w v)) (no_swap z iz)))
          (λ le. le)
          (cases_lt (turn_of r j (count_at (hospital_of b) (seat_at r j) S + 1)) (turn_of r k (count_at (hospital_of b) (seat_at r k) S)))
        where
          more : (A B C D : ℤ) → (A +ℤ C) ≡ (B +ℤ D) → C <ℤ D → B <ℤ A
          more A B C D e lt = omega (arith, ints)

      -- the hospital's next seat is past its target
      past_target : count_at (hospital_of b) (seat_at (region_at regions i) j) S < (seat_at (region_at regions i) j).capacity → (seat_at (region_at regions i) j).target < count_at (hospital_of b) (seat_at (region_at regions i) j) S + 1
      past_target room =
          let r = region_at regions i in
          let f = hospital_of b in
          let rok = region_ok (contract_count b) f regions ok i p.region in
          let full = region_full room in
          let sum = count_in-sum f r S rok in
          let cap = rok.cap in
          ⊎_elim
          (λ low.
          let k = some_less (λ q. count_at f q S) (λ q. q.target) r.seats no_seat j p.seat low (omega arith) in
          let more : (seat_at r k.0).target < count_at f (seat_at r k.0) S = k.2 in
          let ne : k.0 ≡ j → ⊥ = λ e. let t = subst (λ l. (seat_at r l).target < count_at f (seat_at r l) S) e more in omega arith in
          let le = not_later room k.0 k.1 ne (omega arith) in
          let up = turn_positive (length r.seats) k.0 (seat_at r k.0).target (count_at f (seat_at r k.0) S) more in
          let zero' = turn_low (length r.seats) j (seat_at r j).target (count_at f (seat_at r j) S + 1) (omega arith) in
          absurd (omega arith))
          (λ le. omega arith)
          (cases_lt (count_at f (seat_at r j) S) (seat_at r j).target)

      pub passed_over : IsPassed (hospital_of b) (region_at regions i) S j x
      passed_over = record {
        above = all_above;
        no_seat = ⊎_elim
            (λ room. inr (record {
              full = region_full room;
              later = λ k lk pos'. ⊎_elim
                  (λ same. subst (λ q. turn_of r q (count_at f (seat_at r q) S) < turn_of r j (count_at f (seat_at r j) S + 1)) (sym same)
                  (turn_grows (length r.seats) j (seat_at r j).target (count_at f (seat_at r j) S) (count_at f (seat_at r j) S + 1) p.seat (omega arith) (past_target room)))
                  (λ ne.
                  let le = not_later room k lk ne pos' in
                  ⊎_elim
                  (λ lt. lt)
                  (λ ge.
                  let e : turn_of r k (count_at f (seat_at r k) S) ≡ turn_of r j (count_at f (seat_at r j) S + 1) = omega arith in
                  let up = turn_positive (length r.seats) j (seat_at r j).target (count_at f (seat_at r j) S + 1) (past_target room) in
                  let high = past_from_turn (length r.seats) k (seat_at r k).target (count_at f (seat_at r k) S) 0 (omega arith) in
                  absurd (ne (turns_apart (length r.seats) k j (seat_at r k).target (seat_at r j).target (count_at f (seat_at r k) S) (count_at f (seat_at r j) S + 1) lk p.seat high (past_target room) e)))
                  (cases_lt (turn_of r k (count_at f (seat_at r k) S)) (turn_of r j (count_at f (seat_at r j) S + 1))))
                  (cases_eq k j);
            }))
            (λ full. inl (let le = (caps_of_feasible b regions ok made S s hS).at_seat i j p.region p.seat in omega arith))
            (cases_lt (count_at f (seat_at r j) S) (seat_at r j).capacity);
      }
        where
          f : ℕ → ℕ
          f = hospital_of b

          r : Region
          r = region_at regions i

  -- the best subset is picked
  pub best_picked : (X S : List ℕ) → IsSetBelow (contract_count b) X → IsBest (values_of b) X S → IsPickedBy (hospital_of b) regions X S
  best_picked X S sX best =
      let u = unimproved_from_best (values_of b) X S best in
      let s = IsSetBelow-smaller (contract_count b) S X sX best.set best.within in
      record {
        set = best.set;
        within = best.within;
        caps = caps_of_feasible b regions ok made S s best.feasible;
        passed = λ x i j ix out p. passed_over S s best.feasible x (sX.below x ix) out i j p (u.add x ix (λ h. not_both (has x S) h out)) (λ z iz. u.swap x z ix (λ h. not_both (has x S) h out) iz);
      }
