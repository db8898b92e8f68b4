-- On the board of regions, what the regions keep is the best subset.
use Rattle.std.proofs.Common.{◌≡◌, ℕ, ◌+◌, ◌<◌, Bool, true, false, List, length, eqb, filter, ℤ, pos, ◌+ℤ◌, ◌<ℤ◌, sym, ap, ◌∙◌, subst, inr, ⊎_elim, arith, eq-eqb, ne_eqb}
use Rattle.std.proofs.lemmas.Int.{ints}
use Rattle.std.proofs.lemmas.Bool.{cases_eq, cases_Bool}
use Rattle.std.proofs.lemmas.List.Sums.{length-filter}
use Rattle.rm_sets.specs.Sets.{has, IsIn, IsSet, IsSetBelow, with_one, without}
use Rattle.rm_sets.proofs.Members.{with_one-without, not_in_without, not_in_from, IsSetBelow-without, IsSetBelow-with_one, IsSetBelow-smaller}
use Rattle.rm_valuation_laws.specs.Scores.{score, place, IsUnimproved}
use Rattle.rm_valuation_laws.proofs.Moves.{without_other, apart, IsSetBelow-swapped}
use Rattle.rm_valuation_laws.proofs.Counts.{one}
use Rattle.rm_valuation_laws.proofs.Change.{count-swapped}
use Rattle.rm_valuation_laws.proofs.Score.{better_from_higher, higher_from_better, infeasible_not_better}
use Rattle.rm_valuation_laws.proofs.Leads.{score_by_worth}
use Rattle.rm_valuation_laws.proofs.Decision.{held_over_swap}
use Rattle.rm_valuation_laws.proofs.Best.{best_from_unimproved}
use Rattle.rm_valuation_laws.proofs.Market.{market_board_laws}
use Rattle.rm_valuation_laws.proofs.TieOrder.{place_from_before}
use Rattle.rm_market.specs.Board.{Board, IsBoard, contract_count, hospital_of, is_feasible, worth}
use Rattle.rm_market.specs.Best.{Values, is_better, IsBest, IsValuation, values_of, swapped}
use Rattle.rm_market.specs.Flexible.{Region}
use Rattle.rm_flexible_laws.specs.Region.{seat_at, region_at, IsRegions, IsPlace}
use Rattle.rm_flexible_laws.proofs.ByCounts.{count_at, is_of, IsPickedBy}
use Rattle.rm_flexible_laws.specs.Compiled.{IsCompiled}
use Rattle.rm_flexible_laws.proofs.Counts.{passing-with_one, passing-without, passing_positive}
use Rattle.rm_flexible_laws.proofs.Pick.{place_of, of_place}
use Rattle.rm_flexible_laws.proofs.Compiled.{value, value_less, value_positive, caps_of_feasible, feasible_of_caps, worth_with}

-- a set of lower score isn't better
pub lower_not_better : (v : Values) (S T : List ℕ) → v.feasible S ≡ true → score v T <ℤ score v S → is_better v T S ≡ false
lower_not_better v S T h lt =
    ⊎_elim
    (λ t. let up = higher_from_better v T S h t in absurd (omega (arith, ints)))
    (λ f. f)
    (cases_Bool (is_better v T S))

pub greater_better : (v : Values) (S T : List ℕ) → v.feasible T ≡ true → v.worth S <ℤ v.worth T → is_better v T S ≡ true
greater_better v S T h lt = better_from_higher v T S h (score_by_worth v T S lt)

-- with x in the place of z
pub passing-swapped : (p : ℕ → Bool) (S : List ℕ) (z x : ℕ) → IsSet S → IsIn z S → has x S ≡ false → length (filter p (swapped S x z)) + one (p z) ≡ length (filter p S) + one (p x)
passing-swapped p S z x s h out =
    let e = count-swapped p S z x s h out in
    let a = length-filter p (swapped S x z) in
    let b = length-filter p S in
    omega arith

module _ (doctors : ℕ) (b : Board) (regions : List Region) (board : IsBoard doctors b) (ok : IsRegions (contract_count b) (hospital_of b) regions) (made : IsCompiled b regions) where
  pub laws : IsValuation (contract_count b) (values_of b)
  laws = market_board_laws doctors b board

  pub before : (x y : ℕ) → x < y → y < contract_count b → hospital_of b x ≡ hospital_of b y → place b.ties x < place b.ties y
  before x y lt ly e = place_from_before x y b.ties board.ties.once (board.ties.agrees x y lt ly e)

  -- ---- worths

  pub at_own : (x i j : ℕ) → IsPlace regions (hospital_of b x) i j → one (eqb (hospital_of b x) (seat_at (region_at regions i) j).hospital) ≡ 1
  at_own x i j p = ap one (eq-eqb (hospital_of b x) (seat_at (region_at regions i) j).hospital (sym p.hospital))

  worth_less : (S : List ℕ) (z i j : ℕ) → IsSetBelow (contract_count b) S → is_feasible b S ≡ true → IsIn z S → IsPlace regions (hospital_of b z) i j →
      worth b S ≡ worth b (without S z) +ℤ value (region_at regions i) j (count_at (hospital_of b) (seat_at (region_at regions i) j) S)
  worth_less S z i j s h iz p =
      let r = region_at regions i in
      let whole = with_one-without S z s.ascending iz in
      let e = passing-without (λ y. eqb (hospital_of b y) (seat_at r j).hospital) S z s.ascending iz in
      let o = at_own z i j p in
      let n : count_at (hospital_of b) (seat_at r j) (without S z) + 1 ≡ count_at (hospital_of b) (seat_at r j) S = omega arith in
      let w = worth_with b regions ok made (without S z) z i j (IsSetBelow-without (contract_count b) S z s) (s.below z iz) (not_in_without S z) p (ap (is_feasible b) whole ∙ h) in
      ap (worth b) (sym whole) ∙ (w ∙ ap (λ c. worth b (without S z) +ℤ value r j c) n)

  pub worth_swap : (S : List ℕ) (z x i j : ℕ) → IsSetBelow (contract_count b) S → IsIn z S → x < contract_count b → has x S ≡ false → IsPlace regions (hospital_of b x) i j → is_feasible b (swapped S x z) ≡ true →
      worth b (swapped S x z) ≡ worth b (without S z) +ℤ value (region_at regions i) j (count_at (hospital_of b) (seat_at (region_at regions i) j) (without S z) + 1)
  worth_swap S z x i j s iz lx out p h =
      worth_with b regions ok made (without S z) x i j (IsSetBelow-without (contract_count b) S z s) lx (without_other S z x (λ e. apart S z x iz out (sym e)) ∙ out) p h

  -- at one hospital a swap changes nothing but the tie order
  pub same_worth : (S : List ℕ) (z x i j : ℕ) → IsSetBelow (contract_count b) S → is_feasible b S ≡ true → IsIn z S → x < contract_count b → has x S ≡ false → hospital_of b z ≡ hospital_of b x →
      IsPlace regions (hospital_of b x) i j → is_feasible b (swapped S x z) ≡ true → worth b (swapped S x z) ≡ worth b S
  same_worth S z x i j s hS iz lx out e p h =
      let r = region_at regions i in
      let pz : IsPlace regions (hospital_of b z) i j = subst (λ q. IsPlace regions q i j) (sym e) p in
      let c = passing-without (λ y. eqb (hospital_of b y) (seat_at r j).hospital) S z s.ascending iz in
      let o = at_own z i j pz in
      let n : count_at (hospital_of b) (seat_at r j) (without S z) + 1 ≡ count_at (hospital_of b) (seat_at r j) S = omega arith in
      worth_swap S z x i j s iz lx out p h ∙ (ap (λ q. worth b (without S z) +ℤ value r j q) n ∙ sym (worth_less S z i j s hS iz pz))

  -- at two hospitals of a region the turns decide
  pub swap_worths : (S : List ℕ) (z x i j k : ℕ) → IsSetBelow (contract_count b) S → is_feasible b S ≡ true → IsIn z S → x < contract_count b → has x S ≡ false → (hospital_of b z ≡ hospital_of b x → ⊥) →
      IsPlace regions (hospital_of b x) i j → IsPlace regions (hospital_of b z) i k → is_feasible b (swapped S x z) ≡ true →
      (worth b (swapped S x z) +ℤ value (region_at regions i) k (count_at (hospital_of b) (seat_at (region_at regions i) k) S)) ≡ (worth b S +ℤ value (region_at regions i) j (count_at (hospital_of b) (seat_at (region_at regions i) j) S + 1))
  swap_worths S z x i j k s hS iz lx out ne p q h =
      let r = region_at regions i in
      let c = passing-without (λ y. eqb (hospital_of b y) (seat_at r j).hospital) S z s.ascending iz in
      let o : one (eqb (hospital_of b z) (seat_at r j).hospital) ≡ 0 = ap one (ne_eqb (hospital_of b z) (seat_at r j).hospital (λ e. ne (e ∙ p.hospital))) in
      let n : count_at (hospital_of b) (seat_at r j) (without S z) + 1 ≡ count_at (hospital_of b) (seat_at r j) S + 1 = omega arith in
      let a = worth_swap S z x i j s iz lx out p h ∙ ap (λ t. worth b (without S z) +ℤ value r j t) n in
      let w = worth_less S z i k s hS iz q in
      sums (worth b (swapped S x z)) (worth b S) (worth b (without S z)) (value r j (count_at (hospital_of b) (seat_at r j) S + 1)) (value r k (count_at (hospital_of b) (seat_at r k) S)) a w
    where
      sums : (A B C D E : ℤ) → A ≡ C +ℤ D → B ≡ C +ℤ E → (A +ℤ E) ≡ (B +ℤ D)
      sums A B C D E u v = omega (arith, ints)

  -- ---- what is picked is the best

  module _ (X S : List ℕ) (sX : IsSetBelow (contract_count b) X) (p : IsPickedBy (hospital_of b) regions X S) where
    below_S : IsSetBelow (contract_count b) S
    below_S = IsSetBelow-smaller (contract_count b) S X sX p.set p.within

    picked_feasible : is_feasible b S ≡ true
    picked_feasible = feasible_of_caps b regions ok made S below_S p.caps

    no_addition : (x : ℕ) → IsIn x X → has x S ≡ false → is_feasible b (with_one S x) ≡ true → ⊥
    no_addition x ix out h =
        let lx = sX.below x ix in
        let t = ok.all x lx in
        let i = t.0 in
        let j = t.1 in
        let pl : IsPlace regions (hospital_of b x) i j = t.2 in
        let r = region_at regions i in
        let caps = caps_of_feasible b regions ok made (with_one S x) (IsSetBelow-with_one (contract_count b) S x below_S lx) h in
        let cj = passing-with_one (λ y. eqb (hospital_of b y) (seat_at r j).hospital) S x out in
        let oj = at_own x i j pl in
        let ci = passing-with_one (is_of (hospital_of b) r) S x out in
        let oi : one (is_of (hospital_of b) r x) ≡ 1 = ap one (of_place (contract_count b) (hospital_of b) regions ok x i j pl) in
        let lj = caps.at_seat i j pl.region pl.seat in
        let li = caps.in_region i pl.region in
        ⊎_elim
        (λ c. omega arith)
        (λ d. let full = d.full in omega arith)
        (p.passed x i j ix out pl).no_seat

    no_swap : (x z : ℕ) → IsIn x X → has x S ≡ false → IsIn z S → is_feasible b (swapped S x z) ≡ true → score (values_of b) (swapped S x z) <ℤ score (values_of b) S
    no_swap x z ix out iz h =
        let lx = sX.below x ix in
        let t = ok.all x lx in
        let i = t.0 in
        let j = t.1 in
        let pl : IsPlace regions (hospital_of b x) i j = t.2 in
        let r = region_at regions i in
        let passed = p.passed x i j ix out pl in
        let caps = caps_of_feasible b regions ok made (swapped S x z) (IsSetBelow-swapped (contract_count b) S z x below_S lx) h in
        ⊎_elim
        (λ same. held_over_swap (values_of b) S z x iz out (inr (
          sym (same_worth S z x i j below_S picked_feasible iz lx out same pl h),
          before z x (passed.above z iz same) lx same,
        )))
        (λ ne.
        let cj = passing-swapped (λ y. eqb (hospital_of b y) (seat_at r j).hospital) S z x p.set iz out in
        let oj = at_own x i j pl in
        let oz : one (eqb (hospital_of b z) (seat_at r j).hospital) ≡ 0 = ap one (ne_eqb (hospital_of b z) (seat_at r j).hospital (λ e. ne (e ∙ pl.hospital))) in
        let lj = caps.at_seat i j pl.region pl.seat in
        ⊎_elim
        (λ c. absurd (omega arith))
        (λ d.
        let ci = passing-swapped (is_of (hospital_of b) r) S z x p.set iz out in
        let oi : one (is_of (hospital_of b) r x) ≡ 1 = ap one (of_place (contract_count b) (hospital_of b) regions ok x i j pl) in
        let li = caps.in_region i pl.region in
        let full = d.full in
        let inside : is_of (hospital_of b) r z ≡ true =
        ⊎_elim (λ y. y) (λ n. let on = ap one n in absurd (omega arith)) (cases_Bool (is_of (hospital_of b) r z)) in
        let q = place_of (contract_count b) (hospital_of b) regions ok z i pl.region inside in
        let k = q.0 in
        let pos' = passing_positive (λ y. eqb (hospital_of b y) (seat_at r k).hospital) S z iz (eq-eqb (hospital_of b z) (seat_at r k).hospital (sym q.1.hospital)) in
        let lt = d.later k q.1.seat pos' in
        let w = swap_worths S z x i j k below_S picked_feasible iz lx out ne pl q.1 h in
        let less = value_less r k (count_at (hospital_of b) (seat_at r k) S) j (count_at (hospital_of b) (seat_at r j) S + 1) lt in
        score_by_worth (values_of b) S (swapped S x z) (lower (worth b (swapped S x z)) (worth b S) (value r k (count_at (hospital_of b) (seat_at r k) S)) (value r j (count_at (hospital_of b) (seat_at r j) S + 1)) w less))
        passed.no_seat)
        (cases_eq (hospital_of b z) (hospital_of b x))
      where
        lower : (A B C D : ℤ) → (A +ℤ C) ≡ (B +ℤ D) → D <ℤ C → A <ℤ B
        lower A B C D e lt = omega (arith, ints)

    pub picked_unimproved : IsUnimproved (values_of b) X S
    picked_unimproved = record {
      set = p.set;
      within = p.within;
      feasible = picked_feasible;
      add = λ x ix out. infeasible_not_better (values_of b) (with_one S x) S
          (⊎_elim (λ h. absurd (no_addition x ix (not_in_from x S out) h)) (λ f. f) (cases_Bool (is_feasible b (with_one S x))));
      remove = λ z iz.
          let t = ok.all z (below_S.below z iz) in
          let pl : IsPlace regions (hospital_of b z) t.0 t.1 = t.2 in
          let r = region_at regions t.0 in
          let w = worth_less S z t.0 t.1 below_S picked_feasible iz pl in
          let c = p.caps.at_seat t.0 t.1 pl.region pl.seat in
          let up = value_positive r t.1 (count_at (hospital_of b) (seat_at r t.1) S) pl.seat c in
          lower_not_better (values_of b) S (without S z) picked_feasible (score_by_worth (values_of b) S (without S z) (less (worth b (without S z)) (worth b S) (value r t.1 (count_at (hospital_of b) (seat_at r t.1) S)) w up));
      swap = λ x z ix out iz. ⊎_elim
          (λ h. lower_not_better (values_of b) S (swapped S x z) picked_feasible (no_swap x z ix (not_in_from x S out) iz h))
          (λ no. infeasible_not_better (values_of b) (swapped S x z) S no)
          (cases_Bool (is_feasible b (swapped S x z)));
    }
      where
        less : (A B C : ℤ) → B ≡ A +ℤ C → pos 0 <ℤ C → A <ℤ B
        less A B C e lt = omega (arith, ints)

    pub picked_best : IsBest (values_of b) X S
    picked_best = best_from_unimproved (contract_count b) (values_of b) X S laws sX picked_unimproved
