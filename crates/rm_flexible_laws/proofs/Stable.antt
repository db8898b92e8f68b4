-- On the board of regions the stable placements are those of count form.
use Rattle.std.proofs.Common.{◌≡◌, ◌↔◌, ℕ, ◌<◌, true, false, not, ◌||◌, List, length, refl, sym, subst, ⊎_elim}
use Rattle.std.proofs.Math.ListN.{length-map}
use Rattle.std.proofs.lemmas.Bool.{cases_Bool, and_parts, or_cases, or_left, or_right, not-true, not_from_true, not_from_false}
use Rattle.rm_sets.specs.Sets.{has, IsSetBelow, with_one}
use Rattle.rm_sets.proofs.Sets.{not_both, IsIn-with_one_cases, below-all_below}
use Rattle.rm_sets.proofs.Members.{IsSetBelow-with_one, IsIn-with_one_new, IsIn-with_one_old, IsIn-all_below, within_refl}
use Rattle.rm_market.specs.Board.{Board, IsBoard, contract_count, contracts, hospital_of, is_feasible}
use Rattle.rm_market.specs.Best.{IsBest, values_of}
use Rattle.rm_market.specs.Stable.{Wishes, IsPlacement, IsStable, wants, owner, prefers, at}
use Rattle.rm_market.specs.Tree.{below}
use Rattle.rm_market.specs.Flexible.{Region, has_count_form, is_passed_over}
use Rattle.rm_market.specs.Market.{Market, IsMarket, IsStableIn, wishes_of}
use Rattle.rm_flexible_laws.specs.Region.{region_at, IsRegions, IsPlace}
use Rattle.rm_flexible_laws.proofs.ByCounts.{IsPassed}
use Rattle.rm_flexible_laws.specs.Compiled.{IsCompiled}
use Rattle.rm_flexible_laws.proofs.Compiled.{caps_of_feasible}
use Rattle.rm_flexible_laws.proofs.Best.{picked_best}
use Rattle.rm_flexible_laws.proofs.Pick.{one_place}
use Rattle.rm_flexible_laws.proofs.Converse.{best_picked}
use Rattle.rm_flexible_laws.proofs.CountForm.{all_members, members_all, passed_says, passed_from}

module _ (doctors : ℕ) (b : Board) (regions : List Region) (board : IsBoard doctors b) (ok : IsRegions (contract_count b) (hospital_of b) regions) (made : IsCompiled b regions) where
  module _ (S : List ℕ) (s : IsSetBelow (contract_count b) S) (h : is_feasible b S ≡ true) where
    -- nothing of a feasible set is given up
    own_best : IsBest (values_of b) S S
    own_best = picked_best doctors b regions board ok made S S s (record {
      set = s.ascending;
      within = within_refl S;
      caps = caps_of_feasible b regions ok made S s h;
      passed = λ x i j ix out p. absurd (not_both (has x S) ix out);
    })

    -- one more contract is refused exactly where it is passed over
    passed_refused : (x : ℕ) → x < contract_count b → is_passed_over b regions S x ≡ true → IsBest (values_of b) (with_one S x) S
    passed_refused x lx passed = picked_best doctors b regions board ok made (with_one S x) S (IsSetBelow-with_one (contract_count b) S x s lx) (record {
      set = s.ascending;
      within = λ y iy. IsIn-with_one_old S x y iy;
      caps = caps_of_feasible b regions ok made S s h;
      passed = λ y i j iy out p. ⊎_elim
          (λ old. absurd (not_both (has y S) old out))
          (λ same. subst (λ z. IsPassed (hospital_of b) (region_at regions i) S j z) (sym same)
          (passed_says b regions (one_place (contract_count b) (hospital_of b) regions ok) S x i j (subst (λ z. IsPlace regions (hospital_of b z) i j) same p) passed))
          (IsIn-with_one_cases y S x iy);
    })

    refused_passed : (x : ℕ) → x < contract_count b → has x S ≡ false → IsBest (values_of b) (with_one S x) S → is_passed_over b regions S x ≡ true
    refused_passed x lx out best =
        let p = ok.all x lx in
        let pick = best_picked doctors b regions board ok made (with_one S x) S (IsSetBelow-with_one (contract_count b) S x s lx) best in
        passed_from b regions (one_place (contract_count b) (hospital_of b) regions ok) S x p.0 p.1 p.2 (pick.passed x p.0 p.1 (IsIn-with_one_new S x) out p.2)

  pub count_form_from_stable : (w : Wishes) (S : List ℕ) → length w.owners ≡ contract_count b → is_feasible b S ≡ true → IsStable (IsBest (values_of b)) w S → has_count_form b regions w S ≡ true
  unfolding has_count_form
  count_form_from_stable w S long h stable =
      let s = subst (λ n. IsSetBelow n S) long stable.placement.set in
      members_all (λ x. not (wants w S x) || is_passed_over b regions S x) (below (contract_count b)) (λ x ix.
      let lx = (below-all_below (contract_count b) (λ k. true) x ix).0 in
      ⊎_elim
      (λ yes.
      let out = not-true (has x S) (and_parts (not (has x S)) (prefers w (owner w x) x (at w (owner w x) S)) yes).0 in
      or_right (not (wants w S x)) (is_passed_over b regions S x)
      (refused_passed S s h x lx out (stable.unblocked x (subst (λ n. x < n) (sym long) lx) yes)))
      (λ no. or_left (not (wants w S x)) (is_passed_over b regions S x) (not_from_false (wants w S x) no))
      (cases_Bool (wants w S x)))

  pub stable_from_count_form : (w : Wishes) (S : List ℕ) → length w.owners ≡ contract_count b → IsPlacement w S → is_feasible b S ≡ true → has_count_form b regions w S ≡ true → IsStable (IsBest (values_of b)) w S
  unfolding has_count_form
  stable_from_count_form w S long placement h form =
      let s = subst (λ n. IsSetBelow n S) long placement.set in record {
        placement = placement;
        kept = own_best S s h;
        unblocked = λ x lx wanted.
            let ln = subst (λ n. x < n) long lx in
            let t = all_members (λ y. not (wants w S y) || is_passed_over b regions S y) (below (contract_count b)) form x (IsIn-all_below (contract_count b) (λ k. true) x ln refl) in
            passed_refused S s h x ln (⊎_elim
            (λ off. absurd (not_both (not (wants w S x)) off (not_from_true (wants w S x) wanted)))
            (λ g. g)
            (or_cases (not (wants w S x)) (is_passed_over b regions S x) t));
      }

-- in a market of regions
pub market_count_form : (m : Market) (regions : List Region) → IsMarket m → IsRegions (contract_count m.board) (hospital_of m.board) regions → IsCompiled m.board regions →
    (S : List ℕ) → IsPlacement (wishes_of m) S → is_feasible m.board S ≡ true → IsStableIn m S ↔ (has_count_form m.board regions (wishes_of m) S ≡ true)
market_count_form m regions ok rok made S placement h =
    let long : length (wishes_of m).owners ≡ contract_count m.board = length-map (contracts m.board) (λ (p : ℕ × ℕ). p.0) in (
      λ stable. count_form_from_stable (length m.lists) m.board regions ok.board rok made (wishes_of m) S long h stable,
      λ form. stable_from_count_form (length m.lists) m.board regions ok.board rok made (wishes_of m) S long placement h form,
    )
