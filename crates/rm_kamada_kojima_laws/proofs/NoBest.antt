-- Two doctors, each at a hospital of his own, and one seat for both: neither of the two placements is best for all.
use Rattle.std.proofs.Common.{◌≡◌, ℕ, zero, suc, ◌<◌, ◌≤◌, true, false, List, [], ◌∷◌, None, refl, sym, subst, ⊎_elim, arith, true≢false}
use Rattle.std.specs.Prelude.{IsTrue}
use Rattle.rm_sets.specs.Sets.{has, IsIn, IsWithin}
use Rattle.rm_sets.proofs.Sets.{cases_has, not_both, same_within, IsIn-cases, IsSet-all_below}
use Rattle.rm_sets.proofs.Members.{not_in_nil}
use Rattle.rm_market.specs.Stable.{at, owner, prefers_place, wants}
use Rattle.rm_market.specs.Flexible.{region_count}
use Rattle.rm_market.specs.Market.{Market, IsPlacementOf, solve, wishes_of}
use Rattle.rm_market.proofs.OnLiterals.{market_on_literals}
use Rattle.rm_market.proofs.Small.{two_region}
use Rattle.rm_matching_laws.proofs.Places.{contract_is_none}
use Rattle.rm_plain_laws.proofs.ListsBelow.{lists_below}
use Rattle.rm_market_laws.proofs.Market.{solve_is}
use Rattle.rm_kamada_kojima_laws.specs.Stability.{IsKKStable}
use Rattle.rm_kamada_kojima_laws.specs.Results.{IsMarketOf, SomeonePrefersAnother, KKStableHasNoBest}
use Rattle.rm_kamada_kojima_laws.proofs.Results.{placement_is_kk_stable}
use Rattle.rm_kamada_kojima_laws.proofs.SharedSeat.{regions, shared, shared_market}
use Rattle.rm_kamada_kojima_laws.proofs.Examples.{IsRefused, held_alone, one_placed}

abbrev pub rivals : Market
rivals = shared (0 ∷ []) (1 ∷ []) ((0 ∷ []) ∷ (1 ∷ []) ∷ [])

rivals_market : IsMarketOf rivals regions
rivals_market = shared_market (0 ∷ []) (1 ∷ []) rivals.lists (lists_below 2 rivals.board.ranks refl) (lists_below 2 rivals.lists refl)

rivals_solved : solve rivals ≡ 0 ∷ []
unfolding market_on_literals
rivals_solved = refl

-- the placement
first_there : IsKKStable rivals regions (0 ∷ [])
first_there =
    let ok : IsMarketOf rivals regions = rivals_market in
    placement_is_kk_stable rivals regions ok.market ok.lawful ok.compiled (0 ∷ []) (subst (IsPlacementOf rivals) rivals_solved (solve_is rivals ok.market))

refused : (x : ℕ) → x < 2 → wants (wishes_of rivals) (1 ∷ []) x ≡ true → IsRefused rivals 1 x
refused zero lt wanted = (refl, λ same. let e : 1 ≡ 0 = same in absurd (omega arith))
refused (suc zero) lt wanted = absurd (true≢false (sym wanted))
refused (suc (suc x)) lt wanted = absurd (omega arith)

second_there : IsKKStable rivals regions (1 ∷ [])
second_there = held_alone (0 ∷ []) (1 ∷ []) ((0 ∷ []) ∷ (1 ∷ []) ∷ []) 1 (one_placed rivals 1 (omega arith) refl) refl refl refused

-- each has one contract
own_contract : (d x : ℕ) → x < 2 → owner (wishes_of rivals) x ≡ d → x ≡ d
own_contract d zero lt e = e
own_contract d (suc zero) lt e = e
own_contract d (suc (suc x)) lt e = absurd (omega arith)

module _ (U : List ℕ) (s : IsKKStable rivals regions U) where
  left_out : (d : ℕ) → has d U ≡ false → at (wishes_of rivals) d U ≡ None
  left_out d out = contract_is_none (wishes_of rivals) d U (λ x i own. not_both (has d U) (subst (λ y. IsIn y U) (own_contract d x (s.placement.set.below x i) own) i) out)

  not_both_placed : IsIn 0 U → IsIn 1 U → ⊥
  not_both_placed i j = over (same_within U (0 ∷ 1 ∷ []) s.placement.set.ascending (IsSet-all_below 2 (λ k. true)) inside outside)
    where
      inside : IsWithin U (0 ∷ 1 ∷ [])
      inside x k = by x (s.placement.set.below x k)
        where
          by : (y : ℕ) → y < 2 → IsIn y (0 ∷ 1 ∷ [])
          by zero lt = refl
          by (suc zero) lt = refl
          by (suc (suc y)) lt = absurd (omega arith)

      outside : IsWithin (0 ∷ 1 ∷ []) U
      outside x k =
          ⊎_elim (λ e. subst (λ y. IsIn y U) (sym e) i)
          (λ later. ⊎_elim (λ e. subst (λ y. IsIn y U) (sym e) j) (λ none. absurd (not_in_nil x none)) (IsIn-cases x 1 [] later))
          (IsIn-cases x 0 (1 ∷ []) k)

      over : U ≡ 0 ∷ 1 ∷ [] → ⊥
      over e = let le : 2 ≤ 1 = subst (λ S. region_count rivals.board two_region S ≤ 1) e (s.caps.in_caps 0 (omega arith)) in absurd (omega arith)

  other : SomeonePrefersAnother rivals regions U
  other =
      ⊎_elim
      (λ i. ⊎_elim
      (λ j. absurd (not_both_placed i j))
      (λ out. (1 ∷ [], 1, second_there, subst (λ p. IsTrue (prefers_place (wishes_of rivals) 1 (at (wishes_of rivals) 1 (1 ∷ [])) p)) (sym (left_out 1 out)) refl))
      (cases_has 1 U))
      (λ out. (0 ∷ [], 0, first_there, subst (λ p. IsTrue (prefers_place (wishes_of rivals) 0 (at (wishes_of rivals) 0 (0 ∷ [])) p)) (sym (left_out 0 out)) refl))
      (cases_has 0 U)

pub no_best : KKStableHasNoBest
no_best = (rivals, regions, rivals_market, other)
