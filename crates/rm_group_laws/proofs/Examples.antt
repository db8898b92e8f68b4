-- A small market: what one doctor of a group may gain while another stays, and that nothing else is better for some and worse for none isn't so.
use Rattle.std.proofs.Common.{◌≡◌, ◌≢◌, ℕ, zero, suc, ◌<◌, List, [], ◌∷◌, Bool, true, false, length, refl, ⊎_elim, arith, Some, None, true≢false, sym, subst, ap}
use Rattle.std.specs.Prelude.{slice_index_or}
use Rattle.rm_sets.specs.Sets.{has, IsIn}
use Rattle.rm_sets.proofs.Sets.{IsIn-cases, IsSetBelow-all_below}
use Rattle.rm_sets.proofs.Members.{not_in_nil}
use Rattle.rm_market.proofs.OnLiterals.{market_on_literals}
use Rattle.rm_market.specs.Best.{best_of, values_of}
use Rattle.rm_market.specs.Stable.{at, owner, prefers_place, IsPlacement, is_listed}
use Rattle.rm_market.specs.Market.{Market, IsMarket, solve, places_of, wishes_of, IsPlacementOf, IsStableIn, Best}
use Rattle.rm_board_laws.specs.HospitalBoards.{plain_market}
use Rattle.rm_board_laws.proofs.HospitalBoards.{plain_markets}
use Rattle.rm_plain_laws.proofs.ListsBelow.{lists_below}
use Rattle.rm_market_laws.proofs.Market.{solve_is}
use Rattle.rm_group_laws.specs.Groups.{SomeoneDoesNotGain, DoesNotGain}
use Rattle.rm_group_laws.specs.Markets.{replaced_all, AreGroupLists, NoGroupGains}
use Rattle.rm_group_laws.proofs.MarketGroups.{no_group_gains, market_again}

-- ---- three doctors and two seats

-- the third doctor asks for the seat at the first hospital, which ranks him above the second doctor, and gets none; but he drives the second
-- doctor to the other hospital, and so the first doctor from it
abbrev three_lists : List (List ℕ)
three_lists = (1 ∷ 0 ∷ []) ∷ (0 ∷ 1 ∷ []) ∷ (0 ∷ []) ∷ []

abbrev three_ranks : List (List ℕ)
three_ranks = (0 ∷ 2 ∷ 1 ∷ []) ∷ (1 ∷ 0 ∷ []) ∷ []

abbrev three : Market
three = plain_market three_ranks (1 ∷ 1 ∷ []) three_lists

-- the contracts 0 and 3 are the first doctor's at the first hospital, and the second doctor's at the second
three_solved : (solve three ≡ 0 ∷ 3 ∷ []) × (places_of three (0 ∷ 3 ∷ []) ≡ Some 0 ∷ Some 1 ∷ None ∷ [])
unfolding market_on_literals
three_solved = (refl, refl)

-- the second and the third doctor together: the third stands back
abbrev stand_back : List (List ℕ)
stand_back = (1 ∷ 0 ∷ []) ∷ (0 ∷ 1 ∷ []) ∷ [] ∷ []

back_solved : (solve (replaced_all three stand_back) ≡ 2 ∷ 4 ∷ []) × (places_of three (2 ∷ 4 ∷ []) ≡ Some 1 ∷ Some 0 ∷ None ∷ [])
unfolding market_on_literals
back_solved = (refl, refl)

abbrev gains : ℕ → List ℕ → Bool
gains d T = prefers_place (wishes_of three) d (at (wishes_of three) d T) (at (wishes_of three) d (solve three))

-- now one of the two gains and the other stays as he was: so a group may gain weakly, and that each of its doctors gains is what can't be. The first
-- doctor gains too: by lists of others the first two doctors both gain
one_gains_one_stays : (gains 1 (2 ∷ 4 ∷ []) ≡ true) × (gains 2 (2 ∷ 4 ∷ []) ≡ false) × (gains 0 (2 ∷ 4 ∷ []) ≡ true)
unfolding market_on_literals
one_gains_one_stays = (refl, refl, refl)

-- the other placement is its own best subset too, so it is better for two of the three doctors, but not for all
other_is_own_choice : best_of (values_of three.board) (2 ∷ 4 ∷ []) ≡ 2 ∷ 4 ∷ []
unfolding market_on_literals
other_is_own_choice = refl

-- the first and the second doctor can't get these seats by lists of their own: where each asks for his alone, the first doctor gains and the second
-- has no seat
abbrev ask_alone : List (List ℕ)
ask_alone = (1 ∷ []) ∷ (0 ∷ []) ∷ (0 ∷ []) ∷ []

alone_solved : (places_of three (solve (replaced_all three ask_alone)) ≡ Some 1 ∷ None ∷ Some 0 ∷ []) × (gains 0 (solve (replaced_all three ask_alone)) ≡ true) × (gains 1 (solve (replaced_all three ask_alone)) ≡ false)
unfolding market_on_literals
alone_solved = (refl, refl, refl)

-- the doctors' first contracts are better for all three, but there the first hospital has two doctors on its one seat
all_first : (gains 0 (1 ∷ 2 ∷ 4 ∷ []) ≡ true) × (gains 1 (1 ∷ 2 ∷ 4 ∷ []) ≡ true) × (gains 2 (1 ∷ 2 ∷ 4 ∷ []) ≡ true) × (best_of (values_of three.board) (1 ∷ 2 ∷ 4 ∷ []) ≡ 1 ∷ 4 ∷ [])
unfolding market_on_literals
all_first = (refl, refl, refl, refl)

-- ---- the theorem at this market

three_is_market : IsMarket three
three_is_market = plain_markets three_ranks (1 ∷ 1 ∷ []) three_lists (lists_below 3 three_ranks refl) (lists_below 2 three_lists refl)

no_group : NoGroupGains three (solve three)
no_group = no_group_gains three (solve three) three_is_market (solve_is three three_is_market)

back_lists : AreGroupLists three (1 ∷ 2 ∷ []) stand_back
back_lists = record {
  long = refl;
  others = same;
  own = lists_below 2 stand_back refl;
}
  where
    same : (d : ℕ) → ¬ IsIn d (1 ∷ 2 ∷ []) → slice_index_or stand_back d [] ≡ slice_index_or three_lists d []
    same zero out = refl
    same (suc zero) out = refl
    same (suc (suc zero)) out = absurd (out refl)
    same (suc (suc (suc d))) out = refl

-- so of the second and the third doctor someone doesn't gain by these lists, whatever stable set they lead to
someone_stays : SomeoneDoesNotGain (wishes_of three) (1 ∷ 2 ∷ []) (solve three) (no_group.exists (1 ∷ 2 ∷ []) stand_back back_lists).0
someone_stays =
    let t = no_group.exists (1 ∷ 2 ∷ []) stand_back back_lists in
    no_group.no_gain (1 ∷ 2 ∷ []) stand_back t.0 (λ e. cc) back_lists t.1.optimal.stable

-- ---- what isn't so

back_again : IsMarket (replaced_all three stand_back)
back_again = market_again three three_is_market (1 ∷ 2 ∷ []) stand_back back_lists

back_placement : IsPlacementOf (replaced_all three stand_back) (2 ∷ 4 ∷ [])
unfolding market_on_literals
back_placement = solve_is (replaced_all three stand_back) back_again

three_placement : IsPlacementOf three (0 ∷ 3 ∷ [])
unfolding market_on_literals
three_placement = solve_is three three_is_market

-- that of each group no doctor gains
abbrev NoDoctorOfAGroupGains : Type 0
NoDoctorOfAGroupGains =
    (m : Market) (S : List ℕ) (group : List ℕ) (lists : List (List ℕ)) (T : List ℕ) (d : ℕ) → IsMarket m → IsPlacementOf m S
    → AreGroupLists m group lists → IsStableIn (replaced_all m lists) T → IsIn d group → DoesNotGain (wishes_of m) S T d

some_doctor_gains : ¬ NoDoctorOfAGroupGains
unfolding market_on_literals
some_doctor_gains all = true≢false (all three (0 ∷ 3 ∷ []) (1 ∷ 2 ∷ []) stand_back (2 ∷ 4 ∷ []) 1 three_is_market three_placement back_lists back_placement.optimal.stable refl)

-- that no placement which is its own best subset is better for some doctor and worse for none
abbrev NothingBetterForSome : Type 0
NothingBetterForSome =
    (m : Market) (S T : List ℕ) (d : ℕ) → IsMarket m → IsPlacementOf m S → IsPlacement (wishes_of m) T → Best m T T
    → ((e : ℕ) → e < length m.lists → DoesNotGain (wishes_of m) T S e) → DoesNotGain (wishes_of m) S T d

better_for_some : ¬ NothingBetterForSome
unfolding market_on_literals
better_for_some all = true≢false (all three (0 ∷ 3 ∷ []) (2 ∷ 4 ∷ []) 0 three_is_market three_placement own back_placement.optimal.stable.kept nobody_worse)
  where
    p : IsPlacement (wishes_of (replaced_all three stand_back)) (2 ∷ 4 ∷ [])
    p = back_placement.optimal.stable.placement

    listed : (x : ℕ) → IsIn x (2 ∷ 4 ∷ []) → is_listed (wishes_of three) x ≡ true
    listed x i = ⊎_elim (λ e. ap (is_listed (wishes_of three)) e) (λ later. ⊎_elim (λ e. ap (is_listed (wishes_of three)) e) (λ none. absurd (not_in_nil x none)) (IsIn-cases x 4 [] later)) (IsIn-cases x 2 (4 ∷ []) i)

    own : IsPlacement (wishes_of three) (2 ∷ 4 ∷ [])
    own = record { set = p.set; once = p.once; listed = listed }

    nobody_worse : (e : ℕ) → e < 3 → DoesNotGain (wishes_of three) (2 ∷ 4 ∷ []) (0 ∷ 3 ∷ []) e
    nobody_worse zero lt = refl
    nobody_worse (suc zero) lt = refl
    nobody_worse (suc (suc zero)) lt = refl
    nobody_worse (suc (suc (suc e))) lt = absurd (omega (arith, lt))

-- that no placement at all is better for all, be it its own best subset or not: the doctors' first contracts are
abbrev NothingBetterAtAll : Type 0
NothingBetterAtAll =
    (m : Market) (S T : List ℕ) → m.lists ≢ [] → IsMarket m → IsPlacementOf m S → IsPlacement (wishes_of m) T
    → (d : ℕ) × (d < length m.lists) × DoesNotGain (wishes_of m) S T d

first_contracts_are_better : ¬ NothingBetterAtAll
first_contracts_are_better all =
    let h = all three (0 ∷ 3 ∷ []) (1 ∷ 2 ∷ 4 ∷ []) (λ e. cc) three_is_market three_placement placement in
    gain h.0 h.1 h.2
  where
    of_three : (Holds : ℕ → Type 0) → Holds 1 → Holds 2 → Holds 4 → (x : ℕ) → IsIn x (1 ∷ 2 ∷ 4 ∷ []) → Holds x
    of_three Holds one two four x i =
        ⊎_elim (λ e. subst Holds (sym e) one)
        (λ later. ⊎_elim (λ e. subst Holds (sym e) two)
        (λ last. ⊎_elim (λ e. subst Holds (sym e) four) (λ none. absurd (not_in_nil x none)) (IsIn-cases x 4 [] last)) (IsIn-cases x 2 (4 ∷ []) later))
        (IsIn-cases x 1 (2 ∷ 4 ∷ []) i)

    differ : (a b : ℕ) (x y : ℕ) → a < b → a ≡ b → x ≡ y
    differ a b x y lt e = absurd (omega (arith, lt, e))

    placement : IsPlacement (wishes_of three) (1 ∷ 2 ∷ 4 ∷ [])
    placement = record {
      set = IsSetBelow-all_below 5 (λ x. has x (1 ∷ 2 ∷ 4 ∷ []));
      once = λ x y ix iy. of_three (λ x. (y : ℕ) → IsIn y (1 ∷ 2 ∷ 4 ∷ []) → owner (wishes_of three) x ≡ owner (wishes_of three) y → x ≡ y)
          (of_three (λ y. 2 ≡ owner (wishes_of three) y → 1 ≡ y) (λ e. refl) (λ e. differ 1 2 1 2 (omega arith) (sym e)) (λ e. differ 0 2 1 4 (omega arith) (sym e)))
          (of_three (λ y. 1 ≡ owner (wishes_of three) y → 2 ≡ y) (λ e. differ 1 2 2 1 (omega arith) e) (λ e. refl) (λ e. differ 0 1 2 4 (omega arith) (sym e)))
          (of_three (λ y. 0 ≡ owner (wishes_of three) y → 4 ≡ y) (λ e. differ 0 2 4 1 (omega arith) e) (λ e. differ 0 1 4 2 (omega arith) e) (λ e. refl)) x ix y iy;
      listed = of_three (λ x. is_listed (wishes_of three) x ≡ true) refl refl refl;
    }

    gain : (d : ℕ) → d < 3 → ¬ DoesNotGain (wishes_of three) (0 ∷ 3 ∷ []) (1 ∷ 2 ∷ 4 ∷ []) d
    gain zero lt = true≢false
    gain (suc zero) lt = true≢false
    gain (suc (suc zero)) lt = true≢false
    gain (suc (suc (suc d))) lt = absurd (omega arith)
