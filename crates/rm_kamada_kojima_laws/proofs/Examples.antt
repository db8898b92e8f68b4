-- Sets that are stable as Kamada and Kojima say, and aren't stable.
use Rattle.std.proofs.Common.{◌≡◌, ℕ, zero, suc, ◌<◌, ◌≤◌, Bool, true, false, cond, List, [], ◌∷◌, length, filter, eqb, ◌<ℤ◌, refl, sym, ap, ◌∙◌, subst, subst₂, ⊎_elim, arith, true≢false}
use Rattle.std.specs.Prelude.{IsFalse}
use Rattle.rm_sets.specs.Sets.{IsIn, IsSet}
use Rattle.rm_sets.proofs.Sets.{not_both, IsIn-cases, IsSet-cons, IsSet-nil}
use Rattle.rm_sets.proofs.Members.{not_in_nil}
use Rattle.rm_market.specs.Board.{contract_count, doctor_of, hospital_of}
use Rattle.rm_market.specs.Best.{swapped}
use Rattle.rm_market.specs.Stable.{IsPlacement, is_listed, wants, at, prefers_place}
use Rattle.rm_market.specs.Flexible.{has_count_form, held_at, region_count}
use Rattle.rm_market.specs.Market.{Market, IsStableIn, IsPlacementOf, solve, wishes_of}
use Rattle.rm_market.proofs.OnLiterals.{market_on_literals}
use Rattle.rm_market.proofs.Small.{two, two_region}
use Rattle.rm_plain_laws.specs.Stability.{IsBlockingPair}
use Rattle.rm_plain_laws.proofs.ListsBelow.{lists_below}
use Rattle.rm_market_laws.proofs.Market.{solve_is}
use Rattle.rm_flexible_laws.specs.Region.{region_at, seat_at, IsPlace}
use Rattle.rm_flexible_laws.proofs.Stable.{market_count_form}
use Rattle.rm_kamada_kojima_laws.specs.Stability.{IsExcused, IsKKStable, over_target}
use Rattle.rm_kamada_kojima_laws.specs.Results.{IsMarketOf, IsBetterForDoctors, OneDoctorKKStableOnly, KKStableBeatsPlacement}
use Rattle.rm_kamada_kojima_laws.proofs.Turns.{further_over}
use Rattle.rm_kamada_kojima_laws.proofs.SharedSeat.{regions, shared, place_is, shared_market}

-- ---- what both markets share

only : (x y : ℕ) → IsIn y (x ∷ []) → y ≡ x
only x y i = ⊎_elim (λ e. e) (λ none. absurd (not_in_nil y none)) (IsIn-cases y x [] i)

one_set : (x : ℕ) → IsSet (x ∷ [])
one_set x = IsSet-cons x [] (λ y i. absurd (not_in_nil y i)) IsSet-nil

at_most_one : (p : ℕ → Bool) (z : ℕ) → length (filter p (z ∷ [])) ≤ 1
at_most_one p z = by (p z)
  where
    by : (c : Bool) → length (cond c (z ∷ []) []) ≤ 1
    by true = omega arith
    by false = omega arith

-- a set of one listed contract is a placement
pub one_placed : (m : Market) (z : ℕ) → z < length (wishes_of m).owners → is_listed (wishes_of m) z ≡ true → IsPlacement (wishes_of m) (z ∷ [])
one_placed m z lt listed = record {
  set = record { ascending = one_set z; below = λ y i. subst (λ x. x < length (wishes_of m).owners) (sym (only z y i)) lt };
  once = λ x y i j e. only z x i ∙ sym (only z y j);
  listed = λ y i. subst (λ x. is_listed (wishes_of m) x ≡ true) (sym (only z y i)) listed;
}

-- the contract x is at the first hospital, and if its doctor holds z, then after his move the first hospital is further over its target
abbrev pub IsRefused : Market → ℕ → ℕ → Type 0
IsRefused m z x =
    (hospital_of m.board x ≡ 0) × (doctor_of m.board z ≡ doctor_of m.board x →
    over_target m.board (swapped (z ∷ []) x z) (seat_at two_region 1) <ℤ over_target m.board (swapped (z ∷ []) x z) (seat_at two_region 0))

module _ (first second : List ℕ) (lists : List (List ℕ)) (z : ℕ) where
  abbrev own : Market
  own = shared first second lists

  -- a contract at the second hospital, where each one that is wanted is refused
  pub held_alone : IsPlacement (wishes_of own) (z ∷ []) → hospital_of own.board z ≡ 1 → region_count own.board two_region (z ∷ []) ≡ 1 →
      ((x : ℕ) → x < contract_count own.board → wants (wishes_of own) (z ∷ []) x ≡ true → IsRefused own z x) → IsKKStable own regions (z ∷ [])
  held_alone placement there full refused = record {
    placement = placement;
    caps = record { in_caps = in_caps; in_capacities = in_capacities };
    excused = excused;
  }
    where
      in_caps : (i : ℕ) → i < 1 → region_count own.board (region_at regions i) (z ∷ []) ≤ (region_at regions i).cap
      in_caps zero lt = omega arith
      in_caps (suc i) lt = absurd (omega arith)

      in_capacities : (i j : ℕ) → i < 1 → j < length (region_at regions i).seats → held_at own.board (z ∷ []) (seat_at (region_at regions i) j) ≤ (seat_at (region_at regions i) j).capacity
      in_capacities zero zero lt ll = at_most_one (λ x. eqb (hospital_of own.board x) 0) z
      in_capacities zero (suc zero) lt ll = at_most_one (λ x. eqb (hospital_of own.board x) 1) z
      in_capacities zero (suc (suc j)) lt ll = absurd (omega arith)
      in_capacities (suc i) j lt ll = absurd (omega arith)

      apart : (x y : ℕ) → hospital_of own.board x ≡ 0 → IsIn y (z ∷ []) → hospital_of own.board y ≡ hospital_of own.board x → ⊥
      apart x y e i same = absurd (omega (arith, there, ap (hospital_of own.board) (only z y i), same, e))

      further : (x : ℕ) → IsRefused own z x → (y k : ℕ) → IsIn y (z ∷ []) → doctor_of own.board y ≡ doctor_of own.board x → k < 2 → (seat_at two_region k).hospital ≡ hospital_of own.board y →
          over_target own.board (swapped (z ∷ []) x y) (seat_at two_region k) <ℤ over_target own.board (swapped (z ∷ []) x y) (seat_at two_region 0)
      further x refused_x y k i same lk e =
          let q : IsPlace regions 1 0 k = record { region = omega arith; seat = lk; hospital = e ∙ (ap (hospital_of own.board) (only z y i) ∙ there) } in
          subst₂ (λ l v. over_target own.board (swapped (z ∷ []) x v) (seat_at two_region l) <ℤ over_target own.board (swapped (z ∷ []) x v) (seat_at two_region 0)) (sym (place_is 1 0 k q).1) (sym (only z y i))
          (refused_x.1 (subst (λ v. doctor_of own.board v ≡ doctor_of own.board x) (only z y i) same))

      excused : (x i j : ℕ) → x < contract_count own.board → IsPlace regions (hospital_of own.board x) i j → IsBlockingPair own (z ∷ []) (seat_at (region_at regions i) j).capacity x →
          IsExcused own (z ∷ []) (region_at regions i) (seat_at (region_at regions i) j) x
      excused x i j lx p blocks =
          let off = refused x lx blocks.wanted in
          let w = place_is (hospital_of own.board x) i j p in
          subst₂ (λ k l. IsExcused own (z ∷ []) (region_at regions k) (seat_at (region_at regions k) l) x) (sym w.0) (sym (w.1 ∙ off.0)) (record {
            full = full;
            above = λ y iy e. absurd (apart x y off.0 iy e);
            further = further x off;
          })

-- what hasn't the count form isn't stable
without_form : (m : Market) (S : List ℕ) → IsMarketOf m regions → has_count_form m.board regions (wishes_of m) S ≡ false → ¬ IsStableIn m S
without_form m S ok off stable = not_both (has_count_form m.board regions (wishes_of m) S) ((market_count_form m regions ok.market ok.lawful ok.compiled S stable.placement stable.kept.feasible).0 stable) off

-- ---- one doctor, who likes the first hospital best, and is at the second

abbrev pub alone : Market
alone = shared (0 ∷ []) (0 ∷ []) ((0 ∷ 1 ∷ []) ∷ [])

alone_market : IsMarketOf alone regions
alone_market = shared_market (0 ∷ []) (0 ∷ []) alone.lists (lists_below 1 alone.board.ranks refl) (lists_below 2 alone.lists refl)

alone_moved : over_target alone.board (swapped (1 ∷ []) 0 1) (seat_at two_region 1) <ℤ over_target alone.board (swapped (1 ∷ []) 0 1) (seat_at two_region 0)
unfolding market_on_literals
alone_moved = further_over 0 0 1 0 0 refl (omega arith)

alone_refused : (x : ℕ) → x < 2 → wants (wishes_of alone) (1 ∷ []) x ≡ true → IsRefused alone 1 x
alone_refused zero lt wanted = (refl, λ same. alone_moved)
alone_refused (suc zero) lt wanted = absurd (true≢false (sym wanted))
alone_refused (suc (suc x)) lt wanted = absurd (omega arith)

alone_formless : has_count_form alone.board regions (wishes_of alone) (1 ∷ []) ≡ false
unfolding market_on_literals
alone_formless = refl

pub one_doctor : OneDoctorKKStableOnly
one_doctor = (
  alone,
  regions,
  1 ∷ [],
  refl,
  record {
    regional = alone_market;
    kk_stable = held_alone (0 ∷ []) (0 ∷ []) ((0 ∷ 1 ∷ []) ∷ []) 1 (one_placed alone 1 (omega arith) refl) refl refl alone_refused;
    unstable = without_form alone (1 ∷ []) alone_market alone_formless;
  },
)

-- ---- the market `two` of the page on definitions: the first doctor likes the second hospital best, and holds its seat; the second would come to the first hospital

abbrev pub pair : Market
pair = shared (0 ∷ 1 ∷ []) (0 ∷ []) ((1 ∷ 0 ∷ []) ∷ (0 ∷ []) ∷ [])

pair_is_two : pair ≡ two
unfolding market_on_literals
pair_is_two = refl

pub pair_market : IsMarketOf pair regions
pair_market = shared_market (0 ∷ 1 ∷ []) (0 ∷ []) pair.lists (lists_below 2 pair.board.ranks refl) (lists_below 2 pair.lists refl)

pair_refused : (x : ℕ) → x < 3 → wants (wishes_of pair) (2 ∷ []) x ≡ true → IsRefused pair 2 x
pair_refused zero lt wanted = absurd (true≢false (sym wanted))
pair_refused (suc zero) lt wanted = (refl, λ same. let e : 0 ≡ 1 = same in absurd (omega arith))
pair_refused (suc (suc zero)) lt wanted = absurd (true≢false (sym wanted))
pair_refused (suc (suc (suc x))) lt wanted = absurd (omega arith)

pair_formless : has_count_form pair.board regions (wishes_of pair) (2 ∷ []) ≡ false
unfolding market_on_literals
pair_formless = refl

pair_solved : solve pair ≡ 0 ∷ []
unfolding market_on_literals
pair_solved = refl

pair_better : IsBetterForDoctors pair (2 ∷ []) (0 ∷ [])
pair_better = record { nobody_worse = nobody; doctor = 0; gains = refl }
  where
    nobody : (d : ℕ) → d < 2 → IsFalse (prefers_place (wishes_of pair) d (at (wishes_of pair) d (0 ∷ [])) (at (wishes_of pair) d (2 ∷ [])))
    nobody zero lt = refl
    nobody (suc zero) lt = refl
    nobody (suc (suc d)) lt = absurd (omega arith)

pub better : KKStableBeatsPlacement
better = (
  pair,
  regions,
  0 ∷ [],
  2 ∷ [],
  subst (IsPlacementOf pair) pair_solved (solve_is pair pair_market.market),
  record {
    regional = pair_market;
    kk_stable = held_alone (0 ∷ 1 ∷ []) (0 ∷ []) ((1 ∷ 0 ∷ []) ∷ (0 ∷ []) ∷ []) 2 (one_placed pair 2 (omega arith) refl) refl refl pair_refused;
    unstable = without_form pair (2 ∷ []) pair_market pair_formless;
  },
  pair_better,
)
