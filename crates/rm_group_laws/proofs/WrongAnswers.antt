-- Wrong answers on small markets: each definition of specs/Markets refuses one.
use Rattle.std.proofs.Common.{◌≡◌, ℕ, zero, suc, ◌<◌, List, [], ◌∷◌, true, refl, sym, ap, subst, ⊎_elim, arith, true≢false}
use Rattle.rm_sets.specs.Sets.{has, IsIn}
use Rattle.rm_sets.proofs.Sets.{IsIn-cases, IsSetBelow-all_below}
use Rattle.rm_sets.proofs.Members.{not_in_nil}
use Rattle.rm_market.proofs.OnLiterals.{market_on_literals}
use Rattle.rm_market.proofs.Small.{crossed}
use Rattle.rm_market.specs.Board.{hospital_of}
use Rattle.rm_market.specs.Stable.{IsPlacement, is_listed}
use Rattle.rm_market.specs.Market.{Market, IsMarket, wishes_of, IsStableIn, stable_sets}
use Rattle.rm_board_laws.specs.HospitalBoards.{plain_market}
use Rattle.rm_board_laws.proofs.HospitalBoards.{plain_markets}
use Rattle.rm_plain_laws.proofs.ListsBelow.{lists_below}
use Rattle.rm_valuation_laws.specs.Changes.{test_at}
use Rattle.rm_valuation_laws.specs.Order.{IsRoot}
use Rattle.rm_verdict_laws.proofs.Plain.{stable_test}
use Rattle.rm_group_laws.specs.Groups.{DoesNotGain}
use Rattle.rm_group_laws.specs.Markets.{AreGroupLists, NoGroupGains, NothingBetterIn, StandsAlone, FillsTheSame}
use Rattle.rm_group_laws.proofs.MarketParts.{root_divides_none}
use Rattle.rm_group_laws.proofs.Divided.{divided, divided_is_market, first_stable}

-- ---- the stable set that is best for the hospitals

pub crossed_is_market : IsMarket crossed
unfolding market_on_literals
crossed_is_market = plain_markets crossed.board.ranks (1 ∷ 1 ∷ []) crossed.lists (lists_below 2 crossed.board.ranks refl) (lists_below 2 crossed.lists refl)

pub first_choices : IsStableIn crossed (1 ∷ 3 ∷ [])
unfolding market_on_literals
first_choices = (stable_test crossed (1 ∷ 3 ∷ []) crossed_is_market (IsSetBelow-all_below 4 (λ x. has x (1 ∷ 3 ∷ [])))).0 refl

-- both doctors prefer the other one
both_gain : (d : ℕ) → d < 2 → ¬ DoesNotGain (wishes_of crossed) (0 ∷ 2 ∷ []) (1 ∷ 3 ∷ []) d
both_gain zero lt = true≢false
both_gain (suc zero) lt = true≢false
both_gain (suc (suc d)) lt = absurd (omega arith)

same_lists : AreGroupLists crossed (0 ∷ 1 ∷ []) crossed.lists
same_lists = record { long = refl; others = λ d out. refl; own = lists_below 2 crossed.lists refl }

-- two doctors would gain together, even by their own lists
pub a_group_gains : ¬ NoGroupGains crossed (0 ∷ 2 ∷ [])
a_group_gains says =
    let h = says.no_gain (0 ∷ 1 ∷ []) crossed.lists (1 ∷ 3 ∷ []) (λ e. cc) same_lists first_choices in
    both_gain h.0 (of_two h.0 h.1) h.2
  where
    of_two : (d : ℕ) → IsIn d (0 ∷ 1 ∷ []) → d < 2
    of_two d i = ⊎_elim (λ e. omega arith) (λ later. ⊎_elim (λ e. omega arith) (λ none. absurd (not_in_nil d none)) (IsIn-cases d 1 [] later)) (IsIn-cases d 0 (1 ∷ []) i)

-- and something is better for all
pub better_for_all : ¬ NothingBetterIn crossed (0 ∷ 2 ∷ [])
better_for_all says =
    let h = says (1 ∷ 3 ∷ []) (λ e. cc) first_choices.placement first_choices.kept in
    both_gain h.0 h.1 h.2

-- ---- both doctors like the first hospital best, which ranks the second doctor first

abbrev contested : Market
contested = record { board = crossed.board; lists = (0 ∷ 1 ∷ []) ∷ (0 ∷ 1 ∷ []) ∷ [] }

-- where the first doctor alone has a place, at the second hospital, nothing stable is better for both
one_stable : (stable_sets contested ≡ (0 ∷ 2 ∷ []) ∷ []) × DoesNotGain (wishes_of contested) (2 ∷ []) (0 ∷ 2 ∷ []) 0
unfolding market_on_literals
one_stable = (refl, refl)

-- but something is that isn't stable: the first doctor at the first hospital, and the second one at the second
unstable_and_better : ¬ NothingBetterIn contested (2 ∷ [])
unfolding market_on_literals
unstable_and_better says = let h = says (1 ∷ 3 ∷ []) (λ e. cc) placement first_choices.kept in gain h.0 h.1 h.2
  where
    listed : (x : ℕ) → IsIn x (1 ∷ 3 ∷ []) → is_listed (wishes_of contested) x ≡ true
    listed x i = ⊎_elim (λ e. ap (is_listed (wishes_of contested)) e)
        (λ later. ⊎_elim (λ e. ap (is_listed (wishes_of contested)) e) (λ none. absurd (not_in_nil x none)) (IsIn-cases x 3 [] later)) (IsIn-cases x 1 (3 ∷ []) i)

    placement : IsPlacement (wishes_of contested) (1 ∷ 3 ∷ [])
    placement = record { set = first_choices.placement.set; once = first_choices.placement.once; listed = listed }

    gain : (d : ℕ) → d < 2 → ¬ DoesNotGain (wishes_of contested) (2 ∷ []) (1 ∷ 3 ∷ []) d
    gain zero lt = true≢false
    gain (suc zero) lt = true≢false
    gain (suc (suc d)) lt = absurd (omega arith)

-- ---- nobody is placed, though there is a seat

abbrev one_each : List (List ℕ)
one_each = (0 ∷ []) ∷ []

abbrev lone : Market
lone = plain_market one_each (1 ∷ []) one_each

lone_is_market : IsMarket lone
lone_is_market = plain_markets one_each (1 ∷ []) one_each (lists_below 1 one_each refl) (lists_below 1 one_each refl)

placed : IsStableIn lone (0 ∷ [])
unfolding market_on_literals
placed = (stable_test lone (0 ∷ []) lone_is_market (IsSetBelow-all_below 1 (λ x. has x (0 ∷ [])))).0 refl

one_or_none : (a b : ℕ) → a ≡ 1 → b ≡ 0 → a ≡ b → ⊥
one_or_none a b one none e = omega (arith, one, none, e)

one_root : IsRoot lone.board 0
unfolding market_on_literals
one_root zero lt = refl
one_root (suc k) lt = absurd (omega arith)

-- by each of the three clauses another stable set has more contracts
fewer_apart : ¬ FillsTheSame lone []
fewer_apart says = one_or_none _ _ refl refl (says.apart (λ x. true) (λ k x y lk lx ly i j. refl) (0 ∷ []) placed)

fewer_in_root : ¬ FillsTheSame lone []
fewer_in_root says = one_or_none _ _ refl refl (says.roots 0 (omega arith) one_root (0 ∷ []) placed)

fewer_at_hospital : ¬ FillsTheSame lone []
fewer_at_hospital says = one_or_none _ _ refl refl (says.hospitals 0 (λ k x y lk lx ly i j e. first y ly) (0 ∷ []) placed)
  where
    first : (y : ℕ) → y < 1 → hospital_of lone.board y ≡ 0
    first zero lt = refl
    first (suc y) lt = absurd (omega arith)

-- ---- two hospitals that have one seat between them, and a third one, as told beside them

region_is_root : IsRoot divided.board 3
unfolding market_on_literals
region_is_root zero lt = refl
region_is_root (suc zero) lt = refl
region_is_root (suc (suc zero)) lt = refl
region_is_root (suc (suc (suc zero))) lt = refl
region_is_root (suc (suc (suc (suc k)))) lt = absurd (omega arith)

-- the third hospital has its doctor, and the region has none, which is told by the region alone
region_left_empty : ¬ FillsTheSame divided (3 ∷ [])
region_left_empty says = one_or_none _ _ refl refl (says.roots 3 (omega arith) region_is_root (1 ∷ 3 ∷ []) first_stable)

-- the third hospital has both doctors, so there are two contracts, as in each stable set, but none of the region
none_apart : ¬ FillsTheSame divided (2 ∷ 3 ∷ [])
none_apart says =
    one_or_none _ _ refl refl
    (says.apart (test_at divided.board 3) (root_divides_none divided divided_is_market 3 (omega arith) region_is_root) (1 ∷ 3 ∷ []) first_stable)

third_alone : StandsAlone divided.board 2
third_alone k x y lk lx ly i j e = in_third y ly (subst (λ n. test_at divided.board n y ≡ true) (its_node k x lk lx i e) j)
  where
    its_node : (n z : ℕ) → n < 4 → z < 4 → test_at divided.board n z ≡ true → hospital_of divided.board z ≡ 2 → n ≡ 2
    its_node n zero ln lz t at = let no : ◌≡◌ {A = ℕ} 0 2 = at in absurd (omega arith)
    its_node n (suc zero) ln lz t at = let no : ◌≡◌ {A = ℕ} 1 2 = at in absurd (omega arith)
    its_node zero (suc (suc zero)) ln lz t at = absurd (true≢false (sym t))
    its_node (suc zero) (suc (suc zero)) ln lz t at = absurd (true≢false (sym t))
    its_node (suc (suc zero)) (suc (suc zero)) ln lz t at = refl
    its_node (suc (suc (suc zero))) (suc (suc zero)) ln lz t at = absurd (true≢false (sym t))
    its_node (suc (suc (suc (suc n)))) (suc (suc zero)) ln lz t at = absurd (omega arith)
    its_node zero (suc (suc (suc zero))) ln lz t at = absurd (true≢false (sym t))
    its_node (suc zero) (suc (suc (suc zero))) ln lz t at = absurd (true≢false (sym t))
    its_node (suc (suc zero)) (suc (suc (suc zero))) ln lz t at = refl
    its_node (suc (suc (suc zero))) (suc (suc (suc zero))) ln lz t at = absurd (true≢false (sym t))
    its_node (suc (suc (suc (suc n)))) (suc (suc (suc zero))) ln lz t at = absurd (omega arith)
    its_node n (suc (suc (suc (suc z)))) ln lz t at = absurd (omega arith)

    in_third : (z : ℕ) → z < 4 → test_at divided.board 2 z ≡ true → hospital_of divided.board z ≡ 2
    in_third zero lz t = absurd (true≢false (sym t))
    in_third (suc zero) lz t = absurd (true≢false (sym t))
    in_third (suc (suc zero)) lz t = refl
    in_third (suc (suc (suc zero))) lz t = refl
    in_third (suc (suc (suc (suc z)))) lz t = absurd (omega arith)

-- the region has its doctor, and the third hospital, which isn't the first node, has none: that is told by the hospital, and by its node
third_left_empty : ¬ FillsTheSame divided (1 ∷ [])
third_left_empty says = one_or_none _ _ refl refl (says.hospitals 2 third_alone (1 ∷ 3 ∷ []) first_stable)
