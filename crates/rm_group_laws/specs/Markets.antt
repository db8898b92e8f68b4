-- What groups of doctors can't gain in a market, and what all its stable sets share.
use Rattle.std.specs.Prelude.{◌≡◌, ◌≢◌, ℕ, ◌<◌, ◌==◌, Bool, List, [], length, count_by, slice_index_or, IsTrue, All}
use Rattle.rm_sets.specs.Sets.{IsIn}
use Rattle.rm_market.specs.Board.{Board, contract_count, hospital_of, hospital_of_number, count_at}
use Rattle.rm_market.specs.Stable.{IsPlacement}
use Rattle.rm_market.specs.Market.{Market, IsMarket, IsList, wishes_of, Best, IsStableIn, IsPlacementOf}
use Rattle.rm_board_laws.specs.HospitalBoards.{AreListsBelow, plain_market}
use Rattle.rm_valuation_laws.specs.Changes.{test_at}
use Rattle.rm_valuation_laws.specs.Order.{IsRoot}
use Rattle.rm_group_laws.specs.Groups.{DoesNotGain, SomeoneDoesNotGain}

-- ---- groups of doctors

-- the market with these lists
abbrev pub replaced_all : Market → List (List ℕ) → Market
replaced_all m lists = record m { lists = lists }

-- lists of all doctors, in which those outside the group keep their own, and each one in it has any list of hospitals
pub record AreGroupLists (m : Market) (group : List ℕ) (lists : List (List ℕ)) : Type 0 where
  pub long : length lists ≡ length m.lists
  pub others : (d : ℕ) → ¬ IsIn d group → slice_index_or lists d [] ≡ slice_index_or m.lists d []
  pub own : All (IsList m.board) lists

-- no group of doctors gains by other lists of hospitals: the market with their lists has a placement, and under no stable set of it does each
-- doctor of the group have a hospital that he prefers, by his first list, to the one that he has in S
pub record NoGroupGains (m : Market) (S : List ℕ) : Type 0 where
  pub exists : (group : List ℕ) (lists : List (List ℕ)) → AreGroupLists m group lists → (T : List ℕ) × IsPlacementOf (replaced_all m lists) T
  pub no_gain : (group : List ℕ) (lists : List (List ℕ)) (T : List ℕ) → group ≢ [] → AreGroupLists m group lists
      → IsStableIn (replaced_all m lists) T → SomeoneDoesNotGain (wishes_of m) group S T

-- whatever placement is its own best subset, stable or not, some doctor doesn't prefer his hospital in it to the one that he has in S
abbrev pub NothingBetterIn : Market → List ℕ → Type 0
NothingBetterIn m S =
    (T : List ℕ) → m.lists ≢ [] → IsPlacement (wishes_of m) T → Best m T T → (d : ℕ) × (d < length m.lists) × DoesNotGain (wishes_of m) S T d

-- ---- parts of a market

-- no node has both contracts that pass the test and contracts that don't
abbrev pub NodesAgree : Board → (ℕ → Bool) → Type 0
NodesAgree b test =
    (k x y : ℕ) → k < length b.nodes → x < contract_count b → y < contract_count b → IsTrue (test_at b k x) → IsTrue (test_at b k y)
    → test x ≡ test y

-- no node has contracts of hospital h and of another one, as where h is in no group
abbrev pub StandsAlone : Board → ℕ → Type 0
StandsAlone b h =
    (k x y : ℕ) → k < length b.nodes → x < contract_count b → y < contract_count b → IsTrue (test_at b k x) → IsTrue (test_at b k y)
    → hospital_of b x ≡ h → hospital_of b y ≡ h

-- all stable sets have as many contracts that pass the test as S
abbrev pub HaveAsMany : Market → List ℕ → (ℕ → Bool) → Type 0
HaveAsMany m S test = (T : List ℕ) → IsStableIn m T → count_by test T ≡ count_by test S

-- rural hospitals, for the hospitals' side: all stable sets have as many contracts as S
pub record FillsTheSame (m : Market) (S : List ℕ) : Type 0 where
  -- on each side of a test by which no node is divided
  pub apart : (test : ℕ → Bool) → NodesAgree m.board test → HaveAsMany m S test
  -- so in each outermost node
  pub roots : (k : ℕ) → k < length m.board.nodes → IsRoot m.board k → (T : List ℕ) → IsStableIn m T
      → count_at m.board T k ≡ count_at m.board S k
  -- and at each hospital that shares no node with another one
  pub hospitals : (h : ℕ) → StandsAlone m.board h → HaveAsMany m S (λ x. hospital_of m.board x == h)

-- ---- the theorems

-- something holds of the placement of every market
abbrev pub OfPlacements : (Market → List ℕ → Type 0) → Type 0
OfPlacements Holds = (m : Market) (S : List ℕ) → IsMarket m → IsPlacementOf m S → Holds m S

-- and something of every stable set of every market
abbrev pub OfStableSets : (Market → List ℕ → Type 0) → Type 0
OfStableSets Holds = (m : Market) (S : List ℕ) → IsMarket m → IsStableIn m S → Holds m S

-- in a market without a policy all stable sets fill as many seats of each hospital
abbrev pub PlainHospitalsFillTheSame : Type 0
PlainHospitalsFillTheSame =
    (ranks : List (List ℕ)) (capacities : List ℕ) (lists : List (List ℕ)) (S : List ℕ) (h : ℕ)
    → AreListsBelow (length lists) ranks → AreListsBelow (length ranks) lists → IsStableIn (plain_market ranks capacities lists) S
    → HaveAsMany (plain_market ranks capacities lists) S (λ x. hospital_of_number ranks x == h)
