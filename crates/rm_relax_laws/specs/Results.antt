-- What is proved of raised steps and of a doctor who withdraws.
use Rattle.std.specs.Prelude.{◌≡◌, ◌↔◌, ℕ, None, ◌<◌, List, [], length, replicate, ℤ, pos, is_some, IsTrue, IsFalse, slice_set}
use Rattle.rm_sets.specs.Sets.{IsSetBelow, IsWithin}
use Rattle.rm_market.specs.Board.{Board, IsBoard, contract_count, sets_of}
use Rattle.rm_market.specs.Tree.{parent}
use Rattle.rm_valuation_laws.specs.Order.{IsRoot}
use Rattle.rm_market.specs.Best.{IsBest, IsChoice, values_of}
use Rattle.rm_market.specs.Stable.{Wishes, at, prefers_place, IsStable, IsOptimal, Takes}
use Rattle.rm_market.specs.Market.{Market, IsMarket, wishes_of, Best, IsStableIn, IsPlacementOf, replaced}
use Rattle.rm_market.specs.Laws.{AreWishes}
use Rattle.rm_relax_laws.specs.Raised.{IsRaise, IsRaisedCap, with_steps, market_with_steps, market_with_cap}

-- ---- every lawful choice

-- more is chosen of each set
abbrev pub ChoosesMore : ℕ → (List ℕ → List ℕ) → (List ℕ → List ℕ) → Type 0
ChoosesMore n chosen more = (X : List ℕ) → IsSetBelow n X → IsWithin (chosen X) (more X)

-- where another lawful choice takes more of each set, no doctor prefers his place in a former stable set
abbrev pub ChoosingMoreHelps : Type 0
ChoosingMoreHelps =
    (n : ℕ) (chosen more : List ℕ → List ℕ) (w : Wishes) (S T : List ℕ) (d : ℕ) → IsChoice n chosen → IsChoice n more → AreWishes n w
    → ChoosesMore n chosen more → IsStable (Takes chosen) w S → IsOptimal (Takes more) w T → IsFalse (prefers_place w d (at w d S) (at w d T))

-- where doctor d withdraws his list, no other doctor prefers his former place
abbrev pub WithdrawingHelps : (List ℕ → List ℕ) → Wishes → Type 0
WithdrawingHelps chosen w =
    (d e : ℕ) (S T : List ℕ) → d < length w.listed → ¬ (e ≡ d)
    → IsOptimal (Takes chosen) w S → IsOptimal (Takes chosen) (record w { listed = slice_set w.listed d [] }) T
    → IsFalse (prefers_place w e (at w e S) (at w e T))

-- ---- boards

-- the outermost nodes are those without a node just outside
abbrev pub RootsHaveNoParent : Type 0
RootsHaveNoParent = (b : Board) (k : ℕ) → IsRoot b k ↔ (parent (sets_of b) k ≡ None)

-- with raised steps it is a board again
abbrev pub RaisedIsBoard : Type 0
RaisedIsBoard = (doctors : ℕ) (b : Board) (k : ℕ) (steps : List ℤ) → IsBoard doctors b → IsRaise b k steps → IsBoard doctors (with_steps b k steps)

-- and the best subset of each set has all that the former one has
abbrev pub RaisedHasMore : Type 0
RaisedHasMore =
    (doctors : ℕ) (b : Board) (k : ℕ) (steps : List ℤ) (X S T : List ℕ) → IsBoard doctors b → IsRaise b k steps → IsSetBelow (contract_count b) X
    → IsBest (values_of b) X S → IsBest (values_of (with_steps b k steps)) X T → IsWithin S T

-- a raised cap raises the steps
abbrev pub CapsAreRaised : Type 0
CapsAreRaised = (b : Board) (k cap : ℕ) → IsRaisedCap b k cap → IsRaise b k (replicate cap (pos 0))

-- ---- markets

-- with raised steps it is a market again
abbrev pub StaysMarketRaised : Market → Type 0
StaysMarketRaised m = (k : ℕ) (steps : List ℤ) → IsRaise m.board k steps → IsMarket (market_with_steps m k steps)

-- where an outermost node's steps are raised, no doctor prefers his place in a former stable set
abbrev pub RaisingHelpsIn : Market → Type 0
RaisingHelpsIn m =
    (k : ℕ) (steps : List ℤ) (S T : List ℕ) (d : ℕ) → IsRaise m.board k steps → IsStableIn m S → IsPlacementOf (market_with_steps m k steps) T
    → IsFalse (prefers_place (wishes_of m) d (at (wishes_of m) d S) (at (wishes_of m) d T))

-- so whoever has a place in a former stable set has one
abbrev pub RaisingPlacesIn : Market → Type 0
RaisingPlacesIn m =
    (k : ℕ) (steps : List ℤ) (S T : List ℕ) (d : ℕ) → IsRaise m.board k steps → IsStableIn m S → IsPlacementOf (market_with_steps m k steps) T
    → IsTrue (is_some (at (wishes_of m) d S)) → IsTrue (is_some (at (wishes_of m) d T))

-- where an outermost cap is raised, the best subset of each set has all that the former one has
abbrev pub CapHasMoreIn : Market → Type 0
CapHasMoreIn m =
    (k cap : ℕ) (X S T : List ℕ) → IsRaisedCap m.board k cap → IsSetBelow (contract_count m.board) X → Best m X S
    → Best (market_with_cap m k cap) X T → IsWithin S T

-- it is a market again, and no doctor prefers his place in a former stable set
abbrev pub StaysMarketWithCap : Market → Type 0
StaysMarketWithCap m = (k cap : ℕ) → IsRaisedCap m.board k cap → IsMarket (market_with_cap m k cap)

abbrev pub CapHelpsIn : Market → Type 0
CapHelpsIn m =
    (k cap : ℕ) (S T : List ℕ) (d : ℕ) → IsRaisedCap m.board k cap → IsStableIn m S → IsPlacementOf (market_with_cap m k cap) T
    → IsFalse (prefers_place (wishes_of m) d (at (wishes_of m) d S) (at (wishes_of m) d T))

-- where doctor d withdraws, no other doctor prefers his former place
abbrev pub WithdrawingHelpsIn : Market → Type 0
WithdrawingHelpsIn m =
    (d e : ℕ) (S T : List ℕ) → d < length m.lists → ¬ (e ≡ d) → IsPlacementOf m S → IsPlacementOf (replaced m d []) T
    → IsFalse (prefers_place (wishes_of m) e (at (wishes_of m) e S) (at (wishes_of m) e T))

-- so whoever else has a place has one
abbrev pub WithdrawingPlacesIn : Market → Type 0
WithdrawingPlacesIn m =
    (d e : ℕ) (S T : List ℕ) → d < length m.lists → ¬ (e ≡ d) → IsPlacementOf m S → IsPlacementOf (replaced m d []) T
    → IsTrue (is_some (at (wishes_of m) e S)) → IsTrue (is_some (at (wishes_of m) e T))
