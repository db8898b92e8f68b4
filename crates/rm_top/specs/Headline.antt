-- What the product promises of a placement.
use Rattle.std.specs.Prelude.{◌≡◌, true, ℕ, ◌<◌, List, ◌++◌, length, is_some, IsTrue}
use Rattle.rm_market.specs.Board.{is_feasible}
use Rattle.rm_market.specs.Stable.{at}
use Rattle.rm_market.specs.Machine.{State, IsClosed}
use Rattle.rm_market.specs.Market.{Market, IsList, IsStableIn, IsPlacementOf, replaced, wishes_of}
use Rattle.rm_market.specs.Laws.{after}
use Rattle.rm_market.specs.Flexible.{Region, flexible}
use Rattle.rm_group_laws.specs.Markets.{NoGroupGains, NothingBetterIn, FillsTheSame}
use Rattle.rm_kamada_kojima_laws.specs.Stability.{IsKKStable}
use Rattle.rm_policy.specs.Top.{is_flexible}
use Rattle.rm_case.specs.Case.{CaseData, market, regions}
use Rattle.rm_laws.specs.WhatIf.{GainsNothing}

-- no doctor gains by another list of hospitals: the market with only his list replaced has a placement, and no placement of it gives him a
-- hospital that he prefers, by his first list, to the one that he has in S
pub record NobodyGains (m : Market) (S : List ℕ) : Type 0 where
  pub exists : (d : ℕ) (list : List ℕ) → IsList m.board list → (T : List ℕ) × IsPlacementOf (replaced m d list) T
  pub no_gain : (d : ℕ) (list T : List ℕ) → d < length m.lists → IsList m.board list → IsPlacementOf (replaced m d list) T
      → GainsNothing m d S T

-- every stable set places the same doctors as S
abbrev pub PlacesTheSame : Market → List ℕ → Type 0
PlacesTheSame m S = (T : List ℕ) (d : ℕ) → IsStableIn m T → is_some (at (wishes_of m) d T) ≡ is_some (at (wishes_of m) d S)

-- where the flexible procedure of these regions stands after turns of these doctors, in this order
abbrev pub procedure_after : Market → List Region → List ℕ → State
procedure_after m regions ds = after (flexible m.board regions) (wishes_of m) ds

-- and there nobody can apply any more: no turn changes anything
abbrev pub HasEnded : Market → List Region → List ℕ → Type 0
HasEnded m regions ds = IsClosed (flexible m.board regions) (wishes_of m) (procedure_after m regions ds)

-- the flexible procedure of these regions ends in S: whatever turns were taken, more turns end it, and wherever it has ended, S is held
pub record EndsIn (m : Market) (regions : List Region) (S : List ℕ) : Type 0 where
  pub goes_on : (ds : List ℕ) → (es : List ℕ) × HasEnded m regions (ds ++ es)
  pub ends : (ds : List ℕ) → HasEnded m regions ds → (procedure_after m regions ds).held ≡ S

-- S is the placement of the case: feasible, stable for the declared policy, liked best by every doctor among all stable sets, and the only one
-- such. Nobody gains by another list, and no group of doctors by other lists; nothing that is its own best subset is better for all; all stable
-- sets place the same doctors and fill the outermost nodes alike. With a flexible policy the procedure of its regions ends in S, and S is stable
-- as Kamada and Kojima say
pub record IsPlaced (c : CaseData) (S : List ℕ) : Type 0 where
  pub feasible : IsTrue (is_feasible (market c).board S)
  pub placement : IsPlacementOf (market c) S
  pub truthful : NobodyGains (market c) S
  pub groups : NoGroupGains (market c) S
  pub efficient : NothingBetterIn (market c) S
  pub same : PlacesTheSame (market c) S
  pub fills : FillsTheSame (market c) S
  pub flexible : is_flexible c.policy.kind ≡ true → EndsIn (market c) (regions c) S
  pub kk_stable : is_flexible c.policy.kind ≡ true → IsKKStable (market c) (regions c) S
