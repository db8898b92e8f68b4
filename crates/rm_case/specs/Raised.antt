-- A case with a raised cap: the board on which a group that is given by `cap` has a greater one.
use Rattle.std.specs.Prelude.{◌≡◌, ◌+◌, ◌<◌, ◌≤◌, ℕ, true, [], length, get_or, Some, None, slice_get}
use Rattle.rm_market.specs.Board.{sets_of}
use Rattle.rm_market.specs.Market.{Market}
use Rattle.rm_market.specs.Tree.{parent}
use Rattle.rm_relax_laws.specs.Raised.{market_with_cap}
use Rattle.rm_case.specs.Case.{CaseData, market}

-- the node of a group: the hospitals' nodes come first
abbrev pub node_of_group : CaseData → ℕ → ℕ
node_of_group c g = length c.roster.hospitals + g

-- group g is given by `cap`, no node is outside it, and the other cap isn't below its own
pub record MayRaise (c : CaseData) (g cap : ℕ) : Type 0 where
  pub group : g < length c.policy.groups.members
  pub by_cap : slice_get c.policy.groups.by_cap g ≡ Some true
  pub outermost : parent (sets_of (market c).board) (node_of_group c g) ≡ None
  pub wide : length (get_or c.policy.groups.steps g []) ≤ cap
  pub bounded : cap ≤ 1000000

-- the market of the case where group g has this cap
abbrev pub raised : CaseData → ℕ → ℕ → Market
raised c g cap = market_with_cap (market c) (node_of_group c g) cap
