-- The titles of nodes.
use Rattle.std.proofs.Common.{◌≡◌, ◌<◌, ◌≤◌, ◌+◌, ◌-◌, ℕ, [], length, refl, Some, arith}
use Rattle.std.specs.Prelude.{slice_get}
use Rattle.std.proofs.lemmas.Bool.{lt-ltb, le-ltb}
use Rattle.std.proofs.lemmas.Option.{get_or_from_slice_get}
use Rattle.rm_base.specs.Text.{Text}
use Rattle.rm_case.specs.Compiled.{compiled_board}
use Rattle.rm_case.specs.Case.{CaseData, IsCase, market, hospital, prefecture, group, title_of}
use Rattle.rm_case.proofs.RegionsNodes.{nodes_long}

-- a node for each hospital and for each group
pub nodes-each : (c : CaseData) → IsCase c → length (market c).board.nodes ≡ length c.roster.hospitals + length c.policy.groups.members
unfolding compiled_board
nodes-each c is = omega (arith, nodes_long c.roster c.policy is.policy, is.roster.rank_each)

-- a node past the hospitals is a group
pub group-numbered : (c : CaseData) (k h : ℕ) → IsCase c → k < length (market c).board.nodes → h ≡ length c.roster.hospitals → h ≤ k → k - h < length c.policy.groups.members
group-numbered c k h is low e high = omega (arith, nodes-each c is, low, e, high)

pub title-hospital : (c : CaseData) (k : ℕ) (name : Text) → k < length c.roster.hospitals → slice_get c.roster.hospitals k ≡ Some name → hospital name ≡ title_of c k
title-hospital c k name low e = rw (lt-ltb k (length c.roster.hospitals) low, get_or_from_slice_get c.roster.hospitals k name [] e) refl

pub title-prefecture : (c : CaseData) (k : ℕ) (name : Text) → length c.roster.hospitals ≤ k → k - length c.roster.hospitals < length c.policy.orders
    → slice_get c.policy.groups.names (k - length c.roster.hospitals) ≡ Some name → prefecture name ≡ title_of c k
title-prefecture c k name high low e =
    rw (le-ltb k (length c.roster.hospitals) high, lt-ltb (k - length c.roster.hospitals) (length c.policy.orders) low, get_or_from_slice_get c.policy.groups.names (k - length c.roster.hospitals) name [] e) refl

pub title-group : (c : CaseData) (k : ℕ) (name : Text) → length c.roster.hospitals ≤ k → length c.policy.orders ≤ k - length c.roster.hospitals
    → slice_get c.policy.groups.names (k - length c.roster.hospitals) ≡ Some name → group name ≡ title_of c k
title-group c k name high low e =
    rw (le-ltb k (length c.roster.hospitals) high, le-ltb (k - length c.roster.hospitals) (length c.policy.orders) low, get_or_from_slice_get c.policy.groups.names (k - length c.roster.hospitals) name [] e) refl
