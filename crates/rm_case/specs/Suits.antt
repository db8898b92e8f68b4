-- What is needed of a policy for a roster, so that the two make a board.
use Rattle.std.specs.List.{IsDistinct}
use Rattle.std.specs.Prelude.{◌≡◌, ◌==◌, ℕ, ◌<◌, ◌≤◌, true, List, [], length, take, get_or, Some, None, IfSome, All}
use Rattle.rm_names.specs.Names.{AreDistinct}
use Rattle.rm_board.specs.ListedElements.{Names}
use Rattle.rm_board.specs.declared.ties.TieRule.{TieRule}
use Rattle.rm_board.specs.declared.ties.TieRule.TheVariants as rule
use Rattle.rm_market.specs.Board.{IsFalling}
use Rattle.rm_sets.specs.Sets.{has, IsSetBelow}
use Rattle.rm_policy.specs.Policy.{PolicyData}
use Rattle.rm_policy.specs.Prefectures.{targets_of}
use Rattle.rm_policy.specs.Steps.{flat}
use Rattle.rm_policy.specs.Top.{is_flexible}
use Rattle.rm_policy.specs.declared.Ties.TheVariants as ties
use Rattle.rm_roster.specs.Roster.{RosterData, hospitals_in}
use Rattle.rm_case.specs.Compiled.{cap_of_prefecture, entry_of_prefecture, order_of_prefecture}

-- an order of the hospitals of prefecture q, each once
pub record IsOrderOf (r : RosterData) (q : ℕ) (order : List ℕ) : Type 0 where
  pub once : IsDistinct ◌==◌ order
  pub hospitals : (h : ℕ) → has h order ≡ has h (hospitals_in r q)

-- group g is the entry of prefecture q: its hospitals, and as many steps of 0 as its cap, which has room for their targets
pub record IsEntryOf (r : RosterData) (p : PolicyData) (q g : ℕ) : Type 0 where
  pub prefecture : q < length r.prefectures
  pub entry : entry_of_prefecture r p q ≡ Some g
  pub hospitals : get_or p.groups.members g [] ≡ hospitals_in r q
  pub steps : get_or p.groups.steps g [] ≡ flat (cap_of_prefecture r p q)
  pub targets : targets_of r q ≤ cap_of_prefecture r p q

-- a policy for the hospitals of a roster
pub record SuitsRoster (r : RosterData) (p : PolicyData) : Type 0 where
  -- each group is a set of hospitals
  pub groups : All (λ g. IsSetBelow (length r.hospitals) g) p.groups.members
  -- no steps rise
  pub group_steps : All IsFalling p.groups.steps
  pub hospital_steps : (h : ℕ) → IfSome (get_or p.hospital_steps h None) IsFalling
  -- no two prefecture entries have one name
  pub entries : AreDistinct (take (length p.orders) p.groups.names)
  -- in the order of a prefecture stand its hospitals
  pub orders : (q : ℕ) → q < length r.prefectures → IsOrderOf r q (order_of_prefecture r p q)
  -- each hospital that a listed tie order names is one of the roster's
  pub listed : All (Names (length r.hospitals)) p.listed
  -- with a flexible policy each group is the entry of a prefecture
  pub flexible : is_flexible p.kind ≡ true → (g : ℕ) → g < length p.groups.members → (q : ℕ) × IsEntryOf r p q g

-- the rule of a policy's ties
abbrev pub IsRuleOf : PolicyData → TieRule → Type 0
IsRuleOf p rule.ByRank = p.ties ≡ ties.ByRank
IsRuleOf p rule.ByHospital = p.ties ≡ ties.ByHospital
IsRuleOf p (rule.Listed pairs) = (p.ties ≡ ties.Listed) × (pairs.now ≡ p.listed)
