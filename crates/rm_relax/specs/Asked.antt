-- What is asked of a case: another cap for a group, or the first reason why it can't be given.
use Rattle.std.specs.Prelude.{◌≡◌, ◌+◌, ◌&&◌, not, nat_lt, Bool, false, ℕ, List, [], ◌∷◌, length, get_or, is_none, Option, Some, None, Result, Ok, Err}
use Rattle.rm_base.specs.Checks.{check, first_of}
use Rattle.rm_base.specs.Codes.{refuse}
use Rattle.rm_base.specs.Text.{Text}
use Rattle.rm_base.specs.declared.Refusal.{Refusal}
use Rattle.rm_base.specs.declared.codes.TheConstants.{UNKNOWN_GROUP, NO_OUTERMOST_CAP, CAP_BELOW}
use Rattle.rm_market.specs.Board.{sets_of}
use Rattle.rm_market.specs.Tree.{parent}
use Rattle.rm_policy.specs.Policy.{group_named}
use Rattle.rm_case.specs.Case.{CaseData, market}
use Rattle.rm_case.specs.Raised.{MayRaise, node_of_group}
use Rattle.rm_relax.specs.declared.asked.Asked.{Asked}
use Rattle.rm_relax.specs.declared.asked.TheConstants.{GROUP_WORD, WORDS}

-- group g is given by `cap`, and no node is outside it
abbrev pub is_outermost_cap : CaseData → ℕ → Bool
is_outermost_cap c g = get_or c.policy.groups.by_cap g false && is_none (parent (sets_of (market c).board) (node_of_group c g))

abbrev pub present_cap : CaseData → ℕ → ℕ
present_cap c g = length (get_or c.policy.groups.steps g [])

-- the checks of the group that is asked for, if there is one, and of its cap: groups are items from 1
abbrev pub group_checks : CaseData → ℕ → Option ℕ → List (Option Refusal)
group_checks c cap None = Some (refuse UNKNOWN_GROUP WORDS GROUP_WORD 0) ∷ []
group_checks c cap (Some g) =
    check (not (is_outermost_cap c g)) (refuse NO_OUTERMOST_CAP WORDS (g + 1) 0)
    ∷ check (nat_lt cap (present_cap c g)) (refuse CAP_BELOW WORDS (g + 1) (present_cap c g))
    ∷ []

-- the checks of the name of a group, and of a cap
abbrev pub relax_checks : CaseData → Text → ℕ → List (Option Refusal)
relax_checks c name cap = group_checks c cap (group_named c.policy name)

-- the group of this name and the cap, which it may be given, or the first refusal
abbrev pub Asks : CaseData → Text → ℕ → Result Asked Refusal → Type 0
Asks c name cap (Ok asked) =
    (first_of (relax_checks c name cap) ≡ None)
    × (group_named c.policy name ≡ Some asked.group)
    × (asked.cap ≡ cap)
    × MayRaise c asked.group asked.cap
Asks c name cap (Err refusal) = first_of (relax_checks c name cap) ≡ Some refusal
