-- What stable means in a folder without a policy.
use Rattle.std.specs.Prelude.{◌≡◌, ◌↔◌, ℕ, List, None}
use Rattle.rm_market.specs.Stable.{IsPlacement}
use Rattle.rm_market.specs.Market.{IsStableIn, wishes_of}
use Rattle.rm_plain_laws.specs.Stability.{IsPairwiseStable}
use Rattle.rm_roster.specs.Roster.{RosterData}
use Rattle.rm_policy.specs.Policy.{plain}
use Rattle.rm_case.specs.Case.{CaseData, IsCase, market, policy_in}

-- a folder without the file has the plain policy
abbrev pub NoFileIsPlain : Type 0
NoFileIsPlain = (r : RosterData) → policy_in r None ≡ plain

-- there a placement is stable exactly where no hospital holds more doctors than its capacity and there is no blocking pair
abbrev pub StableWithoutPolicy : Type 0
StableWithoutPolicy =
    (c : CaseData) (S : List ℕ) → IsCase c → c.policy ≡ plain → IsPlacement (wishes_of (market c)) S
    → IsStableIn (market c) S ↔ IsPairwiseStable (market c) c.roster.capacities S
