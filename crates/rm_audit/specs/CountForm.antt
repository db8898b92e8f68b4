-- What is found with a flexible policy, told by counting seats.
use Rattle.std.specs.Prelude.{◌≡◌, ◌↔◌, ℕ, List, true, IsTrue}
use Rattle.rm_market.specs.Board.{is_feasible}
use Rattle.rm_market.specs.Flexible.{has_count_form}
use Rattle.rm_market.specs.Market.{wishes_of}
use Rattle.rm_market.specs.declared.Finding.{Finding}
use Rattle.rm_market.specs.declared.Finding.TheVariants as findings
use Rattle.rm_policy.specs.Top.{is_flexible}
use Rattle.rm_case.specs.Case.{CaseData, market, regions}

-- S has the count form of the case's regions
abbrev pub HasCountForm : CaseData → List ℕ → Type 0
HasCountForm c S = IsTrue (has_count_form (market c).board (regions c) (wishes_of (market c)) S)

-- with a flexible policy a feasible S is found to be stable exactly where it has the count form
abbrev pub IsStableByCounts : CaseData → List ℕ → Finding → Type 0
IsStableByCounts c S finding =
    is_flexible c.policy.kind ≡ true → IsTrue (is_feasible (market c).board S) → (finding ≡ findings.Stable) ↔ HasCountForm c S
