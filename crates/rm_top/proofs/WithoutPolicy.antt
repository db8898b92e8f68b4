-- The market of a case without a policy is the plain one of its roster.
use Rattle.std.proofs.Common.{◌↔◌, ℕ, List, refl, sym, subst}
use Rattle.rm_market.specs.Stable.{IsPlacement}
use Rattle.rm_market.specs.Market.{IsMarket, IsStableIn, wishes_of}
use Rattle.rm_plain_laws.specs.Stability.{IsPairwiseStable}
use Rattle.rm_plain_laws.proofs.Stability.{plain_stability}
use Rattle.rm_roster.specs.Roster.{RosterData}
use Rattle.rm_policy.specs.Policy.{PolicyData, plain}
use Rattle.rm_case.specs.Case.{CaseData, market, policy_in}
use Rattle.rm_case.specs.Compiled.{compiled_board, tie_order_of}
use Rattle.rm_top.specs.WithoutPolicy.{NoFileIsPlain, StableWithoutPolicy}

abbrev with_policy : RosterData → PolicyData → CaseData
with_policy r p = record { roster = r; policy = p }

abbrev Agree : RosterData → List ℕ → PolicyData → Type 0
Agree r S p =
    IsMarket (market (with_policy r p)) → IsPlacement (wishes_of (market (with_policy r p))) S
    → IsStableIn (market (with_policy r p)) S ↔ IsPairwiseStable (market (with_policy r p)) r.capacities S

agree_plain : (r : RosterData) (S : List ℕ) → Agree r S plain
unfolding compiled_board tie_order_of
agree_plain r S ok placement = plain_stability r.ranks r.capacities r.lists S ok.board.ranked ok.lists placement

pub no_file : NoFileIsPlain
unfolding policy_in
no_file r = refl

pub without_policy : StableWithoutPolicy
without_policy c S case none placement = subst (Agree c.roster S) (sym none) (agree_plain c.roster S) case.market placement
