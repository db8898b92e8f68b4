-- Of a flexible policy: what is found stable has the count form, and the other way round.
use Rattle.std.proofs.Common.{◌≡◌, ℕ, List}
use Rattle.std.specs.Prelude.{◌↔◌, Result, Ok, Err, IfOk}
use Rattle.rm_market.specs.Market.{IsStableIn, wishes_of}
use Rattle.rm_market.specs.Stable.{IsPlacement}
use Rattle.rm_market.specs.declared.Finding.{Finding}
use Rattle.rm_market.specs.declared.Finding.TheVariants as findings
use Rattle.rm_case.specs.Case.{CaseData, IsCase, market, regions}
use Rattle.rm_flexible_laws.proofs.Stable.{market_count_form}
use Rattle.rm_audit.specs.CountForm.{IsStableByCounts}

pub stable_by_counts : {E : Type 0} (c : CaseData) (S : List ℕ) → IsCase c → IsPlacement (wishes_of (market c)) S → (r : Result Finding E)
    → IfOk r (λ f. (f ≡ findings.Stable) ↔ IsStableIn (market c) S) → IfOk r (IsStableByCounts c S)
stable_by_counts c S case placed (Err e) found = tt
stable_by_counts c S case placed (Ok f) found =
    λ flexible feasible.
    let are = case.regions flexible in
    let law = market_count_form (market c) (regions c) case.market are.lawful are.compiled S placed feasible in
    (λ stable. law.0 (found.0 stable), λ form. found.1 (law.1 form))
