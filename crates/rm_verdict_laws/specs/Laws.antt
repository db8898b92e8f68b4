-- What is proved of verdicts, certificates, findings and the plain programs.
use Rattle.std.specs.Prelude.{◌≡◌, ◌↔◌, ℕ, ◌<◌, List, IsTrue, IsFalse}
use Rattle.std.specs.List.{Contains}
use Rattle.rm_sets.specs.Sets.{IsIn, IsSet, IsSetBelow, IsWithin}
use Rattle.rm_market.specs.Board.{Board, contract_count, is_feasible}
use Rattle.rm_market.specs.Best.{values_of, IsBest}
use Rattle.rm_market.specs.Stable.{IsPlacement}
use Rattle.rm_market.specs.Market.{Market, wishes_of, IsStableIn, IsOptimalIn, is_stable, stable_sets, optimal_sets}
use Rattle.rm_market.specs.Certificate.{verdict_of, certificate, finding_of}
use Rattle.rm_market.specs.declared.CertRow.{CertRow}
use Rattle.rm_market.specs.declared.Finding.{Finding}
use Rattle.rm_market.specs.declared.Finding.TheVariants as findings
use Rattle.rm_market.specs.declared.Verdict.{Verdict}
use Rattle.rm_market.specs.declared.Verdict.TheVariants as verdicts
use Rattle.rm_verdict_laws.specs.Verdicts.{IsVerdict, IsLeastOver}
use Rattle.rm_verdict_laws.specs.Rows.{AreRowsOf}
use Rattle.rm_verdict_laws.specs.Findings.{IsFinding}

-- the verdict on a chosen subset S of X is the one that says what holds
abbrev pub VerdictsHold : Board → Type 0
VerdictsHold b = (X S : List ℕ) (verdict : Verdict) → IsSetBelow (contract_count b) X → IsSet S → IsWithin S X
    → (verdict_of b X S ≡ verdict) ↔ IsVerdict b X S verdict

-- it is `Best` exactly where S is the best subset of X
abbrev pub BestWhereBest : Board → Type 0
BestWhereBest b = (X S : List ℕ) → IsSetBelow (contract_count b) X → IsSet S → IsWithin S X → (verdict_of b X S ≡ verdicts.Best) ↔ IsBest (values_of b) X S

-- some node is over its cap exactly where S isn't feasible
abbrev pub OverWhereInfeasible : Board → List ℕ → Type 0
OverWhereInfeasible b S = IsFalse (is_feasible b S) ↔ ((k : ℕ) × IsLeastOver b S k)

-- the rows of a certificate are those that say what holds, where S is feasible, as the best subset of the offers is
abbrev pub RowsHold : Board → Type 0
RowsHold b = (S offers : List ℕ) (rows : List CertRow) → IsSetBelow (contract_count b) S → IsTrue (is_feasible b S)
    → ((x : ℕ) → IsIn x offers → x < contract_count b)
    → (certificate b offers S ≡ rows) ↔ AreRowsOf b S offers rows

-- the finding on a placement is the one that says what holds
abbrev pub FindingsHold : Market → Type 0
FindingsHold m = (S : List ℕ) (finding : Finding) → IsPlacement (wishes_of m) S → (finding_of m.board (wishes_of m) S ≡ finding) ↔ IsFinding m S finding

-- it is `Stable` exactly where the placement is stable
abbrev pub StableWhereStable : Market → Type 0
StableWhereStable m = (S : List ℕ) → IsPlacement (wishes_of m) S → (finding_of m.board (wishes_of m) S ≡ findings.Stable) ↔ IsStableIn m S

-- the test of stability is passed by the stable sets of contracts alone
abbrev pub StableTestDecides : Market → Type 0
StableTestDecides m = (S : List ℕ) → IsSetBelow (contract_count m.board) S → IsTrue (is_stable m S) ↔ IsStableIn m S

-- the plain programs list the stable sets and the optimal ones, and no other sets
abbrev pub StableSetsAreAll : Market → Type 0
StableSetsAreAll m = (S : List ℕ) → Contains (stable_sets m) S ↔ IsStableIn m S

abbrev pub OptimalSetsAreAll : Market → Type 0
OptimalSetsAreAll m = (S : List ℕ) → Contains (optimal_sets m) S ↔ IsOptimalIn m S
