-- The finding on a placement, and the verdict on a journal, as they are told.
use Rattle.std.proofs.Common.{◌<◌, ℕ, List, Option, arith, true, length}
use Rattle.rm_sets.proofs.Sets.{IsSetBelow-all_below, below-all_below}
use Rattle.rm_sets.specs.Sets.{IsSetBelow}
use Rattle.rm_market.specs.Board.{contract_count}
use Rattle.rm_market.specs.Market.{Market, set_of_places, wishes_of}
use Rattle.rm_market.specs.declared.Finding.{Finding}
use Rattle.rm_market.specs.declared.Finding.TheVariants as findings
use Rattle.rm_verdict_laws.specs.Findings.{IsFinding}
use Rattle.rm_market_laws.proofs.Wishes.{listed_long}
use Rattle.rm_case.specs.Case.{CaseData, IsCase, market}
use Rattle.rm_journal_laws.specs.Journal.{Says}
use Rattle.rm_journal_laws.specs.declared.Check.{Check}
use Rattle.rm_journal_laws.specs.declared.Check.TheVariants as checks
use Rattle.rm_journal_laws.specs.declared.Entry.{Entry}
use Rattle.rm_report.specs.Journal.{IsCheckOf}
use Rattle.rm_report.specs.Texts.{IsFindingOf}

-- the set of any places is one of contracts
pub places_below : (m : Market) (places : List (Option ℕ)) → IsSetBelow (contract_count m.board) (set_of_places m places)
unfolding set_of_places
places_below m places = IsSetBelow-all_below (contract_count m.board) _

-- what a finding on it names is of the board
pub finding_within : (m : Market) (S : List ℕ) (finding : Finding) → IsSetBelow (contract_count m.board) S → IsFinding m S finding → IsFindingOf m.board finding
finding_within m S findings.Stable set is = tt
finding_within m S (findings.OverCap k) set is = (below-all_below (length m.board.nodes) (λ x. true) k is.member).0
finding_within m S (findings.Unwanted z) set (feasible, not, least) = set.below z least.member
finding_within m S (findings.Blocks x) set (best, least) = least.blocks.contract

-- a doctor whom a verdict names is one of the case
pub check_within : (c : CaseData) (chosen : List ℕ → List ℕ) (entries : List Entry) (check : Check) → IsCase c → Says chosen (wishes_of (market c)) entries check → IsCheckOf c check
check_within c chosen entries checks.Accepted ok says = tt
check_within c chosen entries (checks.NotNext r) ok says = tt
check_within c chosen entries (checks.WrongAnswer r) ok says = tt
check_within c chosen entries (checks.Unclosed d) ok says =
    let low = says.1.doctor in
    omega (arith, low, listed_long (market c) ok.market, ok.roster.list_each)
