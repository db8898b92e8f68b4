-- The rows of events, read one after another.
use Rattle.std.proofs.Common.{◌≡◌, ◌∙◌, ◌+◌, ◌<◌, ◌≤◌, ℕ, List, [], ◌∷◌, ◌++◌, length, get_or, Option, Some, None, All, refl, ap, sym, arith}
use Rattle.std.proofs.lemmas.List.Elements.{All-nil, All-append, All-cons, filter_map-append}
use Rattle.std.proofs.lemmas.List.Quantifiers.{position-Some}
use Rattle.std.specs.Str.{bytes_eq}
use Rattle.rm_base.specs.Checks.{first_of, checks_of}
use Rattle.rm_base.specs.Codes.{refuse}
use Rattle.rm_base.specs.Text.{Text}
use Rattle.rm_base.specs.declared.codes.TheConstants.{NOT_CONTRACT, OWN_FILE, WRONG_HEADER}
use Rattle.rm_base.specs.declared.Refusal.{Refusal}
use Rattle.rm_base.proofs.CheckLemmas.{AreThrough, through-start, through-more, through-stop, through-end}
use Rattle.rm_table.specs.Rows.{Row}
use Rattle.rm_market.specs.Board.{number_of}
use Rattle.rm_market.specs.Market.{wishes_of}
use Rattle.rm_roster.specs.Cells.{field, data_rows, header_check, wrong_cell}
use Rattle.rm_case.specs.Case.{CaseData, IsCase, market}
use Rattle.rm_case.specs.Own.{doctor_in, hospital_in}
use Rattle.rm_report.proofs.Applying.{listed-each}
use Rattle.rm_transit_laws.specs.declared.Event.{Event}
use Rattle.rm_transit.specs.Events.{contract_checks, event_checks, events_in, row_checks, row_contract, row_doctor, row_event}
use Rattle.rm_transit.specs.Travel.{IsEventOf}

-- ---- one row

-- a doctor of the case has a list of contracts
pub doctor_low : (c : CaseData) (d : ℕ) (text : Text) → IsCase c → doctor_in c text ≡ Some d → d < length (wishes_of (market c)).listed
doctor_low c d text ok is =
    let low = (position-Some (bytes_eq text) c.roster.doctors d [] is).0 in
    omega (arith, low, listed-each c ok)

module _ (c : CaseData) (row : Row) (d h : ℕ) (doctor : row_doctor c row ≡ Some d) (hospital : hospital_in c (field 3 row) ≡ Some h) where
  pub contract_is : row_contract c row ≡ number_of c.roster.ranks d h
  contract_is = rw (doctor, hospital) refl

  pub is_contract : (i x : ℕ) → number_of c.roster.ranks d h ≡ Some x → first_of (contract_checks c i row) ≡ None
  is_contract i x n = rw (doctor, hospital, n) refl

  pub no_contract : (i : ℕ) → number_of c.roster.ranks d h ≡ None → first_of (contract_checks c i row) ≡ Some (refuse NOT_CONTRACT OWN_FILE i 3)
  no_contract i n = rw (doctor, hospital, n) refl

-- ---- the header

-- with its header right, a table is checked as its rows are
pub header_right : (wanted : List Text) (rows : List Row) (checks : List (Option Refusal)) (o : Option ℕ) → o ≡ wrong_cell 0 wanted (get_or rows 0 []) → o ≡ None
    → first_of (header_check OWN_FILE wanted rows ∷ checks) ≡ first_of checks
header_right wanted rows checks o e is = rw (sym e ∙ is) refl

pub header_wrong : (wanted : List Text) (rows : List Row) (checks : List (Option Refusal)) (o : Option ℕ) (j : ℕ) → o ≡ wrong_cell 0 wanted (get_or rows 0 []) → o ≡ Some j
    → first_of (header_check OWN_FILE wanted rows ∷ checks) ≡ Some (refuse WRONG_HEADER OWN_FILE 0 j)
header_wrong wanted rows checks o j e is = rw (sym e ∙ is) refl

-- ---- all rows

-- the rows before row i: they pass their checks, and these are their events, each of a doctor or a contract of the case
pub record AreRead (c : CaseData) (rows : List Row) (i : ℕ) (events : List Event) : Type 0 where
  pub before : List Row
  pub through : AreThrough (event_checks c) rows 1 i before
  pub told : events ≡ events_in c before
  pub known : All (IsEventOf (wishes_of (market c))) events

module _ (c : CaseData) (rows : List Row) where
  pub none_read : AreRead c rows 1 []
  none_read = record {
    before = [];
    through = through-start (event_checks c) rows 1;
    told = refl;
    known = All-nil (IsEventOf (wishes_of (market c)));
  }

  module _ (i : ℕ) (events : List Event) (r : AreRead c rows i events) where
    numbered : (row : Row) → row_checks c i row ≡ event_checks c r.before row
    numbered row = let place : i ≡ length r.before + 1 = omega (arith, r.through.place) in ap (λ k. row_checks c k row) place

    pub one_refused : (row : Row) (refusal : Refusal) → i < length rows → row ≡ get_or rows i [] → first_of (row_checks c i row) ≡ Some refusal
        → first_of (checks_of (event_checks c) (data_rows rows)) ≡ Some refusal
    one_refused row refusal lt at some = through-stop (event_checks c) rows 1 i r.before row [] refusal r.through lt at (ap first_of (sym (numbered row)) ∙ some)

    pub one_more : (row : Row) (e : Event) → i < length rows → row ≡ get_or rows i [] → first_of (row_checks c i row) ≡ None → row_event c row ≡ Some e
        → IsEventOf (wishes_of (market c)) e → AreRead c rows (i + 1) (events ++ e ∷ [])
    one_more row e lt at passes is own = record {
      before = r.before ++ row ∷ [];
      through = through-more (event_checks c) rows 1 i r.before row [] r.through lt at (ap first_of (sym (numbered row)) ∙ passes);
      told = ap (λ L. L ++ e ∷ []) r.told ∙ sym (filter_map-append (row_event c) r.before (row ∷ []) ∙ rw is refl);
      known = All-append (IsEventOf (wishes_of (market c))) events (e ∷ []) r.known (All-cons (IsEventOf (wishes_of (market c))) e [] own (All-nil (IsEventOf (wishes_of (market c)))));
    }

    pub all_read : length rows ≤ i → (first_of (checks_of (event_checks c) (data_rows rows)) ≡ None) × (events ≡ events_in c (data_rows rows))
    all_read end =
        let done = through-end (event_checks c) rows 1 i r.before r.through end in
        (done.0, r.told ∙ ap (events_in c) (sym done.1))
