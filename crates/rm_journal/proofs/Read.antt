-- The rows of a journal, read one after another.
use Rattle.std.proofs.Common.{◌≡◌, ◌∙◌, ◌+◌, ◌<◌, ◌≤◌, ◌==◌, ◌&&◌, true, false, ℕ, List, [], ◌∷◌, ◌++◌, All, get_or, length, Option, Some, None, refl, ap, sym, subst, arith}
use Rattle.std.specs.Str.{bytes_eq}
use Rattle.std.specs.Prelude.{codes}
use Rattle.std.proofs.lemmas.List.Elements.{All-nil, All-append, All-cons, filter_map-append}
use Rattle.rm_base.specs.Checks.{first_of, checks_of}
use Rattle.rm_base.specs.Codes.{refuse}
use Rattle.rm_base.specs.Reading.{Stops}
use Rattle.rm_base.specs.Text.{Text}
use Rattle.rm_base.specs.declared.ReadFault.{ReadFault}
use Rattle.rm_base.specs.declared.codes.TheConstants.{OWN_FILE, NOT_CONTRACT}
use Rattle.rm_base.proofs.CheckLemmas.{AreThrough, first-none, first-some, through-start, through-more, through-stop, through-end}
use Rattle.rm_base.proofs.Stopping.{stops-on}
use Rattle.rm_board_laws.proofs.Searches.{position_bound}
use Rattle.rm_table.specs.Rows.{Row}
use Rattle.rm_market.specs.Board.{Board, contract_count, contract_of, number_of, pairs_of}
use Rattle.rm_roster.specs.Cells.{data_rows, field}
use Rattle.rm_case.specs.Case.{CaseData, market}
use Rattle.rm_case.specs.Own.{contract_in, doctor_in, hospital_in}
use Rattle.rm_case.proofs.NumberedRows.{board-ranks, ranks-of}
use Rattle.rm_journal_laws.specs.declared.Entry.{Entry}
use Rattle.rm_journal_laws.specs.Journal.{NamesBelow}
use Rattle.rm_journal.specs.Reading.{answer_checks, contract_checks, entries_in, entry_checks, row_checks, row_entry}

-- ---- two cells that name a doctor and a hospital

module _ (c : CaseData) (i j : ℕ) (doctor hospital : Text) (d h : ℕ) (named : doctor_in c doctor ≡ Some d) (at : hospital_in c hospital ≡ Some h) (b : Board) (same : b ≡ (market c).board) (found : Option ℕ) (is : found ≡ contract_of b d h) where
  number-is : number_of c.roster.ranks d h ≡ found
  number-is = subst (λ ranks. number_of ranks d h ≡ found) (board-ranks c b same) (sym is)

  pub contract-is : contract_in c doctor hospital ≡ found
  contract-is = rw (named, at) number-is

  pub no-contract : found ≡ None → first_of (contract_checks c i j doctor hospital) ≡ Some (refuse NOT_CONTRACT OWN_FILE i (j + 1))
  no-contract none = rw (named, at, number-is, none) refl

  pub contract-passes : (x : ℕ) → found ≡ Some x → first_of (contract_checks c i j doctor hospital) ≡ None
  contract-passes x some = rw (named, at, number-is, some) refl

  pub contract-low : (x : ℕ) → found ≡ Some x → x < contract_count (market c).board
  contract-low x some =
      let low = position_bound (λ (p : ℕ × ℕ). (p.0 == d) && (p.1 == h)) 0 (pairs_of c.roster.ranks) x (number-is ∙ some) in
      subst (λ ranks. x < length (pairs_of ranks)) (sym (ranks-of c)) (omega (arith, low))

-- ---- the checks of a row

module _ (c : CaseData) (i : ℕ) (row : Row) where
  pub offer-stops : (e : ReadFault) → Stops (first_of (contract_checks c i 1 (field 1 row) (field 2 row))) e → Stops (first_of (row_checks c i row)) e
  offer-stops e stops =
      stops-on (first_of (contract_checks c i 1 (field 1 row) (field 2 row))) (first_of (row_checks c i row)) e
      (λ refusal some. first-some (contract_checks c i 1 (field 1 row) (field 2 row)) (answer_checks c i row) refusal some) stops

  module _ (offer : first_of (contract_checks c i 1 (field 1 row) (field 2 row)) ≡ None) where
    rest : first_of (row_checks c i row) ≡ first_of (answer_checks c i row)
    rest = first-none (contract_checks c i 1 (field 1 row) (field 2 row)) (answer_checks c i row) offer

    pub answer-stops : (e : ReadFault) → Stops (first_of (answer_checks c i row)) e → Stops (first_of (row_checks c i row)) e
    answer-stops e stops = subst (λ o. Stops o e) (sym rest) stops

    pub row-passes : first_of (answer_checks c i row) ≡ None → first_of (row_checks c i row) ≡ None
    row-passes none = rest ∙ none

  -- where something is put out
  pub swap-stops : (e : ReadFault) → bytes_eq (field 3 row) (codes "kept") ≡ false → bytes_eq (field 3 row) (codes "refused") ≡ false → bytes_eq (field 3 row) (codes "swapped") ≡ true
      → Stops (first_of (contract_checks c i 4 (field 4 row) (field 5 row))) e → Stops (first_of (answer_checks c i row)) e
  swap-stops e kept refused swapped stops = rw (kept, refused, swapped) stops

-- ---- the rows before row i

pub record AreRead (c : CaseData) (rows : List Row) (i : ℕ) (entries : List Entry) : Type 0 where
  pub before : List Row
  pub through : AreThrough (entry_checks c) rows 1 i before
  pub told : entries ≡ entries_in c before
  pub names : All (NamesBelow (contract_count (market c).board)) entries

module _ (c : CaseData) (rows : List Row) where
  pub none-read : (entries : List Entry) → entries ≡ [] → AreRead c rows 1 entries
  none-read entries none = rw none (record {
    before = [];
    through = through-start (entry_checks c) rows 1;
    told = refl;
    names = All-nil (NamesBelow (contract_count (market c).board));
  })

  module _ (i : ℕ) (entries : List Entry) (r : AreRead c rows i entries) where
    pub all-read : length rows ≤ i → (first_of (checks_of (entry_checks c) (data_rows rows)) ≡ None) × (entries ≡ entries_in c (data_rows rows))
    all-read end =
        let done = through-end (entry_checks c) rows 1 i r.before r.through end in
        (done.0, r.told ∙ ap (entries_in c) (sym done.1))

    module _ (row : Row) (lt : i < length rows) (at : row ≡ get_or rows i []) where
      numbered : entry_checks c r.before row ≡ row_checks c i row
      numbered = ap (λ k. row_checks c k row) (let place = r.through.place in omega (arith, place))

      pub one-refused : (e : ReadFault) → Stops (first_of (row_checks c i row)) e → Stops (first_of (checks_of (entry_checks c) (data_rows rows))) e
      one-refused e stops =
          stops-on (first_of (row_checks c i row)) (first_of (checks_of (entry_checks c) (data_rows rows))) e
          (λ refusal some. through-stop (entry_checks c) rows 1 i r.before row [] refusal r.through lt at (ap first_of numbered ∙ some)) stops

      pub one-more : (e : Entry) (more : List Entry) → first_of (row_checks c i row) ≡ None → row_entry c row ≡ Some e → NamesBelow (contract_count (market c).board) e
          → more ≡ entries ++ e ∷ [] → AreRead c rows (i + 1) more
      one-more e more passes is names pushed = rw pushed (record {
        before = r.before ++ row ∷ [];
        through = through-more (entry_checks c) rows 1 i r.before row [] r.through lt at (ap first_of numbered ∙ passes);
        told = ap (λ es. es ++ e ∷ []) r.told ∙ sym (filter_map-append (row_entry c) r.before (row ∷ []) ∙ rw is refl);
        names = All-append (NamesBelow (contract_count (market c).board)) entries (e ∷ []) r.names
            (All-cons (NamesBelow (contract_count (market c).board)) e [] names (All-nil (NamesBelow (contract_count (market c).board))));
      })
