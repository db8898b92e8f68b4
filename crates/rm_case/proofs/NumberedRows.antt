-- The rows of a command's own file, each with a number that no other row has, as of its contract, its doctor or its hospital, read one after another.
use Rattle.std.specs.List.{IsDistinct, position_from}
use Rattle.std.proofs.Common.{◌≡◌, ◌+◌, ◌<◌, ◌≤◌, ◌==◌, ◌∙◌, ◌||◌, Bool, true, false, cond, eqb, eqb-true, ℕ, List, [], ◌∷◌, ◌++◌, length, get_or, set, replicate, position, filter_map, Option, Result, option_map, is_some, Some, None, inl, inr, refl, ap, sym, subst, subst₂, arith, length-append, length-set, All}
use Rattle.std.proofs.lemmas.Bool.{eqb-false, eq-eqb}
use Rattle.std.proofs.lemmas.Iterator.Adapters.{position_from-zero}
use Rattle.std.proofs.lemmas.List.{length-replicate}
use Rattle.std.proofs.lemmas.List.Elements.{All-nil, All-append, All-cons, filter_map-append}
use Rattle.std.proofs.lemmas.List.Quantifiers.{position-Some}
use Rattle.std.specs.Str.{bytes_eq}
use Rattle.rm_base.specs.Checks.{first_of, checks_of}
use Rattle.rm_base.specs.Reading.{Reads}
use Rattle.rm_base.specs.Text.{Text}
use Rattle.rm_base.specs.declared.ReadFault.{ReadFault}
use Rattle.rm_base.specs.declared.Refusal.{Refusal}
use Rattle.rm_base.specs.declared.codes.TheConstants.{OWN_FILE}
use Rattle.rm_base.proofs.CheckLemmas.{AreThrough, through-start, through-more, through-stop, through-end}
use Rattle.rm_names.specs.Names.{place_of}
use Rattle.rm_names.proofs.FirstPlaces.{AreFirst, first-none, first-more, no-place}
use Rattle.rm_board_laws.proofs.Searches.{position_nowhere}
use Rattle.rm_table.specs.Rows.{Row}
use Rattle.rm_market.specs.Board.{Board}
use Rattle.rm_roster.specs.Cells.{data_rows, header_check, wrong_cell}
use Rattle.rm_sets.specs.Sets.{has, IsIn}
use Rattle.rm_sets.proofs.Sets.{IsIn-cases, not_both, same_tests}
use Rattle.rm_sets.proofs.Members.{not_in_nil, not_in_from, place_from_IsIn}
use Rattle.rm_sets.proofs.Once.{distinct_append, distinct_none, distinct_one}
use Rattle.rm_case.specs.Case.{CaseData, IsCase, market}
use Rattle.rm_case.specs.Compiled.{compiled_board}
use Rattle.rm_case.specs.Own.{hospital_in}

-- ---- names and hospitals

-- the number of a name, as it was found
pub found-name : (names told : List Text) (text said : Text) (o p : Option ℕ) → told ≡ names → said ≡ text → o ≡ place_of told said → o ≡ p → place_of names text ≡ p
found-name names told text said o p same at e is = subst₂ (λ a b. place_of a b ≡ p) same at (sym e ∙ is)

-- the board of a case has the rank lists of its roster
pub ranks-of : (c : CaseData) → (market c).board.ranks ≡ c.roster.ranks
unfolding compiled_board
ranks-of c = refl

pub board-ranks : (c : CaseData) (b : Board) → b ≡ (market c).board → b.ranks ≡ c.roster.ranks
board-ranks c b same = ap (λ a. a.ranks) same ∙ ranks-of c

pub known-low : (c : CaseData) (h : ℕ) (text : Text) → hospital_in c text ≡ Some h → h < length c.roster.hospitals
known-low c h text e = (position-Some (bytes_eq text) c.roster.hospitals h [] e).0

-- a hospital of the roster is one of the board
pub hospital-low : (c : CaseData) (b : Board) → b ≡ (market c).board → (h : ℕ) (text : Text) → IsCase c → hospital_in c text ≡ Some h → h < length b.ranks
hospital-low c b same h text ok e = omega (arith, known-low c h text e, ok.roster.rank_each, ap length (board-ranks c b same))

-- ---- numbers in a list

-- a number without a place in a list isn't in it
absent : (L : List ℕ) (x : ℕ) → position (λ y. y == x) L ≡ None → has x L ≡ false
absent L x none =
    not_in_from x L (λ there.
    let at = place_from_IsIn L x 0 there in
    eqb-false (get_or L at.0 0) x (position_nowhere (λ y. y == x) L 0 none at.0 at.1) at.2)

one-of : (x y : ℕ) → IsIn y (x ∷ []) → y ≡ x
one-of x y there = elim (IsIn-cases y x [] there) [
  | inl same ↦ same
  | inr none ↦ absurd (not_in_nil y none)
]

pub eqb-flips : (x y : ℕ) → eqb x y ≡ eqb y x
eqb-flips x y = same_tests (eqb x y) (eqb y x) (λ e. eq-eqb y x (sym (eqb-true x y e))) (λ e. eq-eqb x y (sym (eqb-true y x e)))

there-by : (i : ℕ) (b : Bool) (o : Option ℕ) (rest : Bool) → is_some o ≡ rest → is_some (cond b (Some i) o) ≡ (b || rest)
there-by i true o rest e = refl
there-by i false o rest e = e

there-from : (x i : ℕ) (L : List ℕ) → is_some (position_from (λ y. y == x) i L) ≡ has x L
there-from x i [] = refl
there-from x i (y ∷ L) = rw (eqb-flips x y) (there-by i (eqb y x) (position_from (λ y. y == x) (i + 1) L) (has x L) (there-from x (i + 1) L))

-- a number has a place in a list exactly where it is in it
pub has-place : (L : List ℕ) (x : ℕ) → is_some (position (λ y. y == x) L) ≡ has x L
has-place L x = ap (λ (o : Option ℕ). is_some o) (position_from-zero (λ y. y == x) L) ∙ there-from x 0 L

-- ---- the rows before row i: they pass their checks, each number of theirs has its row, and these are their numbers, below n

pub record AreNumbered (each : List Row → Row → List (Option Refusal)) (number : Row → Option ℕ) (n : ℕ) (rows : List Row) (i : ℕ) (marks : List (Option ℕ)) (numbers : List ℕ) : Type 0 where
  pub before : List Row
  pub through : AreThrough each rows 1 i before
  pub known : length numbers ≡ length before
  pub told : numbers ≡ filter_map number before
  pub long : length marks ≡ n
  pub firsts : AreFirst marks numbers
  pub within : All (λ x. x < n) numbers
  pub once : IsDistinct eqb numbers

module _ (each : List Row → Row → List (Option Refusal)) (number : Row → Option ℕ) (n : ℕ) (rows : List Row) where
  pub none-numbered : (k : ℕ) → k ≡ n → AreNumbered each number n rows 1 (replicate k None) []
  none-numbered k e = record {
    before = [];
    through = through-start each rows 1;
    known = refl;
    told = refl;
    long = length-replicate k None ∙ e;
    firsts = first-none k;
    within = All-nil (λ x. x < n);
    once = distinct_none;
  }

  pub all-numbered : (i : ℕ) (marks : List (Option ℕ)) (numbers : List ℕ) → AreNumbered each number n rows i marks numbers → length rows ≤ i
      → (first_of (checks_of each (data_rows rows)) ≡ None) × (numbers ≡ filter_map number (data_rows rows))
  all-numbered i marks numbers r end =
      let done = through-end each rows 1 i r.before r.through end in
      (done.0, r.told ∙ ap (filter_map number) (sym done.1))

module _ (each : List Row → Row → List (Option Refusal)) (number : Row → Option ℕ) (n : ℕ) (rows : List Row) (i : ℕ) (marks : List (Option ℕ)) (numbers : List ℕ) (r : AreNumbered each number n rows i marks numbers) where
  pub row-at : length r.before + 1 ≡ i
  row-at = omega (arith, r.through.place)

  -- the mark of a number is the row before that has it
  pub mark-at : (x : ℕ) → x < n → get_or marks x None ≡ option_map (λ k. k + 1) (position (λ y. y == x) (filter_map number r.before))
  mark-at x low = r.firsts.mark x (omega (arith, low, r.long)) ∙ ap (λ L. option_map (λ k. k + 1) (position (λ y. y == x) L)) r.told

  pub one-refused : (row : Row) (refusal : Refusal) → i < length rows → row ≡ get_or rows i [] → first_of (each r.before row) ≡ Some refusal
      → first_of (checks_of each (data_rows rows)) ≡ Some refusal
  one-refused row refusal lt at some = through-stop each rows 1 i r.before row [] refusal r.through lt at some

  pub one-more : (row : Row) (x : ℕ) → i < length rows → row ≡ get_or rows i [] → first_of (each r.before row) ≡ None → number row ≡ Some x → x < length marks
      → get_or marks x None ≡ None → AreNumbered each number n rows (i + 1) (set marks x (Some i)) (numbers ++ x ∷ [])
  one-more row x lt at passes is low unmarked =
      let place : length numbers + 1 ≡ i = omega (arith, r.known, r.through.place) in
      let none = no-place (position (λ y. y == x) numbers) (sym (r.firsts.mark x low) ∙ unmarked) in
      let below : x < n = omega (arith, low, r.long) in
      record {
        before = r.before ++ row ∷ [];
        through = through-more each rows 1 i r.before row [] r.through lt at passes;
        known = omega (arith, length-append numbers (x ∷ []), length-append r.before (row ∷ []), r.known);
        told = ap (λ L. L ++ x ∷ []) r.told ∙ sym (filter_map-append number r.before (row ∷ []) ∙ rw is refl);
        long = length-set marks x (Some i) ∙ r.long;
        firsts = subst (λ k. AreFirst (set marks x (Some k)) (numbers ++ x ∷ [])) place (first-more marks numbers x r.firsts low unmarked);
        within = All-append (λ x. x < n) numbers (x ∷ []) r.within (All-cons (λ x. x < n) x [] below (All-nil (λ x. x < n)));
        once = distinct_append numbers (x ∷ []) r.once (distinct_one x) (λ y here there.
            not_both (has x numbers) (subst (λ z. IsIn z numbers) (one-of x y there) here) (absent numbers x none));
      }

-- ---- the header

-- with its header right, a table is read as its rows are
pub header-right :
    (wanted : List Text) (rows : List Row) (checks : List (Option Refusal)) (all : List ℕ) (o : Option ℕ) (r : Result (List ℕ) ReadFault) →
    o ≡ wrong_cell 0 wanted (get_or rows 0 []) → o ≡ None → Reads (first_of checks) all r → Reads (first_of (header_check OWN_FILE wanted rows ∷ checks)) all r
header-right wanted rows checks all o r e is h = rw (sym e ∙ is) h
