-- The rows of a placement, read one after another.
use Rattle.std.proofs.Common.{◌≡◌, ◌⊎◌, suc, Result, subst₂, ◌+◌, ◌<◌, ◌≤◌, ◌==◌, ◌∙◌, not, Bool, true, false, cond, ℕ, List, [], ◌∷◌, ◌++◌, length, get_or, set, replicate, position, find, Option, Some, None, inl, inr, option_map, option_and_then, eqb, eqb-true, ne_eqb, eq-eqb, refl, ap, sym, subst, arith, ⊎_elim, length-append, length-set}
use Rattle.std.specs.List.{cons_option}
use Rattle.std.specs.Option.{option_map_or, option_or, is_none}
use Rattle.std.specs.Str.{bytes_eq}
use Rattle.std.proofs.lemmas.Bool.{cases_eq, cases_lt, eqb-false, or_parts, not-true}
use Rattle.std.proofs.lemmas.List.Quantifiers.{position-Some}
use Rattle.rm_board_laws.proofs.Searches.{position_nowhere}
use Rattle.std.proofs.lemmas.List.{length-replicate, get_or-replicate, get_or-set_same, get_or-set_other, get_or-map, length-map, get_or_past}
use Rattle.std.proofs.lemmas.List.Elements.{filter_map-append}
use Rattle.std.proofs.lemmas.List.Folds.{find-append}
use Rattle.rm_base.specs.Checks.{first_of, checks_of}
use Rattle.rm_base.specs.Codes.{refuse}
use Rattle.rm_base.specs.Reading.{Reads}
use Rattle.rm_base.specs.Text.{Text}
use Rattle.rm_base.specs.declared.ReadFault.{ReadFault}
use Rattle.rm_base.specs.declared.Refusal.{Refusal}
use Rattle.rm_names.specs.Names.{place_of}
use Rattle.rm_base.specs.declared.codes.TheConstants.{OWN_FILE, UNKNOWN_HOSPITAL, NOT_LISTED, REPEATED_DOCTOR, DOCTOR_MISSING}
use Rattle.rm_base.proofs.CheckLemmas.{AreThrough, through-start, through-more, through-stop, through-end, first-some, first-none}
use Rattle.rm_names.proofs.FirstPlaces.{AreFirst, first-none as no-firsts, first-more, no-place}
use Rattle.rm_table.specs.Rows.{Row}
use Rattle.rm_sets.specs.Sets.{has, IsIn, below}
use Rattle.rm_sets.proofs.Sets.{IsIn-here, IsIn-later, not_both, below-all_below}
use Rattle.rm_sets.proofs.Members.{not_in_from, place_from_IsIn, IsIn-get_or}
use Rattle.rm_sets.proofs.Once.{length-below, get_or-below}
use Rattle.rm_market.specs.Board.{Board, contract_of}
use Rattle.rm_market_laws.proofs.Wishes.{listed_long}
use Rattle.rm_market.specs.Market.{wishes_of}
use Rattle.rm_market.specs.Stable.{list_of}
use Rattle.rm_roster.specs.Cells.{field, data_rows, wrong_cell}
use Rattle.rm_case.specs.Case.{CaseData, IsCase, market}
use Rattle.rm_case.specs.Compiled.{compiled_board}
use Rattle.rm_case.specs.Own.{doctor_in, hospital_in}
use Rattle.rm_audit.specs.Placement.{AreListedPlaces, doctors_in, gives_place, is_listed_pair, is_row_of, missing_doctor, place_checks, placed_checks, placed_rows_checks, placement_checks, placement_header, placement_in, places_in, row_doctor, row_of_doctor, row_place}

-- ---- one row of doctor d

module _ (c : CaseData) (i : ℕ) (former : ℕ → Option ℕ) (row : Row) (d : ℕ) (e : doctor_in c (field 1 row) ≡ Some d) where
  pub repeated : (k : ℕ) → former d ≡ Some k → first_of (place_checks c i former row) ≡ Some (refuse REPEATED_DOCTOR OWN_FILE i k)
  repeated k r = rw (e, r) refl

  pub unplaced : former d ≡ None → gives_place row ≡ false → first_of (place_checks c i former row) ≡ None
  unplaced r g = rw (e, r, g) refl

  pub unknown : former d ≡ None → gives_place row ≡ true → hospital_in c (field 2 row) ≡ None → first_of (place_checks c i former row) ≡ Some (refuse UNKNOWN_HOSPITAL OWN_FILE i 2)
  unknown r g h = rw (e, r, g, h) refl

  pub unlisted : (h : ℕ) → former d ≡ None → gives_place row ≡ true → hospital_in c (field 2 row) ≡ Some h → is_listed_pair c d h ≡ false → first_of (place_checks c i former row) ≡ Some (refuse NOT_LISTED OWN_FILE i 2)
  unlisted h r g f l = rw (e, r, g, f, l) refl

  pub placed : (h : ℕ) → former d ≡ None → gives_place row ≡ true → hospital_in c (field 2 row) ≡ Some h → is_listed_pair c d h ≡ true → first_of (place_checks c i former row) ≡ None
  placed h r g f l = rw (e, r, g, f, l) refl

-- ---- the case

module _ (c : CaseData) (ok : IsCase c) where
  ranks_of : (market c).board.ranks ≡ c.roster.ranks
  unfolding compiled_board
  ranks_of = refl

-- each hospital of the roster ranks doctors on the board, and each doctor has listed contracts
pub as_many_ranks : (c : CaseData) (b : Board) → IsCase c → b ≡ (market c).board → length b.ranks ≡ length c.roster.hospitals
as_many_ranks c b ok same = ap (λ a. length a.ranks) same ∙ (ap length (ranks_of c ok) ∙ ok.roster.rank_each)

pub as_many_lists : (c : CaseData) (listed : List (List ℕ)) → IsCase c → listed ≡ (wishes_of (market c)).listed → length listed ≡ length c.roster.doctors
as_many_lists c listed ok same = ap length same ∙ (listed_long (market c) ok.market ∙ ok.roster.list_each)

-- ---- searches

same_lists : {X : Type 0} (xs ys : List X) (d : X) → length xs ≡ length ys → ((k : ℕ) → k < length ys → get_or xs k d ≡ get_or ys k d) → xs ≡ ys
same_lists [] [] d e h = refl
same_lists [] (y ∷ ys) d e h = absurd (omega arith)
same_lists (x ∷ xs) [] d e h = absurd (omega arith)
same_lists (x ∷ xs) (y ∷ ys) d e h =
    let head : x ≡ y = h 0 (omega arith) in
    rw (head, same_lists xs ys d (omega arith) (λ k lt. h (suc k) (omega arith))) refl

same_found : (p q : ℕ → Bool) (S : List ℕ) → ((x : ℕ) → IsIn x S → p x ≡ q x) → find p S ≡ find q S
same_found p q [] same = refl
same_found p q (x ∷ S) same = rw (same x (IsIn-here x S), same_found p q S (λ y i. same y (IsIn-later y x S i))) refl

-- whether a number has a place in a list is whether it is in it
placed_is : (L : List ℕ) (d : ℕ) (o : Option ℕ) → position (λ e. e == d) L ≡ o → is_none (option_map (λ k. k + 1) o) ≡ not (has d L)
placed_is L d None e =
    let none : has d L ≡ false = not_in_from d L (λ there.
    let at = place_from_IsIn L d 0 there in
    eqb-false (get_or L at.0 0) d (position_nowhere (λ y. y == d) L 0 e at.0 at.1) at.2)
    in
    rw none refl
placed_is L d (Some k) e =
    let at = position-Some (λ y. y == d) L k 0 e in
    let there : IsIn d L = subst (λ y. IsIn y L) (eqb-true (get_or L k 0) d at.1) (IsIn-get_or L k 0 at.0) in
    rw there refl

or_none : {X : Type 0} (o : Option X) → option_or o None ≡ o
or_none None = refl
or_none (Some x) = refl

-- ---- the rows before row i: they pass their checks, each doctor of theirs has his row, and these are the places

module _ (c : CaseData) where
  -- a doctor whom no row names has no row
  no_row : (d : ℕ) (rows : List Row) → has d (doctors_in c rows) ≡ false → find (is_row_of c d) rows ≡ None
  no_row d [] none = refl
  no_row d (r ∷ rows) none = by (row_doctor c r) refl (no_row d rows) none
    where
      by : (o : Option ℕ) → row_doctor c r ≡ o → (has d (doctors_in c rows) ≡ false → find (is_row_of c d) rows ≡ None) → has d (cons_option o (doctors_in c rows)) ≡ false → find (is_row_of c d) (r ∷ rows) ≡ None
      by None e rest f = rw e (rest f)
      by (Some q) e rest f =
          let parts = or_parts (eqb d q) (has d (doctors_in c rows)) f in
          let other : eqb q d ≡ false = ne_eqb q d (λ same. not_both (eqb d q) (eq-eqb d q (sym same)) parts.0) in
          rw (e, other) (rest parts.1)

  place_at : (rows : List Row) (k : ℕ) → k < length c.roster.doctors → get_or (places_in c rows) k None ≡ option_and_then (row_place c) (find (is_row_of c k) rows)
  place_at rows k lt =
      let n = length c.roster.doctors in
      get_or-map (λ d. option_and_then (row_place c) (find (is_row_of c d) rows)) (below n) k 0 None (omega (arith, lt, length-below n))
      ∙ ap (λ d. option_and_then (row_place c) (find (is_row_of c d) rows)) (get_or-below n k 0 lt)

  places_long : (rows : List Row) → length (places_in c rows) ≡ length c.roster.doctors
  places_long rows = length-map (below (length c.roster.doctors)) (λ d. option_and_then (row_place c) (find (is_row_of c d) rows)) ∙ length-below (length c.roster.doctors)

  -- one more row
  places_more : (before : List Row) (row : Row) (places : List (Option ℕ)) (d : ℕ) → d < length c.roster.doctors → row_doctor c row ≡ Some d → has d (doctors_in c before) ≡ false
      → places ≡ places_in c before → set places d (row_place c row) ≡ places_in c (before ++ row ∷ [])
  places_more before row places d lt named none told =
      same_lists (set places d (row_place c row)) (places_in c (before ++ row ∷ [])) None (length-set places d (row_place c row) ∙ (ap length told ∙ (places_long before ∙ sym (places_long (before ++ row ∷ [])))))
      (λ k lk. let low : k < length c.roster.doctors = omega (arith, lk, places_long (before ++ row ∷ [])) in at k low (cases_eq k d) ∙ sym (place_at (before ++ row ∷ []) k low))
    where
      long : length places ≡ length c.roster.doctors
      long = ap length told ∙ places_long before

      one : (k : ℕ) (t : Bool) → eqb d k ≡ t → find (is_row_of c k) (before ++ row ∷ []) ≡ option_or (find (is_row_of c k) before) (cond t (Some row) None)
      one k t e = find-append (is_row_of c k) before (row ∷ []) ∙ rw (named, e) refl

      at : (k : ℕ) → k < length c.roster.doctors → (k ≡ d) ⊎ (k ≡ d → ⊥) → get_or (set places d (row_place c row)) k None ≡ option_and_then (row_place c) (find (is_row_of c k) (before ++ row ∷ []))
      at k low (inl e) =
          subst (λ q. get_or (set places d (row_place c row)) q None ≡ option_and_then (row_place c) (find (is_row_of c q) (before ++ row ∷ []))) (sym e)
          (get_or-set_same places d (row_place c row) None (omega (arith, lt, long))
          ∙ sym (ap (option_and_then (row_place c)) (one d true (eq-eqb d d refl) ∙ ap (λ o. option_or o (Some row)) (no_row d before none))))
      at k low (inr ne) =
          get_or-set_other places d k (row_place c row) None ne
          ∙ (ap (λ L. get_or L k None) told ∙ (place_at before k low
          ∙ sym (ap (option_and_then (row_place c)) (one k false (ne_eqb d k (λ e. ne (sym e))) ∙ or_none (find (is_row_of c k) before)))))

  -- a listed pair has a listed contract
  pub listed_contract : (d h : ℕ) → is_listed_pair c d h ≡ true → (x : ℕ) × (contract_of (market c).board d h ≡ Some x) × IsIn x (list_of (wishes_of (market c)) d)
  listed_contract d h t = by (contract_of (market c).board d h) refl t
    where
      by : (o : Option ℕ) → contract_of (market c).board d h ≡ o → option_map_or (λ x. has x (list_of (wishes_of (market c)) d)) o false ≡ true
          → (x : ℕ) × (contract_of (market c).board d h ≡ Some x) × IsIn x (list_of (wishes_of (market c)) d)
      by None e f = absurd (cc f)
      by (Some x) e f = (x, e, f)

  -- a listed place more
  listed_more : (places : List (Option ℕ)) (d : ℕ) (p : Option ℕ) → d < length c.roster.doctors → ((h : ℕ) → p ≡ Some h → is_listed_pair c d h ≡ true) → AreListedPlaces c places → AreListedPlaces c (set places d p)
  listed_more places d p lt new old = record {
    doctors = length-set places d p ∙ old.doctors;
    listed = λ q h e. ⊎_elim
        (λ same. subst (λ r. (x : ℕ) × (contract_of (market c).board r h ≡ Some x) × IsIn x (list_of (wishes_of (market c)) r)) (sym same)
        (listed_contract d h (new h (sym (get_or-set_same places d p None (let l = old.doctors in omega arith)) ∙ (ap (λ r. get_or (set places d p) r None) (sym same) ∙ e)))))
        (λ other. old.listed q h (sym (get_or-set_other places d q p None other) ∙ e))
        (cases_eq q d);
  }

  pub none_listed : (n : ℕ) → n ≡ length c.roster.doctors → AreListedPlaces c (replicate n None)
  none_listed n e = record {
    doctors = length-replicate n None ∙ e;
    listed = λ d h f. absurd (let none = nowhere n d in cc);
  }
    where
      nowhere : (n d : ℕ) → get_or {A = Option ℕ} (replicate n None) d None ≡ None
      nowhere n d = ⊎_elim (λ lt. get_or-replicate n d None None lt) (λ ge. get_or_past (replicate n None) d None (let l = length-replicate {A = Option ℕ} n None in omega arith)) (cases_lt d n)

pub record AreRowsRead (c : CaseData) (rows : List Row) (i : ℕ) (marks : List (Option ℕ)) (places : List (Option ℕ)) : Type 0 where
  pub before : List Row
  pub through : AreThrough (placed_checks c) rows 1 i before
  pub known : length (doctors_in c before) ≡ length before
  pub long : length marks ≡ length c.roster.doctors
  pub firsts : AreFirst marks (doctors_in c before)
  pub told : places ≡ places_in c before
  pub listed : AreListedPlaces c places

pub none_read : (c : CaseData) (rows : List Row) (n : ℕ) (places : List (Option ℕ)) → n ≡ length c.roster.doctors → places ≡ replicate n None → AreRowsRead c rows 1 (replicate n None) places
none_read c rows n places e empty = record {
  before = [];
  through = through-start (placed_checks c) rows 1;
  known = refl;
  long = length-replicate n None ∙ e;
  firsts = no-firsts n;
  told = empty ∙ same_lists (replicate n None) (places_in c []) None (length-replicate n None ∙ (e ∙ sym (places_long c [])))
      (λ k lk. let low : k < length c.roster.doctors = omega (arith, lk, places_long c []) in get_or-replicate n k None None (omega (arith, low, e)) ∙ sym (place_at c [] k low));
  listed = subst (AreListedPlaces c) (sym empty) (none_listed c n e);
}

then_same : (o : Option ℕ) (f g : ℕ → Option ℕ) → ((x : ℕ) → o ≡ Some x → f x ≡ g x) → option_and_then f o ≡ option_and_then g o
then_same None f g same = refl
then_same (Some x) f g same = same x refl

doctor_low : (c : CaseData) (row : Row) (d : ℕ) → row_doctor c row ≡ Some d → d < length c.roster.doctors
doctor_low c row d e = (position-Some (bytes_eq (field 1 row)) c.roster.doctors d [] e).0

module _ (c : CaseData) (rows : List Row) (i : ℕ) (marks : List (Option ℕ)) (places : List (Option ℕ)) (row : Row) (r : AreRowsRead c rows i marks places) where
  -- the checks by the marks are the checks by the rows before
  checks_at : first_of (place_checks c i (λ d. get_or marks d None) row) ≡ first_of (placed_checks c r.before row)
  checks_at =
      let at : i ≡ length r.before + 1 = omega (arith, r.through.place) in
      let same = then_same (row_doctor c row) (λ d. get_or marks d None) (row_of_doctor c r.before) (λ d named. r.firsts.mark d (let low = doctor_low c row d named in let l = r.long in omega arith)) in
      subst (λ k. first_of (place_checks c i (λ d. get_or marks d None) row) ≡ first_of (place_checks c k (row_of_doctor c r.before) row)) at
      (rw same refl)

  pub one_refused : (refusal : Refusal) → i < length rows → row ≡ get_or rows i [] → first_of (place_checks c i (λ d. get_or marks d None) row) ≡ Some refusal
      → first_of (placed_rows_checks c (data_rows rows)) ≡ Some refusal
  one_refused refusal lt at some =
      first-some (checks_of (placed_checks c) (data_rows rows)) (missing_doctor c (data_rows rows) ∷ []) refusal
      (through-stop (placed_checks c) rows 1 i r.before row [] refusal r.through lt at (sym checks_at ∙ some))

  pub one_more : (d : ℕ) (p : Option ℕ) → i < length rows → row ≡ get_or rows i [] → first_of (place_checks c i (λ d. get_or marks d None) row) ≡ None
      → row_doctor c row ≡ Some d → row_place c row ≡ p → d < length marks → get_or marks d None ≡ None → ((h : ℕ) → p ≡ Some h → is_listed_pair c d h ≡ true)
      → AreRowsRead c rows (i + 1) (set marks d (Some i)) (set places d p)
  one_more d p lt at passes named place low unmarked pair =
      let keys = doctors_in c r.before in
      let row_at : length keys + 1 ≡ i = omega (arith, r.known, r.through.place) in
      let nowhere = no-place (position (λ y. y == d) keys) (sym (r.firsts.mark d low) ∙ unmarked) in
      let none : has d keys ≡ false = not-true (has d keys) (sym (placed_is keys d None nowhere)) in
      let low' : d < length c.roster.doctors = doctor_low c row d named in
      let keys_more : doctors_in c (r.before ++ row ∷ []) ≡ keys ++ d ∷ [] = filter_map-append (row_doctor c) r.before (row ∷ []) ∙ rw named refl in
      record {
        before = r.before ++ row ∷ [];
        through = through-more (placed_checks c) rows 1 i r.before row [] r.through lt at (sym checks_at ∙ passes);
        known = ap length keys_more ∙ omega (arith, length-append keys (d ∷ []), length-append r.before (row ∷ []), r.known);
        long = length-set marks d (Some i) ∙ r.long;
        firsts = subst (AreFirst (set marks d (Some i))) (sym keys_more) (subst (λ k. AreFirst (set marks d (Some k)) (keys ++ d ∷ [])) row_at (first-more marks keys d r.firsts low unmarked));
        told = ap (set places d) (sym place) ∙ places_more c r.before row places d low' named none r.told;
        listed = listed_more c places d p low' pair r.listed;
      }

-- ---- the end

module _ (c : CaseData) (rows : List Row) (i : ℕ) (marks : List (Option ℕ)) (places : List (Option ℕ)) (r : AreRowsRead c rows i marks places) (end : length rows ≤ i) where
  data_are : data_rows rows ≡ r.before
  data_are = (through-end (placed_checks c) rows 1 i r.before r.through end).1

  missing_is : (found : Option ℕ) → found ≡ find (λ d. is_none (get_or marks d None)) (below (length marks)) → first_of (placed_rows_checks c (data_rows rows)) ≡ option_map (λ d. refuse DOCTOR_MISSING OWN_FILE (d + 1) 0) found
  missing_is found e =
      let keys = doctors_in c r.before in
      let same : find (λ d. is_none (get_or marks d None)) (below (length marks)) ≡ find (λ d. not (has d keys)) (below (length c.roster.doctors)) =
      ap (λ n. find (λ d. is_none (get_or marks d None)) (below n)) r.long
      ∙ same_found (λ d. is_none (get_or marks d None)) (λ d. not (has d keys)) (below (length c.roster.doctors))
      (λ d inside. ap is_none (r.firsts.mark d (let low = (below-all_below (length c.roster.doctors) (λ k. true) d inside).0 in let l = r.long in omega arith)) ∙ placed_is keys d (position (λ y. y == d) keys) refl)
      in
      first-none (checks_of (placed_checks c) (data_rows rows)) (missing_doctor c (data_rows rows) ∷ []) (through-end (placed_checks c) rows 1 i r.before r.through end).0
      ∙ (ap (λ L. first_of (missing_doctor c L ∷ [])) data_are
      ∙ (only (missing_doctor c r.before) ∙ ap (option_map (λ d. refuse DOCTOR_MISSING OWN_FILE (d + 1) 0)) (sym (e ∙ same))))
    where
      only : (o : Option Refusal) → first_of (o ∷ []) ≡ o
      only None = refl
      only (Some f) = refl

  pub one_missing : (d : ℕ) (found : Option ℕ) → found ≡ find (λ d. is_none (get_or marks d None)) (below (length marks)) → found ≡ Some d → first_of (placed_rows_checks c (data_rows rows)) ≡ Some (refuse DOCTOR_MISSING OWN_FILE (d + 1) 0)
  one_missing d found e is = missing_is found e ∙ ap (option_map (λ d. refuse DOCTOR_MISSING OWN_FILE (d + 1) 0)) is

  pub all_read : (found : Option ℕ) → found ≡ find (λ d. is_none (get_or marks d None)) (below (length marks)) → found ≡ None
      → (first_of (placed_rows_checks c (data_rows rows)) ≡ None) × (places ≡ places_in c (data_rows rows))
  all_read found e is = (missing_is found e ∙ ap (option_map (λ d. refuse DOCTOR_MISSING OWN_FILE (d + 1) 0)) is, r.told ∙ ap (places_in c) (sym data_are))

-- ---- answers

-- with its header right, a table is read as its rows are
pub header_right : (c : CaseData) (rows : List Row) (o : Option ℕ) (r : Result (List (Option ℕ)) ReadFault) → o ≡ wrong_cell 0 placement_header (get_or rows 0 []) → o ≡ None →
    Reads (first_of (placed_rows_checks c (data_rows rows))) (places_in c (data_rows rows)) r → Reads (first_of (placement_checks c rows)) (placement_in c rows) r
unfolding placement_in
header_right c rows o r e is h = rw (sym e ∙ is) h

-- the number of a name, as it was found
pub found_name : (names told : List Text) (text said : Text) (o p : Option ℕ) → told ≡ names → said ≡ text → o ≡ place_of told said → o ≡ p → place_of names text ≡ p
found_name names told text said o p same at e is = subst₂ (λ a b. place_of a b ≡ p) same at (sym e ∙ is)
