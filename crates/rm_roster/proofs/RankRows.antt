-- The rows of the rank lists' file, read one after another.
use Rattle.std.proofs.Common.{◌≡◌, ◌+◌, ◌<◌, ◌≤◌, ◌==◌, ◌∙◌, ℕ, List, [], ◌∷◌, ◌++◌, length, get_or, set, replicate, position, option_map, find, Option, Some, None, inl, inr, refl, ap, sym, arith, length-append}
use Rattle.std.specs.List.{sum_by}
use Rattle.std.proofs.lemmas.Bool.{eq-eqb, ne_eqb, cases_eq}
use Rattle.std.proofs.lemmas.List.Folds.{find-append}
use Rattle.std.proofs.lemmas.List.FromFn.{get_or-map-range_with_len, length-map-range_with_len}
use Rattle.std.specs.Option.{option_or}
use Rattle.std.proofs.lemmas.List.{length-set, length-replicate, get_or-replicate, get_or-set_same, get_or-set_other, ext_get_or}
use Rattle.std.proofs.lemmas.List.Elements.{filter_map-append}
use Rattle.std.proofs.lemmas.List.Sums.{sum_by_push}
use Rattle.rm_base.specs.Checks.{first_of, checks_of}
use Rattle.rm_base.specs.Text.{Text}
use Rattle.rm_names.specs.Names.{place_of}
use Rattle.rm_base.specs.declared.Refusal.{Refusal}
use Rattle.rm_base.proofs.CheckLemmas.{AreThrough, through-start, through-more, through-stop, through-end}
use Rattle.rm_names.proofs.FirstPlaces.{AreFirst, first-none, first-more}
use Rattle.rm_table.specs.Rows.{Row}
use Rattle.rm_roster.proofs.NumberedTexts.{place-within}
use Rattle.rm_roster.specs.Cells.{data_rows, name_in}
use Rattle.rm_roster.specs.Items.{list_in}
use Rattle.rm_base.specs.declared.codes.TheConstants.{MOST_CHOICES}
use Rattle.rm_ranks.specs.Built.{ListsTold, begun, with_items}
use Rattle.rm_roster.specs.Ranks.{keys_in, names_hospital, rank_of, ranks_of, found_checks, rank_checks, rank_checks_after}

-- The rows before row i were read: they pass their checks, and the lists are theirs.
pub record AreRead (hospitals doctors : List Text) (rows : List Row) (i : ℕ) (lists : ListsTold) : Type 0 where
  pub before : List Row
  pub through : AreThrough (rank_checks_after hospitals doctors) rows 1 i before
  pub known : length (keys_in hospitals before) ≡ length before
  pub held_is : lists.held ≡ sum_by (λ r. length (list_in doctors r)) before
  pub items_is : lists.items ≡ length doctors
  pub limit_is : lists.limit ≡ MOST_CHOICES
  pub all_marks : length lists.marks ≡ length hospitals
  pub all_lists : length lists.lists ≡ length hospitals
  pub firsts : AreFirst lists.marks (keys_in hospitals before)
  pub unnamed : (h : ℕ) → h < length hospitals → get_or lists.marks h None ≡ None → find (names_hospital hospitals h) before ≡ None
  pub lists_are : (h : ℕ) → h < length hospitals → get_or lists.lists h [] ≡ rank_of hospitals doctors before h

-- the checks by the marks are the checks by the rows before, since both ask for a hospital that is there
found-at : (doctors : List Text) (i j held : ℕ) (f g : ℕ → Option ℕ) (row : Row) (o : Option ℕ) → i ≡ j → ((h : ℕ) → o ≡ Some h → f h ≡ g h)
    → first_of (found_checks doctors i f held row o) ≡ first_of (found_checks doctors j g held row o)
found-at doctors i j held f g row None e same = rw e refl
found-at doctors i j held f g row (Some h) e same = rw (e, same h refl) refl

some-none : {X : Type 0} (x : X) → Some x ≡ None → ⊥
some-none x e = cc e

keys-more : (hospitals : List Text) (before : List Row) (row : Row) (c : ℕ) → place_of hospitals (name_in row) ≡ Some c → keys_in hospitals (before ++ row ∷ []) ≡ keys_in hospitals before ++ c ∷ []
keys-more hospitals before row c e = filter_map-append (λ r. place_of hospitals (name_in r)) before (row ∷ []) ∙ rw e refl

-- whether the row names a hospital
named : (hospitals : List Text) (row : Row) (c h : ℕ) → place_of hospitals (name_in row) ≡ Some c → names_hospital hospitals h row ≡ (c == h)
named hospitals row c h e = rw e refl

or-none : {X : Type 0} (o : Option X) → option_or o None ≡ o
or-none None = refl
or-none (Some x) = refl

find-other : (hospitals : List Text) (before : List Row) (row : Row) (c h : ℕ) → place_of hospitals (name_in row) ≡ Some c → (h ≡ c → ⊥)
    → find (names_hospital hospitals h) (before ++ row ∷ []) ≡ find (names_hospital hospitals h) before
find-other hospitals before row c h e other =
    find-append (names_hospital hospitals h) before (row ∷ [])
    ∙ rw (named hospitals row c h e, ne_eqb c h (λ q. other (sym q))) (or-none (find (names_hospital hospitals h) before))

rank-kept : (hospitals doctors : List Text) (before : List Row) (row : Row) (c h : ℕ) → place_of hospitals (name_in row) ≡ Some c → (h ≡ c → ⊥)
    → rank_of hospitals doctors (before ++ row ∷ []) h ≡ rank_of hospitals doctors before h
rank-kept hospitals doctors before row c h e other = rw (find-other hospitals before row c h e other) refl

rank-new : (hospitals doctors : List Text) (before : List Row) (row : Row) (c : ℕ) → place_of hospitals (name_in row) ≡ Some c
    → find (names_hospital hospitals c) before ≡ None → rank_of hospitals doctors (before ++ row ∷ []) c ≡ list_in doctors row
rank-new hospitals doctors before row c e absent =
    let found : find (names_hospital hospitals c) (before ++ row ∷ []) ≡ Some row =
    find-append (names_hospital hospitals c) before (row ∷ []) ∙ rw (absent, named hospitals row c c e, eq-eqb c c refl) refl in
    rw found refl

pub none-read : (hospitals doctors : List Text) (rows : List Row) (n items : ℕ) → n ≡ length hospitals
    → items ≡ length doctors → AreRead hospitals doctors rows 1 (record { lists = replicate n []; marks = replicate n None; at = None; held = 0; items = items; limit = MOST_CHOICES })
none-read hospitals doctors rows n items e known = record {
  before = [];
  through = through-start (rank_checks_after hospitals doctors) rows 1;
  known = refl;
  held_is = refl;
  items_is = known;
  limit_is = refl;
  all_marks = length-replicate n None ∙ e;
  all_lists = length-replicate n [] ∙ e;
  firsts = first-none n;
  unnamed = λ h lt none. refl;
  lists_are = λ h lt. get_or-replicate n h [] [] (omega (arith, lt, e));
}

checks-at : (hospitals doctors : List Text) (rows : List Row) (i : ℕ) (lists : ListsTold) (row : Row) (r : AreRead hospitals doctors rows i lists)
    → first_of (rank_checks hospitals doctors i (λ h. get_or lists.marks h None) lists.held row) ≡ first_of (rank_checks_after hospitals doctors r.before row)
checks-at hospitals doctors rows i lists row r =
    rw r.held_is (found-at doctors i (length r.before + 1) (sum_by (λ d. length (list_in doctors d)) r.before) (λ h. get_or lists.marks h None)
    (λ h. option_map (λ k. k + 1) (position (λ x. x == h) (keys_in hospitals r.before))) row (place_of hospitals (name_in row)) (omega (arith, r.through.place))
    (λ h e. r.firsts.mark h (omega (arith, place-within hospitals (name_in row) h e, r.all_marks))))

pub one-read : (hospitals doctors : List Text) (rows : List Row) (i : ℕ) (lists new : ListsTold) (row : Row) (c : ℕ) → AreRead hospitals doctors rows i lists → i < length rows → row ≡ get_or rows i []
    → first_of (rank_checks hospitals doctors i (λ h. get_or lists.marks h None) lists.held row) ≡ None
    → place_of hospitals (name_in row) ≡ Some c → get_or lists.marks c None ≡ None → new ≡ with_items (begun lists c i) (list_in doctors row)
    → AreRead hospitals doctors rows (i + 1) new
one-read hospitals doctors rows i lists new row c r h at passes found unmarked is =
    let keys = keys_in hospitals r.before in
    let items = list_in doctors row in
    let more = keys-more hospitals r.before row c found in
    let lt : c < length hospitals = place-within hospitals (name_in row) c found in
    let in_marks : c < length lists.marks = omega (arith, lt, r.all_marks) in
    let in_lists : c < length lists.lists = omega (arith, lt, r.all_lists) in
    let empty : get_or lists.lists c [] ≡ [] = r.lists_are c lt ∙ rw (r.unnamed c lt unmarked) refl in
    let row_at : length keys + 1 ≡ i = omega (arith, r.known, r.through.place) in
    let marks = first-more lists.marks keys c r.firsts in_marks unmarked in
    let each : (k : ℕ) → k < length hospitals → get_or (set lists.lists c items) k [] ≡ rank_of hospitals doctors (r.before ++ row ∷ []) k =
    λ k within. (elim (cases_eq k c) [
      | inl same ↦ rw (same, get_or-set_same lists.lists c items [] in_lists) (sym (rank-new hospitals doctors r.before row c found (r.unnamed c lt unmarked)))
      | inr other ↦ rw (get_or-set_other lists.lists c k items [] other) (r.lists_are k within ∙ sym (rank-kept hospitals doctors r.before row c k found other))
    ]) in
    let unnamed : (k : ℕ) → k < length hospitals → get_or (set lists.marks c (Some i)) k None ≡ None → find (names_hospital hospitals k) (r.before ++ row ∷ []) ≡ None =
    λ k within none. (elim (cases_eq k c) [
      | inl same ↦ absurd (some-none i (sym (get_or-set_same lists.marks c (Some i) None in_marks) ∙ ap (λ (n : ℕ). get_or (set lists.marks c (Some i)) n None) (sym same) ∙ none))
      | inr other ↦ find-other hospitals r.before row c k found other ∙ r.unnamed k within (sym (get_or-set_other lists.marks c k (Some i) None other) ∙ none)
    ]) in
    record {
      before = r.before ++ row ∷ [];
      through = through-more (rank_checks_after hospitals doctors) rows 1 i r.before row [] r.through h at (sym (checks-at hospitals doctors rows i lists row r) ∙ passes);
      known = rw more (omega (arith, length-append keys (c ∷ []), length-append r.before (row ∷ []), r.known));
      held_is = rw (is, r.held_is) (sym (sum_by_push (λ d. length (list_in doctors d)) r.before row));
      items_is = rw is r.items_is;
      limit_is = rw is r.limit_is;
      all_marks = rw is (length-set lists.marks c (Some i) ∙ r.all_marks);
      all_lists = rw (is, empty) (length-set lists.lists c items ∙ r.all_lists);
      firsts = rw (is, more) (rw row_at at marks);
      unnamed = rw is unnamed;
      lists_are = rw (is, empty) each;
    }

pub one-refused : (hospitals doctors : List Text) (rows : List Row) (i : ℕ) (lists : ListsTold) (row : Row) (refusal : Refusal) → AreRead hospitals doctors rows i lists → i < length rows → row ≡ get_or rows i []
    → first_of (rank_checks hospitals doctors i (λ h. get_or lists.marks h None) lists.held row) ≡ Some refusal → first_of (checks_of (rank_checks_after hospitals doctors) (data_rows rows)) ≡ Some refusal
one-refused hospitals doctors rows i lists row refusal r h at some =
    through-stop (rank_checks_after hospitals doctors) rows 1 i r.before row [] refusal r.through h at (sym (checks-at hospitals doctors rows i lists row r) ∙ some)

pub all-read : (hospitals doctors : List Text) (rows : List Row) (i : ℕ) (lists : ListsTold) → AreRead hospitals doctors rows i lists → length rows ≤ i
    → (first_of (checks_of (rank_checks_after hospitals doctors) (data_rows rows)) ≡ None) × (lists.lists ≡ ranks_of hospitals doctors (data_rows rows))
all-read hospitals doctors rows i lists r h =
    let done = through-end (rank_checks_after hospitals doctors) rows 1 i r.before r.through h in
    let each : (k : ℕ) → k < length lists.lists → get_or lists.lists k [] ≡ get_or (ranks_of hospitals doctors r.before) k [] =
    λ k lt. r.lists_are k (omega (arith, lt, r.all_lists)) ∙ sym (get_or-map-range_with_len (rank_of hospitals doctors r.before) 0 (length hospitals) k k [] (omega (arith, lt, r.all_lists)) (omega arith)) in
    let same = ext_get_or [] lists.lists (ranks_of hospitals doctors r.before) (r.all_lists ∙ sym (length-map-range_with_len (rank_of hospitals doctors r.before) 0 (length hospitals))) each in
    (done.0, same ∙ ap (λ (rs : List Row). ranks_of hospitals doctors rs) (sym done.1))

-- a hospital whose list was not begun has an empty one
pub unbegun-empty : (hospitals doctors : List Text) (rows : List Row) (i : ℕ) (lists : ListsTold) → AreRead hospitals doctors rows i lists → (h : ℕ) → h < length hospitals → get_or lists.marks h None ≡ None → get_or lists.lists h [] ≡ []
unbegun-empty hospitals doctors rows i lists r h lt unmarked = r.lists_are h lt ∙ rw (r.unnamed h lt unmarked) refl
