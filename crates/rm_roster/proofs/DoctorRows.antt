-- The rows of the doctors' file, read one after another.
use Rattle.std.proofs.Common.{◌≡◌, ◌+◌, ◌-◌, ◌<◌, ◌≤◌, ◌∙◌, min, ℕ, zero, suc, List, [], ◌∷◌, ◌++◌, length, map, get_or, set, replicate, Option, Some, None, refl, ap, sym, arith, length-append, append_assoc}
use Rattle.std.specs.List.{sum_by}
use Rattle.std.proofs.lemmas.List.{map_push, length-map, length-replicate, append-nil}
use Rattle.std.proofs.lemmas.List.Sums.{sum_by_push}
use Rattle.rm_base.specs.Checks.{first_of, checks_of}
use Rattle.rm_base.specs.Text.{Text}
use Rattle.rm_base.specs.declared.Refusal.{Refusal}
use Rattle.rm_base.proofs.CheckLemmas.{AreThrough, through-start, through-more, through-stop, through-end}
use Rattle.rm_table.specs.Rows.{Row}
use Rattle.rm_roster.specs.Cells.{data_rows, name_in}
use Rattle.rm_ranks.specs.Built.{ListsTold, begun, with_items}
use Rattle.rm_base.specs.declared.codes.TheConstants.{MOST_CHOICES, MOST_DOCTORS}
use Rattle.rm_roster.specs.Items.{list_in}
use Rattle.rm_roster.specs.Doctors.{doctor_checks, doctor_checks_after}

seam-get : {X : Type 0} (xs ys : List X) (x d : X) → get_or (xs ++ x ∷ ys) (length xs) d ≡ x
seam-get {X = X} [] ys x d = refl
seam-get {X = X} (y ∷ xs) ys x d = seam-get xs ys x d

seam-set : {X : Type 0} (xs ys : List X) (x y : X) → set (xs ++ x ∷ ys) (length xs) y ≡ xs ++ y ∷ ys
seam-set {X = X} [] ys x y = refl
seam-set {X = X} (z ∷ xs) ys x y = ap (λ (l : List X). z ∷ l) (seam-set xs ys x y)

room-next : {X : Type 0} (xs filled : List X) (rest m : ℕ) (d : X) → xs ≡ filled ++ replicate rest d → rest ≡ suc m → get_or xs (length filled) d ≡ d
room-next xs filled rest m d are e = rw (are, e) (seam-get filled (replicate m d) d d)

room-more : {X : Type 0} (xs filled : List X) (rest m : ℕ) (d x : X) → xs ≡ filled ++ replicate rest d → rest ≡ suc m → set xs (length filled) x ≡ (filled ++ x ∷ []) ++ replicate m d
room-more xs filled rest m d x are e = rw (are, e) (seam-set filled (replicate m d) d x) ∙ sym (append_assoc filled (x ∷ []) (replicate m d))

-- The rows before row i were read: they pass their checks, and say this.
pub record AreRead (hospitals : List Text) (rows : List Row) (i : ℕ) (names : List Text) (lists : ListsTold) : Type 0 where
  pub before : List Row
  pub through : AreThrough (doctor_checks_after hospitals) rows 1 i before
  pub names_are : names ≡ map name_in before
  pub held_is : lists.held ≡ sum_by (λ r. length (list_in hospitals r)) before
  pub items_is : lists.items ≡ length hospitals
  pub limit_is : lists.limit ≡ MOST_CHOICES
  pub rest : ℕ
  pub marks : List (Option ℕ)
  pub lists_are : lists.lists ≡ map (list_in hospitals) before ++ replicate rest []
  pub marks_are : lists.marks ≡ marks ++ replicate rest None
  pub as_many : length marks ≡ length before
  pub room : length before + rest ≡ min (length rows - 1) (MOST_DOCTORS + 1)
  pub few : length before ≤ MOST_DOCTORS

-- a builder of so many lists, none of which is begun
abbrev pub no_lists : ℕ → ℕ → ListsTold
no_lists n items = record { lists = replicate n []; marks = replicate n None; at = None; held = 0; items = items; limit = MOST_CHOICES }

pub none-read : (hospitals : List Text) (rows : List Row) (n items : ℕ) → n ≡ min (length rows - 1) (MOST_DOCTORS + 1) → items ≡ length hospitals → AreRead hospitals rows 1 [] (no_lists n items)
none-read hospitals rows n items e known = record {
  before = [];
  through = through-start (doctor_checks_after hospitals) rows 1;
  names_are = refl;
  held_is = refl;
  items_is = known;
  limit_is = refl;
  rest = n;
  marks = [];
  lists_are = refl;
  marks_are = refl;
  as_many = refl;
  room = omega (arith, e);
  few = omega arith;
}

-- how many lists are left after the next
abbrev Left : ℕ → Type 0
Left rest = (m : ℕ) × (rest ≡ suc m)

left-of : (rest : ℕ) → 0 < rest → Left rest
left-of zero h = absurd (omega (arith, h))
left-of (suc m) h = (m, refl)

left : (hospitals : List Text) (rows : List Row) (i : ℕ) (names : List Text) (lists : ListsTold) (r : AreRead hospitals rows i names lists) → i < length rows → Left r.rest
left hospitals rows i names lists r h = left-of r.rest (omega (arith, h, r.room, r.few, r.through.place))

-- what the next row needs
pub record IsNext (hospitals names : List Text) (lists : ListsTold) : Type 0 where
  pub few : length names ≤ MOST_DOCTORS
  pub in_lists : length names < length lists.lists
  pub empty : get_or lists.lists (length names) [] ≡ []
  pub unbegun : get_or lists.marks (length names) None ≡ None
  pub items : length hospitals ≤ lists.items
  pub limit : lists.limit ≡ MOST_CHOICES

pub next : (hospitals : List Text) (rows : List Row) (i : ℕ) (names : List Text) (lists : ListsTold) → AreRead hospitals rows i names lists → i < length rows → IsNext hospitals names lists
next hospitals rows i names lists r h =
    let m = left hospitals rows i names lists r h in
    let filled = map (list_in hospitals) r.before in
    let count : length names ≡ length r.before = ap length r.names_are ∙ length-map r.before name_in in
    let lists_at : length names ≡ length filled = count ∙ sym (length-map r.before (list_in hospitals)) in
    let marks_at : length names ≡ length r.marks = count ∙ sym r.as_many in
    let long : length lists.lists ≡ length filled + r.rest = ap length r.lists_are ∙ length-append filled (replicate r.rest []) ∙ ap (λ (n : ℕ). length filled + n) (length-replicate r.rest []) in
    record {
      few = rw count r.few;
      in_lists = omega (arith, lists_at, long, m.1);
      empty = rw lists_at (room-next lists.lists filled r.rest m.0 [] r.lists_are m.1);
      unbegun = rw marks_at (room-next lists.marks r.marks r.rest m.0 None r.marks_are m.1);
      items = omega (arith, r.items_is);
      limit = r.limit_is;
    }

-- the checks by what was kept are the checks by the rows before
checks-at : (hospitals : List Text) (rows : List Row) (i : ℕ) (names : List Text) (lists : ListsTold) (row : Row) (r : AreRead hospitals rows i names lists)
    → doctor_checks hospitals names lists.held row ≡ doctor_checks_after hospitals r.before row
checks-at hospitals rows i names lists row r = rw (r.names_are, r.held_is) refl

pub one-read : (hospitals : List Text) (rows : List Row) (i : ℕ) (names new_names : List Text) (lists new_lists : ListsTold) (row : Row) → AreRead hospitals rows i names lists → i < length rows → row ≡ get_or rows i []
    → first_of (doctor_checks hospitals names lists.held row) ≡ None → new_names ≡ names ++ name_in row ∷ [] → length names < 100000
    → new_lists ≡ with_items (begun lists (length names) (length names + 1)) (list_in hospitals row)
    → AreRead hospitals rows (i + 1) new_names new_lists
one-read hospitals rows i names new_names lists new_lists row r h at passes names_more few lists_more =
    let m = left hospitals rows i names lists r h in
    let n = next hospitals rows i names lists r h in
    let filled = map (list_in hospitals) r.before in
    let count : length names ≡ length r.before = ap length r.names_are ∙ length-map r.before name_in in
    let lists_at : length names ≡ length filled = count ∙ sym (length-map r.before (list_in hospitals)) in
    let marks_at : length names ≡ length r.marks = count ∙ sym r.as_many in
    let longer : length (r.before ++ row ∷ []) ≡ length r.before + 1 = length-append r.before (row ∷ []) in
    record {
      before = r.before ++ row ∷ [];
      through = through-more (doctor_checks_after hospitals) rows 1 i r.before row [] r.through h at (rw (checks-at hospitals rows i names lists row r) at passes);
      names_are = names_more ∙ rw (r.names_are, map_push name_in r.before row) refl;
      held_is = rw (lists_more, r.held_is) (sym (sum_by_push (λ d. length (list_in hospitals d)) r.before row));
      items_is = rw lists_more r.items_is;
      limit_is = rw lists_more r.limit_is;
      rest = m.0;
      marks = r.marks ++ Some (length names + 1) ∷ [];
      lists_are = rw (lists_more, n.empty, lists_at, map_push (list_in hospitals) r.before row) (room-more lists.lists filled r.rest m.0 [] (list_in hospitals row) r.lists_are m.1);
      marks_are = rw lists_more (rw marks_at (room-more lists.marks r.marks r.rest m.0 None (Some (length r.marks + 1)) r.marks_are m.1));
      as_many = rw longer (omega (arith, length-append r.marks (Some (length names + 1) ∷ []), r.as_many));
      room = rw longer (omega (arith, r.room, m.1));
      few = rw longer (omega (arith, count, few));
    }

pub one-refused : (hospitals : List Text) (rows : List Row) (i : ℕ) (names : List Text) (lists : ListsTold) (row : Row) (refusal : Refusal) → AreRead hospitals rows i names lists → i < length rows → row ≡ get_or rows i []
    → first_of (doctor_checks hospitals names lists.held row) ≡ Some refusal → first_of (checks_of (doctor_checks_after hospitals) (data_rows rows)) ≡ Some refusal
one-refused hospitals rows i names lists row refusal r h at some =
    through-stop (doctor_checks_after hospitals) rows 1 i r.before row [] refusal r.through h at (rw (checks-at hospitals rows i names lists row r) at some)

pub all-read : (hospitals : List Text) (rows : List Row) (i : ℕ) (names : List Text) (lists : ListsTold) → AreRead hospitals rows i names lists → length rows ≤ i
    → (first_of (checks_of (doctor_checks_after hospitals) (data_rows rows)) ≡ None) × (names ≡ map name_in (data_rows rows)) × (lists.lists ≡ map (list_in hospitals) (data_rows rows))
all-read hospitals rows i names lists r h =
    let done = through-end (doctor_checks_after hospitals) rows 1 i r.before r.through h in
    let none : r.rest ≡ 0 = omega (arith, r.room, r.few, r.through.place, h) in (
      done.0,
      r.names_are ∙ ap (map name_in) (sym done.1),
      r.lists_are ∙ rw none (append-nil (map (list_in hospitals) r.before)) ∙ ap (map (list_in hospitals)) (sym done.1),
    )
