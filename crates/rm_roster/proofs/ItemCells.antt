-- The cells of a row, read one after another.
use Rattle.std.proofs.Common.{◌≡◌, ◌+◌, ◌<◌, ◌≤◌, ◌∙◌, ℕ, zero, suc, List, [], ◌∷◌, ◌++◌, length, get_or, set, Option, Some, None, IsSome, IfSome, refl, ap, sym, arith, length-append, append_assoc, add_assoc}
use Rattle.std.specs.List.{cons_option}
use Rattle.std.proofs.lemmas.List.{append-nil, get_or-set_same, set-get_or}
use Rattle.std.proofs.lemmas.List.Elements.{filter_map-append}
use Rattle.rm_base.specs.Checks.{first_of}
use Rattle.rm_base.specs.Text.{Text}
use Rattle.rm_base.specs.declared.Refusal.{Refusal}
use Rattle.rm_base.proofs.CheckLemmas.{AreThrough, through-start, through-more, through-stop, through-end}
use Rattle.rm_ranks.specs.Built.{ListsTold, grown, last_list, list_at, with_items}
use Rattle.rm_roster.specs.Items.{cell_checks, cell_checks_after, item_of, items_in, list_checks, list_in}
use Rattle.rm_roster.specs.Readings.{with_item}

-- ---- lists that grow

set-twice : {X : Type 0} (xs : List X) (i : ℕ) (a b : X) → set (set xs i a) i b ≡ set xs i b
set-twice {X = X} [] i a b = refl
set-twice {X = X} (x ∷ xs) zero a b = refl
set-twice {X = X} (x ∷ xs) (suc i) a b = ap (λ (ys : List X). x ∷ ys) (set-twice xs i a b)

-- a list was begun, and it is there
abbrev pub IsWithin : List (List ℕ) → Option ℕ → Type 0
IsWithin lists at = IfSome at (λ i. i < length lists)

grown-twice : (lists : List (List ℕ)) (at : Option ℕ) (xs ys : List ℕ) → IsWithin lists at → grown (grown lists at xs) at ys ≡ grown lists at (xs ++ ys)
grown-twice lists None xs ys h = refl
grown-twice lists (Some i) xs ys h = rw (
  get_or-set_same lists i (get_or lists i [] ++ xs) [] h,
  set-twice lists i (get_or lists i [] ++ xs) ((get_or lists i [] ++ xs) ++ ys),
  append_assoc (get_or lists i []) xs ys,
) refl

grown-none : (lists : List (List ℕ)) (at : Option ℕ) → grown lists at [] ≡ lists
grown-none lists None = refl
grown-none lists (Some i) = rw (append-nil (get_or lists i [])) (set-get_or lists i [])

grown-at : (lists : List (List ℕ)) (at : Option ℕ) (xs : List ℕ) → IsSome at → IsWithin lists at → list_at (grown lists at xs) at ≡ list_at lists at ++ xs
grown-at lists None xs s h = cc s
grown-at lists (Some i) xs s h = get_or-set_same lists i (get_or lists i [] ++ xs) [] h

-- items added in two parts
with-more : (b : ListsTold) (xs ys : List ℕ) → IsWithin b.lists b.at → with_items (with_items b xs) ys ≡ with_items b (xs ++ ys)
with-more b xs ys h = rw (grown-twice b.lists b.at xs ys h, length-append xs ys, add_assoc b.held (length xs) (length ys)) refl

with-none : (b : ListsTold) → with_items b [] ≡ b
with-none b =
    let same : b.held + 0 ≡ b.held = omega arith in
    rw (grown-none b.lists b.at, same) refl

-- ---- a row
-- The cells before cell j were read: they pass their checks, and these are their items.
pub record AreRead (file limit i : ℕ) (names row : List Text) (j : ℕ) (old now : ListsTold) : Type 0 where
  pub before : List Text
  pub through : AreThrough (cell_checks_after file limit names i old.held) row 1 j before
  pub now_is : now ≡ with_items old (items_in names before)

pub none-read : (file limit i : ℕ) (names row : List Text) (old : ListsTold) → AreRead file limit i names row 1 old old
none-read file limit i names row old = record {
  before = [];
  through = through-start (cell_checks_after file limit names i old.held) row 1;
  now_is = sym (with-none old);
}

-- the list begun last holds the items so far
last-is : (old : ListsTold) (items : List ℕ) → IsSome old.at → IsWithin old.lists old.at → last_list old ≡ [] → last_list (with_items old items) ≡ items
last-is old items begun within empty = grown-at old.lists old.at items begun within ∙ rw empty refl

-- the checks by what was kept are the checks by the cells before
checks-at : (file limit i : ℕ) (names row : List Text) (j : ℕ) (old now : ListsTold) (cell : Text) (r : AreRead file limit i names row j old now)
    → IsSome old.at → IsWithin old.lists old.at → last_list old ≡ []
    → cell_checks file limit names i (j + 1) (last_list now) now.held cell ≡ cell_checks_after file limit names i old.held r.before cell
checks-at file limit i names row j old now cell r begun within empty =
    let place : j + 1 ≡ length r.before + 2 = omega (arith, r.through.place) in
    rw (place, r.now_is, last-is old (items_in names r.before) begun within empty) refl

item-by : (b : ListsTold) (items : List ℕ) (o : Option ℕ) → IsWithin b.lists b.at → with_item (with_items b items) o ≡ with_items b (items ++ cons_option o [])
item-by b items None h = rw (append-nil items) refl
item-by b items (Some n) h = with-more b items (n ∷ []) h

pub one-read : (file limit i : ℕ) (names row : List Text) (j : ℕ) (old now new : ListsTold) (cell : Text) → AreRead file limit i names row j old now → j < length row → cell ≡ get_or row j []
    → IsSome old.at → IsWithin old.lists old.at → last_list old ≡ [] → first_of (cell_checks file limit names i (j + 1) (last_list now) now.held cell) ≡ None → new ≡ with_item now (item_of names cell)
    → AreRead file limit i names row (j + 1) old new
one-read file limit i names row j old now new cell r h at begun within empty passes is = record {
  before = r.before ++ cell ∷ [];
  through = through-more (cell_checks_after file limit names i old.held) row 1 j r.before cell [] r.through h at (rw (checks-at file limit i names row j old now cell r begun within empty) at passes);
  now_is = is ∙ rw (r.now_is, filter_map-append (item_of names) r.before (cell ∷ [])) (item-by old (items_in names r.before) (item_of names cell) within);
}

pub one-refused : (file limit i : ℕ) (names row : List Text) (j : ℕ) (old now : ListsTold) (cell : Text) (refusal : Refusal) → AreRead file limit i names row j old now → j < length row → cell ≡ get_or row j []
    → IsSome old.at → IsWithin old.lists old.at → last_list old ≡ [] → first_of (cell_checks file limit names i (j + 1) (last_list now) now.held cell) ≡ Some refusal
    → first_of (list_checks file limit names i old.held row) ≡ Some refusal
one-refused file limit i names row j old now cell refusal r h at begun within empty some =
    through-stop (cell_checks_after file limit names i old.held) row 1 j r.before cell [] refusal r.through h at (rw (checks-at file limit i names row j old now cell r begun within empty) at some)

pub all-read : (file limit i : ℕ) (names row : List Text) (j : ℕ) (old now : ListsTold) → AreRead file limit i names row j old now → length row ≤ j
    → (first_of (list_checks file limit names i old.held row) ≡ None) × (now ≡ with_items old (list_in names row))
all-read file limit i names row j old now r h =
    let done = through-end (cell_checks_after file limit names i old.held) row 1 j r.before r.through h in
    (done.0, r.now_is ∙ ap (λ (cells : List Text). with_items old (items_in names cells)) (sym done.1))
