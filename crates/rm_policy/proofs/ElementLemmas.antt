-- The elements of an array, gone through in order.
use Rattle.std.proofs.Common.{◌≡◌, ◌∙◌, ◌+◌, ◌<◌, ◌≤◌, ℕ, Bool, true, false, not, cond, List, [], ◌∷◌, ◌++◌, length, get_or, map, position, replicate, set, Option, Some, None, IfSome, inl, inr, refl, sym, ap, arith, length-append}
use Rattle.std.specs.List.{position_or_len, list_any}
use Rattle.std.proofs.Math.Bool.{or-false, or_comm}
use Rattle.std.proofs.lemmas.Bool.{cases_eq, cases_lt, eq-eqb, ltb-true, ne_eqb}
use Rattle.std.proofs.lemmas.List.{length-map, length-replicate, get_or-map, get_or-replicate, get_or-set_same, get_or-set_other, get_or_past}
use Rattle.std.proofs.lemmas.List.Elements.{filter_map-append}
use Rattle.toml.specs.Data.{Data}
use Rattle.toml.specs.View.{view}
use Rattle.toml.specs.declared.value.Value.{Value}
use Rattle.rm_base.specs.Checks.{check, first_of, checks_of}
use Rattle.rm_base.specs.Text.{Text}
use Rattle.rm_base.specs.declared.Refusal.{Refusal}
use Rattle.rm_base.proofs.CheckLemmas.{AreThrough, through-start, through-more, through-stop, through-end, first-none}
use Rattle.rm_base.specs.declared.codes.TheConstants.{UNKNOWN_ENTRY_NAME, WRONG_ORDER}
use Rattle.rm_roster.specs.Roster.{RosterData}
use Rattle.rm_sets.specs.Sets.{has}
use Rattle.rm_sets.proofs.Sets.{has-append}
use Rattle.rm_policy.specs.Answers.{AreMarks, fits_marked}
use Rattle.rm_policy.specs.Entries.{policy_refusal, name_checks, number_named, numbers_of}
use Rattle.rm_policy.specs.Prefectures.{fits, is_missing, order_element_checks}

-- ---- places

place-in : (b : Bool) (m k : ℕ) → cond b (Some m) None ≡ Some k → (b ≡ true) × (m ≡ k)
place-in true m k e = (refl, cc)
place-in false m k e = absurd (cc)

pub place_lt : {X : Type 0} (p : X → Bool) (xs : List X) (k : ℕ) → position p xs ≡ Some k → k < length xs
place_lt p xs k e =
    let at = place-in _ (position_or_len p xs) k e in
    omega (arith, ltb-true (position_or_len p xs) (length xs) at.0, at.1)

some-below : {X : Type 0} (p : X → Bool) (xs : List X) (o : Option ℕ) → o ≡ position p xs → IfSome o (λ k. k < length xs)
some-below p xs None e = tt
some-below p xs (Some k) e = place_lt p xs k (sym e)

pub place_below : {X : Type 0} (p : X → Bool) (xs : List X) → IfSome (position p xs) (λ k. k < length xs)
place_below p xs = some-below p xs (position p xs) refl

-- ---- walks over the data of values

abbrev pub Each : Type 0
Each = List Data → Data → List (Option Refusal)

-- the values before place i were gone through
abbrev pub AreSeen : Each → List Value → ℕ → List Data → Type 0
AreSeen each vs i before = AreThrough each (map view vs) 0 i before

pub seen-none : (each : Each) (vs : List Value) → AreSeen each vs 0 []
seen-none each vs = through-start each (map view vs) 0

value-at : (vs : List Value) (i : ℕ) (v : Value) → i < length vs → v ≡ get_or vs i v → (i < length (map view vs)) × (view v ≡ get_or (map view vs) i (view v))
value-at vs i v lt at = (rw (length-map vs view) lt, ap view at ∙ sym (get_or-map view vs i v (view v) lt))

pub seen-more : (each : Each) (vs : List Value) (i : ℕ) (v : Value) (before : List Data) → AreSeen each vs i before → i < length vs → v ≡ get_or vs i v → first_of (each before (view v)) ≡ None
    → AreSeen each vs (i + 1) (before ++ view v ∷ [])
seen-more each vs i v before t lt at none =
    let there = value-at vs i v lt at in
    through-more each (map view vs) 0 i before (view v) (view v) t there.0 there.1 none

pub seen-stop : (each : Each) (vs : List Value) (i : ℕ) (v : Value) (before : List Data) (refusal : Refusal) → AreSeen each vs i before → i < length vs → v ≡ get_or vs i v → first_of (each before (view v)) ≡ Some refusal
    → first_of (checks_of each (map view vs)) ≡ Some refusal
seen-stop each vs i v before refusal t lt at some =
    let there = value-at vs i v lt at in
    through-stop each (map view vs) 0 i before (view v) (view v) refusal t there.0 there.1 some

pub seen-all : (each : Each) (vs : List Value) (i : ℕ) (before : List Data) → AreSeen each vs i before → length vs ≤ i → (first_of (checks_of each (map view vs)) ≡ None) × (map view vs ≡ before)
seen-all each vs i before t h = through-end each (map view vs) 0 i before t (rw (length-map vs view) h)

-- ---- names that are read one after another

pub record AreNamed (each : Each) (names : List Text) (vs : List Value) (i : ℕ) (numbers : List ℕ) : Type 0 where
  pub before : List Data
  pub seen : AreSeen each vs i before
  pub numbers_are : numbers ≡ numbers_of names before
  pub place : i ≡ length before

pub one-named : (each : Each) (names : List Text) (vs : List Value) (i : ℕ) (v : Value) (numbers new : List ℕ) (n : ℕ) (a : AreNamed each names vs i numbers) → i < length vs → v ≡ get_or vs i v
    → first_of (each a.before (view v)) ≡ None → number_named names (view v) ≡ Some n → new ≡ numbers ++ n ∷ [] → AreNamed each names vs (i + 1) new
one-named each names vs i v numbers new n a lt at passes found more = record {
  before = a.before ++ view v ∷ [];
  seen = seen-more each vs i v a.before a.seen lt at passes;
  numbers_are = more ∙ rw a.numbers_are (sym (filter_map-append (number_named names) a.before (view v ∷ []) ∙ rw found refl));
  place = omega (arith, a.place, length-append a.before (view v ∷ []));
}

pub one-refused : (each : Each) (names : List Text) (vs : List Value) (i : ℕ) (v : Value) (numbers : List ℕ) (refusal : Refusal) (a : AreNamed each names vs i numbers) → i < length vs → v ≡ get_or vs i v
    → first_of (each a.before (view v)) ≡ Some refusal → first_of (checks_of each (map view vs)) ≡ Some refusal
one-refused each names vs i v numbers refusal a lt at some = seen-stop each vs i v a.before refusal a.seen lt at some

pub all-named : (each : Each) (names : List Text) (vs : List Value) (i : ℕ) (numbers : List ℕ) → AreNamed each names vs i numbers → length vs ≤ i
    → (first_of (checks_of each (map view vs)) ≡ None) × (numbers ≡ numbers_of names (map view vs))
all-named each names vs i numbers a h =
    let done = seen-all each vs i a.before a.seen h in
    (done.0, a.numbers_are ∙ ap (numbers_of names) (sym done.1))

-- ---- the checks of one element

pub name-stops : (names : List Text) (item first j : ℕ) (before : List Data) (d : Data) (refusal : Refusal) → number_named names d ≡ None → j ≡ length before → refusal ≡ policy_refusal UNKNOWN_ENTRY_NAME item (first + j + 1)
    → first_of (name_checks names item first before d) ≡ Some refusal
name-stops names item first j before d refusal none at is = rw (none, is, at) refl

pub name-passes : (names : List Text) (item first n : ℕ) (before : List Data) (d : Data) → number_named names d ≡ Some n → first_of (name_checks names item first before d) ≡ None
name-passes names item first n before d some = rw some refl

pub order-stops : (r : RosterData) (item p j : ℕ) (named : List ℕ) (number : Option ℕ) (before : List Data) (d : Data) (refusal : Refusal) → fits r p named number ≡ false → named ≡ numbers_of r.hospitals before → number ≡ number_named r.hospitals d
    → j ≡ length before → refusal ≡ policy_refusal WRONG_ORDER item (j + 1) → first_of (order_element_checks r item p before d) ≡ Some refusal
order-stops r item p j named number before d refusal bad names found at is = rw (← names, ← found, bad, is, at) refl

pub order-passes : (r : RosterData) (item p : ℕ) (named : List ℕ) (number : Option ℕ) (before : List Data) (d : Data) → fits r p named number ≡ true → named ≡ numbers_of r.hospitals before → number ≡ number_named r.hospitals d
    → first_of (order_element_checks r item p before d) ≡ None
order-passes r item p named number before d good names found = rw (← names, ← found, good) refl

-- the last check of an order, where the elements pass theirs
pub order-ends : (checks : List (Option Refusal)) (wanted list members order : List ℕ) (b : Bool) (refusal : Refusal) → first_of checks ≡ None → members ≡ wanted → order ≡ list → b ≡ is_missing members order
    → first_of (checks ++ check (is_missing wanted list) refusal ∷ []) ≡ first_of (check b refusal ∷ [])
order-ends checks wanted list members order b refusal none same told is =
    first-none checks (check (is_missing wanted list) refusal ∷ []) none ∙ rw (← same, ← told, ← is) refl

-- ---- marks

pub marks-none : (n : ℕ) → AreMarks (replicate n false) []
marks-none n = record {
  each = λ h. elim (cases_lt h n) [
    | inl less ↦ get_or-replicate n h false false less
    | inr more ↦ get_or_past (replicate n false) h false (omega (arith, more, length-replicate n false))
  ];
}

pub marks-more : (marks : List Bool) (list : List ℕ) (h : ℕ) → AreMarks marks list → h < length marks → AreMarks (set marks h true) (list ++ h ∷ [])
marks-more marks list h a lt = record {
  each = λ k. elim (cases_eq k h) [
    | inl same ↦ rw (same, has-append list (h ∷ []) h, eq-eqb h h refl, get_or-set_same marks h true false lt) (or_comm true (has h list))
    | inr other ↦ rw (has-append list (h ∷ []) k, ne_eqb k h other, get_or-set_other marks h k true false other, a.each k) (sym (or-false (has k list)))
  ];
}

-- what marks tell of an element, and of the hospitals of a prefecture
pub fits-marked : (r : RosterData) (p : ℕ) (number : Option ℕ) (marks : List Bool) (list : List ℕ) → AreMarks marks list → fits_marked r p marks number ≡ fits r p list number
fits-marked r p None marks list a = refl
fits-marked r p (Some h) marks list a = rw (a.each h) refl

pub missing-marked : (hospitals list : List ℕ) (marks : List Bool) → AreMarks marks list → list_any (λ h. not (get_or marks h false)) hospitals ≡ is_missing hospitals list
missing-marked [] list marks a = refl
missing-marked (h ∷ hospitals) list marks a = rw (a.each h, missing-marked hospitals list marks a) refl
