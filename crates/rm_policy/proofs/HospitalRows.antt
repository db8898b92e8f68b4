-- The entries of hospitals, read one after another.
use Rattle.std.proofs.Common.{◌≡◌, ◌∙◌, ◌+◌, ◌-◌, ◌<◌, ◌≤◌, ◌==◌, ℕ, zero, suc, ℤ, true, List, [], ◌∷◌, ◌++◌, length, get_or, set, map, replicate, position, Option, Some, None, option_map, inl, inr, refl, ap, sym, arith, length-append}
use Rattle.std.proofs.lemmas.Bool.{eq-eqb, ne_eqb, cases_eq}
use Rattle.std.proofs.lemmas.List.{length-map, map_push, length-set, length-replicate, get_or-replicate, get_or-set_same, get_or-set_other, get_or-map, get_or_append_left, ext_get_or}
use Rattle.std.proofs.Math.Seq.{get_or-append_seam}
use Rattle.std.proofs.lemmas.Option.{slice_get-get_or}
use Rattle.std.proofs.lemmas.List.Elements.{filter_map-append}
use Rattle.std.specs.Str.{bytes_eq}
use Rattle.toml.specs.Data.{Data}
use Rattle.toml.specs.View.{view}
use Rattle.toml.specs.declared.value.Value.{Value}
use Rattle.rm_sets.specs.Sets.{all_below}
use Rattle.rm_base.specs.Checks.{first_of, checks_of}
use Rattle.rm_names.specs.Names.{place_of}
use Rattle.rm_base.specs.declared.Refusal.{Refusal}
use Rattle.rm_names.proofs.FirstPlaces.{position_push, kept}
use Rattle.rm_roster.specs.Roster.{RosterData}
use Rattle.rm_policy.specs.Entries.{name_of_entry}
use Rattle.rm_policy.specs.Hospitals.{entry_of_hospital, found_hospital_checks, hospital_entry_checks, hospital_entry_checks_after, hospital_shape_checks, hospital_steps_of, hospitals_with_entries, steps_in, steps_of_hospital}
use Rattle.rm_policy.specs.HospitalAnswers.{steps_at}
use Rattle.rm_policy.proofs.ElementLemmas.{AreSeen, seen-none, seen-more, seen-stop, seen-all, place_lt}

-- the item of a hospital: that of the first entry that names it
abbrev pub item_of : ℕ → Option ℕ → Option ℕ
item_of first place = option_map (λ k. first + (k + 1)) place

-- The entries before place k were read: they pass their checks, and say this.
pub record AreHospitals (r : RosterData) (first : ℕ) (vs : List Value) (k : ℕ) (items : List (Option ℕ)) (steps : List (List ℤ)) : Type 0 where
  pub before : List Data
  pub seen : AreSeen (hospital_entry_checks_after r first) vs k before
  pub known : length (hospitals_with_entries r before) ≡ length before
  pub size : length items ≡ length r.hospitals
  pub items_are : (h : ℕ) → h < length r.hospitals → get_or items h None ≡ item_of first (entry_of_hospital r before h)
  pub steps_are : steps ≡ map steps_in before
  pub place : k ≡ length before

pub hospitals-none : (r : RosterData) (first : ℕ) (vs : List Value) (items : List (Option ℕ)) (n : ℕ) → items ≡ replicate n None → n ≡ length r.hospitals → AreHospitals r first vs 0 items []
hospitals-none r first vs items n are count =
    record {
      before = [];
      seen = seen-none (hospital_entry_checks_after r first) vs;
      known = refl;
      size = rw are (length-replicate n None ∙ count);
      items_are = λ h lt. rw are (get_or-replicate n h None None (omega (arith, lt, count)));
      steps_are = refl;
      place = refl;
    }

-- the checks ask for the item of a hospital that is there
found-at : (r : RosterData) (f g : ℕ → Option ℕ) (i j : ℕ) (d : Data) (o : Option ℕ) → i ≡ j → ((h : ℕ) → o ≡ Some h → f h ≡ g h) → first_of (hospital_shape_checks i d ++ found_hospital_checks r f i d o) ≡ first_of (hospital_shape_checks j d ++ found_hospital_checks r g j d o)
found-at r f g i j d None e same = rw e refl
found-at r f g i j d (Some h) e same = rw (e, same h refl) refl

pub hospital-at : (r : RosterData) (first : ℕ) (vs : List Value) (k : ℕ) (items : List (Option ℕ)) (steps : List (List ℤ)) (d : Data) (a : AreHospitals r first vs k items steps)
    → first_of (hospital_entry_checks r (λ h. get_or items h None) (first + (k + 1)) d) ≡ first_of (hospital_entry_checks_after r first a.before d)
hospital-at r first vs k items steps d a =
    found-at r (λ h. get_or items h None) (λ h. item_of first (entry_of_hospital r a.before h)) (first + (k + 1)) (first + (length a.before + 1)) d (place_of r.hospitals (name_of_entry d)) (omega (arith, a.place))
    (λ h e. a.items_are h (place_lt (bytes_eq (name_of_entry d)) r.hospitals h e))

pub hospitals-stop : (r : RosterData) (first : ℕ) (vs : List Value) (k : ℕ) (v : Value) (items : List (Option ℕ)) (steps : List (List ℤ)) (refusal : Refusal) → AreHospitals r first vs k items steps → k < length vs → v ≡ get_or vs k v
    → first_of (hospital_entry_checks r (λ h. get_or items h None) (first + (k + 1)) (view v)) ≡ Some refusal → first_of (checks_of (hospital_entry_checks_after r first) (map view vs)) ≡ Some refusal
hospitals-stop r first vs k v items steps refusal a lt at some = seen-stop (hospital_entry_checks_after r first) vs k v a.before refusal a.seen lt at (sym (hospital-at r first vs k items steps (view v) a) ∙ some)

keys-more : (r : RosterData) (before : List Data) (d : Data) (c : ℕ) → place_of r.hospitals (name_of_entry d) ≡ Some c → hospitals_with_entries r (before ++ d ∷ []) ≡ hospitals_with_entries r before ++ c ∷ []
keys-more r before d c e = filter_map-append (λ x. place_of r.hospitals (name_of_entry x)) before (d ∷ []) ∙ rw e refl

no-item : (first : ℕ) (o : Option ℕ) → item_of first o ≡ None → o ≡ None
no-item first None e = refl
no-item first (Some k) e = absurd (cc)

pub hospitals-more : (r : RosterData) (first : ℕ) (vs : List Value) (k : ℕ) (v : Value) (items new : List (Option ℕ)) (steps new_steps : List (List ℤ)) (c : ℕ) (s : List ℤ) → AreHospitals r first vs k items steps → k < length vs → v ≡ get_or vs k v
    → first_of (hospital_entry_checks r (λ h. get_or items h None) (first + (k + 1)) (view v)) ≡ None → place_of r.hospitals (name_of_entry (view v)) ≡ Some c → get_or items c None ≡ None → s ≡ steps_in (view v)
    → new ≡ set items c (Some (first + (k + 1))) → new_steps ≡ steps ++ s ∷ [] → AreHospitals r first vs (k + 1) new new_steps
hospitals-more r first vs k v items new steps new_steps c s a lt at passes found unmarked steps_is is more =
    let keys = hospitals_with_entries r a.before in
    let keys_are = keys-more r a.before (view v) c found in
    let here : c < length r.hospitals = place_lt (bytes_eq (name_of_entry (view v))) r.hospitals c found in
    let in_items : c < length items = omega (arith, here, a.size) in
    let absent = no-item first (position (λ x. x == c) keys) (sym (a.items_are c here) ∙ unmarked) in
    let item : first + (k + 1) ≡ first + (length keys + 1) = omega (arith, a.place, a.known) in
    let each : (h : ℕ) → h < length r.hospitals → get_or (set items c (Some (first + (k + 1)))) h None ≡ item_of first (position (λ x. x == h) (keys ++ c ∷ [])) =
    λ h within. (elim (cases_eq h c) [
      | inl same ↦ rw (same, get_or-set_same items c (Some (first + (k + 1))) None in_items, position_push (λ x. x == c) keys c, absent, eq-eqb c c refl, item) refl
      | inr other ↦ rw (get_or-set_other items c h (Some (first + (k + 1))) None other, position_push (λ x. x == h) keys c, ne_eqb c h (λ e. other (sym e)), kept (position (λ x. x == h) keys) (length keys)) (a.items_are h within)
    ]) in
    record {
      before = a.before ++ view v ∷ [];
      seen = seen-more (hospital_entry_checks_after r first) vs k v a.before a.seen lt at (sym (hospital-at r first vs k items steps (view v) a) ∙ passes);
      known = rw keys_are (omega (arith, length-append keys (c ∷ []), length-append a.before (view v ∷ []), a.known));
      size = rw is (length-set items c (Some (first + (k + 1))) ∙ a.size);
      items_are = rw (is, keys_are) each;
      steps_are = more ∙ rw (a.steps_are, steps_is) (sym (map_push steps_in a.before (view v)));
      place = omega (arith, a.place, length-append a.before (view v ∷ []));
    }

-- ---- the whole list

below-length : (n : ℕ) → length (all_below n (λ h. true)) ≡ n
below-length zero = refl
below-length (suc n) = omega (arith, length-append (all_below n (λ h. true)) (n ∷ []), below-length n)

below-get : (n k : ℕ) → k < n → get_or (all_below n (λ h. true)) k 0 ≡ k
below-get zero k lt = absurd (omega (arith, lt))
below-get (suc n) k lt = elim (cases_eq k n) [
  | inl same ↦
      let at : get_or (all_below n (λ h. true) ++ n ∷ []) (length (all_below n (λ h. true))) 0 ≡ n = get_or-append_seam (all_below n (λ h. true)) n [] 0 in
      rw same (rw (below-length n) at at)
  | inr other ↦
      let before : k < n = omega (arith, lt, other) in
      get_or_append_left (all_below n (λ h. true)) (n ∷ []) 0 k (rw (below-length n) before) ∙ below-get n k before
]

steps-found : (steps : List (List ℤ)) (first : ℕ) (o : Option ℕ) → ((k : ℕ) → o ≡ Some k → k < length steps) → steps_at steps first (item_of first o) ≡ option_map (λ k. get_or steps k []) o
steps-found steps first None within = refl
steps-found steps first (Some k) within =
    let place : first + (k + 1) - (first + 1) ≡ k = omega arith in
    rw place (slice_get-get_or steps k [] (within k refl))

pub hospitals-all : (r : RosterData) (first : ℕ) (vs : List Value) (k : ℕ) (items : List (Option ℕ)) (steps : List (List ℤ)) → AreHospitals r first vs k items steps → length vs ≤ k
    → (first_of (checks_of (hospital_entry_checks_after r first) (map view vs)) ≡ None) × (map (steps_at steps first) items ≡ hospital_steps_of r (map view vs))
hospitals-all r first vs k items steps a h =
    let done = seen-all (hospital_entry_checks_after r first) vs k a.before a.seen h in
    let n = length r.hospitals in
    let keys = hospitals_with_entries r a.before in
    let size : length (map (steps_at steps first) items) ≡ n = length-map items (steps_at steps first) ∙ a.size in
    let other_size : length (map (steps_of_hospital r a.before) (all_below n (λ x. true))) ≡ n = length-map (all_below n (λ x. true)) (steps_of_hospital r a.before) ∙ below-length n in
    let each : (x : ℕ) → x < n → get_or (map (steps_at steps first) items) x None ≡ get_or (map (steps_of_hospital r a.before) (all_below n (λ y. true))) x None =
    λ x lt.
    let left : get_or (map (steps_at steps first) items) x None ≡ steps_at steps first (get_or items x None) = get_or-map (steps_at steps first) items x None None (omega (arith, lt, a.size)) in
    let right : get_or (map (steps_of_hospital r a.before) (all_below n (λ y. true))) x None ≡ steps_of_hospital r a.before x =
    get_or-map (steps_of_hospital r a.before) (all_below n (λ y. true)) x 0 None (omega (arith, lt, below-length n)) ∙ ap (steps_of_hospital r a.before) (below-get n x lt) in
    let found = steps-found steps first (entry_of_hospital r a.before x) (λ q e. omega (arith, place_lt (λ y. y == x) keys q e, a.known, ap length a.steps_are, length-map a.before steps_in)) in
    left ∙ ap (steps_at steps first) (a.items_are x lt) ∙ found ∙ ap (λ (s : List (List ℤ)). option_map (λ q. get_or s q []) (entry_of_hospital r a.before x)) a.steps_are ∙ sym right
    in (
      done.0,
      ext_get_or None (map (steps_at steps first) items) (map (steps_of_hospital r a.before) (all_below n (λ y. true))) (size ∙ sym other_size) (λ x lt. each x (omega (arith, lt, size)))
          ∙ ap (hospital_steps_of r) (sym done.1),
    )
