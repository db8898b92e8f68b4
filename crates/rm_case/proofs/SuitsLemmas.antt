-- A policy that was read for a roster fits it, and so does the plain policy.
use Rattle.std.proofs.Common.{◌≡◌, eqb, ◌∙◌, ◌+◌, ◌<◌, ◌==◌, ◌&&◌, ℕ, Bool, true, false, cond, not, List, [], ◌∷◌, ◌++◌, length, get_or, map, take, Option, Some, None, IfSome, Ok, All, inl, inr, refl, sym, ap, subst, arith, ⊎_elim}
use Rattle.std.specs.Prelude.{option_and_then, option_map, unwrap_or}
use Rattle.std.specs.List.{IsDistinct, cons_option}
use Rattle.std.specs.Str.{bytes_eq}
use Rattle.std.proofs.lemmas.Bool.{cases_lt, eq-eqb, eqb-true}
use Rattle.std.proofs.lemmas.List.{get_or-map, get_or_append_left, get_or_past, length-map, map-append, take_at}
use Rattle.std.proofs.lemmas.List.Elements.{All-append, All-cons, All-get_or, All-nil, All-push, filter_map-append}
use Rattle.std.proofs.lemmas.List.Quantifiers.{position-Some}
use Rattle.std.proofs.lemmas.List.Sums.{fold_push}
use Rattle.toml.specs.Data.{Data, as_str}
use Rattle.rm_base.specs.Checks.{check, checks_of, first_of}
use Rattle.rm_names.specs.Names.{place_of, AreDistinct}
use Rattle.rm_base.specs.Text.{Text}
use Rattle.rm_base.specs.declared.Refusal.{Refusal}
use Rattle.rm_base.specs.declared.codes.TheConstants.{WRONG_ORDER}
use Rattle.rm_base.proofs.CheckLemmas.{check-none, mapped-none, none-each, none-parts, passed}
use Rattle.rm_names.proofs.NameLemmas.{distinct-more}
use Rattle.rm_board.specs.ListedElements.{Names}
use Rattle.rm_board_laws.proofs.HospitalBoards.{zeros_fall}
use Rattle.rm_market.specs.Board.{IsFalling}
use Rattle.rm_market.specs.Steps.{step_fault, steps_of}
use Rattle.rm_market.specs.declared.Run.{Run}
use Rattle.rm_policy.specs.Entries.{is_present, elements_at, name_of_entry, number_named, numbers_of, read_at, policy_refusal}
use Rattle.rm_policy.specs.Groups.{group_checks_after, group_name_checks, group_shape_checks, group_element_checks, groups_of, groups_named, hospitals_named, prefectures_named, no_groups, steps_of_group, with_group}
use Rattle.rm_policy.specs.Hospitals.{found_hospital_checks, hospital_entry_checks, hospital_entry_checks_after, hospital_shape_checks, hospital_steps_of, steps_in, steps_of_hospital, entry_of_hospital as former_of}
use Rattle.rm_policy.specs.Policy.{PolicyData, ReadsPolicy, listed_pairs, pair_numbered, plain, policy_checks, policy_of}
use Rattle.rm_policy.specs.Prefectures.{fits, is_missing, order_checks, order_element_checks, order_in as entry_order, prefecture_checks_after, prefecture_of_entry}
use Rattle.rm_policy.specs.Steps.{cap_in, flat, run_refusal, runs_in, step_checks}
use Rattle.rm_policy.specs.Top.{group_entries, hospital_entries, kind_in, prefecture_entries, top_checks}
use Rattle.rm_policy.specs.Values.{pair, pairs, texts}
use Rattle.rm_policy.specs.declared.Kind.{Kind}
use Rattle.rm_policy.specs.declared.keys.Key.TheVariants as key
use Rattle.rm_policy.proofs.GroupSets.{groups-are-sets}
use Rattle.rm_roster.specs.Roster.{RosterData, IsRoster, hospitals_in}
use Rattle.rm_sets.specs.Sets.{below, has, IsIn}
use Rattle.rm_sets.proofs.Members.{not_in_nil, IsIn-all_below, IsIn-append_cases}
use Rattle.rm_sets.proofs.Once.{get_or-below, length-below, distinct_append, distinct_of_set, distinct_none, distinct_one}
use Rattle.rm_sets.proofs.Search.{any_none}
use Rattle.rm_sets.proofs.Sets.{IsIn-cases, IsSet-all_below, not_both, same_tests}
use Rattle.rm_steps.proofs.Accepted.{accepted-steps}
use Rattle.rm_case.specs.Compiled.{entry_of_prefecture, order_of_prefecture}
use Rattle.rm_case.specs.Suits.{SuitsRoster, IsOrderOf}
use Rattle.rm_case.proofs.OrderLemmas.{entry_named, names_prefecture}
use Rattle.rm_case.proofs.RegionsEntries.{entries_flexible, name_new, passes}

abbrev Checks : Type 0
Checks = List (Option Refusal)

no_steps : IsFalling []
no_steps k d lt = absurd (omega arith)

-- ---- steps

runs_fall : (i : ℕ) (rs : List Run) → option_map (run_refusal i) (step_fault rs) ≡ None → IsFalling (steps_of rs)
runs_fall i rs e = (accepted-steps rs (mapped-none (run_refusal i) (step_fault rs) e)).0.falling

group_fall : (d : Data) → IsFalling (steps_of (runs_in d)) → IsFalling (steps_of_group d)
group_fall d fall = by (is_present key.Cap d)
  where
    by : (b : Bool) → IsFalling (cond b (flat (cap_in d)) (steps_of (runs_in d)))
    by true = zeros_fall (cap_in d)
    by false = fall

groups_fall : (r : RosterData) (first : ℕ) (ds : List Data) → first_of (checks_of (group_checks_after r first) ds) ≡ None → All IsFalling (groups_of r ds).steps
groups_fall r first ds e =
    passed (group_checks_after r first) (λ before. All IsFalling (groups_of r before).steps) (All-nil IsFalling)
    (λ before d all none.
    let i = first + length (map name_of_entry before) + 1 in
    let steps = (none-parts (group_shape_checks i d ++ group_name_checks first (map name_of_entry before) i (name_of_entry d) ++ group_element_checks r (map name_of_entry before) i (hospitals_named d) (prefectures_named d) (groups_named d)) (step_checks i (runs_in d)) none).1 in
    subst (λ g. All IsFalling g.steps) (sym (fold_push (with_group r) no_groups before d))
    (All-push IsFalling (groups_of r before).steps (steps_of_group d) all (group_fall d (runs_fall i (runs_in d) (none-each (step_checks i (runs_in d)) steps).1.0))))
    ds e

prefectures_fall : (ds : List Data) → All IsFalling (map (λ e. flat (cap_in e)) ds)
prefectures_fall [] = All-nil IsFalling
prefectures_fall (d ∷ ds) = All-cons IsFalling (flat (cap_in d)) (map (λ e. flat (cap_in e)) ds) (zeros_fall (cap_in d)) (prefectures_fall ds)

found_fall : (r : RosterData) (former : ℕ → Option ℕ) (i : ℕ) (d : Data) (o : Option ℕ) → first_of (found_hospital_checks r former i d o) ≡ None → IsFalling (steps_in d)
found_fall r former i d None e = let none = (none-each (found_hospital_checks r former i d None) e).0 in absurd (cc none)
found_fall r former i d (Some h) e = runs_fall i (runs_in d) (none-each (found_hospital_checks r former i d (Some h)) e).1.1.0

hospital_fall : (r : RosterData) (former : ℕ → Option ℕ) (i : ℕ) (d : Data) → first_of (hospital_entry_checks r former i d) ≡ None → IsFalling (steps_in d)
hospital_fall r former i d e =
    let o = place_of r.hospitals (name_of_entry d) in
    found_fall r former i d o (none-parts (hospital_shape_checks i d) (found_hospital_checks r former i d o) e).1

hospitals_fall : (r : RosterData) (first : ℕ) (ds : List Data) → first_of (checks_of (hospital_entry_checks_after r first) ds) ≡ None → All IsFalling (map steps_in ds)
hospitals_fall r first ds e =
    passed (hospital_entry_checks_after r first) (λ before. All IsFalling (map steps_in before)) (All-nil IsFalling)
    (λ before d all none.
    subst (All IsFalling) (sym (map-append steps_in before (d ∷ [])))
    (All-push IsFalling (map steps_in before) (steps_in d) all (hospital_fall r (λ h. option_map (λ k. first + (k + 1)) (former_of r before h)) (first + (length before + 1)) d none)))
    ds e

-- the steps of a hospital are those of an entry
steps_fall : (r : RosterData) (ds : List Data) (h : ℕ) → All IsFalling (map steps_in ds) → IfSome (get_or (hospital_steps_of r ds) h None) IsFalling
steps_fall r ds h all = elim (cases_lt h (length r.hospitals)) [
  | inl lt ↦
      let n = length r.hospitals in
      let at : get_or (hospital_steps_of r ds) h None ≡ steps_of_hospital r ds h =
      get_or-map (steps_of_hospital r ds) (below n) h 0 None (omega (arith, lt, length-below n)) ∙ ap (steps_of_hospital r ds) (get_or-below n h 0 lt) in
      subst (λ o. IfSome o IsFalling) (sym at) (by (former_of r ds h))
  | inr ge ↦ subst (λ o. IfSome o IsFalling) (sym (get_or_past (hospital_steps_of r ds) h None (omega (arith, ge, length-map (below (length r.hospitals)) (steps_of_hospital r ds), length-below (length r.hospitals))))) tt
]
  where
    fallen : (k : ℕ) → IsFalling (get_or (map steps_in ds) k [])
    fallen k = elim (cases_lt k (length (map steps_in ds))) [
      | inl lt ↦ all k [] lt
      | inr ge ↦ subst IsFalling (sym (get_or_past (map steps_in ds) k [] ge)) no_steps
    ]

    by : (o : Option ℕ) → IfSome (option_map (λ k. get_or (map steps_in ds) k []) o) IsFalling
    by None = tt
    by (Some k) = fallen k

-- ---- entries of prefectures

module _ (r : RosterData) (kind : Kind) where
  entries_apart : (ds : List Data) → first_of (checks_of (prefecture_checks_after r kind) ds) ≡ None → AreDistinct (map name_of_entry ds)
  entries_apart ds e =
      passed (prefecture_checks_after r kind) (λ before. AreDistinct (map name_of_entry before)) none_distinct
      (λ before d all none. subst AreDistinct (sym (map-append name_of_entry before (d ∷ []))) (distinct-more (map name_of_entry before) (name_of_entry d) all (name_new r kind (map name_of_entry before) d (passes r kind (map name_of_entry before) d none))))
      ds e
    where
      none_distinct : AreDistinct []
      none_distinct = record { found = λ n name e. absurd (cc e) }

-- ---- the order of a prefecture

-- what the elements of an order name: hospitals of the prefecture, each once
record AreTurns (r : RosterData) (p : ℕ) (order : List ℕ) : Type 0 where
  once : IsDistinct eqb order
  known : (h : ℕ) → IsIn h order → (h < length r.hospitals) × (get_or r.prefecture_of h 0 ≡ p)

number_below : (names : List Text) (d : Data) (h : ℕ) → number_named names d ≡ Some h → h < length names
number_below names d h e = by (as_str d) e
  where
    by : (o : Option Text) → option_and_then (place_of names) o ≡ Some h → h < length names
    by None e = absurd (cc e)
    by (Some name) e = (position-Some (bytes_eq name) names h [] e).0

no_turns : (r : RosterData) (p : ℕ) → AreTurns r p []
no_turns r p = record { once = distinct_none; known = λ h i. absurd (not_in_nil h i) }

turn_more : (r : RosterData) (p : ℕ) (order : List ℕ) (h : ℕ) → AreTurns r p order → h < length r.hospitals → fits r p order (Some h) ≡ true → AreTurns r p (order ++ h ∷ [])
turn_more r p order h turns lt fit =
    let parts = and_parts (get_or r.prefecture_of h 0 == p) (not (has h order)) fit in
    let own = eqb-true (get_or r.prefecture_of h 0) p parts.0 in
    record {
      once = distinct_append order (h ∷ []) turns.once (distinct_one h) (λ x i j. not_both (has h order) (subst (λ (z : ℕ). IsIn z order) (only h x j) i) (not_true (has h order) parts.1));
      known = λ x i. ⊎_elim (λ (old : IsIn x order). turns.known x old) (λ (new : IsIn x (h ∷ [])). subst (λ (z : ℕ). (z < length r.hospitals) × (get_or r.prefecture_of z 0 ≡ p)) (sym (only h x new)) (lt, own)) (IsIn-append_cases order (h ∷ []) x i);
    }
  where
    only : (h x : ℕ) → IsIn x (h ∷ []) → x ≡ h
    only h x i = ⊎_elim (λ e. e) (λ none. absurd (not_in_nil x none)) (IsIn-cases x h [] i)

    and_parts : (a b : Bool) → (a && b) ≡ true → (a ≡ true) × (b ≡ true)
    and_parts true b e = (refl, e)
    and_parts false b e = absurd (cc e)

    not_true : (b : Bool) → not b ≡ true → b ≡ false
    not_true true e = absurd (cc e)
    not_true false e = refl

element_turns : (r : RosterData) (p : ℕ) (before : List Data) (d : Data) (o : Option ℕ) → AreTurns r p (numbers_of r.hospitals before) → number_named r.hospitals d ≡ o → fits r p (numbers_of r.hospitals before) o ≡ true
    → AreTurns r p (numbers_of r.hospitals (before ++ d ∷ []))
element_turns r p before d None turns is fit = absurd (cc fit)
element_turns r p before d (Some h) turns is fit =
    subst (AreTurns r p) (sym (filter_map-append (number_named r.hospitals) before (d ∷ []) ∙ rw is refl)) (turn_more r p (numbers_of r.hospitals before) h turns (number_below r.hospitals d h is) fit)

elements_turns : (r : RosterData) (i p : ℕ) (ds : List Data) → first_of (checks_of (order_element_checks r i p) ds) ≡ None → AreTurns r p (numbers_of r.hospitals ds)
elements_turns r i p ds e =
    passed (order_element_checks r i p) (λ before. AreTurns r p (numbers_of r.hospitals before)) (no_turns r p)
    (λ before d turns none.
    let fit = fits r p (numbers_of r.hospitals before) (number_named r.hospitals d) in
    let off = check-none (not fit) (policy_refusal WRONG_ORDER i (length before + 1)) (none-each (order_element_checks r i p before d) none).0 in
    element_turns r p before d (number_named r.hospitals d) turns refl (not_false fit off))
    ds e
  where
    not_false : (b : Bool) → not b ≡ false → b ≡ true
    not_false true e = refl
    not_false false e = absurd (cc e)

-- all hospitals of the prefecture, each once
whole_order : (r : RosterData) (p : ℕ) (order : List ℕ) → AreTurns r p order → is_missing (hospitals_in r p) order ≡ false → IsOrderOf r p order
whole_order r p order turns none = record {
  once = turns.once;
  hospitals = λ h. same_tests (has h order) (has h (hospitals_in r p))
      (λ i. let k = turns.known h i in IsIn-all_below (length r.hospitals) (λ x. get_or r.prefecture_of x 0 == p) h k.0 (eq-eqb (get_or r.prefecture_of h 0) p k.1))
      (λ i. not_false (has h order) (any_none (λ x. not (has x order)) (hospitals_in r p) none h i));
}
  where
    not_false : (b : Bool) → not b ≡ false → b ≡ true
    not_false true e = refl
    not_false false e = absurd (cc e)

own_order : (r : RosterData) (q : ℕ) → IsOrderOf r q (hospitals_in r q)
own_order r q = record { once = distinct_of_set (hospitals_in r q) (IsSet-all_below (length r.hospitals) (λ h. get_or r.prefecture_of h 0 == q)); hospitals = λ h. refl }

read_order : (r : RosterData) (i p : ℕ) (o : Option (List Data)) → first_of (order_checks r i p o) ≡ None → IfSome (option_map (numbers_of r.hospitals) o) (IsOrderOf r p)
read_order r i p None e = tt
read_order r i p (Some ds) e =
    let missing = check (is_missing (hospitals_in r p) (numbers_of r.hospitals ds)) (policy_refusal WRONG_ORDER i (length ds + 1)) in
    let parts = none-parts (checks_of (order_element_checks r i p) ds) (missing ∷ []) e in
    whole_order r p (numbers_of r.hospitals ds) (elements_turns r i p ds parts.0)
    (check-none (is_missing (hospitals_in r p) (numbers_of r.hospitals ds)) (policy_refusal WRONG_ORDER i (length ds + 1)) (none-each (missing ∷ []) parts.1).0)

abbrev HasOrder : RosterData → Data → Type 0
HasOrder r d = IfSome (entry_order r d) (IsOrderOf r (prefecture_of_entry r d))

entries_ordered : (r : RosterData) (kind : Kind) (ds : List Data) → first_of (checks_of (prefecture_checks_after r kind) ds) ≡ None → All (HasOrder r) ds
entries_ordered r kind ds e =
    passed (prefecture_checks_after r kind) (All (HasOrder r)) (All-nil (HasOrder r))
    (λ before d all none.
    All-push (HasOrder r) before d all
    (read_order r (length (map name_of_entry before) + 1) (prefecture_of_entry r d) (read_at texts key.Order d) (passes r kind (map name_of_entry before) d none).order))
    ds e

-- ---- listed pairs

pair_known : (r : RosterData) (p : Text × Text) → Names (length r.hospitals) (pair_numbered r p)
pair_known r p = by (place_of r.hospitals p.1) refl
  where
    by : (o : Option ℕ) → place_of r.hospitals p.1 ≡ o → IfSome o (λ h. h < length r.hospitals)
    by None e = tt
    by (Some h) e = (position-Some (bytes_eq p.1) r.hospitals h [] e).0

pairs_known : (r : RosterData) (ds : List Data) → All (Names (length r.hospitals)) (listed_pairs r ds)
pairs_known r [] = All-nil (Names (length r.hospitals))
pairs_known r (d ∷ ds) = by (pairs_known r ds) (pair d)
  where
    by : All (Names (length r.hospitals)) (listed_pairs r ds) → (o : Option (Text × Text)) → All (Names (length r.hospitals)) (cons_option (option_map (pair_numbered r) o) (listed_pairs r ds))
    by rest None = rest
    by rest (Some p) = All-cons (Names (length r.hospitals)) (pair_numbered r p) (listed_pairs r ds) (pair_known r p) rest

-- ---- the whole policy

module _ (r : RosterData) (d : Data) (roster : IsRoster r) (quiet : first_of (policy_checks r (Some d)) ≡ None) where
  abbrev ps : List Data
  ps = prefecture_entries d

  abbrev gs : List Data
  gs = group_entries d

  abbrev hs : List Data
  hs = hospital_entries d

  abbrev of_prefectures : Checks
  of_prefectures = checks_of (prefecture_checks_after r (kind_in d)) ps

  abbrev of_groups : Checks
  of_groups = checks_of (group_checks_after r (length ps)) gs

  abbrev of_hospitals : Checks
  of_hospitals = checks_of (hospital_entry_checks_after r (length ps + length gs)) hs

  top_quiet : first_of (top_checks d) ≡ None
  top_quiet = (none-parts (top_checks d) (of_prefectures ++ of_groups ++ of_hospitals) quiet).0

  entries_quiet : (first_of of_prefectures ≡ None) × (first_of of_groups ≡ None) × (first_of of_hospitals ≡ None)
  entries_quiet =
      let all = (none-parts (top_checks d) (of_prefectures ++ of_groups ++ of_hospitals) quiet).1 in
      let two = none-parts (of_prefectures ++ of_groups) of_hospitals all in
      let one = none-parts of_prefectures of_groups two.0 in
      (one.0, one.1, two.1)

  abbrev policy : PolicyData
  policy = policy_of r d

  names_are : take (length policy.orders) policy.groups.names ≡ map name_of_entry ps
  names_are = take_at (map name_of_entry ps) (groups_of r gs).names (length policy.orders) (length-map ps name_of_entry ∙ sym (length-map ps (entry_order r)))

  ordered : (q : ℕ) → q < length r.prefectures → IsOrderOf r q (order_of_prefecture r policy q)
  ordered q lt = by (entry_of_prefecture r policy q) refl
    where
      given : (p : ℕ) (o : Option (List ℕ)) → p ≡ q → IfSome o (IsOrderOf r p) → IsOrderOf r q (unwrap_or o (hospitals_in r q))
      given p None same h = own_order r q
      given p (Some o) same h = subst (λ (z : ℕ). IsOrderOf r z o) same h

      by : (o : Option ℕ) → entry_of_prefecture r policy q ≡ o → IsOrderOf r q (unwrap_or (option_and_then (λ g. get_or policy.orders g None) o) (hospitals_in r q))
      by None e = own_order r q
      by (Some g) e =
          let named = entry_named r policy q g e in
          let placed = names_prefecture r policy q g roster lt e in
          let lg : g < length ps = omega (arith, named.0, length-map ps (entry_order r)) in
          let entry = get_or ps g d in
          let at : get_or policy.orders g None ≡ entry_order r entry = get_or-map (entry_order r) ps g d None lg in
          let name : get_or policy.groups.names g [] ≡ name_of_entry entry =
          get_or_append_left (map name_of_entry ps) (groups_of r gs).names [] g (omega (arith, lg, length-map ps name_of_entry)) ∙ get_or-map name_of_entry ps g d [] lg in
          let own : prefecture_of_entry r entry ≡ q = ap (λ (o : Option ℕ). unwrap_or o 0) (ap (λ (n : Text). place_of r.prefectures n) (sym name) ∙ placed) in
          given (prefecture_of_entry r entry) (get_or policy.orders g None) own (subst (λ o. IfSome o (IsOrderOf r (prefecture_of_entry r entry))) (sym at) (All-get_or (HasOrder r) ps g d lg (entries_ordered r (kind_in d) ps entries_quiet.0)))

  apart : AreDistinct (take (length policy.orders) policy.groups.names)
  apart = subst AreDistinct (sym names_are) (entries_apart r (kind_in d) ps entries_quiet.0)

  fits_policy : SuitsRoster r policy
  fits_policy = record {
    groups = groups-are-sets r d;
    group_steps = All-append IsFalling (map (λ e. flat (cap_in e)) ps) (groups_of r gs).steps (prefectures_fall ps) (groups_fall r (length ps) gs entries_quiet.1);
    hospital_steps = λ h. steps_fall r hs h (hospitals_fall r (length ps + length gs) hs entries_quiet.2);
    entries = apart;
    orders = ordered;
    listed = pairs_known r (elements_at pairs key.Listed d);
    flexible = λ flexible. entries_flexible r d top_quiet entries_quiet.0 flexible apart;
  }

-- ---- what a policy that was read for a roster is, and what the plain policy is

pub fits_read : (r : RosterData) (document : Option Data) (p : PolicyData) → IsRoster r → ReadsPolicy r document (Ok p) → SuitsRoster r p
fits_read r document p roster read =
    let d = read.1 in
    let quiet : first_of (policy_checks r (Some d)) ≡ None = subst (λ (o : Option Data). first_of (policy_checks r o) ≡ None) read.2 read.0 in
    subst (SuitsRoster r) (sym read.3) (fits_policy r d roster quiet)

pub fits_plain : (r : RosterData) → SuitsRoster r plain
fits_plain r = record {
  groups = λ k e lt. absurd (omega arith);
  group_steps = All-nil IsFalling;
  hospital_steps = λ h. tt;
  entries = record { found = λ n name e. absurd (cc e) };
  orders = λ q lt. own_order r q;
  listed = All-nil (Names (length r.hospitals));
  flexible = λ flexible. absurd (cc flexible);
}
