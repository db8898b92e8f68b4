-- The roster of a nation suits its policy.
use Rattle.std.proofs.Common.{◌≡◌, ◌∙◌, ◌<◌, ◌≤◌, ◌*◌, ◌%◌, ◌==◌, ◌++◌, ℕ, Bool, zero, suc, if◌then◌else◌, List, [], ◌∷◌, map, filter, min, length, get_or, codes, Some, None, inl, inr, refl, sym, ap, arith}
use Rattle.std.specs.List.{slice_index, sum_by}
use Rattle.std.proofs.lemmas.Bool.{cases_Bool, cases_lt}
use Rattle.std.proofs.lemmas.List.{get_or-map, length-map}
use Rattle.std.proofs.lemmas.List.Elements.{filter-append}
use Rattle.std.proofs.lemmas.List.Sums.{fold-append, sum_by-append}
use Rattle.std.proofs.lemmas.Nat.{mod_below}
use Rattle.std.proofs.Math.Nat.{mod-eq_of_lt, mul-suc}
use Rattle.rm_sets.specs.Sets.{all_below, below}
use Rattle.rm_sets.proofs.Once.{get_or-below, length-below}
use Rattle.rm_base.specs.Text.{Text}
use Rattle.rm_names.specs.Names.{place_of}
use Rattle.rm_table.specs.Rows.{Row}
use Rattle.rm_roster.specs.Hospitals.{each_once, number_in, prefecture_in, target_in, with_text}
use Rattle.rm_roster.specs.Cells.{name_in}
use Rattle.rm_roster.specs.Roster.{RosterData, roster_of}
use Rattle.rm_policy.specs.Prefectures.{targets_of}
use Rattle.rm_drill_laws.specs.Numbered.{names_up_to}
use Rattle.rm_drill_laws.proofs.Names.{are_placed}
use Rattle.rm_drill.specs.Files.{hospital_row, hospital_rows, prefecture_name, whole_sum}
use Rattle.rm_drill.specs.Hospitals.{prefecture_of}
use Rattle.rm_nation_laws.specs.Document.{AreCaps}
use Rattle.rm_nation_laws.specs.Policy.{SuitsNation}
use Rattle.rm_nation_laws.specs.Seats.{AreSeats}
use Rattle.rm_nation_laws.proofs.Below.{map-map, names-below, one-more}
use Rattle.rm_nation_laws.proofs.Hospitals.{target_is}

-- ---- sums over the numbers below n that pass a test

-- the sum over those that pass, in either form
sum-passing : (f g : ℕ → ℕ) (p q : ℕ → Bool) (n : ℕ) → ((h : ℕ) → h < n → f h ≡ g h) → ((h : ℕ) → h < n → p h ≡ q h)
    → sum_by f (all_below n p) ≡ sum_by g (filter q (below n))
sum-passing f g p q zero same_f same_p = refl
sum-passing f g p q (suc n) same_f same_p =
    let so_far = sum-passing f g p q n (λ h low. same_f h (omega (arith, low))) (λ h low. same_p h (omega (arith, low))) in
    let one : sum_by f (if p n then n ∷ [] else []) ≡ sum_by g (filter q (n ∷ [])) =
    elim (cases_Bool (q n)) [
      | inl passes ↦ rw (same_p n (omega arith), passes) (omega (arith, same_f n (omega arith)))
      | inr fails ↦ rw (same_p n (omega arith), fails) refl
    ] in
    sum_by-append f (all_below n p) (if p n then n ∷ [] else [])
    ∙ omega (arith, so_far, one)
    ∙ sym (ap (sum_by g) (filter-append q (below n) (n ∷ [])) ∙ sum_by-append g (filter q (below n)) (filter q (n ∷ [])))

-- of terms that are at most m
passing-few : (g : ℕ → ℕ) (q : ℕ → Bool) (m n : ℕ) → ((h : ℕ) → g h ≤ m) → sum_by g (filter q (below n)) ≤ m * n
passing-few g q m zero each = omega arith
passing-few g q m (suc n) each =
    let one : sum_by g (filter q (n ∷ [])) ≤ m =
    elim (cases_Bool (q n)) [
      | inl passes ↦ rw passes (omega (arith, each n))
      | inr fails ↦ rw fails (omega arith)
    ] in
    omega (arith, ap (sum_by g) (filter-append q (below n) (n ∷ [])), sum_by-append g (filter q (below n)) (filter q (n ∷ [])), one, passing-few g q m n each, mul-suc m n)

-- ---- prefectures, in the order of their first appearance

abbrev dealt : ℕ → Text
dealt h = prefecture_name (prefecture_of h)

abbrev known : ℕ → List Text
known n = names_up_to (codes "P") 2 n

with-new : (texts : List Text) (text : Text) → place_of texts text ≡ None → with_text texts text ≡ texts ++ text ∷ []
with-new texts text new = rw new refl

with-there : (texts : List Text) (text : Text) (k : ℕ) → place_of texts text ≡ Some k → with_text texts text ≡ texts
with-there texts text k there = rw there refl

with-dealt : (n : ℕ) → with_text (known (min n 47)) (dealt n) ≡ known (min (suc n) 47)
with-dealt n = elim (cases_lt n 47) [
  | inl early ↦
      let here : n % 47 ≡ n = mod-eq_of_lt early in
      let before : min n 47 ≡ n = omega (arith, early) in
      let after : min (suc n) 47 ≡ suc n = omega (arith, early) in
      let new : place_of (known n) (prefecture_name n) ≡ None = (are_placed (codes "P") 2 n (omega (arith, early))).new n (omega arith) (omega (arith, early)) in
      let more : known n ++ prefecture_name n ∷ [] ≡ known (suc n) =
      ap (λ (ts : List Text). ts ++ prefecture_name n ∷ []) (sym (names-below (codes "P") 2 n)) ∙ sym (one-more prefecture_name n) ∙ names-below (codes "P") 2 (suc n) in
      ap (λ ts. with_text ts (dealt n)) (ap known before) ∙ ap (λ h. with_text (known n) (prefecture_name h)) here
      ∙ with-new (known n) (prefecture_name n) new ∙ more ∙ sym (ap known after)
  | inr late ↦
      let before : min n 47 ≡ 47 = omega (arith, late) in
      let after : min (suc n) 47 ≡ 47 = omega (arith, late) in
      let there = (are_placed (codes "P") 2 47 (omega arith)).placed (n % 47) (mod_below n 47 (omega arith)) in
      ap (λ ts. with_text ts (dealt n)) (ap known before) ∙ with-there (known 47) (dealt n) (n % 47) there ∙ sym (ap known after)
]

each-dealt : (n : ℕ) → each_once (map dealt (below n)) ≡ known (min n 47)
each-dealt zero = refl
each-dealt (suc n) =
    ap each_once (one-more dealt n) ∙ fold-append with_text [] (map dealt (below n)) (dealt n ∷ [])
    ∙ ap (λ (ts : List Text). with_text ts (dealt n)) (each-dealt n) ∙ with-dealt n

module _ (capacities targets : List ℕ) (seats : AreSeats capacities targets) (doctors ranks : List Row) where
  abbrev count : ℕ
  count = length capacities

  abbrev row : ℕ → Row
  row = hospital_row capacities targets

  abbrev roster : RosterData
  roster = roster_of (hospital_rows capacities targets count) doctors ranks

  all_prefectures : each_once (map prefecture_in (map row (below count))) ≡ known 47
  all_prefectures =
      let enough : min count 47 ≡ 47 = omega (arith, seats.many) in
      ap each_once (map-map prefecture_in row (below count)) ∙ each-dealt count ∙ ap known enough

  of_rows : {Y : Type 0} (f : Row → Y) (h : ℕ) (d : Y) → h < count → get_or (map f (map row (below count))) h d ≡ f (row h)
  of_rows f h d low =
      let place = get_or-below count h 0 low in
      ap (λ ys. get_or ys h d) (map-map f row (below count))
      ∙ get_or-map (λ x. f (row x)) (below count) h 0 d (omega (arith, low, length-below count)) ∙ ap (λ x. f (row x)) place

  pub prefectures_are : roster.prefectures ≡ known 47
  unfolding roster_of
  prefectures_are = all_prefectures

  target_at : (h : ℕ) → h < count → slice_index roster.targets h ≡ get_or targets h 0
  unfolding roster_of
  target_at h low = of_rows target_in h 0 low ∙ (target_is capacities targets seats h).value

  pub prefecture_at : (h : ℕ) → h < count → slice_index roster.prefecture_of h ≡ prefecture_of h
  unfolding roster_of
  prefecture_at h low =
      let there = (are_placed (codes "P") 2 47 (omega arith)).placed (h % 47) (mod_below h 47 (omega arith)) in
      let numbers : number_in (known 47) (dealt h) ≡ prefecture_of h = rw there refl in
      ap (λ (ys : List ℕ). get_or ys h 0) (map-map (number_in (each_once (map prefecture_in (map row (below count))))) prefecture_in (map row (below count)))
      ∙ of_rows (λ r. number_in (each_once (map prefecture_in (map row (below count)))) (prefecture_in r)) h 0 low
      ∙ ap (λ (ts : List Text). number_in ts (dealt h)) all_prefectures ∙ numbers

  pub hospitals_are : length roster.hospitals ≡ count
  unfolding roster_of
  hospitals_are = omega (arith, length-map (map row (below count)) name_in, length-map (below count) row, length-below count)

  targets_are : (q : ℕ) → targets_of roster q ≡ whole_sum targets q
  targets_are q =
      rw (hospitals_are, seats.each) (sum-passing (slice_index roster.targets) (λ h. get_or targets h 0) (λ h. slice_index roster.prefecture_of h == q) (λ h. prefecture_of h == q) count target_at
      (λ h low. ap (λ (x : ℕ). x == q) (prefecture_at h low)))

  pub are_caps : AreCaps capacities targets
  are_caps q =
      omega (
        arith,
        seats.few,
        seats.each,
        passing-few (λ h. get_or targets h 0) (λ h. prefecture_of h == q) 10 (length targets) (λ h. omega (arith, seats.small h, seats.within h)),
        passing-few (λ h. get_or capacities h 0) (λ h. prefecture_of h == q) 10 (length capacities) seats.small,
      )

  pub suits : SuitsNation capacities targets roster
  suits = record { prefectures = prefectures_are; caps = are_caps; fit = λ q. omega (arith, targets_are q) }
