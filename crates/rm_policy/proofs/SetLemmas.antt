-- Sets of numbers that are gathered in a loop.
use Rattle.std.proofs.Common.{◌≡◌, ◌∙◌, ◌+◌, ◌*◌, ◌<◌, ◌≤◌, ◌==◌, ◌||◌, ◌&&◌, ℕ, Bool, List, [], ◌∷◌, ◌++◌, length, take, get_or, refl, ap, sym, subst, arith, inl, inr, ⊎_elim, eqb, nat_lt, nat_cmp}
use Rattle.std.specs.List.{list_any, dedup}
use Rattle.std.specs.List.Sorted.{IsSorted, IsPermutation}
use Rattle.std.specs.List.Retain.{IsFiltered, DiffersFromLast}
use Rattle.std.proofs.Math.Bool.{or-false, and-false, or_assoc, and-or_distrib_left}
use Rattle.std.proofs.lemmas.Bool.{cases_eq, ne_eqb, eq-eqb, lt-ltb, le-ltb, ltb-true, or_cases, and_parts}
use Rattle.std.proofs.lemmas.List.{get_or-map, get_or_past, length-map}
use Rattle.std.proofs.lemmas.List.Filters.{dedup_is}
use Rattle.std.proofs.lemmas.List.Folds.{list_any_more}
use Rattle.std.proofs.lemmas.List.Kept.{Contains-dedup_nat, Contains-from_dedup}
use Rattle.std.proofs.lemmas.List.Sorted.{IsPermutation-sym, Contains-permutation}
use Rattle.std.proofs.lemmas.Map.Keys.{IsStrictlyIncreasing-dedup}
use Rattle.rm_sets.specs.Sets.{has, IsIn, IsSet, all_below, below}
use Rattle.rm_sets.proofs.Sets.{same_tests, below-all_below, has-append, has-all_below, IsSet-all_below, same_sets}
use Rattle.rm_sets.proofs.Sizes.{length_below, length-all_below}
use Rattle.rm_sets.proofs.Members.{IsIn-from_Contains, Contains-from_IsIn}
use Rattle.rm_sets.proofs.Once.{get_or-below, length-below}
use Rattle.rm_roster.specs.Roster.{RosterData, IsRoster, hospitals_in}
use Rattle.rm_policy.specs.Gathered.{Gathers, IsGathered}
use Rattle.rm_policy.specs.Groups.{by_prefecture}

eqb_sym : (m n : ℕ) → (m == n) ≡ (n == m)
eqb_sym m n = elim (cases_eq m n) [
  | inl same ↦ rw same refl
  | inr other ↦ rw (ne_eqb m n other, ne_eqb n m (λ e. other (sym e))) refl
]

has_contains : (n : ℕ) (xs : List ℕ) → list_any (λ x. x == n) xs ≡ has n xs
has_contains n [] = refl
has_contains n (x ∷ xs) = rw (eqb_sym x n, has_contains n xs) refl

-- ---- numbers that are gathered

-- sorted, and each once
pub settled-set : (mid new : List ℕ) → IsSorted nat_cmp mid → IsFiltered (DiffersFromLast eqb) [] mid new → IsSet new
settled-set mid new sorted kept = subst IsSet (sym (dedup_is eqb mid new kept)) (IsStrictlyIncreasing-dedup mid sorted)

pub settled-same : (old mid new : List ℕ) → IsPermutation old mid → IsFiltered (DiffersFromLast eqb) [] mid new → (n : ℕ) → has n new ≡ has n old
settled-same old mid new moved kept n =
    rw (dedup_is eqb mid new kept)
    (same_tests (has n (dedup eqb mid)) (has n old)
    (λ i. IsIn-from_Contains old n (Contains-permutation mid old n (IsPermutation-sym old mid moved) (Contains-from_dedup eqb mid n (Contains-from_IsIn (dedup eqb mid) n i))))
    (λ i. IsIn-from_Contains (dedup eqb mid) n (Contains-dedup_nat mid n (Contains-permutation old mid n moved (Contains-from_IsIn old n i)))))

-- one more number below the count
gathers-one : (count : ℕ) (L : List ℕ) (x : ℕ) → x < count → Gathers count L (L ++ x ∷ []) (λ n. n == x)
gathers-one count L x lt = record {
  members = λ n. has-append L (x ∷ []) n ∙ ap (λ b. has n L || b) (elim (cases_eq n x) [
    | inl same ↦ rw (same, eq-eqb x x refl, lt-ltb x count lt) refl
    | inr other ↦ rw (ne_eqb n x other) (sym (and-false (nat_lt n count)))
  ]);
}

-- one that is not below it
gathers-past : (count : ℕ) (L : List ℕ) (x : ℕ) → count ≤ x → Gathers count L L (λ n. n == x)
gathers-past count L x past = record {
  members = λ n. (elim (cases_eq n x) [
    | inl same ↦ rw (same, le-ltb x count past) (sym (or-false (has x L)))
    | inr other ↦ rw (ne_eqb n x other, and-false (nat_lt n count)) (sym (or-false (has n L)))
  ]);
}

-- more after that, where the tests together are the whole test
gathers-more : (count : ℕ) (old mid new : List ℕ) (first second both : ℕ → Bool) → Gathers count old mid first → Gathers count mid new second → ((n : ℕ) → both n ≡ (first n || second n)) → Gathers count old new both
gathers-more count old mid new first second both a b together = record {
  members = λ n. b.members n ∙ rw (a.members n, together n) (or_assoc (has n old) (nat_lt n count && first n) (nat_lt n count && second n) ∙ ap (λ t. has n old || t) (sym (and-or_distrib_left (nat_lt n count) (first n) (second n))));
}

has_more : (n : ℕ) (xs : List ℕ) (i d : ℕ) → i < length xs → has n (take (i + 1) xs) ≡ (has n (take i xs) || (n == get_or xs i d))
has_more n xs i d lt = sym (has_contains n (take (i + 1) xs)) ∙ list_any_more (λ x. x == n) xs i d lt ∙ rw (has_contains n (take i xs), eqb_sym (get_or xs i d) n) refl

-- one more number of a list
pub listed-more : (count : ℕ) (old mid : List ℕ) (xs : List ℕ) (i : ℕ) → i < length xs → Gathers count old mid (λ n. has n (take i xs)) → get_or xs i 0 < count → Gathers count old (mid ++ get_or xs i 0 ∷ []) (λ n. has n (take (i + 1) xs))
listed-more count old mid xs i lt so_far fits =
    gathers-more count old mid (mid ++ get_or xs i 0 ∷ []) (λ n. has n (take i xs)) (λ n. n == get_or xs i 0) (λ n. has n (take (i + 1) xs)) so_far (gathers-one count mid (get_or xs i 0) fits) (λ n. has_more n xs i 0 lt)

pub listed-past : (count : ℕ) (old mid : List ℕ) (xs : List ℕ) (i : ℕ) → i < length xs → Gathers count old mid (λ n. has n (take i xs)) → count ≤ get_or xs i 0 → Gathers count old mid (λ n. has n (take (i + 1) xs))
listed-past count old mid xs i lt so_far past =
    gathers-more count old mid mid (λ n. has n (take i xs)) (λ n. n == get_or xs i 0) (λ n. has n (take (i + 1) xs)) so_far (gathers-past count mid (get_or xs i 0) past) (λ n. has_more n xs i 0 lt)

gathered-below : (count : ℕ) (old new : List ℕ) (test : ℕ → Bool) → IsGathered count old → Gathers count old new test → (n : ℕ) → IsIn n new → n < count
gathered-below count old new test few more n i =
    ⊎_elim (few.below n) (λ both. ltb-true n count (and_parts (nat_lt n count) (test n) both).0)
    (or_cases (has n old) (nat_lt n count && test n) (sym (more.members n) ∙ i))

-- what was gathered is few
pub few-gathered : (count : ℕ) (old new : List ℕ) (test : ℕ → Bool) → IsGathered count old → Gathers count old new test → length new ≤ 2 * count → IsGathered count new
few-gathered count old new test few more short = record { below = gathered-below count old new test few more; few = short }

-- what was gathered, and then settled, is few
pub few-settled : (count : ℕ) (old mid new : List ℕ) (test : ℕ → Bool) → IsGathered count old → Gathers count old mid test → IsSet new → ((n : ℕ) → has n new ≡ has n mid) → IsGathered count new
few-settled count old mid new test few more set same =
    let below : (n : ℕ) → IsIn n new → n < count = λ n i. gathered-below count old mid test few more n (sym (same n) ∙ i) in
    let most = length_below count new (record { ascending = set; below = below }) in
    record { below = below; few = omega (arith, most) }

-- what was gathered from nothing, by three tests, as a set
pub gathered-union : (count : ℕ) (a b c items : List ℕ) (first second third : ℕ → Bool) → Gathers count [] a first → Gathers count a b second → Gathers count b c third → IsSet items → ((n : ℕ) → has n items ≡ has n c)
    → items ≡ all_below count (λ k. first k || second k || third k)
gathered-union count a b c items first second third one two three set same =
    let test : ℕ → Bool = λ k. first k || second k || third k in
    let both = gathers-more count [] a b first second (λ k. first k || second k) one two (λ k. refl) in
    let all = gathers-more count [] b c (λ k. first k || second k) third test both three (λ k. refl) in
    same_sets items (all_below count test) set (IsSet-all_below count test) (λ n. same n ∙ all.members n ∙ sym (has-all_below count test n))

-- ---- the hospitals of a prefecture

pub prefecture-set : (r : RosterData) (p : ℕ) → p < length r.prefectures → get_or (by_prefecture r) p [] ≡ hospitals_in r p
prefecture-set r p lt =
    let n = length r.prefectures in
    get_or-map (hospitals_in r) (below n) p 0 [] (omega (arith, lt, length-below n)) ∙ ap (hospitals_in r) (get_or-below n p 0 lt)

pub no-prefecture : (r : RosterData) (p : ℕ) → length r.prefectures ≤ p → get_or (by_prefecture r) p [] ≡ []
no-prefecture r p le =
    let n = length r.prefectures in
    get_or_past (by_prefecture r) p [] (omega (arith, le, length-map (below n) (hospitals_in r), length-below n))

-- no number is added where there is no prefecture
pub gathers-none : (count : ℕ) (L set : List ℕ) → set ≡ [] → Gathers count L L (λ n. has n set)
gathers-none count L set e = record { members = λ n. rw (e, and-false (nat_lt n count)) (sym (or-false (has n L))) }

pub hospital-low : (r : RosterData) (p : ℕ) (members : List ℕ) → members ≡ hospitals_in r p → (h : ℕ) → IsIn h members → h < length r.hospitals
hospital-low r p members is h i = (below-all_below (length r.hospitals) (λ k. get_or r.prefecture_of k 0 == p) h (rw is at i)).0

pub hospitals-few : (r : RosterData) (p : ℕ) (members : List ℕ) → IsRoster r → members ≡ hospitals_in r p → length members ≤ 10000
hospitals-few r p members roster is =
    let short : length members ≤ length r.hospitals = rw is (length-all_below (length r.hospitals) (λ k. get_or r.prefecture_of k 0 == p)) in
    omega (arith, short, roster.few_hospitals)
