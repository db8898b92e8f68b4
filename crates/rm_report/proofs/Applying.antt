-- The listed contracts of the doctors of a case, and who applies where.
use Rattle.std.proofs.Common.{◌≡◌, ◌∙◌, ◌+◌, ◌<◌, ◌≤◌, ◌==◌, ◌&&◌, ◌||◌, ℕ, List, [], ◌∷◌, Bool, true, false, length, get_or, slice_get, count_by, Option, Some, None, IfSome, refl, sym, ap, arith}
use Rattle.std.specs.List.{list_any}
use Rattle.std.specs.Option.{option_map_or}
use Rattle.std.proofs.lemmas.Bool.{eqb-true, lt-ltb}
use Rattle.std.proofs.lemmas.List.Elements.{All-get_or}
use Rattle.std.proofs.lemmas.Option.{get_or_from_slice_get, slice_get-get_or}
use Rattle.rm_sets.specs.Sets.{has, IsIn, below}
use Rattle.rm_sets.proofs.Sets.{has-all_below, IsIn-here, IsIn-later}
use Rattle.rm_sets.proofs.Members.{IsIn-get_or}
use Rattle.rm_market.specs.Board.{contract_count, hospital_of}
use Rattle.rm_market.specs.Market.{wishes_of}
use Rattle.rm_market_laws.proofs.Wishes.{are_wishes, listed_long}
use Rattle.rm_board_laws.proofs.Contracts.{hospital_ranked}
use Rattle.rm_roster.specs.Roster.{hospitals_in}
use Rattle.rm_case.specs.Case.{CaseData, IsCase, market}
use Rattle.rm_report.specs.Counts.{AreEach, AreMarks, has_key, hospital_key, listing, one_if, prefecture_key}
use Rattle.rm_report.specs.Report.{applicants_at, applies_at, has_first, has_place, listed_by}
use Rattle.rm_report.specs.Texts.{AreHospitals, PlacesData}
use Rattle.rm_report.proofs.ContractNames.{ranks-each}
use Rattle.rm_report.proofs.Counted.{count-alike, count-next, marks-next}

-- ---- the listed contracts of a doctor

pub listed-each : (c : CaseData) → IsCase c → length (wishes_of (market c)).listed ≡ length c.roster.doctors
listed-each c is = listed_long (market c) is.market ∙ is.roster.list_each

listed-in : (c : CaseData) (d x : ℕ) → IsCase c → d < length c.roster.doctors → IsIn x (listed_by c d) → x < contract_count (market c).board
listed-in c d x is low inside =
    let w = are_wishes (market c) is.market in
    omega (arith, (w.lists d (rw (listed-each c is) low)).below x inside, w.contracts)

pub listed-below : (c : CaseData) (d i : ℕ) → IsCase c → d < length c.roster.doctors → i < length (listed_by c d) → get_or (listed_by c d) i 0 < contract_count (market c).board
listed-below c d i is low within = listed-in c d (get_or (listed_by c d) i 0) is low (IsIn-get_or (listed_by c d) i 0 within)

hospital-low : (c : CaseData) (d x : ℕ) → IsCase c → d < length c.roster.doctors → IsIn x (listed_by c d) → hospital_of (market c).board x < length c.roster.hospitals
hospital-low c d x is low inside = rw (ranks-each c is) at (hospital_ranked (market c).board x (listed-in c d x is low inside))

pub prefecture-low : (c : CaseData) (h : ℕ) → IsCase c → h < length c.roster.hospitals → get_or c.roster.prefecture_of h 0 < length c.roster.prefectures
prefecture-low c h is low = All-get_or (λ p. p < length c.roster.prefectures) c.roster.prefecture_of h 0 (rw is.roster.prefecture_each low) is.roster.prefecture_of

-- ---- the place of a doctor

pub place-below : (n : ℕ) (places : PlacesData) (d : ℕ) (place : Option ℕ) → AreHospitals n places → d < length places → slice_get places d ≡ Some place → IfSome place (λ h. h < n)
place-below n places d place all low is = rw (get_or_from_slice_get places d place None is) at (All-get_or (λ o. IfSome o (λ h. h < n)) places d None low all)

pub place-told : (places : PlacesData) (d k : ℕ) (place : Option ℕ) → slice_get places d ≡ Some place → has_place places k d ≡ option_map_or (λ g. g == k) place false
place-told places d k place is = ap (λ (o : Option ℕ). option_map_or (λ g. g == k) o false) (get_or_from_slice_get places d place None is)

-- two numbers that differ are not both k, and one that equals another is k with it
not-both : (g h k : ℕ) → (g ≡ h → ⊥) → ((h == k) && (g == k)) ≡ false
not-both g h k differ = by (h == k) (g == k) refl refl
  where
    by : (a b : Bool) → (h == k) ≡ a → (g == k) ≡ b → (a && b) ≡ false
    by true true e f = absurd (differ (eqb-true g k f ∙ sym (eqb-true h k e)))
    by true false e f = refl
    by false b e f = refl

itself : (b : Bool) → (b && b) ≡ b
itself true = refl
itself false = refl

first-at : (c : CaseData) (d k : ℕ) → 0 < length (listed_by c d) → has_first c k d ≡ (hospital_of (market c).board (get_or (listed_by c d) 0 0) == k)
first-at c d k some = ap (λ (o : Option ℕ). option_map_or (λ x. hospital_of (market c).board x == k) o false) (slice_get-get_or (listed_by c d) 0 0 some)

pub first-differs : (c : CaseData) (places : PlacesData) (d h g k : ℕ) → slice_get places d ≡ Some (Some h) → 0 < length (listed_by c d)
    → g ≡ hospital_of (market c).board (get_or (listed_by c d) 0 0) → (g ≡ h → ⊥) → (has_place places k d && has_first c k d) ≡ false
first-differs c places d h g k is some told differ = rw (place-told places d k (Some h) is, first-at c d k some, ← told) (not-both g h k differ)

pub first-same : (c : CaseData) (places : PlacesData) (d h g k : ℕ) → slice_get places d ≡ Some (Some h) → 0 < length (listed_by c d)
    → g ≡ hospital_of (market c).board (get_or (listed_by c d) 0 0) → g ≡ h → (has_place places k d && has_first c k d) ≡ (h == k)
first-same c places d h g k is some told same = rw (place-told places d k (Some h) is, first-at c d k some, ← told, same) (itself (h == k))

-- ---- who applies

or-false : (b : Bool) → (b || false) ≡ b
or-false true = refl
or-false false = refl

any-alike : (p q : ℕ → Bool) (xs : List ℕ) → ((x : ℕ) → IsIn x xs → p x ≡ q x) → list_any p xs ≡ list_any q xs
any-alike p q [] h = refl
any-alike p q (x ∷ xs) h = rw (h x (IsIn-here x xs), any-alike p q xs (λ y i. h y (IsIn-later y x xs i))) refl

-- keys that tell the same hospitals count the same doctors
alike : (c : CaseData) (key : ℕ → ℕ) (k : ℕ) (hs : List ℕ) → IsCase c
    → ((x : ℕ) → hospital_of (market c).board x < length c.roster.hospitals → (key x == k) ≡ has (hospital_of (market c).board x) hs)
    → listing c key (length c.roster.doctors) k ≡ applicants_at c hs
alike c key k hs is same =
    count-alike (λ e. has_key key (listed_by c e) k) (applies_at c hs) (length c.roster.doctors)
    (λ e low. any-alike (λ x. key x == k) (λ x. has (hospital_of (market c).board x) hs) (listed_by c e) (λ x inside. same x (hospital-low c e x is low inside)))

at-hospital : (c : CaseData) (h : ℕ) → IsCase c → listing c (hospital_key c) (length c.roster.doctors) h ≡ applicants_at c (h ∷ [])
at-hospital c h is = alike c (hospital_key c) h (h ∷ []) is (λ x low. sym (or-false (hospital_of (market c).board x == h)))

at-prefecture : (c : CaseData) (q : ℕ) → IsCase c → listing c (prefecture_key c) (length c.roster.doctors) q ≡ applicants_at c (hospitals_in c.roster q)
at-prefecture c q is =
    alike c (prefecture_key c) q (hospitals_in c.roster q) is
    (λ x low. sym (has-all_below (length c.roster.hospitals) (λ h. get_or c.roster.prefecture_of h 0 == q) (hospital_of (market c).board x)
    ∙ ap (λ b. b && (prefecture_key c x == q)) (lt-ltb (hospital_of (market c).board x) (length c.roster.hospitals) low)))

-- ---- from marks of all doctors to counts

marks-all : (c : CaseData) (n : ℕ) (key : ℕ → ℕ) (f : ℕ → ℕ) (d : ℕ) (counts last : List ℕ) → d ≡ length c.roster.doctors
    → AreMarks n d (listing c key d) (has_key key []) counts last → ((k : ℕ) → listing c key (length c.roster.doctors) k ≡ f k) → AreEach n f counts
marks-all c n key f d counts last all marks same =
    record { each = marks.count_each; is = λ k lt. omega (arith, marks.count k lt, ap (λ e. listing c key e k) all, same k) }

pub hospitals-all : (c : CaseData) (d : ℕ) (counts last : List ℕ) → IsCase c → d ≡ length c.roster.doctors
    → AreMarks (length c.roster.hospitals) d (listing c (hospital_key c) d) (has_key (hospital_key c) []) counts last
    → AreEach (length c.roster.hospitals) (λ h. applicants_at c (h ∷ [])) counts
hospitals-all c d counts last is all marks = marks-all c _ (hospital_key c) _ d counts last all marks (λ h. at-hospital c h is)

pub prefectures-all : (c : CaseData) (d : ℕ) (counts last : List ℕ) → IsCase c → d ≡ length c.roster.doctors
    → AreMarks (length c.roster.prefectures) d (listing c (prefecture_key c) d) (has_key (prefecture_key c) []) counts last
    → AreEach (length c.roster.prefectures) (λ q. applicants_at c (hospitals_in c.roster q)) counts
prefectures-all c d counts last is all marks = marks-all c _ (prefecture_key c) _ d counts last all marks (λ q. at-prefecture c q is)

-- the marks of a doctor's contracts are those of the next doctor
pub marks-doctor : (c : CaseData) (n d : ℕ) (key : ℕ → ℕ) (contracts counts last : List ℕ) → contracts ≡ listed_by c d
    → AreMarks n d (listing c key d) (has_key key contracts) counts last → AreMarks n (d + 1) (listing c key (d + 1)) (has_key key []) counts last
marks-doctor c n d key contracts counts last told marks =
    marks-next n d (listing c key d) (listing c key (d + 1)) (has_key key contracts) counts last marks
    (λ k. count-next (λ e. has_key key (listed_by c e) k) d ∙ ap (λ (xs : List ℕ). listing c key d k + one_if (has_key key xs k)) (sym told))

-- a doctor applies in the country where he lists any contract
pub applies-somewhere : (c : CaseData) (d : ℕ) (list : List ℕ) → IsCase c → d < length c.roster.doctors → list ≡ listed_by c d → 0 < length list
    → applies_at c (below (length c.roster.hospitals)) d ≡ true
applies-somewhere c d list is low told some = rw (← told) (by list refl some)
  where
    by : (xs : List ℕ) → xs ≡ list → 0 < length xs → list_any (λ x. has (hospital_of (market c).board x) (below (length c.roster.hospitals))) xs ≡ true
    by [] e few = absurd (omega (arith, few))
    by (x ∷ xs) e few =
        let lt = hospital-low c d x is low (rw (← told, ← e) (IsIn-here x xs)) in
        rw (has-all_below (length c.roster.hospitals) (λ h. true) (hospital_of (market c).board x), lt-ltb (hospital_of (market c).board x) (length c.roster.hospitals) lt) refl

pub applies-nowhere : (c : CaseData) (hs : List ℕ) (d : ℕ) (list : List ℕ) → list ≡ listed_by c d → length list ≤ 0 → applies_at c hs d ≡ false
applies-nowhere c hs d list told none = rw (← told) (by list none)
  where
    by : (xs : List ℕ) → length xs ≤ 0 → list_any (λ x. has (hospital_of (market c).board x) hs) xs ≡ false
    by [] few = refl
    by (x ∷ xs) few = absurd (omega (arith, few))

pub country-more : (c : CaseData) (d count next : ℕ) (list : List ℕ) → IsCase c → d < length c.roster.doctors → list ≡ listed_by c d → 0 < length list
    → count ≡ count_by (applies_at c (below (length c.roster.hospitals))) (below d) → next ≡ count + 1 → next ≡ count_by (applies_at c (below (length c.roster.hospitals))) (below (d + 1))
country-more c d count next list is low told some so_far more =
    let all = below (length c.roster.hospitals) in
    omega (arith, so_far, more, count-next (applies_at c all) d, ap one_if (applies-somewhere c d list is low told some))

pub country-same : (c : CaseData) (d count next : ℕ) (list : List ℕ) → list ≡ listed_by c d → length list ≤ 0
    → count ≡ count_by (applies_at c (below (length c.roster.hospitals))) (below d) → next ≡ count → next ≡ count_by (applies_at c (below (length c.roster.hospitals))) (below (d + 1))
country-same c d count next list told none so_far more =
    let all = below (length c.roster.hospitals) in
    omega (arith, so_far, more, count-next (applies_at c all) d, ap one_if (applies-nowhere c all d list told none))
