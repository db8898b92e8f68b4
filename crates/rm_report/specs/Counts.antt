-- What is counted for a report, in one buffer each.
use Rattle.std.specs.Prelude.{◌≡◌, ℕ, ◌<◌, ◌≤◌, ◌+◌, Bool, true, false, ◌==◌, List, [], ◌∷◌, length, count_by, get_or, set, Option, Some, None, if◌then◌else◌}
use Rattle.std.specs.List.{list_any}
use Rattle.rm_sets.specs.Sets.{below}
use Rattle.rm_market.specs.Board.{hospital_of}
use Rattle.rm_roster.specs.Roster.{hospitals_in}
use Rattle.rm_case.specs.Case.{CaseData, market}
use Rattle.rm_report.specs.Texts.{PlacesData}
use Rattle.rm_report.specs.Report.{listed_by, placed_at, first_at, applicants_at}
use Rattle.rm_report.specs.declared.counts.Counts.{Counts}
use Rattle.rm_report.specs.declared.counts.Applicants.{Applicants}
use Rattle.rm_report.specs.declared.counts.Marks.{Marks}

-- a count for each of n numbers
pub record AreEach (n : ℕ) (f : ℕ → ℕ) (counts : List ℕ) : Type 0 where
  pub each : length counts ≡ n
  pub is : (k : ℕ) → k < n → get_or counts k 0 ≡ f k

-- one more at a number, if there is one
abbrev pub one_more : List ℕ → Option ℕ → List ℕ
one_more counts None = counts
one_more counts (Some k) = set counts k (get_or counts k 0 + 1)

-- ---- doctors that count once

abbrev pub one_if : Bool → ℕ
one_if b = if b then 1 else 0

-- the doctor marked last, by his number from 1: doctor d where he was marked, and else one before him, or 0 for none
abbrev pub IsLast : ℕ → Bool → ℕ → Type 0
IsLast d true last = last ≡ d + 1
IsLast d false last = last ≤ d

-- marks at n keys: so many doctors before doctor d, and he himself where he was seen
pub record AreMarks (n d : ℕ) (before : ℕ → ℕ) (seen : ℕ → Bool) (counts last : List ℕ) : Type 0 where
  pub count_each : length counts ≡ n
  pub last_each : length last ≡ n
  pub count : (k : ℕ) → k < n → get_or counts k 0 ≡ before k + one_if (seen k)
  pub last_is : (k : ℕ) → k < n → IsLast d (seen k) (get_or last k 0)

-- one of these contracts has this key
abbrev pub has_key : (ℕ → ℕ) → List ℕ → ℕ → Bool
has_key key contracts k = list_any (λ x. key x == k) contracts

-- how many of the first d doctors list a contract that has this key
abbrev pub listing : CaseData → (ℕ → ℕ) → ℕ → ℕ → ℕ
listing c key d k = count_by (λ e. has_key key (listed_by c e) k) (below d)

-- marks of the first d doctors, and of these contracts of doctor d
abbrev pub AreMarked : CaseData → (ℕ → ℕ) → ℕ → ℕ → List ℕ → Marks → Type 0
AreMarked c key n d contracts marks = AreMarks n d (listing c key d) (has_key key contracts) marks.counts.items marks.last.items

-- the hospital of a contract, and its prefecture
abbrev pub hospital_key : CaseData → ℕ → ℕ
hospital_key c x = hospital_of (market c).board x

abbrev pub prefecture_key : CaseData → ℕ → ℕ
prefecture_key c x = get_or c.roster.prefecture_of (hospital_of (market c).board x) 0

-- ---- all that is counted

-- per hospital and per prefecture, and of the country, the doctors who apply there
pub record AreApplicants (c : CaseData) (a : Applicants) : Type 0 where
  pub hospitals : AreEach (length c.roster.hospitals) (λ h. applicants_at c (h ∷ [])) a.hospitals.items
  pub prefectures : AreEach (length c.roster.prefectures) (λ q. applicants_at c (hospitals_in c.roster q)) a.prefectures.items
  pub country : a.country ≡ applicants_at c (below (length c.roster.hospitals))

-- and per hospital those who are placed there, and who have it first
pub record AreCounts (c : CaseData) (places : PlacesData) (k : Counts) : Type 0 where
  pub placed : AreEach (length c.roster.hospitals) (placed_at c places) k.placed.items
  pub first : AreEach (length c.roster.hospitals) (first_at c places) k.first.items
  pub applicants : AreApplicants c k.applicants
