-- What is told of some hospitals, from what is counted of each.
use Rattle.std.proofs.Common.{◌≡◌, ◌∙◌, ◌<◌, ◌≤◌, ◌==◌, ℕ, List, [], ◌∷◌, length, get_or, slice_get, sum_by, Option, Some, All, refl, sym, ap, arith}
use Rattle.std.proofs.lemmas.List.Sums.{sum_by-cons}
use Rattle.std.proofs.lemmas.Option.{get_or_from_slice_get}
use Rattle.rm_sets.specs.Sets.{IsIn, below}
use Rattle.rm_sets.proofs.Sets.{IsIn-here, IsIn-later, below-all_below}
use Rattle.rm_sets.proofs.Members.{All-from_members, members_from_All}
use Rattle.rm_sets.proofs.Once.{length-below}
use Rattle.rm_sets.proofs.Sizes.{length-all_below}
use Rattle.rm_base.specs.Text.{Text}
use Rattle.rm_names.specs.Names.{place_of}
use Rattle.rm_roster.specs.Roster.{RosterData, hospitals_in}
use Rattle.rm_policy.specs.Policy.{entry_names}
use Rattle.rm_case.specs.Case.{CaseData}
use Rattle.rm_case.specs.Compiled.{entry_of_prefecture}
use Rattle.rm_report.specs.Counts.{AreEach}
use Rattle.rm_report.specs.Report.{figures_of}
use Rattle.rm_report.specs.Texts.{PlacesData}
use Rattle.rm_report.specs.declared.report.Figures.{Figures}

members-same : (f g : ℕ → ℕ) (hs : List ℕ) → ((h : ℕ) → IsIn h hs → g h ≡ f h) → sum_by g hs ≡ sum_by f hs
members-same f g [] same = refl
members-same f g (h ∷ hs) same =
    omega (arith, sum_by-cons g h hs, sum_by-cons f h hs, same h (IsIn-here h hs), members-same f g hs (λ k i. same k (IsIn-later k h hs i)))

-- the sum of counts is the sum of what they count
pub sums-same : (n : ℕ) (f : ℕ → ℕ) (counts hs : List ℕ) → AreEach n f counts → All (λ h. h < n) hs → sum_by (λ h. get_or counts h 0) hs ≡ sum_by f hs
sums-same n f counts hs each all = members-same f (λ h. get_or counts h 0) hs (λ h i. each.is h (members_from_All (λ k. k < n) hs all h i))

-- the sum of one
pub sum-one : (f : ℕ → ℕ) (h x : ℕ) → x ≡ f h → x ≡ sum_by f (h ∷ [])
sum-one f h x e = omega (arith, e, sum_by-cons f h [])

pub in-prefecture : (r : RosterData) (q : ℕ) → All (λ h. h < length r.hospitals) (hospitals_in r q)
in-prefecture r q = All-from_members (λ h. h < length r.hospitals) (hospitals_in r q) (λ h i. (below-all_below (length r.hospitals) _ h i).0)

pub in-country : (n : ℕ) → All (λ h. h < n) (below n)
in-country n = All-from_members (λ h. h < n) (below n) (λ h i. (below-all_below n _ h i).0)

-- the entry of a prefecture, found by its name
pub entry-found : (c : CaseData) (q : ℕ) (name : Text) (entry : Option ℕ) → slice_get c.roster.prefectures q ≡ Some name → entry ≡ place_of (entry_names c.policy) name
    → entry ≡ entry_of_prefecture c.roster c.policy q
entry-found c q name entry at found =
    found ∙ ap (λ (t : Text). place_of (entry_names c.policy) t) (sym (get_or_from_slice_get c.roster.prefectures q name [] at))

-- figures by their parts
pub told : (c : CaseData) (places : PlacesData) (hs : List ℕ) (f : Figures) → f.capacity ≡ (figures_of c places hs).capacity → f.target ≡ (figures_of c places hs).target
    → f.placed ≡ (figures_of c places hs).placed → f.applicants ≡ (figures_of c places hs).applicants → f.first ≡ (figures_of c places hs).first → f ≡ figures_of c places hs
told c places hs f capacity target placed applicants first = rw (capacity, target, placed, applicants, first) refl

pub few-in : (r : RosterData) (q n : ℕ) → length r.hospitals ≤ n → length (hospitals_in r q) ≤ n
few-in r q n few = omega (arith, few, length-all_below (length r.hospitals) (λ h. get_or r.prefecture_of h 0 == q))

pub few-below : (k n : ℕ) → k ≤ n → length (below k) ≤ n
few-below k n few = omega (arith, few, length-below k)
