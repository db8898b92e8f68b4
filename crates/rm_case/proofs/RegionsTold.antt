-- The regions of a case, as they are told.
use Rattle.std.proofs.Common.{◌≡◌, ◌+◌, ◌*◌, ◌<◌, ◌≤◌, ◌==◌, ℕ, ℤ, Bool, true, false, IsTrue, List, [], length, get_or, Some, None, refl, sym, ap, arith, subst, All}
use Rattle.std.specs.Prelude.{slice_get}
use Rattle.std.specs.List.{list_any}
use Rattle.std.proofs.lemmas.List.Elements.{All-map, All-nil}
use Rattle.std.proofs.lemmas.Option.{get_or_from_slice_get}
use Rattle.rm_flexible.specs.Counts.{AreBelow}
use Rattle.rm_flexible_laws.specs.Region.{region_at}
use Rattle.rm_flexible_laws.proofs.Counts.{filter_all}
use Rattle.rm_flexible_laws.proofs.Results.{kept_is_best}
use Rattle.rm_market.specs.Best.{IsBest, values_of}
use Rattle.rm_market.specs.Flexible.{in_region, is_seat_of, kept}
use Rattle.rm_policy.specs.Policy.{PolicyData, IsPolicy}
use Rattle.rm_policy.specs.Top.{is_flexible}
use Rattle.rm_roster.specs.Roster.{RosterData, IsRoster, hospitals_in}
use Rattle.rm_sets.specs.Sets.{below}
use Rattle.rm_sets.proofs.Members.{All-from_members, IsIn-get_or, members_from_All}
use Rattle.rm_sets.proofs.Sets.{below-all_below}
use Rattle.rm_sets.proofs.Sizes.{length-all_below}
use Rattle.rm_case.specs.Case.{CaseData, IsCase, market, regions}
use Rattle.rm_case.specs.Compiled.{capacities_in, cap_of_prefecture, compiled_board, entry_of_prefecture, order_of_prefecture, region_of, regions_of, seat_of}
use Rattle.rm_case.specs.Regions.{AreRegionsOf, KeepBest}
use Rattle.rm_case.specs.Suits.{SuitsRoster}
use Rattle.rm_case.proofs.OrderLemmas.{entry_named}
use Rattle.rm_case.proofs.TurnLemmas.{in_order}

-- ---- one region

-- its hospitals are few, each of the roster, with a bounded capacity
pub hospital_known : (r : RosterData) (q i : ℕ) → i < length (hospitals_in r q) → get_or (hospitals_in r q) i 0 < length r.hospitals
hospital_known r q i lt = (below-all_below (length r.hospitals) (λ h. get_or r.prefecture_of h 0 == q) (get_or (hospitals_in r q) i 0) (IsIn-get_or (hospitals_in r q) i 0 lt)).0

pub sum_fits : (r : RosterData) (q i total capacity : ℕ) → IsRoster r → i < length (hospitals_in r q) → total ≤ i * 10000 → capacity ≡ get_or r.capacities (get_or (hospitals_in r q) i 0) 0 → total + capacity ≤ 100000000
sum_fits r q i total capacity roster lt le is =
    let short = length-all_below (length r.hospitals) (λ h. get_or r.prefecture_of h 0 == q) in
    let known = hospital_known r q i lt in
    let bound = roster.capacities (get_or (hospitals_in r q) i 0) 0 (omega (arith, known, roster.capacity_each)) in
    omega (arith, short, roster.few_hospitals, lt, le, is, bound)

-- its cap, with and without an entry
pub entry_cap : (r : RosterData) (p : PolicyData) (q g : ℕ) (steps : List ℤ) → entry_of_prefecture r p q ≡ Some g → slice_get p.groups.steps g ≡ Some steps → length steps ≡ cap_of_prefecture r p q
entry_cap r p q g steps is at = rw is (ap length (sym (get_or_from_slice_get p.groups.steps g steps [] at)))

pub free_cap : (r : RosterData) (p : PolicyData) (q n : ℕ) → entry_of_prefecture r p q ≡ None → n ≡ capacities_in r q → n ≡ cap_of_prefecture r p q
free_cap r p q n none is = rw none is

pub entry_within : (r : RosterData) (p : PolicyData) (q g : ℕ) → IsPolicy p → entry_of_prefecture r p q ≡ Some g → g < length p.groups.members
entry_within r p q g policy is = omega (arith, (entry_named r p q g is).0, policy.few_orders)

-- ---- all regions

hospitals_below : (r : RosterData) (p : PolicyData) (q : ℕ) → IsRoster r → SuitsRoster r p → q < length r.prefectures → AreBelow (length r.ranks) (region_of r p q)
hospitals_below r p q roster fits lt =
    All-map (λ s. s.hospital < length r.ranks) (seat_of r) (order_of_prefecture r p q)
    (All-from_members (λ h. h < length r.ranks) (order_of_prefecture r p q) (λ h i. omega (arith, (in_order r p q h fits lt i).0, roster.rank_each)))

all_hospitals_below : (r : RosterData) (p : PolicyData) (c : Bool) → is_flexible p.kind ≡ c → IsRoster r → SuitsRoster r p → All (AreBelow (length r.ranks)) (regions_of r p)
unfolding regions_of
all_hospitals_below r p true kind roster fits =
    rw kind
    (All-map (AreBelow (length r.ranks)) (region_of r p) (below (length r.prefectures))
    (All-from_members (λ q. AreBelow (length r.ranks) (region_of r p q)) (below (length r.prefectures))
    (λ q i. hospitals_below r p q roster fits (below-all_below (length r.prefectures) (λ k. true) q i).0)))
all_hospitals_below r p false kind roster fits = rw kind (All-nil (AreBelow (length r.ranks)))

pub regions_below : (c : CaseData) → IsCase c → All (AreBelow (length (market c).board.ranks)) (regions c)
unfolding compiled_board
regions_below c case = all_hospitals_below c.roster c.policy (is_flexible c.policy.kind) refl case.roster case.suits

pub no_regions : (r : RosterData) (p : PolicyData) → is_flexible p.kind ≡ false → regions_of r p ≡ []
unfolding regions_of
no_regions r p kind = rw kind refl

-- what each keeps of its applicants is their best subset
keep_best : (c : CaseData) → IsCase c → is_flexible c.policy.kind ≡ true → KeepBest (market c).board (regions c)
keep_best c case kind i X lt are =
    let b = (market c).board in
    let r = region_at (regions c) i in
    let made : AreRegionsOf b (regions c) = case.regions kind in
    let all : in_region b r X ≡ X = filter_all (λ x. list_any (is_seat_of b x) r.seats) X are.set.ascending (members_from_All (λ x. IsTrue (list_any (is_seat_of b x) r.seats)) X are.inside) in
    subst (λ Y. IsBest (values_of b) Y (kept b r Y)) all
    (kept_is_best b (regions c) made.lawful (length (market c).lists) case.market.board made.compiled i X lt are.set)

pub regions_keep_best : (c : CaseData) → IsCase c → KeepBest (market c).board (regions c)
regions_keep_best c case = by (is_flexible c.policy.kind) refl
  where
    by : (k : Bool) → is_flexible c.policy.kind ≡ k → KeepBest (market c).board (regions c)
    by true kind = keep_best c case kind
    by false kind = λ i X lt are. absurd (omega (arith, lt, ap length (no_regions c.roster c.policy kind)))
