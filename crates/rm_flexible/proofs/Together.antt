-- The counts of all regions' hospitals.
use Rattle.std.proofs.Common.{◌≡◌, ℕ, ◌+◌, ◌<◌, ◌≤◌, Bool, true, false, cond, List, [], ◌∷◌, length, get_or, map, eqb, filter, refl, sym, ap, ◌∙◌, subst, ⊎_elim, arith, eq-eqb, eqb-true, length-append}
use Rattle.std.proofs.lemmas.Bool.{cases_lt, cond-true}
use Rattle.std.proofs.lemmas.List.{get_or_default, length-map}
use Rattle.rm_sets.specs.Sets.{IsSetBelow, below}
use Rattle.rm_sets.proofs.Sets.{IsSet-filter}
use Rattle.rm_sets.proofs.Members.{IsIn-from_filter}
use Rattle.rm_sets.proofs.Once.{length-below}
use Rattle.rm_market.specs.Board.{Board, hospital_of, sets_of}
use Rattle.rm_market.specs.Tree.{TreeOf, sets_of_tree}
use Rattle.rm_market.specs.Flexible.{Region, held_at, in_region, kept}
use Rattle.rm_flexible_laws.specs.Region.{no_seat, seat_at, no_region, region_at, IsRegions}
use Rattle.rm_flexible_laws.proofs.ByCounts.{is_of}
use Rattle.rm_flexible_laws.proofs.Tests.{any_at, at_any}
use Rattle.rm_flexible_laws.proofs.Pick.{at_seat}
use Rattle.rm_flexible.specs.Counts.{IsOffered, AreLeft, has_hospital}
use Rattle.rm_flexible.specs.Places.{AreRegions}

-- each hospital is a node
pub hospitals_few : (b : Board) (t : TreeOf) → t.hospitals ≡ length b.ranks → sets_of_tree t ≡ sets_of b → length b.ranks ≤ length b.nodes
hospitals_few b t h s =
    let all = ap length s in
    let e = length-append (map (λ k. k ∷ []) (below t.hospitals)) t.groups in
    let m = length-map (below t.hospitals) (λ k. k ∷ []) in
    let l = length-below t.hospitals in
    let n = length-map b.nodes (λ n. n.leaves) in
    omega (arith, all, e, m, l, n, h)

-- the region of an index
pub region_is : (regions : List Region) (i : ℕ) (r : Region) → i < length regions → r ≡ get_or regions i r → r ≡ region_at regions i
region_is regions i r lt is = is ∙ get_or_default regions i r no_region lt

pub has_seat : (r : Region) (j : ℕ) → j < length r.seats → has_hospital r (seat_at r j).hospital ≡ true
has_seat r j lt = any_at (λ s. eqb s.hospital (seat_at r j).hospital) r.seats no_seat j lt (eq-eqb (seat_at r j).hospital (seat_at r j).hospital refl)

pub seat_from : (r : Region) (h : ℕ) → has_hospital r h ≡ true → (j : ℕ) × (j < length r.seats) × ((seat_at r j).hospital ≡ h)
seat_from r h t = let p = at_any (λ s. eqb s.hospital h) r.seats no_seat t in (p.0, p.1, eqb-true (seat_at r p.0).hospital h p.2)

-- the test of a hospital of another region fails
other_region : (n : ℕ) (f : ℕ → ℕ) (regions : List Region) → IsRegions n f regions → (i k j : ℕ) → i < length regions → k < length regions → (k ≡ i → ⊥) → j < length (region_at regions k).seats →
    has_hospital (region_at regions i) (seat_at (region_at regions k) j).hospital ≡ false
other_region n f regions ok i k j li lk ne lj = at (has_hospital (region_at regions i) (seat_at (region_at regions k) j).hospital) refl
  where
    at : (t : Bool) → has_hospital (region_at regions i) (seat_at (region_at regions k) j).hospital ≡ t → has_hospital (region_at regions i) (seat_at (region_at regions k) j).hospital ≡ false
    at false e = e
    at true e =
        let p = seat_from (region_at regions i) (seat_at (region_at regions k) j).hospital e in
        absurd (ne (ok.one (seat_at (region_at regions k) j).hospital k j i p.0 (record { region = lk; seat = lj; hospital = refl }) (record { region = li; seat = p.1; hospital = p.2 })))

-- ---- clearing

abbrev pub AreClear : List Region → ℕ → List ℕ → Type 0
AreClear regions i counts = (k j : ℕ) → k < i → k < length regions → j < length (region_at regions k).seats → get_or counts (seat_at (region_at regions k) j).hospital 0 ≡ 0

pub clear_more : (regions : List Region) (i : ℕ) (counts new : List ℕ) → AreClear regions i counts → ((h : ℕ) → get_or new h 0 ≡ cond (has_hospital (region_at regions i) h) 0 (get_or counts h 0)) → AreClear regions (i + 1) new
clear_more regions i counts new before step k j lk lr lj =
    ⊎_elim
    (λ old. step (seat_at (region_at regions k) j).hospital ∙ zero_both (has_hospital (region_at regions i) (seat_at (region_at regions k) j).hospital) (get_or counts (seat_at (region_at regions k) j).hospital 0) (before k j old lr lj))
    (λ last.
    let same : k ≡ i = omega (arith, lk, last) in
    step (seat_at (region_at regions k) j).hospital
    ∙ cond-true (has_hospital (region_at regions i) (seat_at (region_at regions k) j).hospital) 0 (get_or counts (seat_at (region_at regions k) j).hospital 0)
    (subst (λ l. has_hospital (region_at regions l) (seat_at (region_at regions k) j).hospital ≡ true) same (has_seat (region_at regions k) j lj)))
    (cases_lt k i)
  where
    zero_both : (t : Bool) (m : ℕ) → m ≡ 0 → cond t 0 m ≡ 0
    zero_both true m e = refl
    zero_both false m e = e

-- ---- what each region keeps of its own

-- the first i regions have taken what they keep
pub record IsPart (b : Board) (regions : List Region) (X : List ℕ) (i : ℕ) (counts : List ℕ) : Type 0 where
  pub kept : (k : ℕ) → k < i → k < length regions → AreLeft b (region_at regions k) X (kept b (region_at regions k) (in_region b (region_at regions k) X)) counts
  pub rest : (k : ℕ) → i ≤ k → k < length regions → AreLeft b (region_at regions k) X [] counts

module _ (b : Board) (n : ℕ) (regions : List Region) (ok : IsRegions n (hospital_of b) regions) (X : List ℕ) (sX : IsSetBelow n X) where
  pub part_more : (i : ℕ) (counts new : List ℕ) → IsPart b regions X i counts → i < length regions →
      ((h : ℕ) → has_hospital (region_at regions i) h ≡ false → get_or new h 0 ≡ get_or counts h 0) →
      ((Y : List ℕ) → IsOffered b (region_at regions i) Y → AreLeft b (region_at regions i) Y [] counts → AreLeft b (region_at regions i) Y (kept b (region_at regions i) Y) new) →
      IsPart b regions X (i + 1) new
  part_more i counts new a li others takes = record {
    kept = λ k lk lr. ⊎_elim
        (λ old j lj. let o = others (seat_at (region_at regions k) j).hospital (other_region n (hospital_of b) regions ok i k j li lr (λ e. omega (arith, old, e)) lj) in let l = a.kept k old lr j lj in omega (arith, o, l))
        (λ last. let same : k ≡ i = omega (arith, lk, last) in subst (λ l. AreLeft b (region_at regions l) X (kept b (region_at regions l) (in_region b (region_at regions l) X)) new) (sym same) now)
        (cases_lt k i);
    rest = λ k le lr j lj.
        let o = others (seat_at (region_at regions k) j).hospital (other_region n (hospital_of b) regions ok i k j li lr (λ e. omega (arith, le, e)) lj) in
        let l = a.rest k (omega (arith, le)) lr j lj in
        omega (arith, o, l);
  }
    where
      mine : List ℕ
      mine = filter (is_of (hospital_of b) (region_at regions i)) X

      same_count : (j : ℕ) → j < length (region_at regions i).seats → held_at b (filter (is_of (hospital_of b) (region_at regions i)) X) (seat_at (region_at regions i) j) ≡ held_at b X (seat_at (region_at regions i) j)
      same_count j lj = ap length (at_seat n (hospital_of b) regions ok i j li lj X sX.ascending)

      now : AreLeft b (region_at regions i) X (kept b (region_at regions i) (in_region b (region_at regions i) X)) new
      now j lj =
          let r = region_at regions i in
          let Y = filter (is_of (hospital_of b) r) X in
          let l = takes Y (record { set = IsSet-filter (is_of (hospital_of b) r) X sX.ascending; inside = λ x h. (IsIn-from_filter (is_of (hospital_of b) r) X x h).1 })
          (λ q lq. a.rest i (omega arith) li q lq ∙ sym (same_count q lq)) j lj in
          l ∙ same_count j lj

-- ---- regions, told by tests

pub tests_from_regions : (n : ℕ) (f : ℕ → ℕ) (regions : List Region) → IsRegions n f regions → AreRegions n f regions
tests_from_regions n f regions ok = record {
  each = ok.each;
  one = ok.one;
  all = λ x lt.
      let p = ok.all x lt in
      let q = p.2 in
      any_at (λ r. has_hospital r (f x)) regions no_region p.0 q.region
      (subst (λ h. has_hospital (region_at regions p.0) h ≡ true) q.hospital (has_seat (region_at regions p.0) p.1 q.seat));
}

pub regions_from_tests : (n : ℕ) (f : ℕ → ℕ) (regions : List Region) → AreRegions n f regions → IsRegions n f regions
regions_from_tests n f regions ok = record {
  each = ok.each;
  one = ok.one;
  all = λ x lt.
      let p = at_any (λ r. has_hospital r (f x)) regions no_region (ok.all x lt) in
      let q = seat_from (region_at regions p.0) (f x) p.2 in
      (p.0, q.0, record { region = p.1; seat = q.1; hospital = q.2 });
}

-- ---- what is left at first

-- once the offered contracts are counted, from 0
pub left_first : (b : Board) (r : Region) (X old counts : List ℕ) → ((j : ℕ) → j < length r.seats → get_or old (seat_at r j).hospital 0 ≡ 0) →
    ((h : ℕ) → get_or counts h 0 ≡ get_or old h 0 + length (filter (λ x. eqb (hospital_of b x) h) X)) → AreLeft b r X [] counts
left_first b r X old counts none counted j lj = let z = none j lj in let c = counted (seat_at r j).hospital in omega (arith, z, c)
