-- What is kept at each hospital is the front of the offered contracts, as many as are not left.
use Rattle.std.proofs.Common.{◌≡◌, ℕ, ◌+◌, ◌*◌, ◌<◌, Bool, true, false, List, length, get_or, eqb, ltb, filter, refl, sym, ap, ◌∙◌, subst, ⊎_elim, arith, eq-eqb, eqb-true}
use Rattle.std.proofs.lemmas.Bool.{cases_eq, cases_lt, lt-ltb, ltb-true}
use Rattle.std.proofs.lemmas.List.Sums.{length-filter}
use Rattle.rm_sets.specs.Sets.{has, IsIn, IsSet, IsSetBelow, IsWithin}
use Rattle.rm_sets.proofs.Sets.{cases_has, not_both, same_tests, same_within, IsSet-filter}
use Rattle.rm_sets.proofs.Members.{IsIn-filter, IsIn-from_filter}
use Rattle.rm_sets.proofs.Sizes.{length_within, length_less}
use Rattle.rm_market.specs.Board.{Board, hospital_of}
use Rattle.rm_market.specs.Flexible.{Region, kept, flexible, in_region}
use Rattle.rm_flexible_laws.specs.Region.{seat_at, region_at, IsRegion, IsRegions}
use Rattle.rm_flexible_laws.proofs.ByCounts.{count_at, is_of}
use Rattle.rm_flexible_laws.proofs.Counts.{rank}
use Rattle.rm_flexible_laws.proofs.First.{above, above-rank}
use Rattle.rm_flexible_laws.proofs.Loop.{IsAfter}
use Rattle.rm_flexible_laws.proofs.Pick.{after_all, kept_is, greatest, seat_of, at_seat, of_place, region_ok, part_kept, flexible_part, flexible_set, from_flexible}
use Rattle.rm_flexible.specs.Counts.{IsOffered, AreLeft}

-- of a part that has with each member all that are before it, x is a member where it has fewer than so many before it
front : (L M : List ℕ) → IsSet L → IsSet M → IsWithin M L → ((x y : ℕ) → IsIn y M → IsIn x L → x < y → IsIn x M) → (x : ℕ) → IsIn x L →
    (IsIn x M → rank L x < length M) × (rank L x < length M → IsIn x M)
front L M sL sM w top x i =
    let e = length-filter (λ y. ltb y x) L in (
      λ m.
          let less = length_less (filter (λ y. ltb y x) L) M x (IsSet-filter (λ y. ltb y x) L sL) sM
          (λ y h. let p = IsIn-from_filter (λ z. ltb z x) L y h in top y x m p.0 (ltb-true y x p.1)) m out in
          omega arith,
      λ lt. ⊎_elim
          (λ m. m)
          (λ outside.
          let le = length_within M (filter (λ y. ltb y x) L) sM (IsSet-filter (λ y. ltb y x) L sL) (λ y m. IsIn-filter (λ z. ltb z x) L y (w y m) (lt-ltb y x (before outside y m))) in
          absurd (omega arith))
          (cases_has x M),
    )
  where
    out : has x (filter (λ y. ltb y x) L) ≡ false
    out = ⊎_elim (λ h. absurd (let p = IsIn-from_filter (λ y. ltb y x) L x h in let lt = ltb-true x x p.1 in omega arith)) (λ not_in. not_in) (cases_has x (filter (λ y. ltb y x) L))

    before : has x M ≡ false → (y : ℕ) → IsIn y M → y < x
    before outside y m = ⊎_elim (λ lt. lt) (λ le. ⊎_elim (λ same. absurd (not_both (has x M) (subst (λ z. IsIn z M) same m) outside)) (λ ne. absurd (not_both (has x M) (top x y m i (omega (arith, le, ne))) outside)) (cases_eq y x)) (cases_lt y x)

-- the members of a part are those of the set that pass a test, where the test tells them
passes_are : (X S : List ℕ) (p : ℕ → Bool) → IsSet X → IsSet S → IsWithin S X → ((x : ℕ) → IsIn x X → p x ≡ has x S) → filter p X ≡ S
passes_are X S p sX sS w tells =
    same_within (filter p X) S (IsSet-filter p X sX) sS
    (λ x i. let q = IsIn-from_filter p X x i in sym (tells x q.0) ∙ q.1)
    (λ x i. IsIn-filter p X x (w x i) (tells x (w x i) ∙ i))

-- what one region keeps has with each contract all that are ranked above it
module _ (b : Board) (r : Region) (ok : IsRegion r) (X : List ℕ) (sX : IsSet X) (inside : (x : ℕ) → IsIn x X → is_of (hospital_of b) r x ≡ true) where
  kept_after : IsAfter (hospital_of b) r X (greatest r * length r.seats) (kept b r X)
  kept_after = subst (IsAfter (hospital_of b) r X (greatest r * length r.seats)) (sym (kept_is b r X)) (after_all (hospital_of b) r ok X sX inside)

-- the test that passes what is kept: a contract has more of its hospital's from it on than are left there
abbrev pub is_kept : (ℕ → ℕ) → List ℕ → List ℕ → ℕ → Bool
is_kept f counts marks x = ltb (get_or counts (f x) 0) (get_or marks x 0)

-- the marks of the offered contracts, by how many of the hospital's are ranked above each
abbrev pub AreMarks : (ℕ → ℕ) → List ℕ → List ℕ → Type 0
AreMarks f X marks = (x : ℕ) → IsIn x X → get_or marks x 0 + above f X x ≡ length (filter (λ y. eqb (f y) (f x)) X)

-- where K is kept of the contracts Y of hospital j, and X has no others there, the test passes those of K
module _ (b : Board) (r : Region) (ok : IsRegion r) (X Y : List ℕ) (sY : IsSet Y) (inside : (x : ℕ) → IsIn x Y → is_of (hospital_of b) r x ≡ true) (counts marks : List ℕ) where
  pub passes_kept : (x j : ℕ) → j < length r.seats → (seat_at r j).hospital ≡ hospital_of b x → IsSet X → IsIn x X → IsIn x Y → AreMarks (hospital_of b) X marks →
      filter (λ y. eqb (hospital_of b y) (seat_at r j).hospital) Y ≡ filter (λ y. eqb (hospital_of b y) (seat_at r j).hospital) X →
      get_or counts (seat_at r j).hospital 0 + count_at (hospital_of b) (seat_at r j) (kept b r Y) ≡ count_at (hospital_of b) (seat_at r j) X →
      is_kept (hospital_of b) counts marks x ≡ has x (kept b r Y)
  passes_kept x j lj at sX ix iy marked same left =
      let f = hospital_of b in
      let h = (seat_at r j).hospital in
      let p = λ (y : ℕ). eqb (f y) h in
      let K = kept b r Y in
      let a = kept_after b r ok Y sY inside in
      let mine = filter p Y in
      let m = marked x ix in
      let all : length (filter (λ y. eqb (f y) (f x)) X) ≡ length (filter p X) = ap (λ g. length (filter (λ y. eqb (f y) g) X)) (sym at) in
      let rank_is : above f X x ≡ rank mine x = above-rank f r ok X sX x h at ∙ ap (λ L. rank L x) (sym same) in
      let count_is : get_or counts (f x) 0 ≡ get_or counts h 0 = ap (λ g. get_or counts g 0) (sym at) in
      let here : p x ≡ true = eq-eqb (f x) h (sym at) in
      let two = front mine (filter p K) (IsSet-filter p Y sY) (IsSet-filter p K a.set)
      (λ y i. let q = IsIn-from_filter p K y i in IsIn-filter p Y y (a.within y q.0) q.1)
      (λ y z iz iy lt.
      let q = IsIn-from_filter p K z iz in
      let w = IsIn-from_filter p Y y iy in
      IsIn-filter p K y (a.top y z q.0 w.0 (eqb-true (f y) h w.1 ∙ sym (eqb-true (f z) h q.1)) lt) w.1)
      x (IsIn-filter p Y x iy here) in
      same_tests (is_kept f counts marks x) (has x K)
      (λ t. let lt = ltb-true (get_or counts (f x) 0) (get_or marks x 0) t in (IsIn-from_filter p K x (two.1 (omega arith))).0)
      (λ i. let lt = two.0 (IsIn-filter p K x i here) in lt-ltb (get_or counts (f x) 0) (get_or marks x 0) (omega arith))

-- the test passes of X what the region keeps of it
pub region_kept : (b : Board) (r : Region) (X counts marks : List ℕ) → IsRegion r → IsOffered b r X → AreMarks (hospital_of b) X marks → AreLeft b r X (kept b r X) counts → filter (is_kept (hospital_of b) counts marks) X ≡ kept b r X
region_kept b r X counts marks ok offered marked left =
    let a = kept_after b r ok X offered.set offered.inside in
    passes_are X (kept b r X) (is_kept (hospital_of b) counts marks) offered.set a.set a.within
    (λ x i.
    let j = seat_of (hospital_of b) r x (offered.inside x i) in
    passes_kept b r ok X X offered.set offered.inside counts marks x j.0 j.1 j.2 offered.set i i marked refl (left j.0 j.1))

-- and what all regions keep of it
pub flexible_kept : (b : Board) (n : ℕ) (regions : List Region) (X counts marks : List ℕ) → IsRegions n (hospital_of b) regions → IsSetBelow n X → AreMarks (hospital_of b) X marks →
    ((i : ℕ) → i < length regions → AreLeft b (region_at regions i) X (kept b (region_at regions i) (in_region b (region_at regions i) X)) counts) →
    filter (is_kept (hospital_of b) counts marks) X ≡ flexible b regions X
flexible_kept b n regions X counts marks ok sX marked left =
    passes_are X (flexible b regions X) (is_kept (hospital_of b) counts marks) sX.ascending (flexible_set b regions n ok X sX.ascending)
    (λ x h. let t = from_flexible b regions n ok X sX.ascending x h in (of_part t.0 t.1 x t.2).0)
    (λ x i.
    let place = ok.all x (sX.below x i) in
    let k = place.0 in
    let j = place.1 in
    let p = place.2 in
    let r = region_at regions k in
    let f = hospital_of b in
    let here = of_place n f regions ok x k j p in
    passes_kept b r (region_ok n f regions ok k p.region) X (filter (is_of f r) X) (IsSet-filter (is_of f r) X sX.ascending) (λ y h. (IsIn-from_filter (is_of f r) X y h).1) counts marks
    x j p.seat p.hospital sX.ascending i (IsIn-filter (is_of f r) X x i here) marked (at_seat n f regions ok k j p.region p.seat X sX.ascending) (left k p.region j p.seat)
    ∙ same_tests (has x (kept b r (in_region b r X))) (has x (flexible b regions X))
    (λ h. (IsIn-from_filter (is_of f r) (flexible b regions X) x (subst (λ S. IsIn x S) (sym (flexible_part b regions n ok X sX.ascending k p.region)) h)).0)
    (λ h. subst (λ S. IsIn x S) (flexible_part b regions n ok X sX.ascending k p.region) (IsIn-filter (is_of f r) (flexible b regions X) x h here)))
  where
    of_part : (k : ℕ) → k < length regions → (x : ℕ) → IsIn x (kept b (region_at regions k) (in_region b (region_at regions k) X)) → IsIn x X × (is_of (hospital_of b) (region_at regions k) x ≡ true)
    of_part k lk x h =
        let f = hospital_of b in
        let r = region_at regions k in
        IsIn-from_filter (is_of f r) X x ((part_kept b regions n ok X sX.ascending k lk).within x h)
