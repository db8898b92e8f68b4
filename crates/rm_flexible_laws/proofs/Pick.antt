-- What the flexible pick holds: of one region, of a region among others, and of all regions together.
use Rattle.std.proofs.Common.{◌≡◌, ◌⊎◌, ℕ, zero, suc, ◌+◌, ◌*◌, ◌<◌, ◌≤◌, Bool, true, false, List, [], ◌∷◌, length, get_or, eqb, filter, max, map, refl, sym, ap, ◌∙◌, subst, inl, inr, ⊎_elim, arith, eq-eqb, eqb-true}
use Rattle.std.specs.Prelude.{fold, flat_map}
use Rattle.std.proofs.lemmas.Bool.{cases_lt, cases_eq, cases_order}
use Rattle.rm_sets.specs.Sets.{has, IsIn, IsSet, IsWithin, union, all_below}
use Rattle.rm_sets.proofs.Sets.{not_both, same_within, IsSet-filter, IsSet-union, IsSet-nil, IsIn-here}
use Rattle.rm_sets.proofs.Members.{IsIn-filter, IsIn-from_filter, within-filter, IsIn-union_left, IsIn-union_right, IsIn-union_cases, not_in_nil, not_in_from}
use Rattle.rm_market.specs.Board.{Board, hospital_of}
use Rattle.rm_market.specs.Flexible.{Seat, Region, kept, flexible, in_region}
use Rattle.rm_flexible_laws.specs.Region.{no_seat, seat_at, no_region, region_at, IsRegion, IsRegions, IsPlace}
use Rattle.rm_flexible_laws.proofs.ByCounts.{count_at, is_of, turn_of, IsPassed, IsPickedBy}
use Rattle.rm_flexible_laws.proofs.Keys.{turn_bound}
use Rattle.rm_flexible_laws.proofs.Tests.{any_at, at_any}
use Rattle.rm_flexible_laws.proofs.Counts.{filter_all}
use Rattle.rm_flexible_laws.proofs.First.{seats_one, firsts}
use Rattle.rm_flexible_laws.proofs.Loop.{after, IsAfter, NoSeat, Done, Later, at_start, rounds}

-- ---- the greatest capacity

max_from : (a : ℕ) (L : List ℕ) → a ≤ fold max a L
max_from a [] = omega arith
max_from a (y ∷ L) = let rest = max_from (max a y) L in omega arith

max_at : (a : ℕ) (L : List ℕ) (k : ℕ) → k < length L → get_or L k 0 ≤ fold max a L
max_at a [] k lt = absurd (omega arith)
max_at a (y ∷ L) zero lt = let rest = max_from (max a y) L in omega arith
max_at a (y ∷ L) (suc k) lt = max_at (max a y) L k (omega arith)

capacities : (seats : List Seat) (k : ℕ) → k < length seats → (get_or seats k no_seat).capacity ≡ get_or (map (λ s. s.capacity) seats) k 0
capacities [] k lt = absurd (omega arith)
capacities (s ∷ seats) zero lt = refl
capacities (s ∷ seats) (suc k) lt = capacities seats k (omega arith)

length_capacities : (seats : List Seat) → length (map (λ s. s.capacity) seats) ≡ length seats
length_capacities [] = refl
length_capacities (s ∷ seats) = ap suc (length_capacities seats)

abbrev pub greatest : Region → ℕ
greatest r = fold max 0 (map (λ s. s.capacity) r.seats)

pub capacity_le : (r : Region) (j : ℕ) → j < length r.seats → (seat_at r j).capacity ≤ greatest r
capacity_le r j lt =
    let e = capacities r.seats j lt in
    let l = length_capacities r.seats in
    let le = max_at 0 (map (λ s. s.capacity) r.seats) j (omega arith) in
    omega arith

-- ---- one region

-- the pick of a region
abbrev pub keeps : (ℕ → ℕ) → Region → List ℕ → List ℕ
keeps f r X = fold (after f r X) (firsts f r X) (flat_map (λ k. r.seats) (all_below (greatest r) (λ k. true)))

pub record IsKept (f : ℕ → ℕ) (r : Region) (X K : List ℕ) : Type 0 where
  pub set : IsSet K
  pub within : IsWithin K X
  pub count : length K ≤ r.cap
  pub seats : (j : ℕ) → j < length r.seats → count_at f (seat_at r j) K ≤ (seat_at r j).capacity
  pub passed : (x j : ℕ) → IsIn x X → has x K ≡ false → j < length r.seats → (seat_at r j).hospital ≡ f x → IsPassed f r K j x

-- the seat of a contract in the region
pub seat_of : (f : ℕ → ℕ) (r : Region) (x : ℕ) → is_of f r x ≡ true → (j : ℕ) × (j < length r.seats) × ((seat_at r j).hospital ≡ f x)
seat_of f r x h = let t = at_any (λ s. eqb s.hospital (f x)) r.seats no_seat h in (t.0, t.1, eqb-true (seat_at r t.0).hospital (f x) t.2)

pub of_seat : (f : ℕ → ℕ) (r : Region) (x j : ℕ) → j < length r.seats → (seat_at r j).hospital ≡ f x → is_of f r x ≡ true
of_seat f r x j lt e = any_at (λ s. eqb s.hospital (f x)) r.seats no_seat j lt (eq-eqb (seat_at r j).hospital (f x) e)

module _ (f : ℕ → ℕ) (r : Region) (ok : IsRegion r) (X : List ℕ) (sX : IsSet X) (inside : (x : ℕ) → IsIn x X → is_of f r x ≡ true) where
  pub after_all : IsAfter f r X (greatest r * length r.seats) (keeps f r X)
  after_all = rounds f r ok X sX (λ x i. seat_of f r x (inside x i)) (greatest r) (firsts f r X) (at_start f r ok X sX (λ x i. seat_of f r x (inside x i)) inside)

  pub keeps_is : IsKept f r X (keeps f r X)
  keeps_is =
      let a = after_all in record {
        set = a.set;
        within = a.within;
        count = a.count;
        seats = a.seats;
        passed = λ x j ix out lt e. record {
          above = λ y iy same. ⊎_elim
              (λ q. absurd (not_both (has x (keeps f r X)) (subst (λ z. IsIn z (keeps f r X)) (sym q) iy) out))
              (λ other. ⊎_elim
              (λ less. absurd (not_both (has x (keeps f r X)) (a.top x y iy ix (sym same) less) out))
              (λ more. more)
              other)
              (cases_order x y);
          no_seat = elim (a.left x j ix out lt e) [
            | NoSeat c ↦ inl c
            | Done d ↦ inr (record { full = ap length whole ∙ d.full; later = λ k lk _. d.later k lk })
            | Later l ↦ inl (
                let s = a.seats j lt in
                let big = capacity_le r j lt in
                ⊎_elim
                (λ less. let b = turn_bound (length r.seats) j (seat_at r j).target (count_at f (seat_at r j) (keeps f r X) + 1) (greatest r) lt (omega arith) in absurd (omega arith))
                (λ le. omega arith)
                (cases_lt (count_at f (seat_at r j) (keeps f r X)) (seat_at r j).capacity))
          ];
        };
      }
    where
      whole : filter (is_of f r) (keeps f r X) ≡ keeps f r X
      whole = filter_all (is_of f r) (keeps f r X) after_all.set (λ x i. inside x (after_all.within x i))

-- the published pick is this one
pub kept_is : (b : Board) (r : Region) (X : List ℕ) → kept b r X ≡ keeps (hospital_of b) r X
unfolding kept
kept_is b r X = refl

pub IsKept-kept : (b : Board) (r : Region) (X : List ℕ) → IsRegion r → IsSet X → ((x : ℕ) → IsIn x X → is_of (hospital_of b) r x ≡ true) → IsKept (hospital_of b) r X (kept b r X)
IsKept-kept b r X ok sX inside = subst (IsKept (hospital_of b) r X) (sym (kept_is b r X)) (keeps_is (hospital_of b) r ok X sX inside)

-- ---- the regions together

module _ (n : ℕ) (f : ℕ → ℕ) (regions : List Region) (ok : IsRegions n f regions) where
  pub region_ok : (i : ℕ) → i < length regions → IsRegion (region_at regions i)
  region_ok i lt = ok.each i no_region lt

  pub place_of : (x i : ℕ) → i < length regions → is_of f (region_at regions i) x ≡ true → (j : ℕ) × IsPlace regions (f x) i j
  place_of x i lt h = let t = seat_of f (region_at regions i) x h in (t.0, record { region = lt; seat = t.1; hospital = t.2 })

  pub of_place : (x i j : ℕ) → IsPlace regions (f x) i j → is_of f (region_at regions i) x ≡ true
  of_place x i j p = of_seat f (region_at regions i) x j p.seat p.hospital

  -- a contract is of one region
  pub one_region : (x i k : ℕ) → i < length regions → k < length regions → is_of f (region_at regions i) x ≡ true → is_of f (region_at regions k) x ≡ true → i ≡ k
  one_region x i k li lk hi hk = let p = place_of x i li hi in let q = place_of x k lk hk in ok.one (f x) i p.0 k q.0 p.1 q.1

  -- the contracts of a set at a seat are among those of its region
  pub at_seat : (i j : ℕ) → i < length regions → j < length (region_at regions i).seats → (S : List ℕ) → IsSet S →
      filter (λ x. eqb (f x) (seat_at (region_at regions i) j).hospital) (filter (is_of f (region_at regions i)) S) ≡ filter (λ x. eqb (f x) (seat_at (region_at regions i) j).hospital) S
  at_seat i j li lj S s =
      let r = region_at regions i in
      let p = λ (x : ℕ). eqb (f x) (seat_at r j).hospital in
      same_within (filter p (filter (is_of f r) S)) (filter p S) (IsSet-filter p (filter (is_of f r) S) (IsSet-filter (is_of f r) S s)) (IsSet-filter p S s)
      (λ x h. let a = IsIn-from_filter p (filter (is_of f r) S) x h in IsIn-filter p S x (within-filter (is_of f r) S x a.0) a.1)
      (λ x h.
      let a = IsIn-from_filter p S x h in
      IsIn-filter p (filter (is_of f r) S) x (IsIn-filter (is_of f r) S x a.0 (of_seat f r x j lj (sym (eqb-true (f x) (seat_at r j).hospital a.1)))) a.1)

  -- what all regions pick, from what each picks
  pub picked_from_parts : (X S : List ℕ) → IsSet S → IsWithin S X →
      ((i : ℕ) → i < length regions → IsKept f (region_at regions i) (filter (is_of f (region_at regions i)) X) (filter (is_of f (region_at regions i)) S)) → IsPickedBy f regions X S
  picked_from_parts X S s w each = record {
    set = s;
    within = w;
    caps = record {
      in_region = λ i lt. (each i lt).count;
      at_seat = λ i j li lj. let e = ap length (at_seat i j li lj S s) in let le = (each i li).seats j lj in omega arith;
    };
    passed = λ x i j ix out p.
        let r = region_at regions i in
        let mine = filter (is_of f r) S in
        let k = (each i p.region).passed x j (IsIn-filter (is_of f r) X x ix (of_place x i j p)) (not_in_from x mine (λ h. not_both (has x S) (within-filter (is_of f r) S x h) out)) p.seat p.hospital in
        let same = λ (l : ℕ) (ll : l < length r.seats). ap length (at_seat i l p.region ll S s) in
        record {
          above = λ y iy e. k.above y (IsIn-filter (is_of f r) S y iy (of_seat f r y j p.seat (p.hospital ∙ sym e))) e;
          no_seat = ⊎_elim
              (λ c. inl (sym (same j p.seat) ∙ c))
              (λ d. inr (record {
                full = sym (ap length (filter_all (is_of f r) mine (IsSet-filter (is_of f r) S s) (λ y iy. (IsIn-from_filter (is_of f r) S y iy).1))) ∙ d.full;
                later = λ l ll pos.
                    let el = same l ll in
                    let ej = same j p.seat in
                    let tl = ap (λ c. turn_of r l c) el in
                    let tj = ap (λ c. turn_of r j (c + 1)) ej in
                    let lt = d.later l ll (omega arith) in
                    omega arith;
              }))
              k.no_seat;
        };
  }

-- ---- the union of the regions' picks

in_fold : (g : Region → List ℕ) (regions : List Region) (S : List ℕ) (x : ℕ) → IsIn x (fold (λ T r. union T (g r)) S regions) → IsIn x S ⊎ ((i : ℕ) × (i < length regions) × IsIn x (g (region_at regions i)))
in_fold g [] S x h = inl h
in_fold g (r ∷ regions) S x h =
    ⊎_elim
    (λ old. ⊎_elim (λ s. inl s) (λ here. inr (zero, omega arith, here)) (IsIn-union_cases S (g r) x old))
    (λ t. inr (suc t.0, omega arith, t.2))
    (in_fold g regions (union S (g r)) x h)

fold_in : (g : Region → List ℕ) (regions : List Region) (S : List ℕ) (x : ℕ) → IsIn x S → IsIn x (fold (λ T r. union T (g r)) S regions)
fold_in g [] S x h = h
fold_in g (r ∷ regions) S x h = fold_in g regions (union S (g r)) x (IsIn-union_left S (g r) x h)

fold_at : (g : Region → List ℕ) (regions : List Region) (S : List ℕ) (x i : ℕ) → i < length regions → IsIn x (g (region_at regions i)) → IsIn x (fold (λ T r. union T (g r)) S regions)
fold_at g [] S x i lt h = absurd (omega arith)
fold_at g (r ∷ regions) S x zero lt h = fold_in g regions (union S (g r)) x (IsIn-union_right S (g r) x h)
fold_at g (r ∷ regions) S x (suc i) lt h = fold_at g regions (union S (g r)) x i (omega arith) h

fold_set : (g : Region → List ℕ) (regions : List Region) (S : List ℕ) → IsSet S → IsSet (fold (λ T r. union T (g r)) S regions)
fold_set g [] S s = s
fold_set g (r ∷ regions) S s = fold_set g regions (union S (g r)) (IsSet-union S (g r) s)

module _ (b : Board) (regions : List Region) (n : ℕ) (ok : IsRegions n (hospital_of b) regions) (X : List ℕ) (sX : IsSet X) where
  part : ℕ → List ℕ
  part i = filter (is_of (hospital_of b) (region_at regions i)) X

  pub part_kept : (i : ℕ) → i < length regions → IsKept (hospital_of b) (region_at regions i) (filter (is_of (hospital_of b) (region_at regions i)) X) (kept b (region_at regions i) (in_region b (region_at regions i) X))
  part_kept i lt =
      let r = region_at regions i in
      IsKept-kept b r (filter (is_of (hospital_of b) r) X) (region_ok n (hospital_of b) regions ok i lt) (IsSet-filter (is_of (hospital_of b) r) X sX)
      (λ x h. (IsIn-from_filter (is_of (hospital_of b) r) X x h).1)

  pub flexible_set : IsSet (flexible b regions X)
  unfolding flexible
  flexible_set = fold_set (λ r. kept b r (in_region b r X)) regions [] IsSet-nil

  pub from_flexible : (x : ℕ) → IsIn x (flexible b regions X) → (i : ℕ) × (i < length regions) × IsIn x (kept b (region_at regions i) (in_region b (region_at regions i) X))
  unfolding flexible
  from_flexible x h = ⊎_elim (λ none. absurd (not_in_nil x none)) (λ t. t) (in_fold (λ r. kept b r (in_region b r X)) regions [] x h)

  in_flexible : (x i : ℕ) → i < length regions → IsIn x (kept b (region_at regions i) (in_region b (region_at regions i) X)) → IsIn x (flexible b regions X)
  unfolding flexible
  in_flexible x i lt h = fold_at (λ r. kept b r (in_region b r X)) regions [] x i lt h

  pub flexible_part : (i : ℕ) → i < length regions → filter (is_of (hospital_of b) (region_at regions i)) (flexible b regions X) ≡ kept b (region_at regions i) (in_region b (region_at regions i) X)
  flexible_part i lt =
      let f = hospital_of b in
      let r = region_at regions i in
      let k = part_kept i lt in
      same_within (filter (is_of f r) (flexible b regions X)) (kept b r (in_region b r X)) (IsSet-filter (is_of f r) (flexible b regions X) flexible_set) k.set
      (λ x h.
      let a = IsIn-from_filter (is_of f r) (flexible b regions X) x h in
      let t = from_flexible x a.0 in
      let other = IsIn-from_filter (is_of f (region_at regions t.0)) X x ((part_kept t.0 t.1).within x t.2) in
      let same = one_region n f regions ok x t.0 i t.1 lt other.1 a.1 in
      subst (λ l. IsIn x (kept b (region_at regions l) (in_region b (region_at regions l) X))) same t.2)
      (λ x h. IsIn-filter (is_of f r) (flexible b regions X) x (in_flexible x i lt h) (IsIn-from_filter (is_of f r) X x (k.within x h)).1)

  pub flexible_picked : IsPickedBy (hospital_of b) regions X (flexible b regions X)
  flexible_picked =
      let f = hospital_of b in
      picked_from_parts n f regions ok X (flexible b regions X) flexible_set
      (λ x h. let t = from_flexible x h in (IsIn-from_filter (is_of f (region_at regions t.0)) X x ((part_kept t.0 t.1).within x t.2)).0)
      (λ i lt. subst (IsKept f (region_at regions i) (filter (is_of f (region_at regions i)) X)) (sym (flexible_part i lt)) (part_kept i lt))

  -- the pick of one region among all, of contracts of that region
  pub kept_picked : (i : ℕ) → i < length regions → ((x : ℕ) → IsIn x X → is_of (hospital_of b) (region_at regions i) x ≡ true) → IsPickedBy (hospital_of b) regions X (kept b (region_at regions i) X)
  kept_picked i lt inside =
      let f = hospital_of b in
      let r = region_at regions i in
      let k = IsKept-kept b r X (region_ok n f regions ok i lt) sX inside in
      picked_from_parts n f regions ok X (kept b r X) k.set k.within
      (λ l ll. ⊎_elim
      (λ same. subst (λ z. IsKept f (region_at regions z) (filter (is_of f (region_at regions z)) X) (filter (is_of f (region_at regions z)) (kept b r X))) same
      (subst (λ Y. IsKept f r Y (filter (is_of f r) (kept b r X))) (sym (filter_all (is_of f r) X sX inside))
      (subst (λ K. IsKept f r X K) (sym (filter_all (is_of f r) (kept b r X) k.set (λ x h. inside x (k.within x h)))) k)))
      (λ ne.
      let none = λ (x : ℕ) (h : IsIn x X) (t : is_of f (region_at regions l) x ≡ true). ne (one_region n f regions ok x i l lt ll (inside x h) t) in
      subst (λ Y. IsKept f (region_at regions l) Y (filter (is_of f (region_at regions l)) (kept b r X))) (sym (filter_none (is_of f (region_at regions l)) X none))
      (subst (λ K. IsKept f (region_at regions l) [] K) (sym (filter_none (is_of f (region_at regions l)) (kept b r X) (λ x h t. none x (k.within x h) t))) (nothing_kept l)))
      (cases_eq i l))
    where
      filter_none : (p : ℕ → Bool) (L : List ℕ) → ((x : ℕ) → IsIn x L → p x ≡ true → ⊥) → filter p L ≡ []
      filter_none p L none = at (filter p L) refl
        where
          at : (M : List ℕ) → filter p L ≡ M → filter p L ≡ []
          at [] e = e
          at (y ∷ M) e = let both = IsIn-from_filter p L y (subst (λ N. IsIn y N) (sym e) (IsIn-here y M)) in absurd (none y both.0 both.1)

      nothing_kept : (l : ℕ) → IsKept (hospital_of b) (region_at regions l) [] []
      nothing_kept l = record {
        set = IsSet-nil;
        within = λ x h. h;
        count = omega arith;
        seats = λ j lt. omega arith;
        passed = λ x j ix. absurd (not_in_nil x ix);
      }

-- a hospital has one seat
pub one_place : (n : ℕ) (f : ℕ → ℕ) (regions : List Region) → IsRegions n f regions → (h i j k l : ℕ) → IsPlace regions h i j → IsPlace regions h k l → (i ≡ k) × (j ≡ l)
one_place n f regions ok h i j k l p q =
    let same = ok.one h i j k l p q in
    let lj = subst (λ z. l < length (region_at regions z).seats) (sym same) q.seat in
    let e : (seat_at (region_at regions i) l).hospital ≡ h = subst (λ z. (seat_at (region_at regions z) l).hospital ≡ h) (sym same) q.hospital in
    (same, seats_one (region_at regions i) (region_ok n f regions ok i p.region) j l p.seat lj (p.hospital ∙ sym e))
