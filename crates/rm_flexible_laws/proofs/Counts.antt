-- How many contracts of a set are at a seat, and in a region.
use Rattle.std.proofs.Common.{◌≡◌, ◌≢◌, ℕ, zero, suc, ◌+◌, ◌<◌, ◌≤◌, Bool, true, false, cond, ◌&&◌, List, [], ◌∷◌, length, get_or, eqb, ltb, filter, count_by, min, refl, sym, ap, ◌∙◌, subst, ⊎_elim, arith, true≢false, AllPairs, eq-eqb, eqb-true}
use Rattle.std.specs.Prelude.{sum_by}
use Rattle.std.specs.List.{list_any}
use Rattle.std.proofs.Math.Path.{fun_ext}
use Rattle.std.proofs.lemmas.Bool.{lt-ltb, le-ltb, ltb-true}
use Rattle.std.proofs.lemmas.List.Sums.{sum_by-cons, length-filter}
use Rattle.rm_sets.specs.Sets.{has, IsIn, IsSet, with_one, without}
use Rattle.rm_sets.proofs.Sets.{IsSet-filter, IsSet-tail, IsSet-first, IsIn-here, IsIn-later, IsIn-cases, same_tests, same_within}
use Rattle.rm_sets.proofs.Members.{IsIn-filter, IsIn-from_filter, within-filter}
use Rattle.rm_valuation_laws.proofs.Counts.{one, count-cons, count_or, count_none, count_same, count-with_one, count-without, picked}
use Rattle.rm_market.specs.Flexible.{Seat, Region}
use Rattle.rm_flexible_laws.specs.Region.{no_seat, IsRegion}
use Rattle.rm_flexible_laws.proofs.ByCounts.{count_at, count_in, is_of}
use Rattle.rm_flexible_laws.proofs.Tests.{at_any}

-- ---- one contract more or less

pub passing-with_one : (p : ℕ → Bool) (S : List ℕ) (x : ℕ) → has x S ≡ false → length (filter p (with_one S x)) ≡ length (filter p S) + one (p x)
passing-with_one p S x out = length-filter p (with_one S x) ∙ (count-with_one p S x out ∙ ap (λ n. n + one (p x)) (sym (length-filter p S)))

pub passing-without : (p : ℕ → Bool) (S : List ℕ) (x : ℕ) → IsSet S → IsIn x S → length (filter p (without S x)) + one (p x) ≡ length (filter p S)
passing-without p S x s i = ap (λ n. n + one (p x)) (length-filter p (without S x)) ∙ (count-without p S x s i ∙ sym (length-filter p S))

pub passing_positive : (p : ℕ → Bool) (S : List ℕ) (x : ℕ) → IsIn x S → p x ≡ true → 0 < length (filter p S)
passing_positive p S x i h = at (filter p S) refl (IsIn-filter p S x i h)
  where
    at : (L : List ℕ) → filter p S ≡ L → IsIn x L → 0 < length L
    at [] e j = absurd (true≢false (sym j))
    at (y ∷ L) e j = omega arith

pub passing_member : (p : ℕ → Bool) (S : List ℕ) → 0 < length (filter p S) → (x : ℕ) × IsIn x S × (p x ≡ true)
passing_member p S lt = at (filter p S) refl lt
  where
    at : (L : List ℕ) → filter p S ≡ L → 0 < length L → (x : ℕ) × IsIn x S × (p x ≡ true)
    at [] e l = absurd (omega arith)
    at (y ∷ L) e l = let both = IsIn-from_filter p S y (subst (λ M. IsIn y M) (sym e) (IsIn-here y L)) in (y, both.0, both.1)

-- where more of T pass than of S, some member of T that passes isn't in S
pub passing_more : (p : ℕ → Bool) (S T : List ℕ) → IsSet S → IsSet T → length (filter p S) < length (filter p T) → (j : ℕ) × IsIn j T × (has j S ≡ false) × (p j ≡ true)
passing_more p S T s t lt =
    let eS = length-filter p S in
    let eT = length-filter p T in
    picked p S T s t (omega arith)

pub filter_all : (p : ℕ → Bool) (S : List ℕ) → IsSet S → ((x : ℕ) → IsIn x S → p x ≡ true) → filter p S ≡ S
filter_all p S s h = same_within (filter p S) S (IsSet-filter p S s) s (within-filter p S) (λ x i. IsIn-filter p S x i (h x i))

-- ---- a region's count is the sum over its seats

pub eqb-sym : (a b : ℕ) → eqb a b ≡ eqb b a
eqb-sym a b = same_tests (eqb a b) (eqb b a) (λ h. eq-eqb b a (sym (eqb-true a b h))) (λ h. eq-eqb a b (sym (eqb-true b a h)))

counts : (f : ℕ → ℕ) (seats : List Seat) (S : List ℕ) → AllPairs (λ s q. s.hospital ≢ q.hospital) seats →
    count_by (λ x. list_any (λ s. eqb s.hospital (f x)) seats) S ≡ sum_by (λ s. count_by (λ x. eqb s.hospital (f x)) S) seats
counts f [] S apart = count_none S
counts f (s ∷ seats) S apart =
    let e = count_or (λ x. eqb s.hospital (f x)) (λ x. list_any (λ q. eqb q.hospital (f x)) seats) S
    (λ x h k.
    let r = at_any (λ q. eqb q.hospital (f x)) seats no_seat k in
    apart zero (suc r.0) no_seat (omega arith) (omega arith) (eqb-true s.hospital (f x) h ∙ sym (eqb-true (get_or seats r.0 no_seat).hospital (f x) r.2))) in
    let rest = counts f seats S (λ i j d lt le. apart (suc i) (suc j) d (omega arith) (omega arith)) in
    let c = sum_by-cons (λ q. count_by (λ x. eqb q.hospital (f x)) S) s seats in
    omega arith

pub count_in-sum : (f : ℕ → ℕ) (r : Region) (S : List ℕ) → IsRegion r → count_in f r S ≡ sum_by (λ s. count_at f s S) r.seats
count_in-sum f r S ok =
    length-filter (is_of f r) S
    ∙ (counts f r.seats S ok.apart
    ∙ ap (λ g. sum_by g r.seats) (fun_ext (λ s. count_same (λ x. eqb s.hospital (f x)) (λ x. eqb (f x) s.hospital) S (λ x. eqb-sym s.hospital (f x)) ∙ sym (length-filter (λ x. eqb (f x) s.hospital) S))))

-- ---- the first of a set, as many as a number

pub count-filter : (p q : ℕ → Bool) (S : List ℕ) → count_by p (filter q S) ≡ count_by (λ x. q x && p x) S
count-filter p q [] = refl
count-filter p q (x ∷ S) =
    let rest = count-filter p q S in
    let e = count-cons (λ y. q y && p y) x S in
    at rest e (q x) refl
  where
    at : count_by p (filter q S) ≡ count_by (λ y. q y && p y) S → count_by (λ y. q y && p y) (x ∷ S) ≡ one (q x && p x) + count_by (λ y. q y && p y) S →
        (b : Bool) → q x ≡ b → count_by p (cond b (x ∷ filter q S) (filter q S)) ≡ count_by (λ y. q y && p y) (x ∷ S)
    at rest e true t =
        let c = count-cons p x (filter q S) in
        let o : one (q x && p x) ≡ one (p x) = ap (λ b. one (b && p x)) t in
        omega arith
    at rest e false t = let o : one (q x && p x) ≡ 0 = ap (λ b. one (b && p x)) t in omega arith

-- how many of L are below x
abbrev pub rank : List ℕ → ℕ → ℕ
rank L x = count_by (λ y. ltb y x) L

filter_later : (p q : ℕ → Bool) (L : List ℕ) → ((x : ℕ) → IsIn x L → p x ≡ q x) → filter p L ≡ filter q L
filter_later p q [] h = refl
filter_later p q (y ∷ L) h =
    ap (λ b. cond b (y ∷ filter p L) (filter p L)) (h y (IsIn-here y L))
    ∙ ap (λ M. cond (q y) (y ∷ M) M) (filter_later p q L (λ x i. h x (IsIn-later x y L i)))

none_below : (x : ℕ) (L : List ℕ) → IsSet L → ((y : ℕ) → IsIn y L → x ≤ y) → rank L x ≡ 0
none_below x [] s h = refl
none_below x (y ∷ L) s h =
    let e = count-cons (λ z. ltb z x) y L in
    let o : one (ltb y x) ≡ 0 = ap one (le-ltb y x (h y (IsIn-here y L))) in
    let rest = none_below x L (IsSet-tail y L s) (λ z i. h z (IsIn-later z y L i)) in
    omega arith

-- as many have fewer than t below them as t, or all
pub length_first : (t : ℕ) (L : List ℕ) → IsSet L → length (filter (λ x. ltb (rank L x) t) L) ≡ min t (length L)
length_first t [] s = omega arith
length_first zero (y ∷ L) s =
    let e : length (filter (λ x. ltb (rank (y ∷ L) x) 0) (y ∷ L)) ≡ 0 =
    ap length (filter_later (λ x. ltb (rank (y ∷ L) x) 0) (λ x. false) (y ∷ L) (λ x i. le-ltb (rank (y ∷ L) x) 0 (omega arith))) ∙ none (y ∷ L) in
    omega arith
  where
    none : (M : List ℕ) → length (filter (λ x. false) M) ≡ 0
    none [] = refl
    none (z ∷ M) = none M
length_first (suc t) (y ∷ L) s =
    let rest = length_first t L (IsSet-tail y L s) in
    let zero_here : rank (y ∷ L) y ≡ 0 = none_below y (y ∷ L) s (λ z i. ⊎_elim (λ e. omega arith) (λ later. let lt = IsSet-first y L s z later in omega arith) (IsIn-cases z y L i)) in
    let here : ltb (rank (y ∷ L) y) (suc t) ≡ true = lt-ltb (rank (y ∷ L) y) (suc t) (omega arith) in
    let later : filter (λ x. ltb (rank (y ∷ L) x) (suc t)) L ≡ filter (λ x. ltb (rank L x) t) L =
    filter_later (λ x. ltb (rank (y ∷ L) x) (suc t)) (λ x. ltb (rank L x) t) L (λ x i.
    let lt = IsSet-first y L s x i in
    let e = count-cons (λ z. ltb z x) y L in
    let o : one (ltb y x) ≡ 1 = ap one (lt-ltb y x lt) in
    same_tests (ltb (rank (y ∷ L) x) (suc t)) (ltb (rank L x) t)
    (λ h. let k = ltb-true (rank (y ∷ L) x) (suc t) h in lt-ltb (rank L x) t (omega arith))
    (λ h. let k = ltb-true (rank L x) t h in lt-ltb (rank (y ∷ L) x) (suc t) (omega arith))) in
    let whole : length (filter (λ x. ltb (rank (y ∷ L) x) (suc t)) (y ∷ L)) ≡ suc (length (filter (λ x. ltb (rank L x) t) L)) =
    ap (λ b. length (cond b (y ∷ filter (λ x. ltb (rank (y ∷ L) x) (suc t)) L) (filter (λ x. ltb (rank (y ∷ L) x) (suc t)) L))) here
    ∙ ap (λ M. suc (length M)) later in
    omega arith
