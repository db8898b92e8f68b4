-- The offered contracts, counted from the last to the first. Here f gives the hospital of each contract.
use Rattle.std.proofs.Common.{◌≡◌, ℕ, zero, suc, ◌+◌, ◌<◌, ◌≤◌, Bool, true, false, cond, ◌&&◌, List, [], ◌∷◌, ◌++◌, length, get_or, set, take, drop, filter, eqb, ltb, count_by, refl, sym, ap, ◌∙◌, subst, ⊎_elim, arith, eq-eqb, ne_eqb, append-nil}
use Rattle.std.proofs.lemmas.Bool.{cases_eq, lt-ltb, le-ltb}
use Rattle.std.proofs.lemmas.List.{drop_more, take_more_set, get_or-set_same, get_or-set_other}
use Rattle.std.proofs.lemmas.List.Sums.{length-filter, count_by-le-length}
use Rattle.std.proofs.lemmas.List.Elements.{filter_more}
use Rattle.std.proofs.lemmas.List.Kept.{AllPairs-from_increasing}
use Rattle.rm_sets.specs.Sets.{IsIn, IsSet}
use Rattle.rm_sets.proofs.Sets.{IsSet-tail, IsSet-first, IsIn-here, IsIn-later, IsIn-cases}
use Rattle.rm_sets.proofs.Members.{IsIn-get_or, place_from_IsIn}
use Rattle.rm_valuation_laws.proofs.Counts.{one, count-cons}

-- the contracts of X at hospital h, from place k on
abbrev pub count_from : (ℕ → ℕ) → ℕ → ℕ → List ℕ → ℕ
count_from f h k X = count_by (λ x. eqb (f x) h) (drop k X)

pub from_more : (f : ℕ → ℕ) (h k : ℕ) (X : List ℕ) → k < length X → count_from f h k X ≡ one (eqb (f (get_or X k 0)) h) + count_from f h (k + 1) X
from_more f h k X lt = ap (λ L. count_by (λ x. eqb (f x) h) L) (drop_more X k 0 lt) ∙ count-cons (λ x. eqb (f x) h) (get_or X k 0) (drop (k + 1) X)

-- one more is counted
pub counted : (f : ℕ → ℕ) (X old counts : List ℕ) (k : ℕ) → k < length X → f (get_or X k 0) < length counts →
    ((h : ℕ) → get_or counts h 0 ≡ get_or old h 0 + count_from f h (k + 1) X) →
    (h : ℕ) → get_or (set counts (f (get_or X k 0)) (get_or counts (f (get_or X k 0)) 0 + 1)) h 0 ≡ get_or old h 0 + count_from f h k X
counted f X old counts k lt inside before h =
    let c = before h in
    let more = from_more f h k X lt in
    ⊎_elim
    (λ e.
    let o : one (eqb (f (get_or X k 0)) h) ≡ 1 = ap one (eq-eqb (f (get_or X k 0)) h (sym e)) in
    let here = subst (λ g. get_or (set counts (f (get_or X k 0)) (get_or counts (f (get_or X k 0)) 0 + 1)) g 0 ≡ get_or counts g 0 + 1) (sym e) (get_or-set_same counts (f (get_or X k 0)) (get_or counts (f (get_or X k 0)) 0 + 1) 0 inside) in
    omega arith)
    (λ ne.
    let o : one (eqb (f (get_or X k 0)) h) ≡ 0 = ap one (ne_eqb (f (get_or X k 0)) h (λ e. ne (sym e))) in
    let here = get_or-set_other counts (f (get_or X k 0)) h (get_or counts (f (get_or X k 0)) 0 + 1) 0 ne in
    omega arith)
    (cases_eq h (f (get_or X k 0)))

-- and marked
pub marked : (f : ℕ → ℕ) (X marks : List ℕ) (k m : ℕ) → IsSet X → k < length X → get_or X k 0 < length marks → m ≡ count_from f (f (get_or X k 0)) k X →
    ((l : ℕ) → k + 1 ≤ l → l < length X → get_or marks (get_or X l 0) 0 ≡ count_from f (f (get_or X l 0)) l X) →
    (l : ℕ) → k ≤ l → l < length X → get_or (set marks (get_or X k 0) m) (get_or X l 0) 0 ≡ count_from f (f (get_or X l 0)) l X
marked f X marks k m s lt inside now before l le ll =
    ⊎_elim
    (λ e. subst (λ i. get_or (set marks (get_or X k 0) m) (get_or X i 0) 0 ≡ count_from f (f (get_or X i 0)) i X) (sym e) (get_or-set_same marks (get_or X k 0) m 0 inside ∙ now))
    (λ ne.
    let up = AllPairs-from_increasing X s k l 0 (omega arith) ll in
    get_or-set_other marks (get_or X k 0) (get_or X l 0) m 0 (λ same. omega (arith, up, same)) ∙ before l (omega arith) ll)
    (cases_eq l k)

pub few_from : (f : ℕ → ℕ) (h k : ℕ) (X : List ℕ) → count_from f h k X ≤ length (drop k X)
few_from f h k X = count_by-le-length (λ x. eqb (f x) h) (drop k X)

none_of : (p : ℕ → Bool) (L : List ℕ) → ((x : ℕ) → IsIn x L → p x ≡ false) → count_by p L ≡ 0
none_of p [] h = refl
none_of p (y ∷ L) h =
    let e = count-cons p y L in
    let o : one (p y) ≡ 0 = ap one (h y (IsIn-here y L)) in
    let rest = none_of p L (λ x i. h x (IsIn-later x y L i)) in
    omega arith

-- those from a place on, and those ranked above it, are all
from_and_above : (p : ℕ → Bool) (X : List ℕ) (k : ℕ) → IsSet X → k < length X → count_by p (drop k X) + count_by (λ y. p y && ltb y (get_or X k 0)) X ≡ count_by p X
from_and_above p [] k s lt = absurd (omega arith)
from_and_above p (y ∷ X) zero s lt =
    let none = none_of (λ z. p z && ltb z y) (y ∷ X) (λ z i. never (p z) (ltb z y) (le-ltb z y (least z i))) in
    omega arith
  where
    never : (a b : Bool) → b ≡ false → (a && b) ≡ false
    never true b e = e
    never false b e = refl

    least : (z : ℕ) → IsIn z (y ∷ X) → y ≤ z
    least z i = ⊎_elim (λ e. omega arith) (λ later. let lt = IsSet-first y X s z later in omega arith) (IsIn-cases z y X i)
from_and_above p (y ∷ X) (suc k) s lt =
    let rest = from_and_above p X k (IsSet-tail y X s) (omega arith) in
    let all = count-cons p y X in
    let some = count-cons (λ z. p z && ltb z (get_or X k 0)) y X in
    let less : y < get_or X k 0 = IsSet-first y X s (get_or X k 0) (IsIn-get_or X k 0 (omega arith)) in
    let same : one (p y && ltb y (get_or X k 0)) ≡ one (p y) = and_one (p y) (ltb y (get_or X k 0)) (lt-ltb y (get_or X k 0) less) in
    omega arith
  where
    and_one : (a b : Bool) → b ≡ true → one (a && b) ≡ one a
    and_one true b e = ap one e
    and_one false b e = refl

-- the mark of a contract, once all are counted
pub mark_is : (f : ℕ → ℕ) (X marks : List ℕ) → IsSet X → ((l : ℕ) → l < length X → get_or marks (get_or X l 0) 0 ≡ count_from f (f (get_or X l 0)) l X) →
    (x : ℕ) → IsIn x X → get_or marks x 0 + count_by (λ y. eqb (f y) (f x) && ltb y x) X ≡ length (filter (λ y. eqb (f y) (f x)) X)
mark_is f X marks s each x i =
    let p = place_from_IsIn X x 0 i in
    subst (λ z. get_or marks z 0 + count_by (λ y. eqb (f y) (f z) && ltb y z) X ≡ length (filter (λ y. eqb (f y) (f z)) X)) p.2
    (let m = each p.0 p.1 in
    let a = from_and_above (λ y. eqb (f y) (f (get_or X p.0 0))) X p.0 s p.1 in
    let e = length-filter (λ y. eqb (f y) (f (get_or X p.0 0))) X in
    omega arith)

pub count_is : (f : ℕ → ℕ) (X old counts : List ℕ) → ((h : ℕ) → get_or counts h 0 ≡ get_or old h 0 + count_from f h 0 X) →
    (h : ℕ) → get_or counts h 0 ≡ get_or old h 0 + length (filter (λ y. eqb (f y) h) X)
count_is f X old counts each h = each h ∙ ap (λ n. get_or old h 0 + n) (sym (length-filter (λ y. eqb (f y) h) X))

-- ---- writing those that pass a test

pub written_more : (p : ℕ → Bool) (X list : List ℕ) (i count : ℕ) → i < length X → count < length list → p (get_or X i 0) ≡ true → take count list ≡ filter p (take i X) →
    take (count + 1) (set list count (get_or X i 0)) ≡ filter p (take (i + 1) X)
written_more p X list i count lt space passes before =
    take_more_set list count (get_or X i 0) space
    ∙ (ap (λ L. L ++ get_or X i 0 ∷ []) before
    ∙ sym (filter_more p X i 0 lt ∙ ap (λ t. filter p (take i X) ++ cond t (get_or X i 0 ∷ []) []) passes))

pub written_same : (p : ℕ → Bool) (X list : List ℕ) (i count : ℕ) → i < length X → p (get_or X i 0) ≡ false → take count list ≡ filter p (take i X) → take count list ≡ filter p (take (i + 1) X)
written_same p X list i count lt none before =
    before ∙ sym (filter_more p X i 0 lt ∙ (ap (λ t. filter p (take i X) ++ cond t (get_or X i 0 ∷ []) []) none ∙ append-nil (filter p (take i X))))
