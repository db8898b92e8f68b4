-- Which of two sets leads in tie order, where they differ at one contract or at two.
use Rattle.std.proofs.Common.{◌≡◌, ℕ, ◌+◌, List, [], ◌∷◌, true, false, not, cond, nat_lt, ◌≤ℤ◌, ◌<ℤ◌, refl, sym, ap, ◌∙◌, subst, ⊎_elim, arith, true≢false, eq-eqb, ne_eqb}
use Rattle.std.proofs.lemmas.Int.{ints}
use Rattle.std.proofs.lemmas.Bool.{cases_eq, cases_Bool, lt-ltb, le-ltb, ltb-true, ltb-false}
use Rattle.rm_sets.specs.Sets.{has, IsIn, with_one}
use Rattle.rm_sets.proofs.Sets.{not_both, IsIn-cases}
use Rattle.rm_sets.proofs.Members.{IsIn-with_one_new, not_in_from}
use Rattle.rm_valuation_laws.specs.Choice.{IsBestAddition}
use Rattle.rm_market.specs.Best.{Values, swapped, wins_tie}
use Rattle.rm_valuation_laws.specs.Scores.{score_from, score, place, IsWorthiest}
use Rattle.rm_valuation_laws.proofs.Moves.{with_other, swapped_new, swapped_old, swapped_other, apart}
use Rattle.rm_valuation_laws.proofs.Score.{cases_int, stays_above, leads_skip, leads_first, compare}

place_here : (x : ℕ) (ties : List ℕ) → place (x ∷ ties) x ≡ 0
place_here x ties = ap (λ b. cond (not b) (1 + place ties x) 0) (eq-eqb x x refl)

place_later : (w x : ℕ) (ties : List ℕ) → (w ≡ x → ⊥) → place (w ∷ ties) x ≡ 1 + place ties x
place_later w x ties ne = ap (λ b. cond (not b) (1 + place ties x) 0) (ne_eqb w x ne)

-- S and T differ at x, which S has, and at y, which T has
pub leads_two : (ties S T : List ℕ) (x y : ℕ) → IsIn x S → has x T ≡ false → has y S ≡ false → IsIn y T → ((w : ℕ) → (w ≡ x → ⊥) → (w ≡ y → ⊥) → has w S ≡ has w T) →
    wins_tie ties S T ≡ nat_lt (place ties x) (place ties y)
leads_two [] S T x y xS xT yS yT same = sym (le-ltb 0 0 (omega arith))
leads_two (w ∷ ties) S T x y xS xT yS yT same =
    let ne : x ≡ y → ⊥ = apart S x y xS yS in
    ⊎_elim
    (λ e.
    let p : place (w ∷ ties) x ≡ 0 = subst (λ z. place (z ∷ ties) x ≡ 0) (sym e) (place_here x ties) in
    let q = place_later w y ties (λ f. ne (sym e ∙ f)) in
    leads_first w ties S T true (subst (λ z. has z S ≡ true) (sym e) xS) (subst (λ z. has z T ≡ false) (sym e) xT)
    ∙ sym (lt-ltb (place (w ∷ ties) x) (place (w ∷ ties) y) (omega arith)))
    (λ nx. ⊎_elim
    (λ e.
    let q : place (w ∷ ties) y ≡ 0 = subst (λ z. place (z ∷ ties) y ≡ 0) (sym e) (place_here y ties) in
    leads_first w ties S T false (subst (λ z. has z S ≡ false) (sym e) yS) (subst (λ z. has z T ≡ true) (sym e) yT)
    ∙ sym (le-ltb (place (w ∷ ties) x) (place (w ∷ ties) y) (omega arith)))
    (λ ny.
    let rest = leads_two ties S T x y xS xT yS yT same in
    leads_skip w ties S T (same w nx ny)
    ∙ (rest ∙ same_test (place ties x) (place ties y) (place (w ∷ ties) x) (place (w ∷ ties) y) (place_later w x ties nx) (place_later w y ties ny)))
    (cases_eq w y))
    (cases_eq w x)
  where
    same_test : (a b c d : ℕ) → c ≡ 1 + a → d ≡ 1 + b → nat_lt a b ≡ nat_lt c d
    same_test a b c d e f =
        ⊎_elim
        (λ t. t ∙ sym (lt-ltb c d (let lt = ltb-true a b t in omega arith)))
        (λ t. t ∙ sym (le-ltb c d (let le = ltb-false a b t in omega arith)))
        (cases_Bool (nat_lt a b))

-- T is S with x
pub leads_one : (ties S : List ℕ) (x : ℕ) → has x S ≡ false → IsIn x ties → wins_tie ties (with_one S x) S ≡ true
leads_one [] S x out h = absurd (true≢false (sym h))
leads_one (w ∷ ties) S x out h =
    ⊎_elim
    (λ e. leads_first w ties (with_one S x) S true (subst (λ z. has z (with_one S x) ≡ true) (sym e) (IsIn-with_one_new S x)) (subst (λ z. has z S ≡ false) (sym e) out))
    (λ ne. leads_skip w ties (with_one S x) S (with_other S x w ne)
    ∙ leads_one ties S x out (⊎_elim (λ e. absurd (ne (sym e))) (λ later. later) (IsIn-cases x w ties h)))
    (cases_eq w x)

-- of equal worth the leader has the greater score, and whatever the tie the greater worth decides
pub score_by_worth : (v : Values) (S T : List ℕ) → v.worth T <ℤ v.worth S → score v T <ℤ score v S
score_by_worth v S T lt = stays_above v.ties S T (v.worth S) (v.worth T) lt

pub score_by_tie : (v : Values) (S T : List ℕ) → v.worth S ≡ v.worth T → wins_tie v.ties S T ≡ true → score v T <ℤ score v S
score_by_tie v S T e lead =
    let at : score_from (v.worth S) v.ties T ≡ score v T = ap (λ a. score_from a v.ties T) e in
    ⊎_elim
    (λ more. subst (λ z. z <ℤ score v S) at more.1)
    (λ rest. absurd (not_both (wins_tie v.ties S T) lead (⊎_elim (λ less. less.0) (λ agree. agree.0) rest)))
    (compare (v.worth S) v.ties S T)

-- an addition that doesn't lower the worth raises the score
pub score_of_addition : (v : Values) (S : List ℕ) (x : ℕ) → has x S ≡ false → IsIn x v.ties → v.worth S ≤ℤ v.worth (with_one S x) → score v S <ℤ score v (with_one S x)
score_of_addition v S x out inTies le =
    ⊎_elim
    (λ lt. score_by_worth v (with_one S x) S lt)
    (λ rest. ⊎_elim
    (λ e. score_by_tie v (with_one S x) S (sym e) (leads_one v.ties S x out inTies))
    (λ gt. absurd (omega (arith, ints)))
    rest)
    (cases_int (v.worth S) (v.worth (with_one S x)))

-- of two additions of equal worth the one that stands first in tie order has the greater score
pub leads_of_additions : (ties S : List ℕ) (x y : ℕ) → (x ≡ y → ⊥) → has x S ≡ false → has y S ≡ false → wins_tie ties (with_one S x) (with_one S y) ≡ nat_lt (place ties x) (place ties y)
leads_of_additions ties S x y ne outx outy =
    leads_two ties (with_one S x) (with_one S y) x y (IsIn-with_one_new S x) (with_other S y x ne ∙ outx) (with_other S x y (λ e. ne (sym e)) ∙ outy) (IsIn-with_one_new S y)
    (λ w nx ny. with_other S x w nx ∙ sym (with_other S y w ny))

-- of two swaps of equal worth, the one that gives up the later contract is the better
pub leads_of_swaps : (ties S : List ℕ) (x z y : ℕ) → has x S ≡ false → IsIn z S → IsIn y S → (z ≡ y → ⊥) → wins_tie ties (swapped S x z) (swapped S x y) ≡ nat_lt (place ties y) (place ties z)
leads_of_swaps ties S x z y out inz iny ne =
    let nzx : z ≡ x → ⊥ = apart S z x inz out in
    let nyx : y ≡ x → ⊥ = apart S y x iny out in
    leads_two ties (swapped S x z) (swapped S x y) y z
    (swapped_other S z x y (λ e. ne (sym e)) nyx ∙ iny) (swapped_old S y x nyx) (swapped_old S z x nzx) (swapped_other S y x z ne nzx ∙ inz)
    (λ w ny nz. ⊎_elim
    (λ e. subst (λ u. has u (swapped S x z) ≡ has u (swapped S x y)) (sym e) (swapped_new S z x ∙ sym (swapped_new S y x)))
    (λ nx. swapped_other S z x w nz nx ∙ sym (swapped_other S y x w ny nx))
    (cases_eq w x))

-- a swap of x for z at equal worth is the better exactly where x stands before z
pub leads_of_swap : (ties S : List ℕ) (x z : ℕ) → has x S ≡ false → IsIn z S → wins_tie ties (swapped S x z) S ≡ nat_lt (place ties x) (place ties z)
leads_of_swap ties S x z out inz =
    let nzx : z ≡ x → ⊥ = apart S z x inz out in
    leads_two ties (swapped S x z) S x z (swapped_new S z x) out (swapped_old S z x nzx) inz (λ w nx nz. swapped_other S z x w nz nx)

-- ---- greedy addition by worth and tie order

pub place_same : (ties : List ℕ) (x y : ℕ) → IsIn x ties → place ties x ≡ place ties y → x ≡ y
place_same [] x y h e = absurd (true≢false (sym h))
place_same (w ∷ ties) x y h e =
    ⊎_elim
    (λ a. ⊎_elim
    (λ b. sym a ∙ b)
    (λ nb.
    let p : place (w ∷ ties) x ≡ 0 = subst (λ z. place (z ∷ ties) x ≡ 0) (sym a) (place_here x ties) in
    let q = place_later w y ties nb in
    absurd (omega arith))
    (cases_eq w y))
    (λ na. ⊎_elim
    (λ b.
    let p = place_later w x ties na in
    let q : place (w ∷ ties) y ≡ 0 = subst (λ z. place (z ∷ ties) y ≡ 0) (sym b) (place_here y ties) in
    absurd (omega arith))
    (λ nb.
    let p = place_later w x ties na in
    let q = place_later w y ties nb in
    place_same ties x y (⊎_elim (λ f. absurd (na (sym f))) (λ later. later) (IsIn-cases x w ties h)) (omega arith))
    (cases_eq w y))
    (cases_eq w x)

pub addition_by_worth : (v : Values) (X S : List ℕ) (x : ℕ) → IsIn x v.ties → IsWorthiest v X S x → IsBestAddition v.feasible (score v) X S x
addition_by_worth v X S x inTies w =
    let outx = not_in_from x S w.outside in
    record {
      member = w.member;
      outside = outx;
      passes = w.passes;
      most = λ y inY outY hy.
          ⊎_elim
          (λ same. let e : score v (with_one S y) ≡ score v (with_one S x) = ap (λ z. score v (with_one S z)) (sym same) in omega (arith, ints))
          (λ ne.
          let noty = λ (h : IsIn y S). not_both (has y S) h outY in
          let le = w.most y inY noty hy in
          ⊎_elim
          (λ lt. let up = score_by_worth v (with_one S x) (with_one S y) lt in omega (arith, ints))
          (λ rest. ⊎_elim
          (λ e.
          let first = w.first y inY noty hy e in
          let differ : place v.ties x ≡ place v.ties y → ⊥ = λ f. ne (place_same v.ties x y inTies f) in
          let lead = leads_of_additions v.ties S x y ne outx outY ∙ lt-ltb (place v.ties x) (place v.ties y) (omega arith) in
          let up = score_by_tie v (with_one S x) (with_one S y) (sym e) lead in
          omega (arith, ints))
          (λ gt. absurd (omega (arith, ints)))
          rest)
          (cases_int (v.worth (with_one S y)) (v.worth (with_one S x))))
          (cases_eq x y);
    }
