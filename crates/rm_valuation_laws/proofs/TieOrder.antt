-- Places in a tie order.
use Rattle.std.proofs.Common.{◌≡◌, ℕ, suc, ◌+◌, ◌<◌, Bool, true, false, cond, not, List, [], ◌∷◌, length, get_or, eqb, ltb, position, Option, Some, None, sym, ap, subst, ⊎_elim, arith, rules, eq-eqb, ne_eqb, true≢false}
use Rattle.std.specs.List.{IsDistinct, position_or_len}
use Rattle.std.proofs.lemmas.Bool.{cases_eq}
use Rattle.std.proofs.lemmas.Map.Keys.{IsDistinct-tail, apart_from_distinct}
use Rattle.rm_sets.specs.Sets.{has, IsIn}
use Rattle.rm_sets.proofs.Sets.{not_both, IsIn-later}
use Rattle.rm_sets.proofs.Members.{not_in_from, place_from_IsIn}
use Rattle.rm_market.specs.Board.{stands_before}
use Rattle.rm_valuation_laws.specs.Scores.{place}

distinct_out : (z : ℕ) (zs : List ℕ) → IsDistinct eqb (z ∷ zs) → has z zs ≡ false
distinct_out z zs d =
    not_in_from z zs (λ h.
    let p = place_from_IsIn zs z 0 h in
    let no = apart_from_distinct eqb (z ∷ zs) 0 (suc p.0) 0 d (omega arith) (omega arith) in
    not_both (eqb z (get_or zs p.0 0)) (eq-eqb z (get_or zs p.0 0) (sym p.2)) no)

has_from_before : (x y : ℕ) (ties : List ℕ) → stands_before x y ties ≡ true → IsIn y ties
has_from_before x y [] h = absurd (true≢false (sym h))
has_from_before x y (z ∷ zs) h = by (has_from_before x y zs) (eqb z x) h
  where
    by : (stands_before x y zs ≡ true → IsIn y zs) → (c : Bool) → cond c (has y zs) (stands_before x y zs) ≡ true → IsIn y (z ∷ zs)
    by rest true t = IsIn-later y z zs t
    by rest false t = IsIn-later y z zs (rest t)

pub place_from_before : (x y : ℕ) (ties : List ℕ) → IsDistinct eqb ties → stands_before x y ties ≡ true → place ties x < place ties y
place_from_before x y [] d h = absurd (true≢false (sym h))
place_from_before x y (z ∷ zs) d h =
    ⊎_elim
    (λ here.
    let i : IsIn y zs = subst (λ c. cond c (has y zs) (stands_before x y zs) ≡ true) (eq-eqb z x here) h in
    let ne : z ≡ y → ⊥ = λ e. not_both (has z zs) (subst (λ w. IsIn w zs) (sym e) i) (distinct_out z zs d) in
    let px = ap (λ c. cond (not c) (1 + place zs x) 0) (eq-eqb z x here) in
    let py = ap (λ c. cond (not c) (1 + place zs y) 0) (ne_eqb z y ne) in
    omega arith)
    (λ nx.
    let t : stands_before x y zs ≡ true = subst (λ c. cond c (has y zs) (stands_before x y zs) ≡ true) (ne_eqb z x nx) h in
    let ne : z ≡ y → ⊥ = λ e. not_both (has z zs) (subst (λ w. IsIn w zs) (sym e) (has_from_before x y zs t)) (distinct_out z zs d) in
    let px = ap (λ c. cond (not c) (1 + place zs x) 0) (ne_eqb z x nx) in
    let py = ap (λ c. cond (not c) (1 + place zs y) 0) (ne_eqb z y ne) in
    let rest = place_from_before x y zs (IsDistinct-tail eqb z zs d) t in
    omega arith)
    (cases_eq z x)
