-- One offer to a held set that is its own best subset: the new best subset is the old one, the old one with the offer, or the old one with the offer in the place of one contract.
use Rattle.std.proofs.Common.{◌≡◌, ℕ, ◌<◌, ◌≤◌, List, false, length, IsFalse, sym, ap, ◌∙◌, subst, inl, inr, ⊎_elim, arith}
use Rattle.std.proofs.lemmas.Bool.{cases_eq}
use Rattle.rm_sets.specs.Sets.{has, IsIn, IsSet, IsSetBelow, IsWithin, with_one, without}
use Rattle.rm_sets.proofs.Sets.{not_both, same_within, same_sets, IsSet-with_one, IsSet-without, IsIn-with_one_cases}
use Rattle.rm_sets.proofs.Search.{cases_within, cases_same}
use Rattle.rm_sets.proofs.Members.{IsIn-with_one_new, not_in_without, IsSetBelow-with_one, IsSetBelow-smaller, IsIn-without, within-with_one}
use Rattle.rm_sets.proofs.Sizes.{length-with_one, length-without, same_from_length}
use Rattle.rm_valuation_laws.specs.Choice.{greedy}
use Rattle.rm_market.specs.Best.{IsChoice, Values, is_better, IsBest, IsValuation, swapped}
use Rattle.rm_valuation_laws.specs.Scores.{score, IsOfferAnswer}
use Rattle.rm_valuation_laws.specs.Offers.{ThreeKinds}
use Rattle.rm_valuation_laws.proofs.Moves.{with_other, without_other, swapped_new, swapped_old, swapped_other, apart}
use Rattle.rm_valuation_laws.proofs.Score.{better_from_higher}
use Rattle.rm_valuation_laws.proofs.Best.{feasible_within, top_from_best, best_by_greedy, choice_from_bests, best_unique}

pub IsSet-swapped : (S : List ℕ) (i j : ℕ) → IsSet S → IsSet (swapped S j i)
IsSet-swapped S i j s = IsSet-with_one (without S i) j (IsSet-without S i s)

-- S with x and then without z is S with x in the place of z
swapped_is : (S : List ℕ) (z x : ℕ) → IsSet S → IsIn z S → has x S ≡ false → without (with_one S x) z ≡ swapped S x z
swapped_is S z x s inz outx =
    let nzx : z ≡ x → ⊥ = apart S z x inz outx in
    same_sets (without (with_one S x) z) (swapped S x z) (IsSet-without (with_one S x) z (IsSet-with_one S x s)) (IsSet-swapped S z x s)
    (λ y. ⊎_elim
    (λ e. subst (λ w. has w (without (with_one S x) z) ≡ has w (swapped S x z)) (sym e) (not_in_without (with_one S x) z ∙ sym (swapped_old S z x nzx)))
    (λ nz. ⊎_elim
    (λ e. subst (λ w. has w (without (with_one S x) z) ≡ has w (swapped S x z)) (sym e)
    (without_other (with_one S x) z x (λ f. nzx (sym f)) ∙ (IsIn-with_one_new S x ∙ sym (swapped_new S z x))))
    (λ nx. without_other (with_one S x) z y nz ∙ (with_other S x y nx ∙ sym (swapped_other S z x y nz nx)))
    (cases_eq y x))
    (cases_eq y z))

pub three_kinds : (n : ℕ) (chosen : List ℕ → List ℕ) (H : List ℕ) (x : ℕ) → IsChoice n chosen → IsSetBelow n H → x < n → has x H ≡ false → chosen H ≡ H → ThreeKinds H x (chosen (with_one H x))
three_kinds n chosen H x laws sH lt outx own =
    let Y = with_one H x in
    let sY = IsSetBelow-with_one n H x sH lt in
    let D = chosen Y in
    let wD = laws.within Y sY in
    let sD = IsSetBelow-smaller n D Y sY (laws.ascending Y sY) wD in
    let longer : length (chosen H) ≤ length D = laws.sizes H Y sH sY (within-with_one H x) in
    let sizes : length (chosen H) ≡ length H = ap length own in
    let more = length-with_one H x outx in
    ⊎_elim
    (λ all. inr (inl (same_within D Y sD.ascending sY.ascending wD all)))
    (λ missing.
    let z = missing.0 in
    ⊎_elim
    (λ e.
    let inside : IsWithin D H = λ y h. ⊎_elim (λ old. old) (λ f. absurd (not_both (has y D) h (subst (λ w. has w D ≡ false) (e ∙ sym f) missing.2))) (IsIn-with_one_cases y H x (wD y h)) in
    inl (sym (laws.same H Y sH sY (within-with_one H x) inside) ∙ own))
    (λ ne.
    let inz : IsIn z H = ⊎_elim (λ old. old) (λ f. absurd (ne f)) (IsIn-with_one_cases z H x missing.1) in
    let rest : IsWithin D (without Y z) = λ y h. IsIn-without Y z y (wD y h) (λ f. not_both (has y D) h (subst (λ w. has w D ≡ false) (sym f) missing.2)) in
    let less = length-without Y z sY.ascending missing.1 in
    inr (inr (z, inz, same_from_length D (without Y z) sD.ascending (IsSet-without Y z sY.ascending) rest (omega arith) ∙ swapped_is H z x sH.ascending inz outx)))
    (cases_eq z x))
    (cases_within Y D)

-- what none of the three beats is the best subset
pub offer_best : (n : ℕ) (v : Values) (H : List ℕ) (x : ℕ) (D : List ℕ) → IsValuation n v → IsSetBelow n H → x < n → has x H ≡ false → IsBest v H H → IsOfferAnswer v H x D → IsBest v (with_one H x) D
offer_best n v H x D laws sH lt outx own answer =
    let Y = with_one H x in
    let sY = IsSetBelow-with_one n H x sH lt in
    let chosen = greedy v.feasible (score v) in
    let best = λ (X : List ℕ) (sX : IsSetBelow n X). best_by_greedy n v X laws sX in
    let choice = choice_from_bests n v chosen laws best in
    let top = top_from_best n v Y (chosen Y) (best Y sY) sY in
    let fD = feasible_within n v Y D sY answer.set answer.within answer.feasible in
    let not_better : IsFalse (is_better v (chosen Y) D) =
    ⊎_elim
    (λ e. subst (λ C. is_better v C D ≡ false) (sym e) answer.not_refused)
    (λ rest. ⊎_elim
    (λ e. subst (λ C. is_better v C D ≡ false) (sym e) answer.not_added)
    (λ s. subst (λ C. is_better v C D ≡ false) (sym s.2) (answer.not_swapped s.0 s.1))
    rest)
    (three_kinds n chosen H x choice sH lt outx (best_unique n v H (chosen H) H sH (best H sH) own)) in
    ⊎_elim
    (λ same. subst (λ C. IsBest v Y C) (sym same) (best Y sY))
    (λ ne. absurd (not_both (is_better v (chosen Y) D) (better_from_higher v (chosen Y) D top.is_feasible.passes (top.above D fD answer.within ne)) not_better))
    (cases_same D (chosen Y))
