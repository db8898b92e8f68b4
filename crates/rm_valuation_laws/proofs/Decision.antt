-- The three outcomes of an offer compared by their worths and by tie order.
use Rattle.std.proofs.Common.{◌≡◌, ◌⊎◌, ℕ, ◌<◌, List, true, false, ◌≤ℤ◌, ◌<ℤ◌, sym, ◌∙◌, subst, ⊎_elim}
use Rattle.std.proofs.lemmas.Bool.{cases_eq, lt-ltb}
use Rattle.rm_sets.specs.Sets.{has, IsIn, IsSet, with_one}
use Rattle.rm_sets.proofs.Sets.{same_sets, IsSet-with_one}
use Rattle.rm_sets.proofs.Members.{IsIn-with_one_new}
use Rattle.rm_market.specs.Best.{Values, is_better, swapped}
use Rattle.rm_valuation_laws.specs.Scores.{score, place}
use Rattle.rm_valuation_laws.proofs.Moves.{with_other, swapped_new, swapped_old, swapped_other, apart}
use Rattle.rm_valuation_laws.proofs.Score.{better_from_higher}
use Rattle.rm_valuation_laws.proofs.Leads.{score_by_worth, score_by_tie, score_of_addition, leads_of_swap, leads_two}
use Rattle.rm_valuation_laws.proofs.Offers.{IsSet-swapped}

-- with z back again
swapped_back : (H : List ℕ) (z x : ℕ) → IsSet H → IsIn z H → has x H ≡ false → with_one (swapped H x z) z ≡ with_one H x
swapped_back H z x s inz out =
    let ne : z ≡ x → ⊥ = apart H z x inz out in
    same_sets (with_one (swapped H x z) z) (with_one H x) (IsSet-with_one (swapped H x z) z (IsSet-swapped H z x s)) (IsSet-with_one H x s)
    (λ y. ⊎_elim
    (λ e. subst (λ w. has w (with_one (swapped H x z) z) ≡ has w (with_one H x)) (sym e) (IsIn-with_one_new (swapped H x z) z ∙ sym (with_other H x z ne ∙ inz)))
    (λ nz. ⊎_elim
    (λ e. subst (λ w. has w (with_one (swapped H x z) z) ≡ has w (with_one H x)) (sym e) (with_other (swapped H x z) z x (λ f. ne (sym f)) ∙ (swapped_new H z x ∙ sym (IsIn-with_one_new H x))))
    (λ nx. with_other (swapped H x z) z y nz ∙ (swapped_other H z x y nz nx ∙ sym (with_other H x y nx)))
    (cases_eq y x))
    (cases_eq y z))

-- the addition is above a swap of no greater worth
pub addition_over_swap : (v : Values) (H : List ℕ) (z x : ℕ) → IsSet H → IsIn z H → has x H ≡ false → IsIn z v.ties → v.worth (swapped H x z) ≤ℤ v.worth (with_one H x) → score v (swapped H x z) <ℤ score v (with_one H x)
addition_over_swap v H z x s inz out inTies le =
    let back = swapped_back H z x s inz out in
    subst (λ T. score v (swapped H x z) <ℤ score v T) back
    (score_of_addition v (swapped H x z) z (swapped_old H z x (apart H z x inz out)) inTies (subst (λ T. v.worth (swapped H x z) ≤ℤ v.worth T) (sym back) le))

-- a swap is above the held set where its worth is greater, or is equal and x stands before z; and else below
pub swap_over_held : (v : Values) (H : List ℕ) (z x : ℕ) → IsIn z H → has x H ≡ false → (v.worth H <ℤ v.worth (swapped H x z)) ⊎ ((v.worth (swapped H x z) ≡ v.worth H) × (place v.ties x < place v.ties z)) → score v H <ℤ score v (swapped H x z)
swap_over_held v H z x inz out how =
    ⊎_elim
    (λ lt. score_by_worth v (swapped H x z) H lt)
    (λ tie. score_by_tie v (swapped H x z) H tie.0 (leads_of_swap v.ties H x z out inz ∙ lt-ltb (place v.ties x) (place v.ties z) tie.1))
    how

pub held_over_swap : (v : Values) (H : List ℕ) (z x : ℕ) → IsIn z H → has x H ≡ false → (v.worth (swapped H x z) <ℤ v.worth H) ⊎ ((v.worth H ≡ v.worth (swapped H x z)) × (place v.ties z < place v.ties x)) → score v (swapped H x z) <ℤ score v H
held_over_swap v H z x inz out how =
    let nzx : z ≡ x → ⊥ = apart H z x inz out in
    ⊎_elim
    (λ lt. score_by_worth v H (swapped H x z) lt)
    (λ tie. score_by_tie v H (swapped H x z) tie.0
    (leads_two v.ties H (swapped H x z) z x inz (swapped_old H z x nzx) out (swapped_new H z x) (λ w nz nx. sym (swapped_other H z x w nz nx))
    ∙ lt-ltb (place v.ties z) (place v.ties x) tie.1))
    how

-- ---- the same in terms of what is better

pub addition_better : (v : Values) (H : List ℕ) (z x : ℕ) → IsSet H → IsIn z H → has x H ≡ false → IsIn z v.ties → v.feasible (with_one H x) ≡ true → v.worth (swapped H x z) ≤ℤ v.worth (with_one H x) → is_better v (with_one H x) (swapped H x z) ≡ true
addition_better v H z x s inz out inTies f le = better_from_higher v (with_one H x) (swapped H x z) f (addition_over_swap v H z x s inz out inTies le)

pub swap_better : (v : Values) (H : List ℕ) (z x : ℕ) → IsIn z H → has x H ≡ false → v.feasible (swapped H x z) ≡ true → (v.worth H <ℤ v.worth (swapped H x z)) ⊎ ((v.worth (swapped H x z) ≡ v.worth H) × (place v.ties x < place v.ties z)) → is_better v (swapped H x z) H ≡ true
swap_better v H z x inz out f how = better_from_higher v (swapped H x z) H f (swap_over_held v H z x inz out how)

pub held_better : (v : Values) (H : List ℕ) (z x : ℕ) → IsIn z H → has x H ≡ false → v.feasible H ≡ true → (v.worth (swapped H x z) <ℤ v.worth H) ⊎ ((v.worth H ≡ v.worth (swapped H x z)) × (place v.ties z < place v.ties x)) → is_better v H (swapped H x z) ≡ true
held_better v H z x inz out f how = better_from_higher v H (swapped H x z) f (held_over_swap v H z x inz out how)
