-- A feasible set that no single change makes better is the best subset.
use Rattle.std.proofs.Common.{◌≡◌, ℕ, zero, suc, ◌+◌, ◌<◌, ◌≤◌, List, Bool, true, false, ◌⊎◌, ℤ, ◌≤ℤ◌, refl, sym, ap, ◌∙◌, subst, inl, inr, ⊎_elim, arith}
use Rattle.std.proofs.lemmas.Bool.{cases_eq}
use Rattle.std.proofs.lemmas.Int.{ints}
use Rattle.rm_sets.specs.Sets.{has, IsIn, IsWithin, with_one, without}
use Rattle.rm_sets.proofs.Sets.{not_both, same_within}
use Rattle.rm_sets.proofs.Search.{cases_within}
use Rattle.rm_sets.proofs.Members.{IsIn-with_one_new, not_in_without, IsSetBelow-with_one, IsSetBelow-without, with_one_within}
use Rattle.rm_valuation_laws.specs.Choice.{IsFeasible, IsStuck, IsUpper}
use Rattle.rm_market.specs.Best.{swapped, Exchange}
use Rattle.rm_valuation_laws.proofs.Moves.{with_other, without_other, swapped_new, swapped_old, swapped_other, apart, IsSetBelow-swapped, swapped_within, smaller_within}

-- ---- at how many places two sets differ

-- 1 where two answers differ
abbrev unlike : Bool → Bool → ℕ
unlike true true = 0
unlike true false = 1
unlike false true = 1
unlike false false = 0

abbrev differ : ℕ → List ℕ → List ℕ → ℕ
differ zero S T = 0
differ (suc k) S T = unlike (has k S) (has k T) + differ k S T

-- U is between S and T
abbrev IsBetween : List ℕ → List ℕ → List ℕ → Type 0
IsBetween S T U = (x : ℕ) → (has x U ≡ has x T) ⊎ (has x U ≡ has x S)

unlike_same : (a : Bool) → unlike a a ≡ 0
unlike_same true = refl
unlike_same false = refl

unlike_le : (s t u : Bool) → (u ≡ t) ⊎ (u ≡ s) → unlike s u ≤ unlike s t
unlike_le s t u h =
    ⊎_elim
    (λ e. subst (λ b. unlike s b ≤ unlike s t) (sym e) (omega arith))
    (λ e. subst (λ b. unlike s b ≤ unlike s t) (sym e) (omega (arith, unlike_same s)))
    h

unlike_one : (s t : Bool) → (t ≡ s → ⊥) → unlike s t ≡ 1
unlike_one true true ne = absurd (ne refl)
unlike_one true false ne = refl
unlike_one false true ne = refl
unlike_one false false ne = absurd (ne refl)

differ_le : (k : ℕ) (S T U : List ℕ) → IsBetween S T U → differ k S U ≤ differ k S T
differ_le zero S T U b = omega arith
differ_le (suc k) S T U b =
    let one = unlike_le (has k S) (has k T) (has k U) (b k) in
    let rest = differ_le k S T U b in
    omega arith

differ_less : (k : ℕ) (S T U : List ℕ) (i : ℕ) → IsBetween S T U → has i U ≡ has i S → (has i T ≡ has i S → ⊥) → i < k → differ k S U < differ k S T
differ_less zero S T U i b same ne lt = absurd (omega arith)
differ_less (suc k) S T U i b same ne lt =
    ⊎_elim
    (λ e.
    let rest = differ_le k S T U b in
    let here : unlike (has k S) (has k U) ≡ 0 = subst (λ z. unlike (has z S) (has z U) ≡ 0) e (ap (unlike (has i S)) same ∙ unlike_same (has i S)) in
    let there : unlike (has k S) (has k T) ≡ 1 = subst (λ z. unlike (has z S) (has z T) ≡ 1) e (unlike_one (has i S) (has i T) ne) in
    omega arith)
    (λ other.
    let one = unlike_le (has k S) (has k T) (has k U) (b k) in
    let rest : differ k S U < differ k S T = differ_less k S T U i b same ne (omega arith) in
    omega arith)
    (cases_eq i k)

-- ---- a change of T towards S lies between them

between_without : (S T : List ℕ) (i : ℕ) → has i S ≡ false → IsBetween S T (without T i)
between_without S T i out x =
    ⊎_elim
    (λ e. inr (subst (λ z. has z (without T i) ≡ has z S) (sym e) (not_in_without T i ∙ sym out)))
    (λ ne. inl (without_other T i x ne))
    (cases_eq x i)

between_with_one : (S T : List ℕ) (i : ℕ) → IsIn i S → IsBetween S T (with_one T i)
between_with_one S T i h x =
    ⊎_elim
    (λ e. inr (subst (λ z. has z (with_one T i) ≡ has z S) (sym e) (IsIn-with_one_new T i ∙ sym h)))
    (λ ne. inl (with_other T i x ne))
    (cases_eq x i)

between_swapped : (S T : List ℕ) (i j : ℕ) → has i S ≡ false → IsIn j S → IsBetween S T (swapped T j i)
between_swapped S T i j out h x =
    ⊎_elim
    (λ e. inr (subst (λ z. has z (swapped T j i) ≡ has z S) (sym e) (swapped_old T i j (λ same. apart S j i h out (sym same)) ∙ sym out)))
    (λ ni. ⊎_elim
    (λ e. inr (subst (λ z. has z (swapped T j i) ≡ has z S) (sym e) (swapped_new T i j ∙ sym h)))
    (λ nj. inl (swapped_other T i j x ni nj))
    (cases_eq x j))
    (cases_eq x i)

-- ---- by induction on the number of places at which T differs from S

abbrev Closer : ℕ → (List ℕ → Bool) → (List ℕ → ℤ) → List ℕ → List ℕ → List ℕ → Type 0
Closer n feasible score X S T = (U : List ℕ) → differ n S U < differ n S T → IsFeasible n feasible U → IsWithin U X → score U ≤ℤ score S

-- T has an i that S lacks
from_extra : (n : ℕ) (feasible : List ℕ → Bool) (score : List ℕ → ℤ) (X S T : List ℕ) → Exchange n feasible score → IsStuck n feasible score X S →
    Closer n feasible score X S T → IsFeasible n feasible T → IsWithin T X → (i : ℕ) → IsIn i T → has i S ≡ false → score T ≤ℤ score S
from_extra n feasible score X S T exchange stuck closer fT w i h out =
    let differs : has i T ≡ has i S → ⊥ = λ e. not_both (has i T) h (e ∙ out) in
    let lt : i < n = fT.is_set.below i h in
    ⊎_elim
    (λ m.
    let less = differ_less n S T (without T i) i (between_without S T i out) (not_in_without T i ∙ sym out) differs lt in
    let low = closer (without T i) less (record { is_set = IsSetBelow-without n T i fT.is_set; passes = m.0 }) (smaller_within T X i w) in
    let high = stuck.add i (w i h) out m.1 in
    let sum = m.2 in
    omega (arith, ints))
    (λ s.
    let j = s.0 in
    let hj : IsIn j S = s.1 in
    let m = s.3 in
    let less = differ_less n S T (swapped T j i) i (between_swapped S T i j out hj) (swapped_old T i j (λ same. apart S j i hj out (sym same)) ∙ sym out) differs lt in
    let low = closer (swapped T j i) less (record { is_set = IsSetBelow-swapped n T i j fT.is_set (stuck.is_feasible.is_set.below j hj); passes = m.0 }) (swapped_within T X i j w (stuck.within j hj)) in
    let high = stuck.swap i j (w i h) out hj m.1 in
    let sum = m.2 in
    omega (arith, ints))
    (exchange T S i fT.is_set stuck.is_feasible.is_set fT.passes stuck.is_feasible.passes h (λ there. not_both (has i S) there out))

-- T is a part of S, and S has an i that T lacks
from_part : (n : ℕ) (feasible : List ℕ → Bool) (score : List ℕ → ℤ) (X S T : List ℕ) → Exchange n feasible score → IsStuck n feasible score X S →
    Closer n feasible score X S T → IsFeasible n feasible T → IsWithin T X → IsWithin T S → (i : ℕ) → IsIn i S → has i T ≡ false → score T ≤ℤ score S
from_part n feasible score X S T exchange stuck closer fT w part i h out =
    let differs : has i T ≡ has i S → ⊥ = λ e. not_both (has i T) (e ∙ h) out in
    let lt : i < n = stuck.is_feasible.is_set.below i h in
    ⊎_elim
    (λ m.
    let less = differ_less n S T (with_one T i) i (between_with_one S T i h) (IsIn-with_one_new T i ∙ sym h) differs lt in
    let low = closer (with_one T i) less (record { is_set = IsSetBelow-with_one n T i fT.is_set lt; passes = m.1 }) (with_one_within T X i w (stuck.within i h)) in
    let high = stuck.remove i h m.0 in
    let sum = m.2 in
    omega (arith, ints))
    (λ s. absurd (s.2 (part s.0 s.1)))
    (exchange S T i stuck.is_feasible.is_set fT.is_set stuck.is_feasible.passes fT.passes h (λ there. not_both (has i T) there out))

from_closer : (n : ℕ) (feasible : List ℕ → Bool) (score : List ℕ → ℤ) (X S T : List ℕ) → Exchange n feasible score → IsStuck n feasible score X S →
    Closer n feasible score X S T → IsFeasible n feasible T → IsWithin T X → score T ≤ℤ score S
from_closer n feasible score X S T exchange stuck closer fT w =
    ⊎_elim
    (λ part. ⊎_elim
    (λ whole. let same : T ≡ S = same_within T S fT.is_set.ascending stuck.is_feasible.is_set.ascending part whole in
    let e = ap score same in omega (arith, ints))
    (λ extra. from_part n feasible score X S T exchange stuck closer fT w part extra.0 extra.1 extra.2)
    (cases_within S T))
    (λ extra. from_extra n feasible score X S T exchange stuck closer fT w extra.0 extra.1 extra.2)
    (cases_within T S)

within_steps : (n : ℕ) (feasible : List ℕ → Bool) (score : List ℕ → ℤ) (X S : List ℕ) → Exchange n feasible score → IsStuck n feasible score X S →
    (k : ℕ) (T : List ℕ) → differ n S T < k → IsFeasible n feasible T → IsWithin T X → score T ≤ℤ score S
within_steps n feasible score X S exchange stuck zero T lt fT w = absurd (omega arith)
within_steps n feasible score X S exchange stuck (suc k) T lt fT w =
    from_closer n feasible score X S T exchange stuck (λ U less. within_steps n feasible score X S exchange stuck k U (omega arith)) fT w

pub upper_from_stuck : (n : ℕ) (feasible : List ℕ → Bool) (score : List ℕ → ℤ) (X S : List ℕ) → Exchange n feasible score → IsStuck n feasible score X S → IsUpper n feasible score X S
upper_from_stuck n feasible score X S exchange stuck T = within_steps n feasible score X S exchange stuck (suc (differ n S T)) T (omega arith)
