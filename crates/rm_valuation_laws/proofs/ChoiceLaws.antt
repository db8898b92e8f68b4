-- The best subset is unique, and it has the laws of a choice.
use Rattle.std.proofs.Common.{◌≡◌, ℕ, ◌<◌, ◌≤◌, List, Bool, false, length, ℤ, ◌≤ℤ◌, ◌<ℤ◌, sym, subst, ⊎_elim, arith}
use Rattle.std.proofs.lemmas.Int.{ints}
use Rattle.std.proofs.lemmas.Bool.{cases_lt}
use Rattle.rm_sets.specs.Sets.{has, IsIn, IsSetBelow, IsWithin, with_one, without}
use Rattle.rm_sets.proofs.Sets.{cases_has, not_both}
use Rattle.rm_sets.proofs.Search.{cases_same}
use Rattle.rm_sets.proofs.Members.{not_in_from, IsIn-with_one_new, not_in_without, IsSetBelow-with_one, IsSetBelow-without, with_one_within, within_trans}
use Rattle.rm_market.specs.Best.{IsChoice, swapped, NoLoss, Exchange, SizeExchange}
use Rattle.rm_valuation_laws.specs.Choice.{IsFeasible, IsStrict, IsTop, IsUpper}
use Rattle.rm_valuation_laws.proofs.Moves.{swapped_new, swapped_old, apart, IsSetBelow-swapped, swapped_within, smaller_within}

-- sets that differ at x are two
pub unequal : (S T : List ℕ) (x : ℕ) → IsIn x S → has x T ≡ false → S ≡ T → ⊥
unequal S T x h out e = not_both (has x T) (subst (λ U. IsIn x U) e h) out

pub top_from_upper : (n : ℕ) (feasible : List ℕ → Bool) (score : List ℕ → ℤ) (X S : List ℕ) → IsStrict n feasible score → IsFeasible n feasible S → IsWithin S X → IsUpper n feasible score X S → IsTop n feasible score X S
top_from_upper n feasible score X S strict fS w upper = record {
  is_feasible = fS;
  within = w;
  above = λ T fT wT ne.
      let le = upper T fT wT in
      let differ : score T ≡ score S → ⊥ = λ e. ne (strict T S fT fS e) in
      less_from le differ;
}
  where
    less_from : {a b : ℤ} → a ≤ℤ b → (a ≡ b → ⊥) → a <ℤ b
    less_from {a} {b} le ne = omega (arith, ints)

pub top_unique : (n : ℕ) (feasible : List ℕ → Bool) (score : List ℕ → ℤ) (X A B : List ℕ) → IsTop n feasible score X A → IsTop n feasible score X B → A ≡ B
top_unique n feasible score X A B tA tB =
    ⊎_elim
    (λ same. same)
    (λ ne.
    let one = tB.above A tA.is_feasible tA.within ne in
    let two = tA.above B tB.is_feasible tB.within (λ e. ne (sym e)) in
    absurd (omega (arith, ints)))
    (cases_same A B)

-- the best subset of Y is that of a smaller X which holds it
pub top_smaller : (n : ℕ) (feasible : List ℕ → Bool) (score : List ℕ → ℤ) (X Y B : List ℕ) → IsTop n feasible score Y B → IsWithin X Y → IsWithin B X → IsTop n feasible score X B
top_smaller n feasible score X Y B t w inside = record {
  is_feasible = t.is_feasible;
  within = inside;
  above = λ T fT wT ne. t.above T fT (within_trans T X Y wT w) ne;
}

-- A, the best of X, and B, that of Y, don't gain by a move to others within X and Y
no_move : (n : ℕ) (feasible : List ℕ → Bool) (score : List ℕ → ℤ) (X Y A B A' B' : List ℕ) → IsTop n feasible score X A → IsTop n feasible score Y B → NoLoss feasible score B A B' A' →
    IsSetBelow n A' → IsSetBelow n B' → IsWithin A' X → IsWithin B' Y → (A' ≡ A → ⊥) → (B' ≡ B → ⊥) → ⊥
no_move n feasible score X Y A B A' B' tA tB m sA sB wA wB neA neB =
    let one = tA.above A' (record { is_set = sA; passes = m.1 }) wA neA in
    let two = tB.above B' (record { is_set = sB; passes = m.0 }) wB neB in
    let sum = m.2 in
    omega (arith, ints)

pub tops_substitutes : (n : ℕ) (feasible : List ℕ → Bool) (score : List ℕ → ℤ) (X Y A B : List ℕ) → Exchange n feasible score → IsTop n feasible score X A → IsTop n feasible score Y B →
    IsWithin X Y → (x : ℕ) → IsIn x X → IsIn x B → IsIn x A
tops_substitutes n feasible score X Y A B exchange tA tB w x inX inB =
    ⊎_elim
    (λ there. there)
    (λ out.
    let lt : x < n = tB.is_feasible.is_set.below x inB in
    absurd (⊎_elim
    (λ m. no_move n feasible score X Y A B (with_one A x) (without B x) tA tB m
    (IsSetBelow-with_one n A x tA.is_feasible.is_set lt) (IsSetBelow-without n B x tB.is_feasible.is_set)
    (with_one_within A X x tA.within inX) (smaller_within B Y x tB.within)
    (unequal (with_one A x) A x (IsIn-with_one_new A x) out) (λ e. unequal B (without B x) x inB (not_in_without B x) (sym e)))
    (λ s.
    let j = s.0 in
    let ne : x ≡ j → ⊥ = apart B x j inB (not_in_from j B s.2) in
    no_move n feasible score X Y A B (swapped A x j) (swapped B j x) tA tB s.3
    (IsSetBelow-swapped n A j x tA.is_feasible.is_set lt) (IsSetBelow-swapped n B x j tB.is_feasible.is_set (tA.is_feasible.is_set.below j s.1))
    (swapped_within A X j x tA.within inX) (swapped_within B Y x j tB.within (w j (tA.within j s.1)))
    (unequal (swapped A x j) A x (swapped_new A j x) out) (λ e. unequal B (swapped B j x) x inB (swapped_old B x j ne) (sym e)))
    (exchange B A x tB.is_feasible.is_set tA.is_feasible.is_set tB.is_feasible.passes tA.is_feasible.passes inB (λ h. not_both (has x A) h out))))
    (cases_has x A)

pub tops_size : (n : ℕ) (feasible : List ℕ → Bool) (score : List ℕ → ℤ) (X Y A B : List ℕ) → SizeExchange n feasible score → IsTop n feasible score X A → IsTop n feasible score Y B →
    IsWithin X Y → length A ≤ length B
tops_size n feasible score X Y A B exchange tA tB w =
    ⊎_elim
    (λ less.
    let s = exchange B A tB.is_feasible.is_set tA.is_feasible.is_set tB.is_feasible.passes tA.is_feasible.passes less in
    let j = s.0 in
    absurd (no_move n feasible score X Y A B (without A j) (with_one B j) tA tB s.3
    (IsSetBelow-without n A j tA.is_feasible.is_set) (IsSetBelow-with_one n B j tB.is_feasible.is_set (tA.is_feasible.is_set.below j s.1))
    (smaller_within A X j tA.within) (with_one_within B Y j tB.within (w j (tA.within j s.1)))
    (λ e. unequal A (without A j) j s.1 (not_in_without A j) (sym e)) (unequal (with_one B j) B j (IsIn-with_one_new B j) (not_in_from j B s.2))))
    (λ le. le)
    (cases_lt (length B) (length A))

pub choice_from_tops : (n : ℕ) (feasible : List ℕ → Bool) (score : List ℕ → ℤ) (chosen : List ℕ → List ℕ) → Exchange n feasible score → SizeExchange n feasible score →
    ((X : List ℕ) → IsSetBelow n X → IsTop n feasible score X (chosen X)) → IsChoice n chosen
choice_from_tops n feasible score chosen exchange size_exchange top = record {
  ascending = λ X sX. (top X sX).is_feasible.is_set.ascending;
  within = λ X sX. (top X sX).within;
  same = λ X Y sX sY w inside. top_unique n feasible score X (chosen X) (chosen Y) (top X sX) (top_smaller n feasible score X Y (chosen Y) (top Y sY) w inside);
  kept = λ X Y sX sY w x inX inB. tops_substitutes n feasible score X Y (chosen X) (chosen Y) exchange (top X sX) (top Y sY) w x inX inB;
  sizes = λ X Y sX sY w. tops_size n feasible score X Y (chosen X) (chosen Y) size_exchange (top X sX) (top Y sY) w;
}
