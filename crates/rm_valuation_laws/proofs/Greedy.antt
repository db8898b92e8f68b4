-- Greedy addition ends in the best subset.
use Rattle.std.proofs.Common.{◌≡◌, ℕ, zero, suc, ◌+◌, ◌≤◌, List, [], ◌∷◌, Bool, true, false, not, cond, ◌&&◌, length, ℤ, ◌≤ℤ◌, ◌<ℤ◌, int_lt, Option, Some, None, sym, ap, subst, ⊎_elim, arith}
use Rattle.std.proofs.lemmas.Int.{ints}
use Rattle.std.proofs.lemmas.List.{nil_from_length}
use Rattle.std.proofs.lemmas.Bool.{cases_lt, and_parts, and_from, cond_both, not_from_false, not-true}
use Rattle.rm_sets.specs.Sets.{has, IsIn, IsSetBelow, IsWithin, with_one, without}
use Rattle.rm_sets.proofs.Sets.{not_both, IsIn-cases, IsIn-here, IsIn-later}
use Rattle.rm_sets.proofs.Members.{not_in_from, IsSetBelow-with_one, IsSetBelow-without, with_one_within, not_in_nil, IsSetBelow-nil, within_nil}
use Rattle.rm_sets.proofs.Sizes.{length-with_one, length-without, same_from_length}
use Rattle.rm_market.specs.Best.{SizeExchange}
use Rattle.rm_valuation_laws.specs.Choice.{IsFeasible, IsStrict, IsTop, IsTopSoFar, IsUpper, IsBestAddition, HasNoGain, better_addition, best_addition, grow, greedy}
use Rattle.rm_valuation_laws.proofs.Moves.{smaller_within}
use Rattle.rm_valuation_laws.proofs.ChoiceLaws.{top_from_upper}

pub so_far_empty : (n : ℕ) (feasible : List ℕ → Bool) (score : List ℕ → ℤ) (X : List ℕ) → feasible [] ≡ true → IsTopSoFar n feasible score X []
so_far_empty n feasible score X h = record {
  is_feasible = record { is_set = IsSetBelow-nil n; passes = h };
  within = within_nil X;
  above = λ T fT w short. let same : T ≡ [] = nil_from_length T (omega arith) in let e = ap score same in omega (arith, ints);
}

pub so_far_step : (n : ℕ) (feasible : List ℕ → Bool) (score : List ℕ → ℤ) (X S : List ℕ) (x : ℕ) → SizeExchange n feasible score → IsSetBelow n X → IsTopSoFar n feasible score X S →
    IsBestAddition feasible score X S x → score S ≤ℤ score (with_one S x) → IsTopSoFar n feasible score X (with_one S x)
so_far_step n feasible score X S x exchange sX top best gain = record {
  is_feasible = record { is_set = IsSetBelow-with_one n S x top.is_feasible.is_set (sX.below x best.member); passes = best.passes };
  within = with_one_within S X x top.within best.member;
  above = λ T fT w short.
      ⊎_elim
      (λ longer.
      let s = exchange S T top.is_feasible.is_set fT.is_set top.is_feasible.passes fT.passes longer in
      let j = s.0 in
      let m = s.3 in
      let one = length-without T j fT.is_set.ascending s.1 in
      let more = length-with_one S x best.outside in
      let low = top.above (without T j) (record { is_set = IsSetBelow-without n T j fT.is_set; passes = m.1 }) (smaller_within T X j w) (omega arith) in
      let high = best.most j (w j s.1) (not_in_from j S s.2) m.0 in
      let sum = m.2 in
      omega (arith, ints))
      (λ le. let low = top.above T fT w le in omega (arith, ints))
      (cases_lt (length S) (length T));
}

stop_steps : (n : ℕ) (feasible : List ℕ → Bool) (score : List ℕ → ℤ) (X S : List ℕ) → SizeExchange n feasible score → IsTopSoFar n feasible score X S → HasNoGain feasible score X S →
    (k : ℕ) (T : List ℕ) → length T ≤ k → IsFeasible n feasible T → IsWithin T X → score T ≤ℤ score S
stop_steps n feasible score X S exchange top none zero T short fT w = top.above T fT w (omega arith)
stop_steps n feasible score X S exchange top none (suc k) T short fT w =
    ⊎_elim
    (λ longer.
    let s = exchange S T top.is_feasible.is_set fT.is_set top.is_feasible.passes fT.passes longer in
    let j = s.0 in
    let m = s.3 in
    let one = length-without T j fT.is_set.ascending s.1 in
    let low = stop_steps n feasible score X S exchange top none k (without T j) (omega arith) (record { is_set = IsSetBelow-without n T j fT.is_set; passes = m.1 }) (smaller_within T X j w) in
    let high = none j (w j s.1) (not_in_from j S s.2) m.0 in
    let sum = m.2 in
    omega (arith, ints))
    (λ le. top.above T fT w le)
    (cases_lt (length S) (length T))

pub upper_from_stop : (n : ℕ) (feasible : List ℕ → Bool) (score : List ℕ → ℤ) (X S : List ℕ) → SizeExchange n feasible score → IsTopSoFar n feasible score X S → HasNoGain feasible score X S → IsUpper n feasible score X S
upper_from_stop n feasible score X S exchange top none T = stop_steps n feasible score X S exchange top none (length T) T (omega arith)

-- ---- the function

int_lt-true : (a b : ℤ) → int_lt a b ≡ true → a <ℤ b
int_lt-true a b h = grind (arith, ints)

int_lt-false : (a b : ℤ) → int_lt a b ≡ false → b ≤ℤ a
int_lt-false a b h = grind (arith, ints)

pub same_le : (score : List ℕ → ℤ) (S T : List ℕ) → S ≡ T → score S ≤ℤ score T
same_le score S T e = let f = ap score e in omega (arith, ints)

-- what best_addition answers
abbrev IsAnswer : (List ℕ → Bool) → (List ℕ → ℤ) → List ℕ → List ℕ → Option ℕ → Type 0
IsAnswer feasible score S Y None = (y : ℕ) → IsIn y Y → has y S ≡ false → feasible (with_one S y) ≡ true → ⊥
IsAnswer feasible score S Y (Some x) = IsBestAddition feasible score Y S x

answer_taken : (feasible : List ℕ → Bool) (score : List ℕ → ℤ) (S : List ℕ) (y : ℕ) (Y : List ℕ) → has y S ≡ false → feasible (with_one S y) ≡ true →
    (o : Option ℕ) → IsAnswer feasible score S Y o → IsAnswer feasible score S (y ∷ Y) (better_addition score S y o)
answer_taken feasible score S y Y out h None a = record {
  member = IsIn-here y Y;
  outside = out;
  passes = h;
  most = λ z inZ outZ hz. ⊎_elim (λ e. same_le score (with_one S z) (with_one S y) (ap (with_one S) e)) (λ later. absurd (a z later outZ hz)) (IsIn-cases z y Y inZ);
}
answer_taken feasible score S y Y out h (Some x) a =
    cond_both (int_lt (score (with_one S y)) (score (with_one S x))) (Some x) (Some y) (IsAnswer feasible score S (y ∷ Y))
    (λ t.
    let lt = int_lt-true (score (with_one S y)) (score (with_one S x)) t in
    record {
      member = IsIn-later x y Y a.member;
      outside = a.outside;
      passes = a.passes;
      most = λ z inZ outZ hz. ⊎_elim
          (λ e. let same = same_le score (with_one S z) (with_one S y) (ap (with_one S) e) in omega (arith, ints))
          (λ later. a.most z later outZ hz)
          (IsIn-cases z y Y inZ);
    })
    (λ t.
    let le = int_lt-false (score (with_one S y)) (score (with_one S x)) t in
    record {
      member = IsIn-here y Y;
      outside = out;
      passes = h;
      most = λ z inZ outZ hz. ⊎_elim
          (λ e. same_le score (with_one S z) (with_one S y) (ap (with_one S) e))
          (λ later. let low = a.most z later outZ hz in omega (arith, ints))
          (IsIn-cases z y Y inZ);
    })

answer_passed : (feasible : List ℕ → Bool) (score : List ℕ → ℤ) (S : List ℕ) (y : ℕ) (Y : List ℕ) → (has y S ≡ false → feasible (with_one S y) ≡ true → ⊥) →
    (o : Option ℕ) → IsAnswer feasible score S Y o → IsAnswer feasible score S (y ∷ Y) o
answer_passed feasible score S y Y not_y None a = λ z inZ outZ hz.
    ⊎_elim
    (λ e. not_y (subst (λ w. has w S ≡ false) e outZ) (subst (λ w. feasible (with_one S w) ≡ true) e hz))
    (λ later. a z later outZ hz)
    (IsIn-cases z y Y inZ)
answer_passed feasible score S y Y not_y (Some x) a = record {
  member = IsIn-later x y Y a.member;
  outside = a.outside;
  passes = a.passes;
  most = λ z inZ outZ hz. ⊎_elim
      (λ e. absurd (not_y (subst (λ w. has w S ≡ false) e outZ) (subst (λ w. feasible (with_one S w) ≡ true) e hz)))
      (λ later. a.most z later outZ hz)
      (IsIn-cases z y Y inZ);
}

best_addition_is : (feasible : List ℕ → Bool) (score : List ℕ → ℤ) (S Y : List ℕ) → IsAnswer feasible score S Y (best_addition feasible score S Y)
best_addition_is feasible score S [] = λ y h. absurd (not_in_nil y h)
best_addition_is feasible score S (y ∷ Y) =
    let rest = best_addition_is feasible score S Y in
    cond_both (not (has y S) && feasible (with_one S y)) (better_addition score S y (best_addition feasible score S Y)) (best_addition feasible score S Y) (IsAnswer feasible score S (y ∷ Y))
    (λ t. let both = and_parts (not (has y S)) (feasible (with_one S y)) t in
    answer_taken feasible score S y Y (not-true (has y S) both.0) both.1 (best_addition feasible score S Y) rest)
    (λ t. answer_passed feasible score S y Y (λ out h. not_both (not (has y S) && feasible (with_one S y)) (and_from (not (has y S)) (feasible (with_one S y)) (not_from_false (has y S) out) h) t) (best_addition feasible score S Y) rest)

-- a feasible subset of X that none exceeds
pub record IsWinner (n : ℕ) (feasible : List ℕ → Bool) (score : List ℕ → ℤ) (X S : List ℕ) : Type 0 where
  pub is_feasible : IsFeasible n feasible S
  pub within : IsWithin S X
  pub upper : IsUpper n feasible score X S

winner_from_stop : (n : ℕ) (feasible : List ℕ → Bool) (score : List ℕ → ℤ) (X S : List ℕ) → SizeExchange n feasible score → IsTopSoFar n feasible score X S → HasNoGain feasible score X S → IsWinner n feasible score X S
winner_from_stop n feasible score X S exchange top none = record { is_feasible = top.is_feasible; within = top.within; upper = upper_from_stop n feasible score X S exchange top none }

grow_is : (n : ℕ) (feasible : List ℕ → Bool) (score : List ℕ → ℤ) (X : List ℕ) → SizeExchange n feasible score → IsSetBelow n X →
    (k : ℕ) (S : List ℕ) → length X ≤ k + length S → IsTopSoFar n feasible score X S → IsWinner n feasible score X (grow feasible score X k S)
grow_is n feasible score X exchange sX zero S enough top =
    let same : S ≡ X = same_from_length S X top.is_feasible.is_set.ascending sX.ascending top.within (omega arith) in
    winner_from_stop n feasible score X S exchange top (λ y inY outY _. absurd (not_both (has y S) (subst (λ Z. IsIn y Z) (sym same) inY) outY))
grow_is n feasible score X exchange sX (suc k) S enough top = at (grow_is n feasible score X exchange sX k) (best_addition feasible score S X) (best_addition_is feasible score S X)
  where
    at : ((S' : List ℕ) → length X ≤ k + length S' → IsTopSoFar n feasible score X S' → IsWinner n feasible score X (grow feasible score X k S')) →
        (o : Option ℕ) → IsAnswer feasible score S X o →
        IsWinner n feasible score X (elim o [ None ↦ S | Some x ↦ cond (int_lt (score S) (score (with_one S x))) (grow feasible score X k (with_one S x)) S ])
    at next None a = winner_from_stop n feasible score X S exchange top (λ y inY outY h. absurd (a y inY outY h))
    at next (Some x) a =
        cond_both (int_lt (score S) (score (with_one S x))) (grow feasible score X k (with_one S x)) S (IsWinner n feasible score X)
        (λ t.
        let lt = int_lt-true (score S) (score (with_one S x)) t in
        let more = length-with_one S x a.outside in
        next (with_one S x) (omega arith) (so_far_step n feasible score X S x exchange sX top a (omega (arith, ints))))
        (λ t.
        let le = int_lt-false (score S) (score (with_one S x)) t in
        winner_from_stop n feasible score X S exchange top (λ y inY outY h. let low = a.most y inY outY h in omega (arith, ints)))

pub greedy_is : (n : ℕ) (feasible : List ℕ → Bool) (score : List ℕ → ℤ) → feasible [] ≡ true → SizeExchange n feasible score → IsStrict n feasible score →
    (X : List ℕ) → IsSetBelow n X → IsTop n feasible score X (greedy feasible score X)
greedy_is n feasible score empty exchange strict X sX =
    let w = grow_is n feasible score X exchange sX (length X) [] (omega arith) (so_far_empty n feasible score X empty) in
    top_from_upper n feasible score X (greedy feasible score X) strict w.is_feasible w.within w.upper
