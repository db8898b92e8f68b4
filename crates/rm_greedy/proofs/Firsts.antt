-- The first of some additions, one more at a time.
use Rattle.std.proofs.Common.{◌≡◌, ◌⊎◌, ℕ, List, [], ◌∷◌, ◌++◌, Bool, true, false, length, cond, eqb, ltb, position, ℤ, pos, ◌≤ℤ◌, ◌<ℤ◌, int_lt, rules, Option, Some, None, IsFalse, refl, sym, subst, ⊎_elim, inl, inr, arith, ◌∙◌}
use Rattle.std.proofs.lemmas.Int.{ints}
use Rattle.std.proofs.lemmas.Bool.{cases_lt, cases_Bool}
use Rattle.std.specs.List.{position_or_len}
use Rattle.rm_sets.specs.Sets.{has, IsIn, with_one}
use Rattle.rm_sets.proofs.Sets.{not_both, IsIn-cases, IsIn-here}
use Rattle.rm_sets.proofs.Members.{IsIn-append_cases, IsIn-append_left, IsIn-append_right, not_in_nil}
use Rattle.rm_market.specs.Board.{Board, is_feasible, worth}
use Rattle.rm_valuation.specs.Counts.{IsGain}
use Rattle.rm_valuation_laws.specs.Scores.{place}
use Rattle.rm_greedy.specs.declared.addition.Addition.{Addition}
use Rattle.rm_greedy.specs.Additions.{IsAddition, IsNoAddition, IsCandidate, ComesFirst, IsNoBetter, IsFirst, IsFirstOf}

-- one of the contracts, or the last
last_cases : (x y : ℕ) (Y : List ℕ) → IsIn x (Y ++ y ∷ []) → IsIn x Y ⊎ (x ≡ y)
last_cases x y Y i = ⊎_elim (λ h. inl h) (λ h. ⊎_elim (λ e. inr e) (λ z. absurd (not_in_nil x z)) (IsIn-cases x y [] h)) (IsIn-append_cases Y (y ∷ []) x i)

pub addition_is : (b : Board) (S : List ℕ) (a : Addition) → has a.contract S ≡ false → IsGain b S a.contract (Some a.gain) → pos 0 ≤ℤ a.gain → place b.ties a.contract ≡ a.place → IsAddition b S a
addition_is b S a out g up tie = record { outside = λ i. not_both (has a.contract S) i out; passes = g.0; change = g.1; rises = up; tie = tie }

-- ---- one more contract

none_kept : (b : Board) (S Y : List ℕ) (x : ℕ) → IsFirstOf b S Y None → IsNoAddition b S x → IsFirstOf b S (Y ++ x ∷ []) None
none_kept b S Y x none not_it = λ y i. ⊎_elim (none y) (λ e. subst (IsNoAddition b S) (sym e) not_it) (last_cases y x Y i)

above : (b : Board) (S : List ℕ) (a : Addition) (y : ℕ) → IsAddition b S a → worth b (with_one S y) <ℤ worth b S → IsNoBetter b S a y
above b S a y add low = let e = add.change in let up = add.rises in inl (omega (arith, ints, e, up, low))

some_kept : (b : Board) (S Y : List ℕ) (x : ℕ) (a : Addition) → IsFirst b S Y a → IsNoAddition b S x → IsFirst b S (Y ++ x ∷ []) a
some_kept b S Y x a f not_it = record {
  member = IsIn-append_left Y (x ∷ []) a.contract f.member;
  addition = f.addition;
  first = λ y i out fits. ⊎_elim
      (λ h. f.first y h out fits)
      (λ e. above b S a y f.addition (subst (IsNoAddition b S) (sym e) not_it out fits))
      (last_cases y x Y i);
}

pub first_kept : (b : Board) (S Y : List ℕ) (x : ℕ) (o : Option Addition) → IsFirstOf b S Y o → IsNoAddition b S x → IsFirstOf b S (Y ++ x ∷ []) o
first_kept b S Y x None f not_it = none_kept b S Y x f not_it
first_kept b S Y x (Some a) f not_it = some_kept b S Y x a f not_it

itself : (b : Board) (S : List ℕ) (a : Addition) (y : ℕ) → IsAddition b S a → y ≡ a.contract → IsNoBetter b S a y
itself b S a y add e = subst (IsNoBetter b S a) (sym e) (inr (refl, (let t = add.tie in omega (arith, t))))

pub first_at_all : (b : Board) (S Y : List ℕ) (x : ℕ) (a : Addition) → IsFirstOf b S Y None → IsCandidate b S x (Some a) → IsFirst b S (Y ++ x ∷ []) a
first_at_all b S Y x a none cand = record {
  member = subst (λ z. IsIn z (Y ++ x ∷ [])) (sym cand.0) (IsIn-append_right Y (x ∷ []) x (IsIn-here x []));
  addition = cand.1;
  first = λ y i out fits. ⊎_elim
      (λ h. above b S a y cand.1 (none y h out fits))
      (λ e. itself b S a y cand.1 (e ∙ sym cand.0))
      (last_cases y x Y i);
}

-- what is no better than the one is no better than an addition that comes first
no_better : (b : Board) (S : List ℕ) (a c : Addition) (y : ℕ) → IsAddition b S a → IsAddition b S c → ComesFirst a c → IsNoBetter b S c y → IsNoBetter b S a y
no_better b S a c y add adc before after =
    let e = add.change in
    let f = adc.change in
    ⊎_elim
    (λ more. ⊎_elim
    (λ less. inl (omega (arith, ints, e, f, more, less)))
    (λ same. let g = same.0 in inl (omega (arith, ints, e, f, more, g)))
    after)
    (λ tied. let t = tied.0 in let p = tied.1 in ⊎_elim
    (λ less. inl (omega (arith, ints, e, f, t, less)))
    (λ same. let g = same.0 in let q = same.1 in inr (omega (arith, ints, e, f, t, g), omega (arith, p, q)))
    after)
    before

pub first_replaced : (b : Board) (S Y : List ℕ) (x : ℕ) (c a : Addition) → IsFirst b S Y c → IsCandidate b S x (Some a) → ComesFirst a c → IsFirst b S (Y ++ x ∷ []) a
first_replaced b S Y x c a f cand before = record {
  member = subst (λ z. IsIn z (Y ++ x ∷ [])) (sym cand.0) (IsIn-append_right Y (x ∷ []) x (IsIn-here x []));
  addition = cand.1;
  first = λ y i out fits. ⊎_elim
      (λ h. no_better b S a c y cand.1 f.addition before (f.first y h out fits))
      (λ e. itself b S a y cand.1 (e ∙ sym cand.0))
      (last_cases y x Y i);
}

gains : (a c : ℤ) → (a <ℤ c) ⊎ ((c <ℤ a) ⊎ (a ≡ c))
gains a c = ⊎_elim
    (λ h. inl (grind (arith, ints)))
    (λ h. ⊎_elim (λ g. inr (inl (grind (arith, ints)))) (λ g. inr (inr (grind (arith, ints)))) (cases_Bool (int_lt c a)))
    (cases_Bool (int_lt a c))

not_first : (b : Board) (S : List ℕ) (a c : Addition) → IsAddition b S a → IsAddition b S c → ¬ ComesFirst a c → IsNoBetter b S c a.contract
not_first b S a c add adc not_it =
    let e = add.change in
    let f = adc.change in
    let t = add.tie in
    ⊎_elim
    (λ less. inl (omega (arith, ints, e, f, less)))
    (λ rest. ⊎_elim
    (λ more. absurd (not_it (inl more)))
    (λ same. ⊎_elim
    (λ lt. absurd (not_it (inr (same, lt))))
    (λ le. inr (omega (arith, ints, e, f, same), omega (arith, t, le)))
    (cases_lt a.place c.place))
    rest)
    (gains a.gain c.gain)

pub first_stays : (b : Board) (S Y : List ℕ) (x : ℕ) (c a : Addition) → IsFirst b S Y c → IsCandidate b S x (Some a) → ¬ ComesFirst a c → IsFirst b S (Y ++ x ∷ []) c
first_stays b S Y x c a f cand not_it = record {
  member = IsIn-append_left Y (x ∷ []) c.contract f.member;
  addition = f.addition;
  first = λ y i out fits. ⊎_elim
      (λ h. f.first y h out fits)
      (λ e. subst (IsNoBetter b S c) (sym (e ∙ sym cand.0)) (not_first b S a c cand.1 f.addition not_it))
      (last_cases y x Y i);
}
