-- Worth and tie order as one number: it decides which of two feasible sets is better, and keeps both exchanges.
use Rattle.std.proofs.Common.{◌≡◌, ◌↔◌, ℕ, ◌<◌, List, [], ◌∷◌, Bool, true, false, not, cond, ◌&&◌, ◌||◌, ◌⊎◌, find, ℤ, pos, ◌+ℤ◌, ◌≤ℤ◌, ◌<ℤ◌, int_lt, int_eq, Some, refl, sym, ap, ◌∙◌, subst, inl, inr, ⊎_elim, arith, true≢false}
use Rattle.std.specs.Option.{option_map_or}
use Rattle.std.proofs.lemmas.Int.{ints}
use Rattle.std.proofs.lemmas.Bool.{cases_eq, cases_Bool, and_from, and_parts, or_left, or_right, or_cases, and_left, not_from_true, not_from_false}
use Rattle.std.proofs.lemmas.Bool.Decides.{Decides-int_eq}
use Rattle.rm_sets.specs.Sets.{has, IsIn, with_one, without}
use Rattle.rm_sets.proofs.Sets.{cases_has, not_both, IsIn-here, IsIn-later, IsIn-cases, same_sets}
use Rattle.rm_sets.proofs.Members.{IsIn-with_one_new, not_in_without, not_in_from}
use Rattle.rm_valuation_laws.specs.Choice.{IsStrict}
use Rattle.rm_market.specs.Best.{Values, is_in_one, is_better, NoLoss, Exchange, SizeExchange, swapped, wins_tie}
use Rattle.rm_valuation_laws.specs.Scores.{bit, score_from, score}
use Rattle.rm_valuation_laws.proofs.Moves.{with_other, without_other, swapped_new, swapped_old, swapped_other, apart}

-- ---- how scores compare

pub bit_range : (b : Bool) → (pos 0 ≤ℤ bit b) × (bit b ≤ℤ pos 1)
bit_range true = (omega (arith, ints), omega (arith, ints))
bit_range false = (omega (arith, ints), omega (arith, ints))

-- a greater number stays greater
pub stays_above : (ties S T : List ℕ) (a b : ℤ) → b <ℤ a → score_from b ties T <ℤ score_from a ties S
stays_above [] S T a b lt = lt
stays_above (x ∷ ties) S T a b lt =
    let s = bit_range (has x S) in
    let t = bit_range (has x T) in
    stays_above ties S T ((a +ℤ a) +ℤ bit (has x S)) ((b +ℤ b) +ℤ bit (has x T)) (omega (arith, ints))

-- from equal numbers: S leads and has more, or it doesn't and has less, or the sets agree
abbrev pub Compared : ℤ → List ℕ → List ℕ → List ℕ → Type 0
Compared a ties S T =
    ((wins_tie ties S T ≡ true) × (score_from a ties T <ℤ score_from a ties S))
    ⊎ (((wins_tie ties S T ≡ false) × (score_from a ties S <ℤ score_from a ties T))
    ⊎ ((wins_tie ties S T ≡ false) × ((x : ℕ) → IsIn x ties → has x S ≡ has x T)))

in_one_same : (x : ℕ) (S T : List ℕ) → has x S ≡ has x T → is_in_one x S T ≡ false
in_one_same x S T e = rw e (same (has x T))
  where
    same : (b : Bool) → ((b && not b) || (b && not b)) ≡ false
    same true = refl
    same false = refl

pub leads_skip : (x : ℕ) (ties S T : List ℕ) → has x S ≡ has x T → wins_tie (x ∷ ties) S T ≡ wins_tie ties S T
leads_skip x ties S T e = ap (λ b. option_map_or (λ y. has y S) (cond b (Some x) (find (λ y. is_in_one y S T) ties)) false) (in_one_same x S T e)

in_one_first : (x : ℕ) (S T : List ℕ) (b : Bool) → has x S ≡ b → has x T ≡ not b → is_in_one x S T ≡ true
in_one_first x S T true e f = rw (e, f) refl
in_one_first x S T false e f = rw (e, f) refl

pub leads_first : (x : ℕ) (ties S T : List ℕ) (b : Bool) → has x S ≡ b → has x T ≡ not b → wins_tie (x ∷ ties) S T ≡ b
leads_first x ties S T b e f = ap (λ c. option_map_or (λ y. has y S) (cond c (Some x) (find (λ y. is_in_one y S T) ties)) false) (in_one_first x S T b e f) ∙ e

compared_skip : (a : ℤ) (x : ℕ) (ties S T : List ℕ) → has x S ≡ has x T → Compared ((a +ℤ a) +ℤ bit (has x S)) ties S T → Compared a (x ∷ ties) S T
compared_skip a x ties S T e c =
    let skip = leads_skip x ties S T e in
    let turn = subst (λ b. score_from ((a +ℤ a) +ℤ bit b) ties T ≡ score_from ((a +ℤ a) +ℤ bit (has x T)) ties T) (sym e) refl in
    ⊎_elim
    (λ more. inl (skip ∙ more.0, subst (λ z. z <ℤ score_from ((a +ℤ a) +ℤ bit (has x S)) ties S) turn more.1))
    (λ rest. ⊎_elim
    (λ less. inr (inl (skip ∙ less.0, subst (λ z. score_from ((a +ℤ a) +ℤ bit (has x S)) ties S <ℤ z) turn less.1)))
    (λ agree. inr (inr (skip ∙ agree.0, λ y h. ⊎_elim (λ same. subst (λ z. has z S ≡ has z T) (sym same) e) (λ later. agree.1 y later) (IsIn-cases y x ties h))))
    rest)
    c

pub compare : (a : ℤ) (ties S T : List ℕ) → Compared a ties S T
compare a [] S T = inr (inr (refl, λ x h. absurd (true≢false (sym h))))
compare a (x ∷ ties) S T =
    let next = compare ((a +ℤ a) +ℤ bit (has x S)) ties S T in
    ⊎_elim
    (λ yesS. ⊎_elim
    (λ yesT. compared_skip a x ties S T (yesS ∙ sym yesT) next)
    (λ noT. inl (leads_first x ties S T true yesS noT, stays_above ties S T ((a +ℤ a) +ℤ bit (has x S)) ((a +ℤ a) +ℤ bit (has x T)) (rw (yesS, noT) (omega (arith, ints)))))
    (cases_has x T))
    (λ noS. ⊎_elim
    (λ yesT. inr (inl (leads_first x ties S T false noS yesT, stays_above ties T S ((a +ℤ a) +ℤ bit (has x T)) ((a +ℤ a) +ℤ bit (has x S)) (rw (noS, yesT) (omega (arith, ints))))))
    (λ noT. compared_skip a x ties S T (noS ∙ sym noT) next)
    (cases_has x T))
    (cases_has x S)

-- ---- which set is better

int_equal : (a b : ℤ) → a ≤ℤ b → b ≤ℤ a → a ≡ b
int_equal a b h k = omega (arith, ints)

int_lt-true : (a b : ℤ) → int_lt a b ≡ true → a <ℤ b
int_lt-true a b h = grind (arith, ints)

int_lt-false : (a b : ℤ) → int_lt a b ≡ false → b ≤ℤ a
int_lt-false a b h = grind (arith, ints)

lt-int_lt : (a b : ℤ) → a <ℤ b → int_lt a b ≡ true
lt-int_lt a b h = grind (arith, ints)

pub cases_int : (a b : ℤ) → (a <ℤ b) ⊎ ((a ≡ b) ⊎ (b <ℤ a))
cases_int a b =
    ⊎_elim
    (λ t. inl (int_lt-true a b t))
    (λ f. ⊎_elim
    (λ t. inr (inr (int_lt-true b a t)))
    (λ g. inr (inl (int_equal a b (int_lt-false b a g) (int_lt-false a b f))))
    (cases_Bool (int_lt b a)))
    (cases_Bool (int_lt a b))

-- the score of S from the worth of T, where the worths are equal
score_at : (v : Values) (S T : List ℕ) → v.worth S ≡ v.worth T → score_from (v.worth S) v.ties T ≡ score v T
score_at v S T e = ap (λ a. score_from a v.ties T) e

pub better_from_higher : (v : Values) (S T : List ℕ) → v.feasible S ≡ true → score v T <ℤ score v S → is_better v S T ≡ true
unfolding is_better
better_from_higher v S T fS lt =
    and_from (v.feasible S) (not (v.feasible T) || int_lt (v.worth T) (v.worth S) || (int_eq (v.worth S) (v.worth T) && wins_tie v.ties S T)) fS
    (⊎_elim
    (λ less. absurd (let up = stays_above v.ties T S (v.worth T) (v.worth S) less in omega (arith, ints)))
    (λ rest. ⊎_elim
    (λ e. or_right (not (v.feasible T) || int_lt (v.worth T) (v.worth S)) (int_eq (v.worth S) (v.worth T) && wins_tie v.ties S T)
    (and_from (int_eq (v.worth S) (v.worth T)) (wins_tie v.ties S T) ((Decides-int_eq (v.worth S) (v.worth T)).1 e)
    (leads_from e (compare (v.worth S) v.ties S T))))
    (λ more. or_left (not (v.feasible T) || int_lt (v.worth T) (v.worth S)) (int_eq (v.worth S) (v.worth T) && wins_tie v.ties S T)
    (or_right (not (v.feasible T)) (int_lt (v.worth T) (v.worth S)) (lt-int_lt (v.worth T) (v.worth S) more)))
    rest)
    (cases_int (v.worth S) (v.worth T)))
  where
    same_score : ((x : ℕ) → IsIn x v.ties → has x S ≡ has x T) → (ties : List ℕ) → ((x : ℕ) → IsIn x ties → IsIn x v.ties) → (a : ℤ) → score_from a ties S ≡ score_from a ties T
    same_score agree [] w a = refl
    same_score agree (x ∷ ties) w a =
        ap (λ b. score_from ((a +ℤ a) +ℤ bit b) ties S) (agree x (w x (IsIn-here x ties)))
        ∙ same_score agree ties (λ y h. w y (IsIn-later y x ties h)) ((a +ℤ a) +ℤ bit (has x T))

    leads_from : v.worth S ≡ v.worth T → Compared (v.worth S) v.ties S T → wins_tie v.ties S T ≡ true
    leads_from e c =
        let at = score_at v S T e in
        ⊎_elim
        (λ more. more.0)
        (λ rest. absurd (⊎_elim
        (λ less. let low = subst (λ z. score v S <ℤ z) at less.1 in omega (arith, ints))
        (λ agree. let same = same_score agree.1 v.ties (λ x h. h) (v.worth S) ∙ at in omega (arith, ints))
        rest))
        c

pub higher_from_better : (v : Values) (S T : List ℕ) → v.feasible T ≡ true → is_better v S T ≡ true → score v T <ℤ score v S
unfolding is_better
higher_from_better v S T fT h =
    let parts = and_parts (v.feasible S) (not (v.feasible T) || int_lt (v.worth T) (v.worth S) || (int_eq (v.worth S) (v.worth T) && wins_tie v.ties S T)) h in
    ⊎_elim
    (λ first. ⊎_elim
    (λ no_T. absurd (not_both (not (v.feasible T)) no_T (not_from_true (v.feasible T) fT)))
    (λ more. stays_above v.ties S T (v.worth S) (v.worth T) (int_lt-true (v.worth T) (v.worth S) more))
    (or_cases (not (v.feasible T)) (int_lt (v.worth T) (v.worth S)) first))
    (λ second.
    let both = and_parts (int_eq (v.worth S) (v.worth T)) (wins_tie v.ties S T) second in
    let e : v.worth S ≡ v.worth T = (Decides-int_eq (v.worth S) (v.worth T)).0 both.0 in
    let at = score_at v S T e in
    ⊎_elim
    (λ more. subst (λ z. z <ℤ score v S) at more.1)
    (λ rest. absurd (not_both (wins_tie v.ties S T) both.1 (⊎_elim (λ less. less.0) (λ agree. agree.0) rest)))
    (compare (v.worth S) v.ties S T))
    (or_cases (not (v.feasible T) || int_lt (v.worth T) (v.worth S)) (int_eq (v.worth S) (v.worth T) && wins_tie v.ties S T) parts.1)

-- ---- and where one of the two is not feasible

pub feasible_from_better : (v : Values) (S T : List ℕ) → is_better v S T ≡ true → v.feasible S ≡ true
unfolding is_better
feasible_from_better v S T h = (and_parts (v.feasible S) _ h).0

pub infeasible_not_better : (v : Values) (S T : List ℕ) → v.feasible S ≡ false → is_better v S T ≡ false
unfolding is_better
infeasible_not_better v S T h = and_left (v.feasible S) _ h

pub better_than_infeasible : (v : Values) (S T : List ℕ) → v.feasible S ≡ true → v.feasible T ≡ false → is_better v S T ≡ true
unfolding is_better
better_than_infeasible v S T fS fT = and_from (v.feasible S) _ fS (or_left _ _ (or_left _ _ (not_from_false (v.feasible T) fT)))

-- ---- different feasible sets have different scores

pub scores_differ : (n : ℕ) (v : Values) → ((x : ℕ) → IsIn x v.ties ↔ (x < n)) → IsStrict n v.feasible (score v)
scores_differ n v all S T fS fT e =
    ⊎_elim
    (λ less. absurd (let up = stays_above v.ties T S (v.worth T) (v.worth S) less in omega (arith, ints)))
    (λ rest. ⊎_elim
    (λ w.
    let at = score_at v S T w in
    ⊎_elim
    (λ more. absurd (let low = subst (λ z. z <ℤ score v S) at more.1 in omega (arith, ints)))
    (λ other. ⊎_elim
    (λ less. absurd (let low = subst (λ z. score v S <ℤ z) at less.1 in omega (arith, ints)))
    (λ agree. same_sets S T fS.is_set.ascending fT.is_set.ascending (λ x.
    ⊎_elim
    (λ yesS. agree.1 x ((all x).1 (fS.is_set.below x yesS)))
    (λ noS. ⊎_elim (λ yesT. agree.1 x ((all x).1 (fT.is_set.below x yesT))) (λ noT. noS ∙ sym noT) (cases_has x T))
    (cases_has x S)))
    other)
    (compare (v.worth S) v.ties S T))
    (λ more. absurd (let up = stays_above v.ties S T (v.worth S) (v.worth T) more in omega (arith, ints)))
    rest)
    (cases_int (v.worth S) (v.worth T))

-- ---- moves keep the members of the two sets together

abbrev pub SameTogether : List ℕ → List ℕ → List ℕ → List ℕ → Type 0
SameTogether S T S2 T2 = (x : ℕ) → (bit (has x S) +ℤ bit (has x T)) ≡ (bit (has x S2) +ℤ bit (has x T2))

pub score_together : (S T S2 T2 : List ℕ) → SameTogether S T S2 T2 → (ties : List ℕ) (a b c d : ℤ) → (a +ℤ b) ≤ℤ (c +ℤ d) →
    (score_from a ties S +ℤ score_from b ties T) ≤ℤ (score_from c ties S2 +ℤ score_from d ties T2)
score_together S T S2 T2 same [] a b c d le = le
score_together S T S2 T2 same (x ∷ ties) a b c d le =
    let e = same x in
    score_together S T S2 T2 same ties ((a +ℤ a) +ℤ bit (has x S)) ((b +ℤ b) +ℤ bit (has x T)) ((c +ℤ c) +ℤ bit (has x S2)) ((d +ℤ d) +ℤ bit (has x T2)) (omega (arith, ints))

four_bits : (s t u w s' t' u' w' : Bool) → s ≡ s' → t ≡ t' → u ≡ u' → w ≡ w' → (bit s' +ℤ bit t') ≡ (bit u' +ℤ bit w') → (bit s +ℤ bit t) ≡ (bit u +ℤ bit w)
four_bits s t u w s' t' u' w' p q r o e = rw (p, q, r, o) e

together_alone : (S T : List ℕ) (i : ℕ) → IsIn i S → has i T ≡ false → SameTogether S T (without S i) (with_one T i)
together_alone S T i h out x =
    ⊎_elim
    (λ e. subst (λ z. (bit (has z S) +ℤ bit (has z T)) ≡ (bit (has z (without S i)) +ℤ bit (has z (with_one T i)))) (sym e)
    (four_bits (has i S) (has i T) (has i (without S i)) (has i (with_one T i)) true false false true h out (not_in_without S i) (IsIn-with_one_new T i) refl))
    (λ ne. four_bits (has x S) (has x T) (has x (without S i)) (has x (with_one T i)) (has x S) (has x T) (has x S) (has x T) refl refl (without_other S i x ne) (with_other T i x ne) refl)
    (cases_eq x i)

together_size : (S T : List ℕ) (j : ℕ) → IsIn j T → has j S ≡ false → SameTogether S T (with_one S j) (without T j)
together_size S T j h out x =
    ⊎_elim
    (λ e. subst (λ z. (bit (has z S) +ℤ bit (has z T)) ≡ (bit (has z (with_one S j)) +ℤ bit (has z (without T j)))) (sym e)
    (four_bits (has j S) (has j T) (has j (with_one S j)) (has j (without T j)) false true true false out h (IsIn-with_one_new S j) (not_in_without T j) refl))
    (λ ne. four_bits (has x S) (has x T) (has x (with_one S j)) (has x (without T j)) (has x S) (has x T) (has x S) (has x T) refl refl (with_other S j x ne) (without_other T j x ne) refl)
    (cases_eq x j)

together_swap : (S T : List ℕ) (i j : ℕ) → IsIn i S → has i T ≡ false → IsIn j T → has j S ≡ false → SameTogether S T (swapped S j i) (swapped T i j)
together_swap S T i j hi outi hj outj x =
    let ne : i ≡ j → ⊥ = apart S i j hi outj in
    ⊎_elim
    (λ e. subst (λ z. (bit (has z S) +ℤ bit (has z T)) ≡ (bit (has z (swapped S j i)) +ℤ bit (has z (swapped T i j)))) (sym e)
    (four_bits (has i S) (has i T) (has i (swapped S j i)) (has i (swapped T i j)) true false false true hi outi (swapped_old S i j ne) (swapped_new T j i) refl))
    (λ ni. ⊎_elim
    (λ e. subst (λ z. (bit (has z S) +ℤ bit (has z T)) ≡ (bit (has z (swapped S j i)) +ℤ bit (has z (swapped T i j)))) (sym e)
    (four_bits (has j S) (has j T) (has j (swapped S j i)) (has j (swapped T i j)) false true true false outj hj (swapped_new S i j) (swapped_old T j i (λ same. ne (sym same))) refl))
    (λ nj. four_bits (has x S) (has x T) (has x (swapped S j i)) (has x (swapped T i j)) (has x S) (has x T) (has x S) (has x T) refl refl (swapped_other S i j x ni nj) (swapped_other T j i x nj ni) refl)
    (cases_eq x j))
    (cases_eq x i)

-- ---- the exchanges for the score

score_move : (v : Values) (S T S2 T2 : List ℕ) → SameTogether S T S2 T2 → NoLoss v.feasible v.worth S T S2 T2 → NoLoss v.feasible (score v) S T S2 T2
score_move v S T S2 T2 same m = (m.0, m.1, score_together S T S2 T2 same v.ties (v.worth S) (v.worth T) (v.worth S2) (v.worth T2) m.2)

pub score_exchange : (n : ℕ) (v : Values) → Exchange n v.feasible v.worth → Exchange n v.feasible (score v)
score_exchange n v exchange S T i sS sT fS fT h out =
    ⊎_elim
    (λ m. inl (score_move v S T (without S i) (with_one T i) (together_alone S T i h (not_in_from i T out)) m))
    (λ s.
    let outj = not_in_from s.0 S s.2 in
    inr (s.0, s.1, s.2, score_move v S T (with_one (without S i) s.0) (with_one (without T s.0) i) (together_swap S T i s.0 h (not_in_from i T out) s.1 outj) s.3))
    (exchange S T i sS sT fS fT h out)

pub score_size_exchange : (n : ℕ) (v : Values) → SizeExchange n v.feasible v.worth → SizeExchange n v.feasible (score v)
score_size_exchange n v exchange S T sS sT fS fT less =
    let s = exchange S T sS sT fS fT less in
    let outj = not_in_from s.0 S s.2 in
    (s.0, s.1, s.2, score_move v S T (with_one S s.0) (without T s.0) (together_size S T s.0 s.1 outj) s.3)
