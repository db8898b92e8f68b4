-- The best subset by worth and tie order is the top one by score: so it exists, is the only one, is found by greedy addition and by single changes, and has the laws of a choice.
use Rattle.std.proofs.Common.{◌≡◌, ℕ, List, true, false, ◌≤ℤ◌, ⊎_elim, arith}
use Rattle.std.proofs.lemmas.Int.{ints}
use Rattle.std.proofs.lemmas.Bool.{cases_Bool}
use Rattle.rm_sets.specs.Sets.{has, IsSet, IsSetBelow, IsWithin, with_one, without}
use Rattle.rm_sets.proofs.Sets.{not_both}
use Rattle.rm_sets.proofs.Members.{IsSetBelow-smaller}
use Rattle.rm_valuation_laws.specs.Choice.{IsFeasible, IsTop, IsStuck, greedy}
use Rattle.rm_market.specs.Best.{IsChoice, Values, is_better, IsBest, IsValuation, swapped}
use Rattle.rm_valuation_laws.specs.Scores.{score, IsUnimproved}
use Rattle.rm_valuation_laws.proofs.SingleChanges.{upper_from_stuck}
use Rattle.rm_valuation_laws.proofs.ChoiceLaws.{top_from_upper, top_unique, choice_from_tops}
use Rattle.rm_valuation_laws.proofs.Greedy.{greedy_is}
use Rattle.rm_valuation_laws.proofs.Score.{cases_int, better_from_higher, higher_from_better, better_than_infeasible, scores_differ, score_exchange, score_size_exchange}

pub feasible_within : (n : ℕ) (v : Values) (X S : List ℕ) → IsSetBelow n X → IsSet S → IsWithin S X → v.feasible S ≡ true → IsFeasible n v.feasible S
feasible_within n v X S sX s w h = record { is_set = IsSetBelow-smaller n S X sX s w; passes = h }

pub best_from_top : (n : ℕ) (v : Values) (X S : List ℕ) → IsTop n v.feasible (score v) X S → IsSetBelow n X → IsBest v X S
best_from_top n v X S t sX = record {
  set = t.is_feasible.is_set.ascending;
  within = t.within;
  feasible = t.is_feasible.passes;
  beats = λ T sT wT ne. ⊎_elim
      (λ h. better_from_higher v S T t.is_feasible.passes (t.above T (feasible_within n v X T sX sT wT h) wT ne))
      (λ h. better_than_infeasible v S T t.is_feasible.passes h)
      (cases_Bool (v.feasible T));
}

pub top_from_best : (n : ℕ) (v : Values) (X S : List ℕ) → IsBest v X S → IsSetBelow n X → IsTop n v.feasible (score v) X S
top_from_best n v X S b sX = record {
  is_feasible = feasible_within n v X S sX b.set b.within b.feasible;
  within = b.within;
  above = λ T fT wT ne. higher_from_better v S T fT.passes (b.beats T fT.is_set.ascending wT ne);
}

pub best_unique : (n : ℕ) (v : Values) (X A B : List ℕ) → IsSetBelow n X → IsBest v X A → IsBest v X B → A ≡ B
best_unique n v X A B sX a b = top_unique n v.feasible (score v) X A B (top_from_best n v X A a sX) (top_from_best n v X B b sX)

pub best_by_greedy : (n : ℕ) (v : Values) (X : List ℕ) → IsValuation n v → IsSetBelow n X → IsBest v X (greedy v.feasible (score v) X)
best_by_greedy n v X laws sX =
    best_from_top n v X (greedy v.feasible (score v) X)
    (greedy_is n v.feasible (score v) laws.empty (score_size_exchange n v laws.size_exchange) (scores_differ n v laws.ties_all) X sX)
    sX

-- a change that isn't better has no greater score
not_higher : (v : Values) (S T : List ℕ) → v.feasible T ≡ true → is_better v T S ≡ false → score v T ≤ℤ score v S
not_higher v S T fT h =
    ⊎_elim
    (λ lt. absurd (not_both (is_better v T S) (better_from_higher v T S fT lt) h))
    (λ rest. ⊎_elim (λ e. omega (arith, ints)) (λ lt. omega (arith, ints)) rest)
    (cases_int (score v S) (score v T))

pub best_from_unimproved : (n : ℕ) (v : Values) (X S : List ℕ) → IsValuation n v → IsSetBelow n X → IsUnimproved v X S → IsBest v X S
best_from_unimproved n v X S laws sX u =
    let fS = feasible_within n v X S sX u.set u.within u.feasible in
    let stuck : IsStuck n v.feasible (score v) X S = record {
      is_feasible = fS;
      within = u.within;
      add = λ x inX out h. not_higher v S (with_one S x) h (u.add x inX (λ h2. not_both (has x S) h2 out));
      remove = λ z inS h. not_higher v S (without S z) h (u.remove z inS);
      swap = λ x z inX out inS h. not_higher v S (swapped S x z) h (u.swap x z inX (λ h2. not_both (has x S) h2 out) inS);
    } in
    best_from_top n v X S
    (top_from_upper n v.feasible (score v) X S (scores_differ n v laws.ties_all) fS u.within
    (upper_from_stuck n v.feasible (score v) X S (score_exchange n v laws.exchange) stuck))
    sX

pub choice_from_bests : (n : ℕ) (v : Values) (chosen : List ℕ → List ℕ) → IsValuation n v → ((X : List ℕ) → IsSetBelow n X → IsBest v X (chosen X)) → IsChoice n chosen
choice_from_bests n v chosen laws best =
    choice_from_tops n v.feasible (score v) chosen (score_exchange n v laws.exchange) (score_size_exchange n v laws.size_exchange)
    (λ X sX. top_from_best n v X (chosen X) (best X sX) sX)
