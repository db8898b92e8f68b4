-- The steps of greedy addition by worth and tie order, and single changes of a best subset.
use Rattle.std.proofs.Common.{◌≡◌, ◌↔◌, ℕ, List, [], Bool, true, false, ◌≤ℤ◌, ◌<ℤ◌, IsTrue, IsFalse, refl, sym, subst, ⊎_elim, arith}
use Rattle.std.proofs.lemmas.Int.{ints}
use Rattle.std.proofs.lemmas.Bool.{cases_Bool}
use Rattle.rm_sets.specs.Sets.{has, IsIn, IsSet, IsSetBelow, IsWithin, with_one, without}
use Rattle.rm_sets.proofs.Sets.{not_both, IsSet-with_one, IsSet-without}
use Rattle.rm_sets.proofs.Search.{cases_same}
use Rattle.rm_sets.proofs.Members.{not_in_from, with_one_within}
use Rattle.rm_valuation_laws.specs.Choice.{HasNoGain}
use Rattle.rm_market.specs.Best.{Values, is_better, IsBest, IsValuation, swapped}
use Rattle.rm_valuation_laws.specs.Scores.{score, IsUnimproved, IsWorthiest, IsBestSoFar}
use Rattle.rm_valuation_laws.proofs.Moves.{swapped_within, smaller_within}
use Rattle.rm_valuation_laws.proofs.ChoiceLaws.{top_from_upper}
use Rattle.rm_valuation_laws.proofs.Greedy.{so_far_empty, so_far_step, upper_from_stop}
use Rattle.rm_valuation_laws.proofs.Score.{higher_from_better, feasible_from_better, scores_differ, score_size_exchange}
use Rattle.rm_valuation_laws.proofs.Leads.{addition_by_worth, score_of_addition, score_by_worth}
use Rattle.rm_valuation_laws.proofs.Best.{best_from_top, best_from_unimproved}
use Rattle.rm_valuation_laws.proofs.Offers.{IsSet-swapped}

pub greedy_start : (n : ℕ) (v : Values) (X : List ℕ) → IsValuation n v → IsBestSoFar n v X []
greedy_start n v X laws = so_far_empty n v.feasible (score v) X laws.empty

pub greedy_step : (n : ℕ) (v : Values) (X S : List ℕ) (x : ℕ) → IsValuation n v → IsSetBelow n X → IsBestSoFar n v X S → IsWorthiest v X S x → v.worth S ≤ℤ v.worth (with_one S x) → IsBestSoFar n v X (with_one S x)
greedy_step n v X S x laws sX so_far w le =
    let inTies = (laws.ties_all x).1 (sX.below x w.member) in
    let up = score_of_addition v S x (not_in_from x S w.outside) inTies le in
    so_far_step n v.feasible (score v) X S x (score_size_exchange n v laws.size_exchange) sX so_far (addition_by_worth v X S x inTies w) (omega (arith, ints))

best_from_stop : (n : ℕ) (v : Values) (X S : List ℕ) → IsValuation n v → IsSetBelow n X → IsBestSoFar n v X S → HasNoGain v.feasible (score v) X S → IsBest v X S
best_from_stop n v X S laws sX so_far none =
    best_from_top n v X S
    (top_from_upper n v.feasible (score v) X S (scores_differ n v laws.ties_all) so_far.is_feasible so_far.within
    (upper_from_stop n v.feasible (score v) X S (score_size_exchange n v laws.size_exchange) so_far none))
    sX

-- nothing can be added
pub greedy_full : (n : ℕ) (v : Values) (X S : List ℕ) → IsValuation n v → IsSetBelow n X → IsBestSoFar n v X S → ((y : ℕ) → IsIn y X → ¬ IsIn y S → IsFalse (v.feasible (with_one S y))) → IsBest v X S
greedy_full n v X S laws sX so_far none =
    best_from_stop n v X S laws sX so_far (λ y inY outY h. absurd (not_both (v.feasible (with_one S y)) h (none y inY (λ i. not_both (has y S) i outY))))

-- each addition lowers the worth
pub greedy_stop : (n : ℕ) (v : Values) (X S : List ℕ) → IsValuation n v → IsSetBelow n X → IsBestSoFar n v X S →
    ((y : ℕ) → IsIn y X → ¬ IsIn y S → IsTrue (v.feasible (with_one S y)) → v.worth (with_one S y) <ℤ v.worth S) → IsBest v X S
greedy_stop n v X S laws sX so_far low =
    best_from_stop n v X S laws sX so_far (λ y inY outY h.
    let down = score_by_worth v S (with_one S y) (low y inY (λ i. not_both (has y S) i outY) h) in
    omega (arith, ints))

-- a best subset is better than no set that is better than it
pub none_beats_best : (v : Values) (X S T : List ℕ) → IsBest v X S → IsSet T → IsWithin T X → is_better v T S ≡ false
none_beats_best v X S T b sT w =
    ⊎_elim
    (λ same. subst (λ U. is_better v U S ≡ false) (sym same) (not_itself (is_better v S S) refl))
    (λ ne. ⊎_elim
    (λ t.
    let fT = feasible_from_better v T S t in
    let one = higher_from_better v T S b.feasible t in
    let two = higher_from_better v S T fT (b.beats T sT w ne) in
    absurd (omega (arith, ints)))
    (λ f. f)
    (cases_Bool (is_better v T S)))
    (cases_same T S)
  where
    not_itself : (a : Bool) → is_better v S S ≡ a → is_better v S S ≡ false
    not_itself true t = let lt = higher_from_better v S S b.feasible t in absurd (omega (arith, ints))
    not_itself false t = t

pub unimproved_from_best : (v : Values) (X S : List ℕ) → IsBest v X S → IsUnimproved v X S
unimproved_from_best v X S b = record {
  set = b.set;
  within = b.within;
  feasible = b.feasible;
  add = λ x inX out. none_beats_best v X S (with_one S x) b (IsSet-with_one S x b.set) (with_one_within S X x b.within inX);
  remove = λ z inS. none_beats_best v X S (without S z) b (IsSet-without S z b.set) (smaller_within S X z b.within);
  swap = λ x z inX out inS. none_beats_best v X S (swapped S x z) b (IsSet-swapped S z x b.set) (swapped_within S X z x b.within inX);
}

-- a set is the best subset exactly where no single change makes it better
pub best_iff_unimproved : (n : ℕ) (v : Values) (X S : List ℕ) → IsValuation n v → IsSetBelow n X → IsBest v X S ↔ IsUnimproved v X S
best_iff_unimproved n v X S laws sX = (unimproved_from_best v X S, best_from_unimproved n v X S laws sX)
