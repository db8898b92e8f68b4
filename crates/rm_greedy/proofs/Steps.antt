-- Greedy addition on a board: each step, and the end.
use Rattle.std.proofs.Common.{◌≡◌, ℕ, ◌+◌, ◌≤◌, List, [], length, get_or, set, filter, eqb, None, IsFalse, refl, sym, ap, subst, ⊎_elim, arith, ◌∙◌}
use Rattle.std.proofs.lemmas.Int.{ints}
use Rattle.rm_sets.specs.Sets.{has, IsIn, IsSetBelow, with_one}
use Rattle.rm_sets.proofs.Members.{not_in_from, IsIn-with_one_old}
use Rattle.rm_sets.proofs.Sizes.{length-with_one, same_from_length}
use Rattle.rm_market.specs.Board.{Board, contract_count}
use Rattle.rm_market.specs.Best.{IsBest, IsValuation, best_of, values_of}
use Rattle.rm_valuation.specs.Counts.{AreCounts}
use Rattle.rm_valuation_laws.specs.Scores.{IsWorthiest, IsBestSoFar}
use Rattle.rm_valuation_laws.proofs.Best.{best_unique}
use Rattle.rm_valuation_laws.proofs.BestOf.{best_of_is}
use Rattle.rm_valuation_laws.proofs.GreedySteps.{greedy_start, greedy_step, greedy_stop}
use Rattle.rm_greedy.specs.declared.addition.Addition.{Addition}
use Rattle.rm_greedy.specs.Additions.{AreMarks, IsFirst, IsFirstOf}
use Rattle.rm_greedy.specs.Heads.{AreHeads}
use Rattle.rm_greedy.proofs.Marked.{marked_is, one_marked}

-- k contracts are taken, the best so far, these are their counts and marks, and these heads reach the others
pub record IsGrowing (b : Board) (X : List ℕ) (k : ℕ) (heads counts marks : List ℕ) : Type 0 where
  pub S : List ℕ
  pub so_far : IsBestSoFar (contract_count b) (values_of b) X S
  pub long : length S ≡ k
  pub counted : AreCounts b S counts
  pub marked : AreMarks X S marks
  pub reached : AreHeads b X S heads
  pub nodes : length counts ≡ length b.nodes
  pub space : contract_count b ≤ length marks

pub growing_first : (b : Board) (X heads counts marks : List ℕ) → IsValuation (contract_count b) (values_of b) → AreCounts b [] counts → AreMarks X [] marks → AreHeads b X [] heads → length counts ≡ length b.nodes → contract_count b ≤ length marks → IsGrowing b X 0 heads counts marks
growing_first b X heads counts marks laws c m h nodes space = record { S = []; so_far = greedy_start (contract_count b) (values_of b) X laws; long = refl; counted = c; marked = m; reached = h; nodes = nodes; space = space }

-- where more is taken, the heads reach what is left
fewer_reached : (b : Board) (X S heads : List ℕ) (x : ℕ) → AreHeads b X S heads → AreHeads b X (with_one S x) heads
fewer_reached b X S heads x h = record { within = h.within; reach = λ q lt out. h.reach q lt (λ i. out (IsIn-with_one_old S x (get_or X q 0) i)) }

worthiest : (b : Board) (X S : List ℕ) (a : Addition) → IsFirst b S X a → IsWorthiest (values_of b) X S a.contract
worthiest b X S a f = record {
  member = f.member;
  outside = f.addition.outside;
  passes = f.addition.passes;
  most = λ y i out fits. ⊎_elim (λ less. omega (arith, ints, less)) (λ same. let e = same.0 in omega (arith, ints, e)) (f.first y i out fits);
  first = λ y i out fits e. ⊎_elim (λ less. absurd (omega (arith, ints, less, e))) (λ same. let p = same.1 in let t = f.addition.tie in omega (arith, p, t)) (f.first y i out fits);
}

pub growing_more : (b : Board) (X : List ℕ) (k : ℕ) (heads counts marks : List ℕ) (a : Addition) (moved more : List ℕ) → IsValuation (contract_count b) (values_of b) → IsSetBelow (contract_count b) X → (g : IsGrowing b X k heads counts marks) → IsFirst b g.S X a → AreHeads b X g.S moved →
    ((S : List ℕ) → IsSetBelow (contract_count b) S → IsFalse (has a.contract S) → AreCounts b S counts → AreCounts b (with_one S a.contract) more) → length more ≡ length b.nodes → length (set marks a.contract 1) ≡ length marks → IsGrowing b X (k + 1) moved more (set marks a.contract 1)
growing_more b X k heads counts marks a moved more laws sX g f reached counted nodes same =
    let out = not_in_from a.contract g.S f.addition.outside in
    let lt = sX.below a.contract f.member in
    let space = g.space in
    let change = f.addition.change in
    let rises = f.addition.rises in
    record {
      S = with_one g.S a.contract;
      so_far = greedy_step (contract_count b) (values_of b) X g.S a.contract laws sX g.so_far (worthiest b X g.S a f) (omega (arith, ints, change, rises));
      long = length-with_one g.S a.contract out ∙ ap (λ n. n + 1) g.long;
      counted = counted g.S g.so_far.is_feasible.is_set out g.counted;
      marked = one_marked X g.S marks a.contract (omega (arith, lt, space)) g.marked;
      reached = fewer_reached b X g.S moved a.contract reached;
      nodes = nodes;
      space = omega (arith, same, space);
    }

best_marks : (b : Board) (X S marks : List ℕ) → IsValuation (contract_count b) (values_of b) → IsSetBelow (contract_count b) X → IsBest (values_of b) X S → AreMarks X S marks → AreMarks X (best_of (values_of b) X) marks
best_marks b X S marks laws sX best m =
    subst (λ T. AreMarks X T marks) (best_unique (contract_count b) (values_of b) X S (best_of (values_of b) X) sX best (best_of_is (contract_count b) (values_of b) X laws sX)) m

pub growing_stop : (b : Board) (X : List ℕ) (k : ℕ) (heads counts marks : List ℕ) → IsValuation (contract_count b) (values_of b) → IsSetBelow (contract_count b) X → (g : IsGrowing b X k heads counts marks) → IsFirstOf b g.S X None → AreMarks X (best_of (values_of b) X) marks
growing_stop b X k heads counts marks laws sX g none =
    best_marks b X g.S marks laws sX (greedy_stop (contract_count b) (values_of b) X g.S laws sX g.so_far none) g.marked

pub growing_full : (b : Board) (X : List ℕ) (k : ℕ) (heads counts marks : List ℕ) → IsValuation (contract_count b) (values_of b) → IsSetBelow (contract_count b) X → (g : IsGrowing b X k heads counts marks) → length X ≤ k → AreMarks X (best_of (values_of b) X) marks
growing_full b X k heads counts marks laws sX g past =
    let long = g.long in
    let same = same_from_length g.S X g.so_far.is_feasible.is_set.ascending sX.ascending g.so_far.within (omega (arith, long, past)) in
    best_marks b X g.S marks laws sX
    (greedy_stop (contract_count b) (values_of b) X g.S laws sX g.so_far (λ y i out _. absurd (out (subst (IsIn y) (sym same) i)))) g.marked

pub best_written : (b : Board) (X marks : List ℕ) → IsValuation (contract_count b) (values_of b) → IsSetBelow (contract_count b) X → AreMarks X (best_of (values_of b) X) marks → filter (λ x. eqb (get_or marks x 0) 1) X ≡ best_of (values_of b) X
best_written b X marks laws sX m =
    let best = best_of_is (contract_count b) (values_of b) X laws sX in
    marked_is X (best_of (values_of b) X) marks sX.ascending best.set best.within m
