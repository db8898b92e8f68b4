-- The best subset is the feasible one that no single change makes better, in the words of verdicts.
use Rattle.std.proofs.Common.{ℕ, List, IsTrue}
use Rattle.rm_sets.specs.Sets.{IsSet, IsSetBelow, IsWithin}
use Rattle.rm_market.specs.Best.{Values, IsBest, IsValuation}
use Rattle.rm_valuation_laws.proofs.GreedySteps.{unimproved_from_best}
use Rattle.rm_valuation_laws.proofs.Best.{best_from_unimproved}
use Rattle.rm_verdict_laws.specs.Verdicts.{NoRemoval, NoAddition, NoSwap}

pub no_removal : (v : Values) (X S : List ℕ) → IsBest v X S → NoRemoval v S
no_removal v X S b = (unimproved_from_best v X S b).remove

pub no_addition : (v : Values) (X S : List ℕ) → IsBest v X S → NoAddition v X S
no_addition v X S b = (unimproved_from_best v X S b).add

pub no_swap : (v : Values) (X S : List ℕ) → IsBest v X S → NoSwap v X S
no_swap v X S b = (unimproved_from_best v X S b).swap

pub best_from_changes : (n : ℕ) (v : Values) (X S : List ℕ) → IsValuation n v → IsSetBelow n X → IsSet S → IsWithin S X → IsTrue (v.feasible S) →
    NoRemoval v S → NoAddition v X S → NoSwap v X S → IsBest v X S
best_from_changes n v X S laws sX sS w f remove add swap =
    best_from_unimproved n v X S laws sX (record { set = sS; within = w; feasible = f; add = add; remove = remove; swap = swap })
