-- What a holder has after it was offered the members of a set one by one.
use Rattle.std.proofs.Common.{◌≡◌, ℕ, ◌+◌, ◌<◌, List, length, get_or, take, filter, false, ap, arith, ◌∙◌}
use Rattle.rm_sets.specs.Sets.{has, IsSet, IsSetBelow, IsWithin, with_one}
use Rattle.rm_sets.proofs.Sets.{same_within}
use Rattle.rm_sets.proofs.Members.{IsIn-filter, IsIn-from_filter, IsIn-get_or, IsSetBelow-filter, not_in_from}
use Rattle.rm_market.specs.Best.{IsChoice}
use Rattle.rm_matching_laws.proofs.PathIndependence.{chosen-with_one}
use Rattle.rm_valuation.proofs.Taken.{below_next, below_take, take_with_next}

-- the next member isn't among what is chosen of those before it
pub next_is_new : (n : ℕ) (C : List ℕ → List ℕ) (k : ℕ) (X : List ℕ) → IsChoice n C → IsSetBelow n X → k < length X → has (get_or X k 0) (C (take k X)) ≡ false
next_is_new n C k X law s lt =
    not_in_from (get_or X k 0) (C (take k X)) (λ i. let up = below_next k X (get_or X k 0) s.ascending lt (law.within (take k X) (below_take n k X s) (get_or X k 0) i) in omega arith)

-- of one more of them is chosen what is chosen of what was chosen before it together with it
pub one_more : (n : ℕ) (C : List ℕ → List ℕ) (k : ℕ) (X : List ℕ) → IsChoice n C → IsSetBelow n X → k < length X → C (take (k + 1) X) ≡ C (with_one (C (take k X)) (get_or X k 0))
one_more n C k X law s lt =
    ap C (take_with_next k X s.ascending lt) ∙ chosen-with_one n C law (take k X) (get_or X k 0) (below_take n k X s) (s.below (get_or X k 0) (IsIn-get_or X k 0 lt))

-- the members of X that lie in a set within X are that set
pub members_in_order : (n : ℕ) (S X : List ℕ) → IsSet S → IsSetBelow n X → IsWithin S X → filter (λ x. has x S) X ≡ S
members_in_order n S X s x w =
    same_within (filter (λ y. has y S) X) S (IsSetBelow-filter n (λ y. has y S) X x).ascending s
    (λ y i. (IsIn-from_filter (λ z. has z S) X y i).1)
    (λ y i. IsIn-filter (λ z. has z S) X y (w y i) i)
