-- The verdict, from the searches one after the other.
use Rattle.std.proofs.Common.{◌≡◌, ℕ, ◌<◌, ◌≤◌, List, length, true, Option, Some, None, refl, ⊎_elim}
use Rattle.std.proofs.lemmas.Bool.{le-ltb, lt-ltb, cases_lt}
use Rattle.std.proofs.lemmas.List.{length-map}
use Rattle.rm_sets.specs.Sets.{below}
use Rattle.rm_sets.proofs.Sets.{not_both, below-all_below}
use Rattle.rm_sets.proofs.Members.{IsIn-all_below}
use Rattle.rm_market.specs.Board.{Board, cap_of, node_at, count_at, is_feasible, sets_of}
use Rattle.rm_market.specs.Best.{values_of}
use Rattle.rm_market.specs.Certificate.{over_cap, better_without, better_with, better_swap, swap_verdict, verdict_of}
use Rattle.rm_market.specs.declared.Verdict.TheVariants as verdicts
use Rattle.rm_verdict_laws.specs.Verdicts.{is_over}
use Rattle.rm_verdict_laws.proofs.First.{none_found}
use Rattle.rm_verdict_laws.proofs.Over.{over_none, over_found}

-- ---- verdicts

pub verdict_over : (b : Board) (X S : List ℕ) (k : ℕ) → over_cap b S ≡ Some k → verdicts.OverCap k ≡ verdict_of b X S
unfolding verdict_of
verdict_over b X S k e = rw e refl

pub verdict_removal : (b : Board) (X S : List ℕ) (z : ℕ) → is_feasible b S ≡ true → better_without (values_of b) S ≡ Some z → verdicts.Remove z ≡ verdict_of b X S
unfolding verdict_of
verdict_removal b X S z f r = rw (over_none b S f, r) refl

pub verdict_addition : (b : Board) (X S : List ℕ) (x : ℕ) → is_feasible b S ≡ true → better_without (values_of b) S ≡ None → better_with (values_of b) X S ≡ Some x → verdicts.Add x ≡ verdict_of b X S
unfolding verdict_of
verdict_addition b X S x f r a = rw (over_none b S f, r, a) refl

pub verdict_swap : (b : Board) (X S : List ℕ) (swap : Option (ℕ × ℕ)) → is_feasible b S ≡ true → better_without (values_of b) S ≡ None → better_with (values_of b) X S ≡ None → better_swap (values_of b) X S ≡ swap →
    swap_verdict swap ≡ verdict_of b X S
unfolding verdict_of
verdict_swap b X S swap f r a s = rw (over_none b S f, r, a, s) refl
