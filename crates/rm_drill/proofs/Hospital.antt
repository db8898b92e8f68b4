-- The seats of one more hospital.
use Rattle.std.proofs.Common.{◌≡◌, ◌∙◌, ◌+◌, ◌%◌, ◌++◌, ℕ, suc, List, [], ◌∷◌, ap, sym, arith, add-one}
use Rattle.std.proofs.lemmas.List.{map-append}
use Rattle.rm_sets.specs.Sets.{below}
use Rattle.rm_drill.specs.Draws.{draw, drawn, next_state, state_after}
use Rattle.rm_drill.specs.Hospitals.{capacities, capacity, target, targets}

pub two-more : (seed k state : ℕ) → state ≡ next_state (next_state (state_after seed (k + k))) → state ≡ state_after seed (k + 1 + (k + 1))
two-more seed k state is = let e : suc (suc (k + k)) ≡ k + 1 + (k + 1) = omega arith in is ∙ ap (state_after seed) e

pub capacity-more : (seed k drawn_one : ℕ) (before after : List ℕ) → before ≡ capacities seed k → drawn_one ≡ drawn (next_state (state_after seed (k + k))) % 10
    → after ≡ before ++ (1 + drawn_one) ∷ [] → after ≡ capacities seed (k + 1)
capacity-more seed k drawn_one before after so_far is more =
    rw (add-one k) (rw (so_far, is) at more ∙ sym (map-append (capacity seed) (below k) (k ∷ [])))

pub target-more : (seed k drawn_one drawn_two : ℕ) (before after : List ℕ) → before ≡ targets seed k → drawn_one ≡ drawn (next_state (state_after seed (k + k))) % 10
    → drawn_two ≡ drawn (next_state (next_state (state_after seed (k + k)))) % (1 + drawn_one + 1) → after ≡ before ++ drawn_two ∷ [] → after ≡ targets seed (k + 1)
target-more seed k drawn_one drawn_two before after so_far is_one is_two more =
    let e : suc (k + k) ≡ k + k + 1 = omega arith in
    let two : drawn (next_state (next_state (state_after seed (k + k)))) ≡ draw seed (k + k + 1) = ap (λ (j : ℕ). drawn (next_state (state_after seed j))) e in
    let second : drawn_two ≡ target seed k = rw (two, is_one) at is_two in
    rw (add-one k) (rw (so_far, second) at more ∙ sym (map-append (target seed) (below k) (k ∷ [])))
