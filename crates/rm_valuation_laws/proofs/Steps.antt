-- Sums of steps that never rise.
use Rattle.std.proofs.Common.{◌≡◌, ℕ, zero, suc, ◌+◌, ◌<◌, ◌≤◌, List, [], ◌∷◌, ◌++◌, Bool, true, false, length, take, get_or, ℤ, pos, ◌+ℤ◌, ◌≤ℤ◌, refl, sym, ap, ◌∙◌, subst, ⊎_elim, arith}
use Rattle.std.proofs.lemmas.Int.{ints}
use Rattle.std.proofs.lemmas.Bool.{cases_eq}
use Rattle.std.proofs.lemmas.List.{take_more}
use Rattle.rm_market.specs.Board.{int_sum, total, IsFalling}
use Rattle.rm_valuation_laws.proofs.Counts.{one}

int_sum-push : (zs : List ℤ) (z : ℤ) → int_sum (zs ++ z ∷ []) ≡ int_sum zs +ℤ z
int_sum-push [] z = omega (arith, ints)
int_sum-push (y ∷ zs) z = let rest = int_sum-push zs z in omega (arith, ints)

pub total_more : (steps : List ℤ) (k : ℕ) → k < length steps → total steps (k + 1) ≡ total steps k +ℤ get_or steps k (pos 0)
total_more steps k lt = ap int_sum (take_more steps k (pos 0) lt) ∙ int_sum-push (take k steps) (get_or steps k (pos 0))

pub falls : (steps : List ℤ) → IsFalling steps → (k l : ℕ) → k ≤ l → l < length steps → get_or steps l (pos 0) ≤ℤ get_or steps k (pos 0)
falls steps falling k zero le lt = let e : k ≡ 0 = omega arith in subst (λ z. get_or steps 0 (pos 0) ≤ℤ get_or steps z (pos 0)) (sym e) (omega (arith, ints))
falls steps falling k (suc l) le lt =
    ⊎_elim
    (λ e. subst (λ z. get_or steps (suc l) (pos 0) ≤ℤ get_or steps z (pos 0)) (sym e) (omega (arith, ints)))
    (λ ne.
    let e : l + 1 ≡ suc l = omega arith in
    let next = subst (λ z. get_or steps z (pos 0) ≤ℤ get_or steps l (pos 0)) e (falling l (pos 0) (omega arith)) in
    let rest = falls steps falling k l (omega arith) (omega arith) in
    omega (arith, ints))
    (cases_eq k (suc l))

-- one seat from the node with more to the node with fewer loses nothing
pub evened : (steps : List ℤ) → IsFalling steps → (s t : ℕ) → t ≤ s → s < length steps → (total steps (s + 1) +ℤ total steps t) ≤ℤ (total steps s +ℤ total steps (t + 1))
evened steps falling s t le lt =
    let es = total_more steps s lt in
    let et = total_more steps t (omega arith) in
    let fall = falls steps falling t s le lt in
    omega (arith, ints)

-- what a move of i from S to T and of j from T to S does at one node: s and t are the counts without the two
pub moved : (steps : List ℤ) → IsFalling steps → (s t : ℕ) (i j : Bool) → (i ≡ true → j ≡ false → t ≤ s) → (i ≡ false → j ≡ true → s ≤ t) →
    s + one i ≤ length steps → t + one j ≤ length steps →
    (s + one j ≤ length steps) × (t + one i ≤ length steps) × ((total steps (s + one i) +ℤ total steps (t + one j)) ≤ℤ (total steps (s + one j) +ℤ total steps (t + one i)))
moved steps falling s t true true down up hs ht = (hs, ht, omega (arith, ints))
moved steps falling s t false false down up hs ht = (hs, ht, omega (arith, ints))
moved steps falling s t true false down up hs ht =
    let le = down refl refl in
    let e0 : s + 0 ≡ s = omega arith in
    let f0 : t + 0 ≡ t = omega arith in
    (omega arith, omega arith, rw (e0, f0) (evened steps falling s t le (omega arith)))
moved steps falling s t false true down up hs ht =
    let le = up refl refl in
    let e0 : s + 0 ≡ s = omega arith in
    let f0 : t + 0 ≡ t = omega arith in
    let even = evened steps falling t s le (omega arith) in
    (omega arith, omega arith, rw (e0, f0) (omega (arith, ints)))
