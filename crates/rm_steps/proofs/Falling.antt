-- Lists of steps that never rise.
use Rattle.std.proofs.Common.{◌≡◌, ◌∙◌, ◌+◌, ◌*◌, ◌<◌, ◌≤◌, ◌⊎◌, inl, inr, ℕ, zero, suc, ℤ, pos, negsuc, ◌-ℤ◌, ◌*ℤ◌, ◌≤ℤ◌, true, List, [], ◌∷◌, ◌++◌, length, map, refl, arith, length-append}
use Rattle.std.proofs.lemmas.Int.{ints}
use Rattle.std.proofs.lemmas.List.{map-append}
use Rattle.std.proofs.lemmas.List.Elements.{All-nil, All-head, All-tail, All-push, All-append, All-map, All-get_or}
use Rattle.std.proofs.Math.IntN.{pos-*ℤ-pos}
use Rattle.std.proofs.Math.Nat.{mul-le-mul_left}
use Rattle.std.specs.List.{All}
use Rattle.rm_sets.specs.Sets.{all_below}
use Rattle.rm_market.specs.Board.{IsFalling}

-- each is at least all that follow
unfoldable pub Falls : List ℤ → Type 0
Falls [] = Unit {0}
Falls (x ∷ xs) = All (λ y. y ≤ℤ x) xs × Falls xs

-- two lists in a row
pub Falls-append : (xs ys : List ℤ) → Falls xs → Falls ys → All (λ x. All (λ y. y ≤ℤ x) ys) xs → Falls (xs ++ ys)
unfolding Falls
Falls-append [] ys f g h = g
Falls-append (x ∷ xs) ys f g h =
    let above : ℤ → Type 0 = λ z. All (λ y. y ≤ℤ z) ys in
    (All-append (λ (y : ℤ). y ≤ℤ x) xs ys f.0 (All-head above x xs h), Falls-append xs ys f.1 g (All-tail above x xs h))

pub falling : (xs : List ℤ) → Falls xs → IsFalling xs
unfolding Falls
falling [] f k d lt = absurd (omega arith)
falling (x ∷ xs) f zero d lt = All-get_or (λ (y : ℤ). y ≤ℤ x) xs 0 d (omega arith) f.0
falling (x ∷ xs) f (suc k) d lt =
    let next : suc k + 1 ≡ suc (k + 1) = omega arith in
    rw next (falling xs f.1 k d (omega arith))

-- what holds of each number below n
pub All-below : (P : ℕ → Type 0) (n : ℕ) → ((k : ℕ) → k < n → P k) → All P (all_below n (λ k. true))
All-below P zero h = All-nil P
All-below P (suc n) h = All-push P (all_below n (λ k. true)) n (All-below P n (λ k lt. h k (omega arith))) (h n (omega arith))

pub length-below : (n : ℕ) → length (all_below n (λ k. true)) ≡ n
length-below zero = refl
length-below (suc n) = length-append (all_below n (λ k. true)) (n ∷ []) ∙ omega (arith, length-below n)

-- the steps of a run that falls
pub lower : (v f : ℤ) (j k : ℕ) → pos 0 ≤ℤ f → j ≤ k → (v -ℤ (f *ℤ pos k)) ≤ℤ (v -ℤ (f *ℤ pos j))
lower v (pos n) j k low le =
    let more : n * j ≤ n * k = mul-le-mul_left n le in
    rw (pos-*ℤ-pos n j, pos-*ℤ-pos n k) (omega (arith, ints))
lower v (negsuc n) j k low le = absurd (omega (arith, ints))

abbrev pub steps_below : ℤ → ℤ → ℕ → List ℤ
steps_below v f n = map (λ k. v -ℤ (f *ℤ pos k)) (all_below n (λ k. true))

pub all-steps : (P : ℤ → Type 0) (v f : ℤ) (n : ℕ) → ((k : ℕ) → k < n → P (v -ℤ (f *ℤ pos k))) → All P (steps_below v f n)
all-steps P v f n h = All-map P (λ (k : ℕ). v -ℤ (f *ℤ pos k)) (all_below n (λ k. true)) (All-below (λ (k : ℕ). P (v -ℤ (f *ℤ pos k))) n h)

single : (z : ℤ) → Falls (z ∷ [])
unfolding Falls
single z = (All-nil (λ (y : ℤ). y ≤ℤ z), tt)

run-falls : (v f : ℤ) (n : ℕ) → pos 0 ≤ℤ f → Falls (steps_below v f n)
unfolding Falls
run-falls v f zero low = tt
run-falls v f (suc n) low =
    rw (map-append (λ (k : ℕ). v -ℤ (f *ℤ pos k)) (all_below n (λ k. true)) (n ∷ [])) (
    Falls-append (steps_below v f n) ((v -ℤ (f *ℤ pos n)) ∷ []) (run-falls v f n low) (single (v -ℤ (f *ℤ pos n)))
    (all-steps (λ (x : ℤ). All (λ y. y ≤ℤ x) ((v -ℤ (f *ℤ pos n)) ∷ [])) v f n (λ k lt. All-push (λ (y : ℤ). y ≤ℤ (v -ℤ (f *ℤ pos k))) [] (v -ℤ (f *ℤ pos n)) (All-nil (λ (y : ℤ). y ≤ℤ (v -ℤ (f *ℤ pos k)))) (lower v f k n low (omega arith)))))

pub run-falls-or-single : (v f : ℤ) (n : ℕ) → (n ≤ 1) ⊎ (pos 0 ≤ℤ f) → Falls (steps_below v f n)
unfolding Falls
run-falls-or-single v f n (inr low) = run-falls v f n low
run-falls-or-single v f zero (inl few) = tt
run-falls-or-single v f (suc zero) (inl few) = single (v -ℤ (f *ℤ pos 0))
run-falls-or-single v f (suc (suc n)) (inl few) = absurd (omega arith)
