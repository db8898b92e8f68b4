-- Lists made of the numbers below n: checks that each item passes, and names.
use Rattle.std.proofs.Common.{◌≡◌, ◌∙◌, ◌<◌, ◌≤◌, ◌+◌, ◌*◌, ℕ, Bool, true, All, zero, suc, List, [], ◌∷◌, ◌++◌, map, Option, None, refl, sym, ap, subst, arith, add-one}
use Rattle.std.specs.List.{list_all, range_with_len, sum_by}
use Rattle.std.proofs.lemmas.Bool.{and_from}
use Rattle.std.proofs.lemmas.List.Elements.{All-nil, All-push}
use Rattle.std.proofs.lemmas.List.Folds.{list_all-append}
use Rattle.std.proofs.lemmas.List.Sums.{sum_by_push}
use Rattle.std.proofs.lemmas.List.{append_assoc, append-nil, map-append}
use Rattle.std.proofs.lemmas.List.FromFn.{map-range_with_len_more}
use Rattle.std.proofs.Math.Nat.{mul-suc}
use Rattle.rm_sets.specs.Sets.{below}
use Rattle.rm_base.specs.Checks.{checks_from, checks_of, first_of}
use Rattle.rm_base.specs.Text.{Text}
use Rattle.rm_base.proofs.CheckLemmas.{first-none}
use Rattle.rm_drill_laws.specs.Numbered.{names_up_to, numbered}

-- the checks of one item more
checks-push : {X F : Type 0} (each : List X → X → List (Option F)) (before xs : List X) (x : X)
    → checks_from each before (xs ++ x ∷ []) ≡ checks_from each before xs ++ each (before ++ xs) x
unfolding checks_from
checks-push each before [] x = rw (append-nil before, append-nil (each before x)) refl
checks-push each before (y ∷ xs) x =
    rw (checks-push each (before ++ y ∷ []) xs x, append_assoc before (y ∷ []) xs)
    (sym (append_assoc (each before y) (checks_from each (before ++ y ∷ []) xs) (each (before ++ y ∷ xs) x)))

-- no check finds a fault where none does at each number after those before it
pub below-pass : {X F : Type 0} (each : List X → X → List (Option F)) (f : ℕ → X) (n : ℕ)
    → ((k : ℕ) → k < n → first_of (each (map f (below k)) (f k)) ≡ None) → first_of (checks_of each (map f (below n))) ≡ None
unfolding checks_from
below-pass each f zero pass = refl
below-pass each f (suc n) pass =
    rw (map-append f (below n) (n ∷ []), checks-push each [] (map f (below n)) (f n))
    (first-none (checks_of each (map f (below n))) (each (map f (below n)) (f n)) (below-pass each f n (λ k low. pass k (omega (arith, low))))
    ∙ pass n (omega arith))

pub map-below : {X : Type 0} (f : ℕ → X) (n : ℕ) → map f (below n) ≡ map f (range_with_len 0 n)
map-below f zero = refl
map-below f (suc n) =
    map-append f (below n) (n ∷ []) ∙ ap (λ xs. xs ++ f n ∷ []) (map-below f n) ∙ sym (map-range_with_len_more f 0 n n (omega arith))
    ∙ ap (λ k. map f (range_with_len 0 k)) (add-one n)

pub names-below : (prefix : Text) (width n : ℕ) → map (λ i. numbered prefix width (i + 1)) (below n) ≡ names_up_to prefix width n
names-below prefix width n = map-below (λ i. numbered prefix width (i + 1)) n

pub map-map : {X Y Z : Type 0} (g : Y → Z) (f : X → Y) (xs : List X) → map g (map f xs) ≡ map (λ x. g (f x)) xs
map-map g f [] = refl
map-map g f (x ∷ xs) = ap (λ ys. g (f x) ∷ ys) (map-map g f xs)

-- a list of n items with one more
pub one-more : {X : Type 0} (f : ℕ → X) (n : ℕ) → map f (below (suc n)) ≡ map f (below n) ++ f n ∷ []
one-more f n = map-append f (below n) (n ∷ [])

pub all-below : {X : Type 0} (p : X → Bool) (f : ℕ → X) (n : ℕ) → ((k : ℕ) → k < n → p (f k) ≡ true) → list_all p (map f (below n)) ≡ true
all-below p f zero each = refl
all-below p f (suc n) each =
    ap (list_all p) (one-more f n) ∙ list_all-append p (map f (below n)) (f n ∷ [])
    ∙ and_from (list_all p (map f (below n))) (list_all p (f n ∷ [])) (all-below p f n (λ k low. each k (omega (arith, low)))) (rw (each n (omega arith)) refl)

pub All-below : {X : Type 0} (P : X → Type 0) (f : ℕ → X) (n : ℕ) → ((k : ℕ) → k < n → P (f k)) → All P (map f (below n))
All-below P f zero each = All-nil P
All-below P f (suc n) each =
    subst (All P) (sym (one-more f n)) (All-push P (map f (below n)) (f n) (All-below P f n (λ k low. each k (omega (arith, low)))) (each n (omega arith)))

-- a sum of terms that are at most m
pub sum-below : {X : Type 0} (g : X → ℕ) (f : ℕ → X) (m n : ℕ) → ((k : ℕ) → k < n → g (f k) ≤ m) → sum_by g (map f (below n)) ≤ m * n
sum-below g f m zero each = omega arith
sum-below g f m (suc n) each =
    let more : sum_by g (map f (below (suc n))) ≡ sum_by g (map f (below n)) + g (f n) = ap (sum_by g) (one-more f n) ∙ sum_by_push g (map f (below n)) (f n) in
    let all : m * suc n ≡ m * n + m = mul-suc m n ∙ omega arith in
    omega (arith, more, all, sum-below g f m n (λ k low. each k (omega (arith, low))), each n (omega arith))
