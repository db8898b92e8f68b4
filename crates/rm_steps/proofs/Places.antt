-- The steps of runs, by place.
use Rattle.std.proofs.Common.{◌≡◌, ◌∙◌, ◌+◌, ◌-◌, ◌<◌, ◌≤◌, ◌⊎◌, inl, inr, ℕ, zero, suc, ℤ, pos, ◌-ℤ◌, ◌*ℤ◌, ◌≤ℤ◌, true, List, [], ◌∷◌, ◌++◌, length, drop, get_or, FitsSigned, w64, ◌^◌, Some, None, refl, sym, ap, arith, add-one, length-append, drop-cons}
use Rattle.std.proofs.lemmas.Int.{ints, to_z_pos}
use Rattle.std.specs.Int.{w128}
use mir.Val.{to_z}
use Rattle.std.proofs.lemmas.List.{map-append, drop_all, length-map}
use Rattle.std.proofs.lemmas.List.Elements.{All-get_or, All-head, All-tail}
use Rattle.std.proofs.lemmas.Option.{slice_get_within, unwrap_or-slice_get}
use Rattle.std.specs.List.{All, slice_get}
use Rattle.rm_sets.specs.Sets.{all_below}
use Rattle.rm_market.specs.Steps.{natural, run_steps, steps_of}
use Rattle.rm_market.specs.declared.Run.{Run}
use Rattle.rm_steps.specs.Runs.{step_at, AreKept}
use Rattle.rm_steps.proofs.Falling.{steps_below, length-below}
use Rattle.rm_steps.proofs.Accepted.{run-length, natural-of, InRange}

-- ---- an element of two lists in a row

get-left : {X : Type 0} (xs ys : List X) (i : ℕ) → i < length xs → slice_get (xs ++ ys) i ≡ slice_get xs i
get-left [] ys i lt = absurd (omega arith)
get-left (x ∷ xs) ys zero lt = refl
get-left (x ∷ xs) ys (suc i) lt = get-left xs ys i (omega arith)

get-right : {X : Type 0} (xs ys : List X) (j : ℕ) → slice_get (xs ++ ys) (length xs + j) ≡ slice_get ys j
get-right [] ys j = ap (slice_get ys) (omega arith)
get-right (x ∷ xs) ys j =
    let next : suc (length xs) + j ≡ suc (length xs + j) = omega arith in
    rw next (get-right xs ys j)

get-past : {X : Type 0} (xs ys : List X) (i : ℕ) → length xs ≤ i → slice_get (xs ++ ys) i ≡ slice_get ys (i - length xs)
get-past xs ys i le =
    let parts : i ≡ length xs + (i - length xs) = omega arith in
    ap (slice_get (xs ++ ys)) parts ∙ get-right xs ys (i - length xs)

-- ---- a step of a run

steps-length-below : (v f : ℤ) (n : ℕ) → length (steps_below v f n) ≡ n
steps-length-below v f n = rw length-map (length-below n)

step-of : (v f : ℤ) (n k : ℕ) → k < n → slice_get (steps_below v f n) k ≡ Some (v -ℤ (f *ℤ pos k))
step-of v f zero k lt = absurd (omega arith)
step-of v f (suc n) k lt =
    rw (map-append (λ (j : ℕ). v -ℤ (f *ℤ pos j)) (all_below n (λ j. true)) (n ∷ []))
    (elim (below_or_last k n lt) [
      | inl less ↦ get-left (steps_below v f n) ((v -ℤ (f *ℤ pos n)) ∷ []) k (rw steps-length-below less) ∙ step-of v f n k less
      | inr last ↦
          let place : k ≡ length (steps_below v f n) + 0 = rw steps-length-below (omega arith) in
          ap (slice_get (steps_below v f n ++ (v -ℤ (f *ℤ pos n)) ∷ [])) place ∙ get-right (steps_below v f n) ((v -ℤ (f *ℤ pos n)) ∷ []) 0 ∙ ap (λ (j : ℕ). Some (v -ℤ (f *ℤ pos j))) (sym last)
    ])
  where
    below_or_last : (k n : ℕ) → k < suc n → (k < n) ⊎ (k ≡ n)
    below_or_last k n lt = grind arith

-- ---- a step of runs in a row

pub steps-at : (runs : List Run) (i : ℕ) (r d : Run) → i < length runs → r ≡ get_or runs i d → steps_of (drop i runs) ≡ run_steps r ++ steps_of (drop (i + 1) runs)
unfolding steps_of
steps-at runs i r d lt at = rw (drop-cons runs i d lt, add-one i) (ap (λ (q : Run). run_steps q ++ steps_of (drop (suc i) runs)) (sym at))

-- so far, the runs before run i have the steps up to the k-th but so many
pub record IsLeft (runs : List Run) (k i left : ℕ) : Type 0 where
  pub same : step_at (steps_of runs) k ≡ slice_get (steps_of (drop i runs)) left

pub none-left : (runs : List Run) (k : ℕ) → ¬ (k ≡ 0) → IsLeft runs k 0 (k - 1)
none-left runs zero some = absurd (some refl)
none-left runs (suc k) some =
    let less : suc k - 1 ≡ k = omega arith in
    record { same = ap (slice_get (steps_of runs)) (sym less) }

pub one-left : (runs : List Run) (k i left : ℕ) (r d : Run) → IsLeft runs k i left → i < length runs → r ≡ get_or runs i d → natural r.count ≤ left → IsLeft runs k (i + 1) (left - natural r.count)
one-left runs k i left r d l lt at le =
    let n = run-length r in
    record { same = l.same ∙ rw (steps-at runs i r d lt at, get-past (run_steps r) (steps_of (drop (i + 1) runs)) left (rw n le), n) refl }

pub here-left : (runs : List Run) (k i left : ℕ) (r d : Run) → IsLeft runs k i left → i < length runs → r ≡ get_or runs i d → left < natural r.count → step_at (steps_of runs) k ≡ Some (r.value -ℤ (r.fall *ℤ pos left))
here-left runs k i left r d l lt at less =
    let n = run-length r in
    l.same ∙ rw (steps-at runs i r d lt at, get-left (run_steps r) (steps_of (drop (i + 1) runs)) left (rw n less)) (step-of r.value r.fall (natural r.count) left less)

pub past-left : (runs : List Run) (k i left : ℕ) → IsLeft runs k i left → length runs ≤ i → step_at (steps_of runs) k ≡ None
unfolding steps_of
past-left runs k i left l le = l.same ∙ rw (drop_all i runs le) refl

-- the k-th step is in range
step-in_range : (steps : List ℤ) (k : ℕ) (z : ℤ) → All InRange steps → step_at steps k ≡ Some z → InRange z
step-in_range steps zero z h e = cc
step-in_range steps (suc k) z h e =
    let lt = slice_get_within steps k z e in
    let at : get_or steps k z ≡ z = sym (unwrap_or-slice_get steps k z) ∙ rw e refl in
    rw at at (All-get_or InRange steps k z lt h)

-- ---- what is kept of each run

length-at : (runs : List Run) (i : ℕ) (r d : Run) → i < length runs → r ≡ get_or runs i d → natural r.count ≤ length (steps_of runs)
unfolding steps_of
length-at [] i r d lt at = absurd (omega arith)
length-at (q ∷ runs) zero r d lt at = rw (length-append (run_steps q) (steps_of runs), ← at, run-length r) (omega arith)
length-at (q ∷ runs) (suc i) r d lt at = rw (length-append (run_steps q) (steps_of runs)) (omega (arith, length-at runs i r d (omega arith) at))

pub kept-count : (runs : List Run) (cap i : ℕ) (r d : Run) → AreKept runs cap → i < length runs → r ≡ get_or runs i d → (pos 0 ≤ℤ r.count) × (r.count ≤ℤ pos 1000000)
kept-count runs cap i r d kept lt at =
    let one : pos 1 ≤ℤ r.count = rw (← at) at (All-get_or (λ (q : Run). pos 1 ≤ℤ q.count) runs i d lt kept.counted) in
    (omega (arith, ints, one), omega (arith, ints, natural-of r.count one, length-at runs i r d lt at, kept.steps.few))

pub kept-step : (runs : List Run) (cap k : ℕ) (z : ℤ) → AreKept runs cap → step_at (steps_of runs) k ≡ Some z → InRange z
kept-step runs cap k z kept e = step-in_range (steps_of runs) k z kept.steps.in_range e

runs-few : (runs : List Run) → All (λ r. pos 1 ≤ℤ r.count) runs → length runs ≤ length (steps_of runs)
unfolding steps_of
runs-few [] h = omega arith
runs-few (r ∷ runs) h =
    let counted : Run → Type 0 = λ q. pos 1 ≤ℤ q.count in
    rw (length-append (run_steps r) (steps_of runs), run-length r)
    (omega (arith, ints, runs-few runs (All-tail counted r runs h), natural-of r.count (All-head counted r runs h), All-head counted r runs h))

pub kept-runs : (runs : List Run) (cap : ℕ) → AreKept runs cap → length runs ≤ 1000000
kept-runs runs cap kept = omega (arith, ints, runs-few runs kept.counted, kept.steps.few)

-- the step that was computed is the k-th one, and fits 64 bits
pub step-here : (runs : List Run) (cap k i left : ℕ) (r d : Run) (z : ℤ) → AreKept runs cap → IsLeft runs k i left → i < length runs → r ≡ get_or runs i d → left < natural r.count → left < 2 ^ 32
    → z ≡ r.value -ℤ (r.fall *ℤ to_z w128 left) → (step_at (steps_of runs) k ≡ Some z) × FitsSigned w64 z
step-here runs cap k i left r d z kept l lt at less few is =
    let place : to_z w128 left ≡ pos left = to_z_pos w128 left (omega arith) in
    let step : step_at (steps_of runs) k ≡ Some z = here-left runs k i left r d l lt at less ∙ ap (λ (y : ℤ). Some y) (sym (is ∙ rw place refl)) in
    let range = kept-step runs cap k z kept step in
    (step, omega (arith, ints, range.0, range.1))
