-- The runs of the steps of a hospital that takes turns.
use Rattle.std.proofs.Common.{◌≡◌, ◌∙◌, ◌+◌, ◌-◌, ◌*◌, ◌<◌, ◌≤◌, ◌&&◌, ℕ, zero, suc, Bool, true, false, List, [], ◌∷◌, ◌++◌, length, get_or, map, ℤ, pos, ◌+ℤ◌, ◌-ℤ◌, ◌*ℤ◌, ◌≤ℤ◌, None, inl, inr, refl, sym, ap, subst, arith, mul_comm, mul-le-mul, suc-mul, zero-mul}
use Rattle.std.specs.Prelude.{int_lt}
use Rattle.std.specs.List.{range_with_len, last_or}
use Rattle.std.specs.Option.{option_map_or}
use Rattle.std.proofs.lemmas.Bool.{cases_lt, le-leb, lt-leb, lt-ltb}
use Rattle.std.proofs.lemmas.Grind.{flat_map-append}
use Rattle.std.proofs.lemmas.Int.{ints}
use Rattle.std.proofs.lemmas.List.{append-nil, ext_get_or, get_or_append_left, get_or-append_right, get_or-map, length-append, length-map}
use Rattle.std.proofs.lemmas.List.FromFn.{get_or-map-range_with_len, length-map-range_with_len}
use Rattle.rm_base.specs.Checks.{checks_from}
use Rattle.rm_market.specs.Board.{int_sum}
use Rattle.rm_market.specs.Flexible.{seat_worth}
use Rattle.rm_market.specs.Steps.{is_out_of_range, is_outside, last_step_of_run, rises, run_steps, step_fault, steps_of}
use Rattle.rm_market.specs.declared.Run.{Run}
use Rattle.rm_sets.specs.Sets.{below}
use Rattle.rm_sets.proofs.Once.{get_or-below, length-below}
use Rattle.rm_case.specs.NodeSteps.{at_once, in_turns, turn_steps, with_steps, IsTurn}
use Rattle.rm_case.specs.declared.turns.Turn.{Turn}

abbrev pub runs_of : Turn → ℕ → ℕ → List Run
runs_of t target capacity = with_steps (at_once t target) ++ with_steps (in_turns t target capacity)

-- a run without a step adds none
steps_with : (v f : ℤ) (n : ℕ) → steps_of (with_steps (record { value = v; fall = f; count = pos n })) ≡ run_steps (record { value = v; fall = f; count = pos n })
unfolding steps_of
steps_with v f zero = refl
steps_with v f (suc n) = rw (lt-ltb 0 (suc n) (omega arith)) (append-nil (run_steps (record { value = v; fall = f; count = pos (suc n) })))

steps_joined : (a b : List Run) → steps_of (a ++ b) ≡ steps_of a ++ steps_of b
unfolding steps_of
steps_joined a b = flat_map-append run_steps a b

run_long : (v f : ℤ) (n : ℕ) → length (run_steps (record { value = v; fall = f; count = pos n })) ≡ n
run_long v f n = length-map (below n) (λ (k : ℕ). v -ℤ (f *ℤ pos k)) ∙ length-below n

run_at : (v f : ℤ) (n k : ℕ) (d : ℤ) → k < n → get_or (run_steps (record { value = v; fall = f; count = pos n })) k d ≡ v -ℤ (f *ℤ pos k)
run_at v f n k d lt = get_or-map (λ (i : ℕ). v -ℤ (f *ℤ pos i)) (below n) k 0 d (omega (arith, lt, length-below n)) ∙ ap (λ (i : ℕ). v -ℤ (f *ℤ pos i)) (get_or-below n k 0 lt)

apart : (full a p : ℕ) → pos full -ℤ pos (a + p) ≡ (pos full -ℤ pos p) -ℤ pos a
apart full a p = omega (arith, ints)

-- the worth of a seat up to the target, and past it
worth_up_to : (full m p t k : ℕ) → k + 1 ≤ t → seat_worth full m p t (k + 1) ≡ pos full -ℤ (pos 0 *ℤ pos k)
worth_up_to full m p t k le =
    let none : pos 0 *ℤ pos k ≡ pos 0 = ap (λ (n : ℕ). pos n) (zero-mul k) in
    rw (le-leb (k + 1) t le, none) (omega (arith, ints))

worth_past : (full m p t k : ℕ) → t ≤ k → seat_worth full m p t (k + 1) ≡ (pos full -ℤ pos p) -ℤ (pos m *ℤ pos (k - t))
worth_past full m p t k le =
    let turns : (k + 1) - t - 1 ≡ k - t = omega arith in
    let product : pos m *ℤ pos (k - t) ≡ pos ((k - t) * m) = ap (λ (n : ℕ). pos n) (mul_comm m (k - t)) in
    rw (lt-leb (k + 1) t (omega (arith, le)), turns, product) (apart full ((k - t) * m) p)

pub runs_steps : (t : Turn) (target capacity : ℕ) → IsTurn t target capacity → steps_of (runs_of t target capacity) ≡ turn_steps t target capacity
runs_steps t target capacity ok =
    let first = run_steps (at_once t target) in
    let later = run_steps (in_turns t target capacity) in
    let whole : steps_of (runs_of t target capacity) ≡ first ++ later =
    steps_joined (with_steps (at_once t target)) (with_steps (in_turns t target capacity))
    ∙ rw (steps_with (pos t.full) (pos 0) target, steps_with (pos t.full -ℤ pos t.place) (pos t.hospitals) (capacity - target)) refl in
    let short = run_long (pos t.full) (pos 0) target in
    let rest = run_long (pos t.full -ℤ pos t.place) (pos t.hospitals) (capacity - target) in
    let f = seat_worth t.full t.hospitals t.place target in
    let long = length-map-range_with_len f 1 capacity in
    whole ∙ ext_get_or (pos 0) (first ++ later) (map f (range_with_len 1 capacity)) (omega (arith, length-append first later, short, rest, long, ok.seats))
    (λ k lt.
    let lk : k < capacity = omega (arith, lt, length-append first later, short, rest, ok.seats) in
    let right = get_or-map-range_with_len f 1 capacity k (k + 1) (pos 0) lk (omega arith) in
    elim (cases_lt k target) [
      | inl early ↦ get_or_append_left first later (pos 0) k (omega (arith, early, short)) ∙ (run_at (pos t.full) (pos 0) target k (pos 0) early ∙ sym (right ∙ worth_up_to t.full t.hospitals t.place target k (omega (arith, early))))
      | inr late ↦
          get_or-append_right first later target k (pos 0) short late
          ∙ (run_at (pos t.full -ℤ pos t.place) (pos t.hospitals) (capacity - target) (k - target) (pos 0) (omega (arith, lk, late)) ∙ sym (right ∙ worth_past t.full t.hospitals t.place target k late))
    ])

-- ---- the runs have no fault

not_below : (a b : ℤ) → b ≤ℤ a → int_lt a b ≡ false
not_below a b le = grind (arith, ints)

and_false : (b : Bool) → (b && false) ≡ false
and_false true = refl
and_false false = refl

abbrev Within : ℤ → Type 0
Within z = (pos 0 ≤ℤ z) × (z ≤ℤ pos 1000000000)

inside : (z : ℤ) → Within z → is_outside z ≡ false
inside z w = rw (not_below (pos 1000000000) z w.1, not_below z (pos 0 -ℤ pos 1000000000) (omega (arith, ints, w.0))) refl

in_range : (before : List Run) (r : Run) (sum : ℤ) → pos 1 ≤ℤ r.count → (sum +ℤ r.count) ≤ℤ pos 1000000 → pos 0 ≤ℤ sum → int_sum (map (λ q. q.count) before) ≡ sum → Within r.value → Within (last_step_of_run r) → is_out_of_range before r ≡ false
in_range before r sum some few low same first last =
    rw (not_below r.count (pos 1) some, not_below (pos 1000000) r.count (omega (arith, ints, few, low)), same, not_below (pos 1000000) (sum +ℤ r.count) few, inside r.value first, inside (last_step_of_run r) last) refl

level : (before : List Run) (r : Run) → pos 0 ≤ℤ r.fall → option_map_or (λ q. int_lt (last_step_of_run q) r.value) (last_or None before) false ≡ false → rises before r ≡ false
level before r le after = rw (not_below r.fall (pos 0) le, and_false (int_lt (pos 1) r.count), after) refl

pass_one : (r : Run) → is_out_of_range [] r ≡ false → rises [] r ≡ false → step_fault (r ∷ []) ≡ None
unfolding step_fault checks_from
pass_one r range falls = rw (range, falls) refl

pass_two : (r s : Run) → is_out_of_range [] r ≡ false → rises [] r ≡ false → is_out_of_range (r ∷ []) s ≡ false → rises (r ∷ []) s ≡ false → step_fault (r ∷ s ∷ []) ≡ None
unfolding step_fault checks_from
pass_two r s range falls range2 falls2 = rw (range, falls, range2, falls2) refl

-- with one step more than k, the last one is k turns lower
last_is : (v f : ℤ) (k : ℕ) → last_step_of_run (record { value = v; fall = f; count = pos (suc k) }) ≡ v -ℤ (f *ℤ pos k)
last_is v f k = let e : pos (suc k) -ℤ pos 1 ≡ pos k = omega (arith, ints) in ap (λ (n : ℤ). v -ℤ (f *ℤ n)) e

once_last : (full k : ℕ) → last_step_of_run (record { value = pos full; fall = pos 0; count = pos (suc k) }) ≡ pos full
once_last full k = let none : pos 0 *ℤ pos k ≡ pos 0 = ap (λ (n : ℕ). pos n) (zero-mul k) in last_is (pos full) (pos 0) k ∙ rw none (omega (arith, ints))

once_in_range : (full k : ℕ) → full ≤ 1000000000 → suc k ≤ 10000 → is_out_of_range [] (record { value = pos full; fall = pos 0; count = pos (suc k) }) ≡ false
once_in_range full k bounded few =
    let here : Within (pos full) = (omega (arith, ints), omega (arith, ints, bounded)) in
    in_range [] (record { value = pos full; fall = pos 0; count = pos (suc k) }) (pos 0) (omega (arith, ints)) (omega (arith, ints, few)) (omega (arith, ints)) refl here (subst Within (sym (once_last full k)) here)

once_level : (full k : ℕ) → rises [] (record { value = pos full; fall = pos 0; count = pos (suc k) }) ≡ false
once_level full k = level [] (record { value = pos full; fall = pos 0; count = pos (suc k) }) (omega (arith, ints)) refl

abbrev turned : ℕ → ℕ → ℕ → ℕ → Run
turned full m p k = record { value = pos full -ℤ pos p; fall = pos m; count = pos (suc k) }

turned_in_range : (before : List Run) (full m p k n : ℕ) → full ≤ 1000000000 → p ≤ m → suc k * m < full → n + suc k ≤ 10000 → int_sum (map (λ q. q.count) before) ≡ pos n → is_out_of_range before (turned full m p k) ≡ false
turned_in_range before full m p k n bounded within worth few same =
    let more : suc k * m ≡ k * m + m = suc-mul k m in
    let product : pos m *ℤ pos k ≡ pos (k * m) = ap (λ (i : ℕ). pos i) (mul_comm m k) in
    let last : last_step_of_run (turned full m p k) ≡ (pos full -ℤ pos p) -ℤ pos (k * m) = last_is (pos full -ℤ pos p) (pos m) k ∙ rw product refl in
    in_range before (turned full m p k) (pos n) (omega (arith, ints)) (omega (arith, ints, few)) (omega (arith, ints)) same
    (omega (arith, ints, within, worth, more), omega (arith, ints, bounded))
    (subst Within (sym last) (omega (arith, ints, within, worth, more), omega (arith, ints, bounded)))

-- what is proved of a number of seats up to the target and a number past it
Passes : ℕ → ℕ → ℕ → ℕ → ℕ → Type 0
Passes full m p first later =
    step_fault (with_steps (record { value = pos full; fall = pos 0; count = pos first }) ++ with_steps (record { value = pos full -ℤ pos p; fall = pos m; count = pos later })) ≡ None

both_pass : (full m p first later : ℕ) → full ≤ 1000000000 → p ≤ m → later * m < full → first + later ≤ 10000 → Passes full m p first later
unfolding Passes step_fault checks_from
both_pass full m p zero zero bounded within worth few = refl
both_pass full m p (suc k) zero bounded within worth few =
    rw (lt-ltb 0 (suc k) (omega arith)) (pass_one (record { value = pos full; fall = pos 0; count = pos (suc k) }) (once_in_range full k bounded (omega (arith, few))) (once_level full k))
both_pass full m p zero (suc k) bounded within worth few =
    rw (lt-ltb 0 (suc k) (omega arith)) (pass_one (turned full m p k) (turned_in_range [] full m p k 0 bounded within worth few refl) (level [] (turned full m p k) (omega (arith, ints)) refl))
both_pass full m p (suc j) (suc k) bounded within worth few =
    let r : Run = record { value = pos full; fall = pos 0; count = pos (suc j) } in
    rw (lt-ltb 0 (suc j) (omega arith), lt-ltb 0 (suc k) (omega arith))
    (pass_two r (turned full m p k) (once_in_range full j bounded (omega (arith, few))) (once_level full j) (turned_in_range (r ∷ []) full m p k (suc j) bounded within worth few (omega (arith, ints)))
    (level (r ∷ []) (turned full m p k) (omega (arith, ints)) (not_below (last_step_of_run r) (pos full -ℤ pos p) (subst (λ (z : ℤ). (pos full -ℤ pos p) ≤ℤ z) (sym (once_last full j)) (omega (arith, ints))))))

pub runs_pass : (t : Turn) (target capacity : ℕ) → IsTurn t target capacity → step_fault (runs_of t target capacity) ≡ None
unfolding Passes
runs_pass t target capacity ok =
    let fewer : capacity - target ≤ capacity = omega arith in
    let same : t.hospitals ≤ t.hospitals = omega arith in
    let less : (capacity - target) * t.hospitals ≤ capacity * t.hospitals = mul-le-mul fewer same in
    both_pass t.full t.hospitals t.place target (capacity - target) ok.bounded ok.within (omega (arith, less, ok.worth)) (omega (arith, ok.seats, ok.few))

-- ---- the runs as they are gathered

pub gathered : (t : Turn) (target capacity : ℕ) (none one two : List Run) → none ≡ [] → one ≡ none ++ with_steps (at_once t target) → two ≡ one ++ with_steps (in_turns t target capacity) → two ≡ runs_of t target capacity
gathered t target capacity none one two start first later = later ∙ rw (first, start) refl
