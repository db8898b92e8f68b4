-- The hospitals that the doctors of a generated nation choose.
use Rattle.std.specs.Prelude.{ℕ, zero, suc, ◌+◌, ◌-◌, ◌*◌, ◌%◌, not, List, [], ◌∷◌, ◌++◌, map, flat_map, find, unwrap_or}
use Rattle.std.specs.List.{range_with_len}
use Rattle.rm_sets.specs.Sets.{below, has}
use Rattle.rm_drill.specs.Draws.{draw, state_after}

abbrev pub choice_count : ℕ
choice_count = 10

-- of the hospitals s, s + 1 and so on, and after the last one the first ones, the first that isn't chosen yet
abbrev pub next_free : ℕ → ℕ → List ℕ → ℕ
next_free count s chosen = unwrap_or (find (λ h. not (has h chosen)) (range_with_len s (count - s) ++ range_with_len 0 s)) 0

-- ---- a doctor, from the state before he draws: two draws a choice, first where he begins to look, and then the key of this choice

-- his first choices, so many
abbrev pub first_choices : ℕ → ℕ → ℕ → List ℕ
first_choices count state zero = []
first_choices count state (suc c) =
    let chosen = first_choices count state c in
    chosen ++ next_free count (draw state (c + c) % count) chosen ∷ []

abbrev pub key : ℕ → ℕ → ℕ
key state c = draw state (c + c + 1)

-- ---- all doctors, who draw in order, after two draws for each hospital

abbrev pub doctor_state : ℕ → ℕ → ℕ → ℕ
doctor_state count seed d = state_after seed (count + count + d * (choice_count + choice_count))

abbrev pub choices_of : ℕ → ℕ → ℕ → List ℕ
choices_of count seed d = first_choices count (doctor_state count seed d) choice_count

-- the lists of the first doctors
abbrev pub choices : ℕ → ℕ → ℕ → List (List ℕ)
choices count seed n = map (choices_of count seed) (below n)

-- how a hospital marks a doctor who chose it: by the key of this choice, and by his number
abbrev pub Mark : Type 0
Mark = ℕ × ℕ

-- the first marks of doctor d, one for each choice
abbrev pub first_marks : ℕ → ℕ → ℕ → List Mark
first_marks state d c = map (λ k. (key state k, d)) (below c)

abbrev pub marks_of : ℕ → ℕ → ℕ → List Mark
marks_of count seed d = first_marks (doctor_state count seed d) d choice_count

-- the marks of the first doctors, as their choices stand one after another
abbrev pub marks : ℕ → ℕ → ℕ → List Mark
marks count seed n = flat_map (marks_of count seed) (below n)
