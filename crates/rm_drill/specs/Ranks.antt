-- The rank lists of the hospitals of a generated nation: the doctors who chose a hospital, by key and then by number, least first.
use Rattle.std.specs.Prelude.{ℕ, Bool, not, ◌&&◌, ◌||◌, ◌==◌, nat_lt, List, [], ◌∷◌, map, if◌then◌else◌}
use Rattle.rm_lists.specs.Grouping.{values_of_key}
use Rattle.rm_lists.specs.Packed.{joined}
use Rattle.rm_sets.specs.Sets.{below}
use Rattle.rm_drill.specs.Choices.{Mark, choices, marks}

abbrev pub comes_before : Mark → Mark → Bool
comes_before a b = nat_lt a.0 b.0 || ((a.0 == b.0) && nat_lt a.1 b.1)

-- a mark at its place among marks that are in order
abbrev pub with_mark : Mark → List Mark → List Mark
with_mark a [] = a ∷ []
with_mark a (b ∷ bs) = if comes_before b a then b ∷ with_mark a bs else a ∷ (b ∷ bs)

abbrev pub in_order : List Mark → List Mark
in_order [] = []
in_order (a ∷ as') = with_mark a (in_order as')

-- the doctors of some marks, in their order
abbrev pub ranked : List Mark → List ℕ
ranked ms = map (λ m. m.1) (in_order ms)

-- the marks that stand beside the choices of hospital h, of the first doctors
abbrev pub marks_at : ℕ → ℕ → ℕ → ℕ → List Mark
marks_at count seed n h = values_of_key h (joined (choices count seed n)) (marks count seed n)

-- the rank list of each hospital
abbrev pub ranks : ℕ → ℕ → ℕ → List (List ℕ)
ranks count seed n = map (λ h. ranked (marks_at count seed n h)) (below count)
