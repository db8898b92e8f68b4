-- The seats that a seed draws are seats of a nation.
use Rattle.std.proofs.Common.{◌≡◌, ◌∙◌, ◌<◌, ◌≤◌, ◌+◌, ℕ, map, length, get_or, inl, inr, ap, sym, arith}
use Rattle.std.proofs.lemmas.Bool.{cases_lt}
use Rattle.std.proofs.lemmas.List.{get_or-map, get_or_past, length-map}
use Rattle.std.proofs.lemmas.Nat.{mod_below}
use Rattle.rm_sets.specs.Sets.{below}
use Rattle.rm_sets.proofs.Once.{get_or-below, length-below}
use Rattle.rm_drill.specs.Draws.{draw}
use Rattle.rm_drill.specs.Hospitals.{capacities, capacity, hospital_count, target, targets}
use Rattle.rm_nation_laws.specs.Seats.{AreSeats}

length-drawn : (f : ℕ → ℕ) (n : ℕ) → length (map f (below n)) ≡ n
length-drawn f n = length-map (below n) f ∙ length-below n

drawn_at : (f : ℕ → ℕ) (n h : ℕ) → h < n → get_or (map f (below n)) h 0 ≡ f h
drawn_at f n h low = get_or-map f (below n) h 0 0 (omega (arith, low, length-below n)) ∙ ap f (get_or-below n h 0 low)

past : (f : ℕ → ℕ) (n h : ℕ) → n ≤ h → get_or (map f (below n)) h 0 ≡ 0
past f n h high = get_or_past (map f (below n)) h 0 (omega (arith, high, length-drawn f n))

capacity_small : (seed h : ℕ) → capacity seed h ≤ 10
capacity_small seed h = omega (arith, mod_below (draw seed (h + h)) 10 (omega arith))

target_within : (seed h : ℕ) → target seed h ≤ capacity seed h
target_within seed h = omega (arith, mod_below (draw seed (h + h + 1)) (capacity seed h + 1) (omega arith))

module _ (n seed : ℕ) where
  abbrev count : ℕ
  count = hospital_count n

  small : (h : ℕ) → get_or (capacities seed count) h 0 ≤ 10
  small h = elim (cases_lt h count) [
    | inl low ↦ omega (arith, drawn_at (capacity seed) count h low, capacity_small seed h)
    | inr high ↦ omega (arith, past (capacity seed) count h high)
  ]

  within : (h : ℕ) → get_or (targets seed count) h 0 ≤ get_or (capacities seed count) h 0
  within h = elim (cases_lt h count) [
    | inl low ↦ omega (arith, drawn_at (target seed) count h low, drawn_at (capacity seed) count h low, target_within seed h)
    | inr high ↦ omega (arith, past (target seed) count h high)
  ]

  pub are_seats : AreSeats (capacities seed count) (targets seed count)
  are_seats =
      record {
        each = length-drawn (target seed) count ∙ sym (length-drawn (capacity seed) count);
        many = omega (arith, length-drawn (capacity seed) count);
        few = omega (arith, length-drawn (capacity seed) count);
        small = small;
        within = within;
      }
