-- The worths of a hospital's seats never rise.
use Rattle.std.proofs.Common.{◌≡◌, ℕ, ◌+◌, ◌-◌, ◌*◌, ◌<◌, Bool, true, false, cond, leb, length, ℤ, pos, ◌-ℤ◌, ◌≤ℤ◌, refl, sym, ◌∙◌, subst₂, arith}
use Rattle.std.proofs.lemmas.Int.{ints}
use Rattle.std.proofs.lemmas.List.FromFn.{get_or-map-range_with_len, length-map-range_with_len}
use Rattle.rm_market.specs.Board.{IsFalling}
use Rattle.rm_market.specs.Flexible.{Seat, Region, seat_worth, full_worth, seat_steps}
use Rattle.rm_flexible_laws.proofs.ByCounts.{turn_number}
use Rattle.rm_flexible_laws.proofs.Keys.{turn_rises}

worth-turn : (w m j t k : ℕ) → seat_worth w m (j + 1) t k ≡ pos w -ℤ pos (turn_number m j t k)
worth-turn w m j t k = by (leb k t) ((k - t - 1) * m + (j + 1))
  where
    by : (c : Bool) (y : ℕ) → cond c (pos w) (pos w -ℤ pos y) ≡ pos w -ℤ pos (cond c 0 y)
    by true y = omega (arith, ints)
    by false y = refl

pub seat_steps_fall : (r : Region) (j : ℕ) (s : Seat) → IsFalling (seat_steps r (j + 1) s)
seat_steps_fall r j s k d lt =
    let m = length r.seats in
    let w = full_worth r in
    let f = seat_worth w m (j + 1) s.target in
    let l = length-map-range_with_len f 1 s.capacity in
    let a = get_or-map-range_with_len f 1 s.capacity k (k + 1) d (omega arith) (omega arith) ∙ worth-turn w m j s.target (k + 1) in
    let b = get_or-map-range_with_len f 1 s.capacity (k + 1) ((k + 1) + 1) d (omega arith) (omega arith) ∙ worth-turn w m j s.target ((k + 1) + 1) in
    let up = turn_rises m j s.target (k + 1) ((k + 1) + 1) (omega arith) in
    subst₂ (λ y x. y ≤ℤ x) (sym b) (sym a) (omega (arith, ints))
