use Rattle.std.proofs.Common.{◌≡◌, ℕ, true, false, length, take, get_or}
use Rattle.std.specs.Bool.{◌==◌}
use Rattle.std.specs.List.{list_any}
use Rattle.rm_ranks.proofs.builder.forget_items.Given as goal

abbrev pub invariant-loop-k : goal.invariant-loop-k
invariant-loop-k l = (length l.seen.items ≡ length l.fn.seen.items)
    × ((x : ℕ) → get_or l.seen.items x false ≡ true → (get_or l.fn.seen.items x false ≡ true) × (list_any (λ y. y == x) (take l.k l.list) ≡ false))
