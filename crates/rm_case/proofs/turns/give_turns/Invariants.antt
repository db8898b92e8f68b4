use Rattle.std.proofs.Common.{ℕ, ◌≡◌, cond, length, get_or, take}
use Rattle.rm_sets.specs.Sets.{has}
use Rattle.rm_case.specs.NodeSteps.{turn_in}
use Rattle.rm_case.specs.declared.turns.Turn.{Turn}
use Rattle.rm_case.proofs.turns.give_turns.Given as goal

abbrev pub invariant-loop-i : goal.invariant-loop-i
invariant-loop-i l =
    (length l.turns.items ≡ length l.fn.turns.items)
    × ((h : ℕ) (t : Turn) → get_or l.turns.items h t ≡ cond (has h (take l.i l.order)) (turn_in l.roster l.order h) (get_or l.fn.turns.items h t))
