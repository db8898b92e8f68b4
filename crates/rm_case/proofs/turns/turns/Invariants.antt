use Rattle.std.proofs.Common.{ℕ, ◌≡◌, ◌<◌, length, get_or}
use Rattle.rm_case.specs.NodeSteps.{hospital_turn}
use Rattle.rm_case.specs.declared.turns.Turn.{Turn}
use Rattle.rm_case.proofs.turns.turns.Given as goal

abbrev pub invariant-loop-q : goal.invariant-loop-q
invariant-loop-q l =
    (length l.turns.items ≡ length l.roster.hospitals)
    × ((h : ℕ) (t : Turn) → h < length l.roster.hospitals → get_or l.roster.prefecture_of h 0 < l.q → get_or l.turns.items h t ≡ hospital_turn l.roster l.policy h)
