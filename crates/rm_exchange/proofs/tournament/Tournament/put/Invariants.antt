use Rattle.std.proofs.Common.{◌≡◌, set, drop}
use Rattle.rm_exchange.proofs.Rounds.{IsChanging}
use Rattle.rm_exchange.proofs.tournament.Tournament.put.Given as goal

abbrev pub invariant-loop-j : goal.invariant-loop-j
invariant-loop-j l = IsChanging l.self-inside.width l.self-inside.entries.items l.self-inside.best l.j × (drop l.self-inside.width l.self-inside.entries.items ≡ set l.fn.self l.place l.fn.rival)

abbrev pub decreases-loop-j : goal.decreases-loop-j
decreases-loop-j l = l.j
