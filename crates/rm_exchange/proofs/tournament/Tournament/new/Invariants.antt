use Rattle.std.proofs.Common.{◌≡◌, None, replicate}
use Rattle.rm_exchange.proofs.tournament.Tournament.new.Given as goal

abbrev pub invariant-loop : goal.invariant-loop
invariant-loop l = l.entries.items ≡ replicate l.counter None
