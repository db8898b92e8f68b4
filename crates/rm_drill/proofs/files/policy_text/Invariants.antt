use Rattle.std.proofs.Common.{◌≡◌, string_bytes}
use Rattle.rm_drill.specs.Files.{entries_text}
use Rattle.rm_drill.proofs.files.policy_text.Given as goal

abbrev pub invariant-loop-q : goal.invariant-loop-q
invariant-loop-q l = string_bytes l.text ≡ entries_text l.seats.capacities.items l.seats.targets.items l.q
