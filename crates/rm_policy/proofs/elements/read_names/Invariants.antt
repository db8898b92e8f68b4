use Rattle.rm_policy.specs.Entries.{name_checks}
use Rattle.rm_policy.proofs.ElementLemmas.{AreNamed}
use Rattle.rm_policy.proofs.elements.read_names.Given as goal

abbrev pub invariant-loop-j : goal.invariant-loop-j
invariant-loop-j l = AreNamed (name_checks l.names l.item l.first) l.names l.values l.j l.numbers.items
