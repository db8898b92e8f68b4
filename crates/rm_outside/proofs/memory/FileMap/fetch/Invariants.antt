use Rattle.std.proofs.Common.{◌≡◌, drop}
use Rattle.std.specs.FinMap.{get}
use Rattle.rm_outside.specs.Kept.{files_of}
use Rattle.rm_outside.proofs.memory.FileMap.fetch.Given as goal

abbrev pub invariant-loop-i : goal.invariant-loop-i
invariant-loop-i l = get l.self l.name ≡ get (files_of (drop l.i l.self-inside.files.items)) l.name
