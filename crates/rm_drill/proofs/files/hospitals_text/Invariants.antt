use Rattle.rm_drill_laws.specs.Written.{written}
use Rattle.rm_drill.specs.Files.{hospital_rows}
use Rattle.rm_drill.specs.Open.{Holds}
use Rattle.rm_drill.proofs.files.hospitals_text.Given as goal

abbrev pub invariant-loop-h : goal.invariant-loop-h
invariant-loop-h l = Holds l.writer (written (hospital_rows l.seats.capacities.items l.seats.targets.items l.h))
