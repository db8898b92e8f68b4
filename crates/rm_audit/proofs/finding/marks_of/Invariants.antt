use Rattle.rm_audit.proofs.Marks.{IsMarking}
use Rattle.rm_audit.proofs.finding.marks_of.Given as goal

abbrev pub invariant-loop-d : goal.invariant-loop-d
invariant-loop-d l = IsMarking l.board l.places l.d l.marks.items
