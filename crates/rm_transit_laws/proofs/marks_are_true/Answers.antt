use Rattle.rm_transit_laws.proofs.Truth.{marks_true}
use Rattle.rm_transit_laws.proofs.marks_are_true.Goals as goal

pub returns : goal.returns
returns c = marks_true
