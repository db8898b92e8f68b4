use Rattle.rm_flexible_laws.proofs.Falling.{seat_steps_fall}
use Rattle.rm_flexible_laws.proofs.seat_steps_never_rise.Goals as goal

pub returns : goal.returns
returns c = seat_steps_fall
