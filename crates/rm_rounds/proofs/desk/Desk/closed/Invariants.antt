use Rattle.std.proofs.Common.{◌≡◌, ℕ, ◌<◌, None}
use Rattle.rm_market.specs.Machine.{next_offer}
use Rattle.rm_rounds.specs.Desk.{desk_state}
use Rattle.rm_rounds.proofs.desk.Desk.closed.Given as goal

abbrev pub invariant-loop-d : goal.invariant-loop-d
invariant-loop-d g l = (e : ℕ) → e < l.d → next_offer l.self.wishes (desk_state g.H.Holder.held l.self) e ≡ None
