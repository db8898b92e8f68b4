use Rattle.std.proofs.Common.{sym, ap, ◌∙◌}
use Rattle.rm_transit_laws.specs.Transit.{sent_step}
use Rattle.rm_transit.proofs.Events.{sent_state, next_sent}
use Rattle.rm_transit.proofs.moves.send.Goals as goal

pub returns-clause-state : goal.returns-clause-state
returns-clause-state c chosen owners held =
    rw c.list-list.ensures (sent_state c.args.doctors.now c.args.d _ (sym c.is_empty.ensures ∙ c.if-not-is_empty.false) (rw c.list-list.ensures at c.if-k-list.false) held)

pub returns-clause-step : goal.returns-clause-step
returns-clause-step c chosen owners held =
    rw c.list-list.ensures
    (sym (ap sent_step (next_sent c.args.doctors.now c.args.d _ (sym c.is_empty.ensures ∙ c.if-not-is_empty.false) (rw c.list-list.ensures at c.if-k-list.false))))
