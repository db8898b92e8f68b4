use Rattle.std.proofs.Common.{get_or, sym, ◌∙◌}
use Rattle.rm_transit.proofs.Events.{refused_state, refused_step}
use Rattle.rm_transit.proofs.moves.deliver_refusal.Goals as goal

pub returns-clause-state : goal.returns-clause-state
returns-clause-state c chosen listed held =
    refused_state c.args.doctors.now (get_or c.args.owners.now c.args.x 0) c.args.x held (sym c.is_refusal.ensures ∙ c.if-not-is_refusal.false)

pub returns-clause-step : goal.returns-clause-step
returns-clause-step c chosen listed held =
    refused_step c.args.doctors.now (get_or c.args.owners.now c.args.x 0) c.args.x (sym c.is_refusal.ensures ∙ c.if-not-is_refusal.false)
