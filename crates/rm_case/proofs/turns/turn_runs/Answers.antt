use Rattle.std.proofs.Common.{◌∙◌, ap}
use Rattle.rm_market.specs.Steps.{step_fault, steps_of}
use Rattle.rm_case.proofs.TurnRuns.{gathered, runs_pass, runs_steps}
use Rattle.rm_case.proofs.turns.turn_runs.Goals as goal

pub returns-clause-steps : goal.returns-clause-steps
returns-clause-steps c =
    ap steps_of (gathered c.args.turn.now c.args.target c.args.capacity c.new-runs.result.items c.push_run.new.runs.items c.push_run-2.new.runs.items c.new-runs.ensures.items (rw c.at_once.ensures at c.in_ok-push_run.ensures) (rw c.in_turns.ensures at c.in_ok-push_run-2.ensures))
    ∙ runs_steps c.args.turn.now c.args.target c.args.capacity c.requires

pub returns-clause-fault : goal.returns-clause-fault
returns-clause-fault c =
    ap step_fault (gathered c.args.turn.now c.args.target c.args.capacity c.new-runs.result.items c.push_run.new.runs.items c.push_run-2.new.runs.items c.new-runs.ensures.items (rw c.at_once.ensures at c.in_ok-push_run.ensures) (rw c.in_turns.ensures at c.in_ok-push_run-2.ensures))
    ∙ runs_pass c.args.turn.now c.args.target c.args.capacity c.requires
