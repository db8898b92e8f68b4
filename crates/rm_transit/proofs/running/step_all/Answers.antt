use Rattle.std.proofs.Common.{◌∙◌, ap, ap₂, sym, subst, get_or}
use Rattle.std.proofs.lemmas.List.{drop_all}
use Rattle.rm_transit_laws.specs.declared.Event.TheVariants as events
use Rattle.rm_transit_laws.specs.Transit.{all_happen, happens}
use Rattle.rm_transit.specs.Travel.{transit_state, IsEventOf}
use Rattle.rm_transit.proofs.CaseRuns.{one_happens}
use Rattle.rm_transit.proofs.running.step_all.Goals as goal

pub step-requires : goal.step-requires
step-requires g c =
    record { event = subst (λ w. IsEventOf w (get_or c.args.events.now c.loop-i.i (events.Send 0))) (sym c.loop-i.invariant.wishes) (c.requires c.loop-i.i (events.Send 0) c.loop-i-test.true) }

pub loop-i-preserved : goal.loop-i-preserved
loop-i-preserved g c =
    let now = transit_state g.H.Holder.held c.loop-i.transit in
    let event = get_or c.args.events.now c.loop-i.i (events.Send 0) in
    record {
      ahead =
          one_happens (g.H.Holder.chosen c.args.transit.now.holder) c.args.transit.now.wishes c.args.events.now c.loop-i.i (events.Send 0) now (transit_state g.H.Holder.held c.step.new.self) c.loop-i-test.true
          (c.step.ensures.state ∙ ap₂ (λ C w. happens C w now event) c.loop-i.invariant.chosen c.loop-i.invariant.wishes)
          ∙ c.loop-i.invariant.ahead;
      wishes = c.step.ensures.wishes ∙ c.loop-i.invariant.wishes;
      chosen = c.step.ensures.chosen ∙ c.loop-i.invariant.chosen;
    }

pub returns-clause-state : goal.returns-clause-state
returns-clause-state g c =
    sym (ap (all_happen (g.H.Holder.chosen c.args.transit.now.holder) c.args.transit.now.wishes (transit_state g.H.Holder.held c.loop-i.transit)) (drop_all c.loop-i.i c.args.events.now c.loop-i-test.false))
    ∙ c.loop-i.invariant.ahead
