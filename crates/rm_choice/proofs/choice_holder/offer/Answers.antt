use Rattle.std.proofs.Common.{◌∙◌, ap, sym, subst, length, arith}
use Rattle.rm_sets.specs.Sets.{IsSet, IsSetBelow, IsWithin}
use Rattle.rm_choice.proofs.Offers.{set_with_one, has_space, set_chosen, has_space_again, ready_again, outcome_read, chosen_list}
use Rattle.rm_choice.proofs.choice_holder.offer.Goals as goal

pub insert-requires-clause-space : goal.insert-requires-clause-space
insert-requires-clause-space g c = has_space _ _ _ (g.met.C.Choice.lawful c.args.choice.now) _ _ _ c.requires.ready c.args.x c.requires.contract c.requires.new

pub choose-count-requires-clause-set : goal.choose-count-requires-clause-set
choose-count-requires-clause-set g c =
    subst (IsSetBelow (g.C.Choice.count c.args.choice.now)) (sym (c.deref.ensures.value ∙ c.insert.ensures.items))
    (set_with_one _ _ _ (g.met.C.Choice.lawful c.args.choice.now) _ _ _ c.requires.ready c.args.x c.requires.contract c.requires.new)

pub outcome-outcome-requires-clause-offered : goal.outcome-outcome-requires-clause-offered
outcome-outcome-requires-clause-offered g c =
    subst IsSet (sym (c.deref-3.ensures.value ∙ c.insert.ensures.items))
    (set_with_one _ _ _ (g.met.C.Choice.lawful c.args.choice.now) _ _ _ c.requires.ready c.args.x c.requires.contract c.requires.new).ascending

pub outcome-outcome-requires-clause-chosen : goal.outcome-outcome-requires-clause-chosen
outcome-outcome-requires-clause-chosen g c =
    let e = chosen_list (g.C.Choice.chosen c.args.choice.now) c.choose-count.result _ _ _ _ _ (c.deref-2.ensures.value ∙ ap (λ s. s.list) c.room.view_is) c.choose-count.ensures.chosen c.deref.ensures.value c.insert.ensures.items in
    subst IsSet (sym e) (set_chosen _ _ _ (g.met.C.Choice.lawful c.args.choice.now) _ _ _ c.requires.ready c.args.x c.requires.contract c.requires.new).ascending

pub outcome-outcome-requires-clause-within : goal.outcome-outcome-requires-clause-within
outcome-outcome-requires-clause-within g c =
    let e = chosen_list (g.C.Choice.chosen c.args.choice.now) c.choose-count.result _ _ _ _ _ (c.deref-2.ensures.value ∙ ap (λ s. s.list) c.room.view_is) c.choose-count.ensures.chosen c.deref.ensures.value c.insert.ensures.items in
    let within = (g.met.C.Choice.lawful c.args.choice.now).within _ (set_with_one _ _ _ (g.met.C.Choice.lawful c.args.choice.now) _ _ _ c.requires.ready c.args.x c.requires.contract c.requires.new) in
    subst (λ L. IsWithin L c.deref-3.result.now) (sym e) (subst (IsWithin (g.C.Choice.chosen c.args.choice.now _)) (sym (c.deref-3.ensures.value ∙ c.insert.ensures.items)) within)

pub replace-requires : goal.replace-requires
replace-requires g c =
    let e = chosen_list (g.C.Choice.chosen c.args.choice.now) c.choose-count.result _ _ _ _ _ (c.deref-2.ensures.value ∙ ap (λ s. s.list) c.room.view_is) c.choose-count.ensures.chosen c.deref.ensures.value c.insert.ensures.items in
    let space = has_space_again _ _ _ (g.met.C.Choice.lawful c.args.choice.now) _ _ _ c.requires.ready c.args.x c.requires.contract c.requires.new in
    let len = ap length e in
    let more = c.insert.ensures.capacity in
    record { space = omega (arith, len, space, more) }

pub returns-clause-ready : goal.returns-clause-ready
returns-clause-ready g c =
    let e = c.replace.ensures.items ∙ chosen_list (g.C.Choice.chosen c.args.choice.now) c.choose-count.result _ _ _ _ _ (c.deref-2.ensures.value ∙ ap (λ s. s.list) c.room.view_is) c.choose-count.ensures.chosen c.deref.ensures.value c.insert.ensures.items in
    let first = c.insert.ensures.capacity in
    let second = c.replace.ensures.capacity in
    rw e (ready_again _ _ _ (g.met.C.Choice.lawful c.args.choice.now) _ _ _ c.requires.ready c.args.x c.requires.contract c.requires.new _ _ (omega (arith, first, second)) c.choose-count.ensures.room)

pub returns-clause-outcome : goal.returns-clause-outcome
returns-clause-outcome g c =
    let chosen = chosen_list (g.C.Choice.chosen c.args.choice.now) c.choose-count.result _ _ _ _ _ (c.deref-2.ensures.value ∙ ap (λ s. s.list) c.room.view_is) c.choose-count.ensures.chosen c.deref.ensures.value c.insert.ensures.items in
    outcome_read _ _ _ (g.met.C.Choice.lawful c.args.choice.now) _ _ _ c.requires.ready c.args.x c.requires.contract c.requires.new _ _ _ _
    (c.replace.ensures.items ∙ chosen) (c.deref-3.ensures.value ∙ c.insert.ensures.items) chosen c.outcome-outcome.ensures
