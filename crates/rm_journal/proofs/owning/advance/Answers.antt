use Rattle.std.proofs.Common.{sym, ◌∙◌}
use Rattle.rm_rounds.specs.Desk.{desk_state}
use Rattle.rm_journal.proofs.Owned.{before_more, fewer_more, last_more, own_more, swapped_here}
use Rattle.rm_journal.proofs.owning.advance.Goals as goal

pub next_up_to-requires-clause-swapped : goal.next_up_to-requires-clause-swapped
next_up_to-requires-clause-swapped g c =
    let told = sym c.in-Moved.is ∙ c.offer.ensures.turn in
    swapped_here _ _ (desk_state g.H.Holder.held c.args.desk.now) _ c.requires.so_far c.args.e c.args.d c.requires.doctor c.requires.last c.requires.before _ _ told _ c.requires.owners

pub returns-in_ok-push-in-Moved-clause-so_far : goal.returns-in_ok-push-in-Moved-clause-so_far
returns-in_ok-push-in-Moved-clause-so_far g c =
    let told = sym c.in-Moved.is ∙ c.offer.ensures.turn in
    own_more _ _ (desk_state g.H.Holder.held c.args.desk.now) _ c.requires.so_far c.args.e c.args.d c.requires.doctor c.requires.last c.requires.before _ _ told _ _ c.in_ok-push-in-Moved.ensures.items c.offer.ensures.state

pub returns-in_ok-push-in-Moved-clause-before : goal.returns-in_ok-push-in-Moved-clause-before
returns-in_ok-push-in-Moved-clause-before g c =
    let told = sym c.in-Moved.is ∙ c.offer.ensures.turn in
    before_more _ _ (desk_state g.H.Holder.held c.args.desk.now) _ c.requires.so_far c.args.e c.args.d c.requires.doctor c.requires.last c.requires.before _ _ told _ _ _ c.requires.owners (c.next_up_to.ensures c.in-Moved.x) c.offer.ensures.state

pub returns-in_ok-push-in-Moved-clause-doctor : goal.returns-in_ok-push-in-Moved-clause-doctor
returns-in_ok-push-in-Moved-clause-doctor g c =
    let told = sym c.in-Moved.is ∙ c.offer.ensures.turn in
    last_more _ _ (desk_state g.H.Holder.held c.args.desk.now) _ c.requires.so_far c.args.e c.args.d c.requires.doctor c.requires.last c.requires.before _ _ told _ _ _ c.requires.owners (c.next_up_to.ensures c.in-Moved.x) c.offer.ensures.state

pub returns-in_ok-push-in-Moved-clause-fewer : goal.returns-in_ok-push-in-Moved-clause-fewer
returns-in_ok-push-in-Moved-clause-fewer g c =
    let told = sym c.in-Moved.is ∙ c.offer.ensures.turn in
    fewer_more _ _ (desk_state g.H.Holder.held c.args.desk.now) _ c.requires.so_far c.args.e c.args.d c.requires.doctor c.requires.last c.requires.before _ _ told _ _ _ c.requires.owners (c.next_up_to.ensures c.in-Moved.x) c.offer.ensures.state
