use Rattle.std.proofs.Common.{[], Some, ap, refl}
use Rattle.std.proofs.lemmas.Option.{get_or_from_slice_get}
use Rattle.rm_report.proofs.Sums.{entry-found}
use Rattle.rm_report.proofs.report.cap_of_entry.Goals as goal

pub returns-in-Some : goal.returns-in-Some
returns-in-Some c =
    let found = entry-found c.args.case.now c.args.q c.name.result.now c.entry.result (rw (c.prefectures.ensures.prefectures, c.roster.ensures.roster) at c.name.ensures.name)
    (rw c.policy-policy.ensures.policy at c.entry.ensures) in
    rw (← found, c.in-Some.is, get_or_from_slice_get c.args.case.now.policy.groups.steps c.in-Some.entry c.group_steps.result.now [] (rw c.policy-policy.ensures.policy at c.group_steps.ensures))
    (ap Some c.cap.ensures.cap)

pub returns-in-None : goal.returns-in-None
returns-in-None c =
    let found = entry-found c.args.case.now c.args.q c.name.result.now c.entry.result (rw (c.prefectures.ensures.prefectures, c.roster.ensures.roster) at c.name.ensures.name)
    (rw c.policy-policy.ensures.policy at c.entry.ensures) in
    rw (← found, c.in-None.is) refl
