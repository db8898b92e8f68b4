use Rattle.std.proofs.Common.{◌∙◌}
use Rattle.rm_case.proofs.OrderLemmas.{entry-found}
use Rattle.rm_case.proofs.RegionsTold.{entry_cap, entry_within, free_cap}
use Rattle.rm_case.proofs.case_regions.cap_of.Goals as goal

pub group_steps-requires : goal.group_steps-requires
group_steps-requires c =
    let e = entry-found c.args.roster.now c.args.policy.now c.args.q _ _ _ c.prefectures.ensures.prefectures c.name.ensures.name c.entry.ensures in
    entry_within c.args.roster.now c.args.policy.now c.args.q c.in-Some.g c.requires.policy (e ∙ c.in-Some.is)

pub returns-in-Some : goal.returns-in-Some
returns-in-Some c =
    let e = entry-found c.args.roster.now c.args.policy.now c.args.q _ _ _ c.prefectures.ensures.prefectures c.name.ensures.name c.entry.ensures in
    c.cap.ensures.cap ∙ entry_cap c.args.roster.now c.args.policy.now c.args.q c.in-Some.g c.group_steps.result.now (e ∙ c.in-Some.is) c.group_steps.ensures

pub returns-in-None : goal.returns-in-None
returns-in-None c =
    let e = entry-found c.args.roster.now c.args.policy.now c.args.q _ _ _ c.prefectures.ensures.prefectures c.name.ensures.name c.entry.ensures in
    free_cap c.args.roster.now c.args.policy.now c.args.q c.capacities_in.result (e ∙ c.in-None.is) c.capacities_in.ensures
