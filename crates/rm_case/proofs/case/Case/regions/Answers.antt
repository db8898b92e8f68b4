use Rattle.std.proofs.Common.{◌∙◌, ap, sym}
use Rattle.std.proofs.lemmas.Result.{IfOk-weaker}
use Rattle.rm_policy.specs.Top.{is_flexible}
use Rattle.rm_case.proofs.Regions.{region_good, regions_are}
use Rattle.rm_case.proofs.RegionsTold.{no_regions, regions_below, regions_keep_best}
use Rattle.rm_case.proofs.case.Case.regions.Goals as goal

pub prefecture_regions-requires-clause-lawful : goal.prefecture_regions-requires-clause-lawful
prefecture_regions-requires-clause-lawful c =
    let case = c.policy-policy.ensures.case in
    let kind = ap is_flexible (sym (c.kind.ensures ∙ ap (λ p. p.kind) c.policy-policy.ensures.policy) ∙ c.in-Flexible.is) in
    rw (c.roster.ensures.roster, c.policy-policy.ensures.policy) (region_good c.args.self.now.roster c.args.self.now.policy case.roster case.policy case.suits kind)

pub returns-in-Flexible-clause-regions : goal.returns-in-Flexible-clause-regions
returns-in-Flexible-clause-regions c =
    let kind = ap is_flexible (sym (c.kind.ensures ∙ ap (λ p. p.kind) c.policy-policy.ensures.policy) ∙ c.in-Flexible.is) in
    IfOk-weaker c.prefecture_regions.result _ _
    (λ v is. is ∙ sym (regions_are c.args.self.now.roster c.args.self.now.policy kind))
    (rw (c.roster.ensures.roster, c.policy-policy.ensures.policy) at c.prefecture_regions.ensures)

pub returns-in-Steps-clause-regions : goal.returns-in-Steps-clause-regions
returns-in-Steps-clause-regions c =
    let kind = ap is_flexible (sym (c.kind.ensures ∙ ap (λ p. p.kind) c.policy-policy.ensures.policy) ∙ c.in-Steps.is) in
    c.new.ensures.items ∙ sym (no_regions c.args.self.now.roster c.args.self.now.policy kind)

pub returns-in-Flexible-clause-hospitals : goal.returns-in-Flexible-clause-hospitals
returns-in-Flexible-clause-hospitals c = regions_below c.args.self.now c.policy-policy.ensures.case

pub returns-in-Steps-clause-hospitals : goal.returns-in-Steps-clause-hospitals
returns-in-Steps-clause-hospitals c = regions_below c.args.self.now c.policy-policy.ensures.case

pub returns-in-Flexible-clause-best : goal.returns-in-Flexible-clause-best
returns-in-Flexible-clause-best c = regions_keep_best c.args.self.now c.policy-policy.ensures.case

pub returns-in-Steps-clause-best : goal.returns-in-Steps-clause-best
returns-in-Steps-clause-best c = regions_keep_best c.args.self.now c.policy-policy.ensures.case
