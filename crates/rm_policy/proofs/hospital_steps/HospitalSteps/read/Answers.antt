use Rattle.std.proofs.Common.{arith, refl, ap, ◌∙◌, ◌+◌, length, get_or, map, None}
use Rattle.toml.specs.View.{view}
use Rattle.rm_base.specs.Checks.{first_of, checks_of}
use Rattle.rm_base.proofs.Stopping.{stops-on}
use Rattle.rm_policy.specs.Hospitals.{hospital_entry_checks, hospital_entry_checks_after}
use Rattle.rm_policy.proofs.HospitalRows.{hospitals-none, hospitals-more, hospitals-stop, hospitals-all}
use Rattle.rm_policy.proofs.hospital_steps.HospitalSteps.read.Goals as goal

pub loop-k-init : goal.loop-k-init
loop-k-init c =
    rw c.new-steps.ensures.items (hospitals-none c.args.roster.now c.args.first c.args.values.now c.in-Ok.items.items c.len.result c.in-Ok.ensures (c.len.ensures.count ∙ ap length c.hospitals.ensures.hospitals))

pub returns-in-Err : goal.returns-in-Err
returns-in-Err c =
    let r = c.args.roster.now in
    let items = c.loop-k.items.items in
    stops-on (first_of (hospital_entry_checks r (λ h. get_or items h None) (c.args.first + (c.loop-k.k + 1)) (view c.index-values-k.result))) (first_of (checks_of (hospital_entry_checks_after r c.args.first) (map view c.args.values.now))) c.in-Err.fault
    (λ refusal some. hospitals-stop r c.args.first c.args.values.now c.loop-k.k c.index-values-k.result items c.loop-k.steps.items refusal c.loop-k.invariant c.loop-k-test.true c.index-values-k.is some)
    (rw c.deref.ensures.value at c.in-Err.ensures)

pub loop-k-preserved : goal.loop-k-preserved
loop-k-preserved c =
    let told = rw c.deref.ensures.value at c.in-Ok-read_hospital.ensures in
    hospitals-more c.args.roster.now c.args.first c.args.values.now c.loop-k.k c.index-values-k.result c.loop-k.items.items _ c.loop-k.steps.items c.push.new.self.items c.in-Ok-read_hospital.entry.hospital c.in-Ok-read_hospital.entry.steps
    c.loop-k.invariant c.loop-k-test.true c.index-values-k.is told.0 told.1 told.2 told.3 refl (rw c.if-is_err.ensures.negation at c.push.ensures.items)

pub returns : goal.returns
returns c = hospitals-all c.args.roster.now c.args.first c.args.values.now c.loop-k.k c.loop-k.items.items c.loop-k.steps.items c.loop-k.invariant (omega arith)
