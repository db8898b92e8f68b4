use Rattle.std.proofs.Common.{◌≡◌, ◌+◌, ◌-◌, min, length, refl, arith, rules}
use Rattle.std.proofs.lemmas.Result.{err_from_is_err_and}
use Rattle.rm_roster.proofs.DoctorRows.{none-read, next, one-read, one-refused, all-read}
use Rattle.rm_base.specs.declared.codes.TheConstants.{MOST_DOCTORS}
use Rattle.rm_base.proofs.Stopping.{stops-on}
use Rattle.rm_roster.proofs.doctors.Doctors.read_rows.Goals as goal

pub loop-i-init : goal.loop-i-init
loop-i-init c =
    let count : c.min-count.result ≡ min (length c.args.table.now - 1) (MOST_DOCTORS + 1) = search rules in
    rw (c.in-Ok-with_capacity.ensures, c.in-Ok.ensures) (none-read c.args.hospitals.now c.args.table.now c.min-count.result c.len.result count c.len.ensures.count)

pub read_doctor-requires : goal.read_doctor-requires
read_doctor-requires c =
    let lt = rw c.rows-i-end.ensures at c.loop-i-test.true in
    let n = next c.args.hospitals.now c.args.table.now c.loop-i.i c.loop-i.names c.loop-i.lists c.loop-i.invariant lt in
    record { few = n.few; room = n.in_lists; next = (n.empty, n.unbegun); items = n.items; limit = n.limit }

pub returns-in_err-read_doctor : goal.returns-in_err-read_doctor
returns-in_err-read_doctor c =
    let p = err_from_is_err_and c.from_residual.result c.from_residual.ensures.1 in
    let lt = rw c.rows-i-end.ensures at c.loop-i-test.true in
    rw (p.1, p.2) (stops-on _ _ c.in_err-read_doctor.field-0.0
    (λ refusal some. one-refused c.args.hospitals.now c.args.table.now c.loop-i.i c.loop-i.names c.loop-i.lists c.row.result refusal c.loop-i.invariant lt c.row.ensures some)
    c.in_err-read_doctor.ensures.stops)

pub loop-i-preserved : goal.loop-i-preserved
loop-i-preserved c =
    let lt = rw c.rows-i-end.ensures at c.loop-i-test.true in
    let told = c.in_ok-read_doctor.ensures in
    one-read c.args.hospitals.now c.args.table.now c.loop-i.i c.loop-i.names c.read_doctor.new.names c.loop-i.lists c.read_doctor.new.lists c.row.result c.loop-i.invariant lt c.row.ensures told.passes told.names.0 told.names.1 told.lists

pub returns : goal.returns
returns c =
    let all = all-read c.args.hospitals.now c.args.table.now c.loop-i.i c.loop-i.names c.loop-i.lists c.loop-i.invariant (omega arith) in
    (all.0, rw (c.in-Ok-finish.ensures.lists, all.1, all.2) refl)
