use Rattle.std.proofs.Common.{◌≡◌, ◌∙◌, ap, sym, subst}
use Rattle.std.proofs.lemmas.Result.{err_from_is_err_and}
use Rattle.rm_roster.specs.Doctors.{DoctorsData}
use Rattle.rm_roster.specs.Hospitals.{HospitalsData}
use Rattle.rm_roster.specs.Roster.{IsRoster, names_in}
use Rattle.rm_roster.proofs.Files.{hospitals-stop, doctors-stop, ranks-stop, all-files, roster-is}
use Rattle.rm_roster.proofs.Accepted.{accepted}
use Rattle.rm_roster.proofs.Roster.read.Goals as goal

pub returns-in_err-hospitals : goal.returns-in_err-hospitals
returns-in_err-hospitals c =
    let p = err_from_is_err_and c.from_residual.result c.from_residual.ensures.1 in
    rw (p.1, p.2) (hospitals-stop c.args.hospitals.now c.args.doctors.now c.args.ranks.now c.in_err-hospitals.field-0.0 c.in_err-hospitals.ensures)

pub returns-in_err-doctors : goal.returns-in_err-doctors
returns-in_err-doctors c =
    let p = err_from_is_err_and c.from_residual-in_err-doctors.result c.from_residual-in_err-doctors.ensures.1 in
    let told = c.in_ok-hospitals.ensures in
    let names : c.names.result.now ≡ names_in c.args.hospitals.now = c.names.ensures ∙ ap (λ (h : HospitalsData). h.names) told.1 in
    rw (p.1, p.2) (doctors-stop c.args.hospitals.now c.args.doctors.now c.args.ranks.now c.in_err-doctors.field-0.0 told.0 (rw names at c.in_err-doctors.ensures))

pub returns-in_err-ranks : goal.returns-in_err-ranks
returns-in_err-ranks c =
    let p = err_from_is_err_and c.from_residual-in_err-ranks.result c.from_residual-in_err-ranks.ensures.1 in
    let told = c.in_ok-hospitals.ensures in
    let names : c.names.result.now ≡ names_in c.args.hospitals.now = c.names.ensures ∙ ap (λ (h : HospitalsData). h.names) told.1 in
    let names_again : c.names-2.result.now ≡ names_in c.args.hospitals.now = c.names-2.ensures ∙ ap (λ (h : HospitalsData). h.names) told.1 in
    let doctors = rw names at c.in_ok-doctors.ensures in
    let doctor_names : c.names-3.result.now ≡ names_in c.args.doctors.now = c.names-3.ensures ∙ ap (λ (d : DoctorsData). d.names) doctors.1 in
    rw (p.1, p.2) (ranks-stop c.args.hospitals.now c.args.doctors.now c.args.ranks.now c.in_err-ranks.field-0.0 told.0 doctors.0 (rw (names_again, doctor_names) at c.in_err-ranks.ensures))

pub join-requires : goal.join-requires
join-requires c =
    let told = c.in_ok-hospitals.ensures in
    let names : c.names.result.now ≡ names_in c.args.hospitals.now = c.names.ensures ∙ ap (λ (h : HospitalsData). h.names) told.1 in
    let names_again : c.names-2.result.now ≡ names_in c.args.hospitals.now = c.names-2.ensures ∙ ap (λ (h : HospitalsData). h.names) told.1 in
    let doctors = rw names at c.in_ok-doctors.ensures in
    let doctor_names : c.names-3.result.now ≡ names_in c.args.doctors.now = c.names-3.ensures ∙ ap (λ (d : DoctorsData). d.names) doctors.1 in
    let ranks = rw (names_again, doctor_names) at c.in_ok-ranks.ensures in
    let is = roster-is c.args.hospitals.now c.args.doctors.now c.args.ranks.now c.in_ok-hospitals.hospitals c.in_ok-doctors.doctors c.in_ok-ranks.ranks told.1 doctors.1 ranks.1 in
    subst IsRoster (sym is) (accepted c.args.hospitals.now c.args.doctors.now c.args.ranks.now (all-files c.args.hospitals.now c.args.doctors.now c.args.ranks.now told.0 doctors.0 ranks.0))

pub returns-in-Ok : goal.returns-in-Ok
returns-in-Ok c = rw c.in-Ok.ensures (
    let told = c.in_ok-hospitals.ensures in
    let names : c.names.result.now ≡ names_in c.args.hospitals.now = c.names.ensures ∙ ap (λ (h : HospitalsData). h.names) told.1 in
    let names_again : c.names-2.result.now ≡ names_in c.args.hospitals.now = c.names-2.ensures ∙ ap (λ (h : HospitalsData). h.names) told.1 in
    let doctors = rw names at c.in_ok-doctors.ensures in
    let doctor_names : c.names-3.result.now ≡ names_in c.args.doctors.now = c.names-3.ensures ∙ ap (λ (d : DoctorsData). d.names) doctors.1 in
    let ranks = rw (names_again, doctor_names) at c.in_ok-ranks.ensures in (
      all-files c.args.hospitals.now c.args.doctors.now c.args.ranks.now told.0 doctors.0 ranks.0,
      roster-is c.args.hospitals.now c.args.doctors.now c.args.ranks.now c.in_ok-hospitals.hospitals c.in_ok-doctors.doctors c.in_ok-ranks.ranks told.1 doctors.1 ranks.1,
    )
    )
