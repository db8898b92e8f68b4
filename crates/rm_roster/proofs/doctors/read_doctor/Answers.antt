use Rattle.std.proofs.Common.{rules}
use Rattle.rm_base.specs.Checks.{first_of}
use Rattle.rm_roster.specs.Doctors.{doctor_checks}
use Rattle.rm_base.proofs.Stopping.{grows-stops}
use Rattle.rm_roster.proofs.doctors.read_doctor.Goals as goal

pub returns-clause-stops : goal.returns-clause-stops
returns-clause-stops c =
    grows-stops _ (first_of (doctor_checks c.args.hospitals.now c.args.names.now c.args.lists.now.held c.args.row.now)) _ c.read_items.new.lists c.read_items.result (search rules) c.read_items.ensures
