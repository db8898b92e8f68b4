use Rattle.std.proofs.Common.{◌∙◌, refl, get_or}
use Rattle.rm_transit.proofs.Doctors.{newcomer, sign_set, spent_same}
use Rattle.rm_transit.proofs.moves.note_outcome.Goals as goal

pub returns-in-Kept-clause-signs : goal.returns-in-Kept-clause-signs
returns-in-Kept-clause-signs c = rw c.in-Kept.is (sign_set c.args.doctors.now (get_or c.args.owners.now c.args.x 0) _)

pub returns-in-Kept-clause-spent : goal.returns-in-Kept-clause-spent
returns-in-Kept-clause-spent c = spent_same c.args.doctors.now (get_or c.args.owners.now c.args.x 0) _ newcomer refl

pub returns-in-Refused-clause-signs : goal.returns-in-Refused-clause-signs
returns-in-Refused-clause-signs c = rw c.in-Refused.is (sign_set c.args.doctors.now (get_or c.args.owners.now c.args.x 0) _)

pub returns-in-Refused-clause-spent : goal.returns-in-Refused-clause-spent
returns-in-Refused-clause-spent c = spent_same c.args.doctors.now (get_or c.args.owners.now c.args.x 0) _ newcomer refl

pub returns-in-Swapped-clause-signs : goal.returns-in-Swapped-clause-signs
returns-in-Swapped-clause-signs c =
    rw c.in-Swapped.is (sign_set _ (get_or c.args.owners.now c.args.x 0) _ ∙ rw (sign_set c.args.doctors.now (get_or c.args.owners.now c.in-Swapped.z 0) _) refl)

pub returns-in-Swapped-clause-spent : goal.returns-in-Swapped-clause-spent
returns-in-Swapped-clause-spent c =
    spent_same _ (get_or c.args.owners.now c.args.x 0) _ newcomer refl ∙ spent_same c.args.doctors.now (get_or c.args.owners.now c.in-Swapped.z 0) _ newcomer refl
