use Rattle.std.proofs.Common.{◌∙◌, refl, get_or}
use Rattle.rm_rounds.proofs.Doctors.{place_set, spent_same}
use Rattle.rm_rounds.proofs.turn.note_places.Goals as goal

pub returns-in-Kept-clause-places : goal.returns-in-Kept-clause-places
returns-in-Kept-clause-places c = rw c.in-Kept.is (place_set c.args.doctors.now c.args.d _)

pub returns-in-Kept-clause-spent : goal.returns-in-Kept-clause-spent
returns-in-Kept-clause-spent c = spent_same c.args.doctors.now c.args.d _ _ refl

pub returns-in-Swapped-clause-places : goal.returns-in-Swapped-clause-places
returns-in-Swapped-clause-places c =
    rw c.in-Swapped.is (place_set _ c.args.d _ ∙ rw (place_set c.args.doctors.now (get_or c.args.owners.now c.in-Swapped.z 0) _) refl)

pub returns-in-Swapped-clause-spent : goal.returns-in-Swapped-clause-spent
returns-in-Swapped-clause-spent c = spent_same _ c.args.d _ _ refl ∙ spent_same c.args.doctors.now (get_or c.args.owners.now c.in-Swapped.z 0) _ _ refl
