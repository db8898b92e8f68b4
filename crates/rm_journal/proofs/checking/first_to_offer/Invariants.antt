use Rattle.std.proofs.Common.{◌≡◌, ℕ, ◌<◌, None}
use Rattle.rm_journal.specs.Doctors.{next_told}
use Rattle.rm_journal.proofs.checking.first_to_offer.Given as goal

abbrev pub invariant-loop-d : goal.invariant-loop-d
invariant-loop-d l = (e : ℕ) → e < l.d → next_told l.listed l.spent l.places e ≡ None
