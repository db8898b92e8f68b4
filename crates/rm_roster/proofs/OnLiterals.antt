-- What a proof unfolds to compute this crate's definitions on literals.
use Rattle.std.specs.Prelude.{⊤}
use Rattle.rm_base.specs.Checks.{checks_from}
use Rattle.rm_roster.specs.Cells.{wrong_cell}
use Rattle.rm_roster.specs.Roster.{roster_checks, roster_of}

unfoldable pub roster_on_literals : ⊤
unfolding checks_from wrong_cell roster_checks roster_of
roster_on_literals = tt
