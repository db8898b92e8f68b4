-- What a proof unfolds to compute this crate's definitions on literals.
use Rattle.std.specs.Prelude.{⊤}
use Rattle.std.specs.Char.{encode_utf8}
use Rattle.std.specs.Str.{is_utf8, chars}
use Rattle.csv.proofs.OnLiterals.{csv_on_literals}
use Rattle.rm_table.specs.Rows.{rows_of, bad_text}

unfoldable pub table_on_literals : ⊤
unfolding encode_utf8 is_utf8 chars csv_on_literals rows_of bad_text
table_on_literals = tt
