-- A writer of rows of any length that stands before a row.
use Rattle.std.specs.Prelude.{◌≡◌, ℕ, List, Some, false, Vec}
use Rattle.std.specs.declared.alloc.Global.{Global}
use Rattle.csv.specs.Writing.{fields_written, has_written, text_written, writer_setup}
use Rattle.csv.specs.declared.writer.Writer.{Writer}
use Rattle.rm_drill_laws.specs.Written.{flexible_writer}

-- the writer has written this text, and stands before a row
pub record Holds (w : Writer (Vec ℕ Global)) (text : List ℕ) : Type 0 where
  pub setup : writer_setup w ≡ flexible_writer
  pub fields : fields_written w ≡ 0
  pub clean : has_written w ≡ false
  pub so_far : text_written (λ v. Some v.items) w ≡ Some text
