-- Rows that are given one at a time, from a text of CSV or from a table.
use Rattle.std.specs.Prelude.{◌≡◌, ℕ, ◌+◌, ◌^◌, ◌<◌, Bool, true, false, List, [], ◌∷◌, ◌++◌, length, map, Option, Some, None, Result, Ok, Err}
use Rattle.std.specs.Borrow.{Bor}
use Rattle.std.specs.List.{list_all}
use Rattle.csv.specs.Reading.{Ready, default_config, records_from, source_of}
use Rattle.csv.specs.Records.{fields_of}
use Rattle.csv.specs.Records.{Row as Packed}
use Rattle.csv.specs.declared.error.ErrorKind.{ErrorKind}
use Rattle.csv.specs.declared.error.ErrorKind.TheVariants as kind
use Rattle.csv.specs.declared.parser.State.{State}
use Rattle.csv.specs.declared.reader.Reader.{Reader}
use Rattle.csv.specs.declared.reader.Trim.TheVariants as trim
use Rattle.rm_table.specs.Rows.{Row, bad_text, cell_of, is_text, row_len, row_of, rows_from}
use Rattle.rm_table.specs.declared.TableFault.{TableFault}
use Rattle.rm_table.specs.declared.TableFault.TheVariants as fault

-- where a source of rows stands: how many rows it gave, the one that it gave last, and those still to come
pub record Stand : Type 0 where
  pub number : ℕ
  pub row : Row
  pub coming : List Row

-- before the first of these rows
abbrev pub begins_at : List Row → Stand
begins_at rows = record { number = 0; row = []; coming = rows }

-- past the last row: none is at hand
abbrev pub ended_at : ℕ → Stand
ended_at number = record { number = number; row = []; coming = [] }

-- A step of a source. The row that it gives is the first of those to come, and is text. It gives none exactly where none is
-- to come, and it tells a row that is no text exactly where that row is the next.
abbrev pub Moves : Stand → Stand → Result Bool TableFault → Type 0
Moves old new (Ok true) = (old.coming ≡ new.row ∷ new.coming) × (is_text new.row ≡ true) × (new.number ≡ old.number + 1)
Moves old new (Ok false) = (old.coming ≡ []) × (new ≡ ended_at old.number)
Moves old new (Err (fault.BadText n)) = (bad_text old.coming ≡ Some 0) × (n ≡ old.number)
Moves old new (Err fault.NoMemory) = Unit {0}

-- a source that goes over these rows: those given so far are text
pub record IsAt (rows : List Row) (stand : Stand) : Type 0 where
  pub given : List Row
  pub parts : rows ≡ given ++ stand.coming
  pub number : stand.number ≡ length given
  pub texts : list_all is_text given ≡ true

-- each row is text, or this is the number of the first that isn't
abbrev pub FindsBadText : List Row → Result (Unit {0}) TableFault → Type 0
FindsBadText rows (Ok _) = bad_text rows ≡ None
FindsBadText rows (Err (fault.BadText n)) = bad_text rows ≡ Some n
FindsBadText rows (Err fault.NoMemory) = Unit {0}

abbrev pub ChecksRest : Stand → Result (Unit {0}) TableFault → Type 0
ChecksRest old result = (rows : List Row) → IsAt rows old → FindsBadText rows result

-- the rows of the records that are read from a state on, where the bytes are known
abbrev pub rows_after : State → Option (List ℕ) → List Row
rows_after s None = []
rows_after s (Some bytes) = rows_from (records_from default_config (length bytes + 1) s bytes)

-- the rows that a reader has left
abbrev pub rows_left : Reader (Bor (List ℕ)) → List Row
rows_left rdr = rows_after rdr.state (source_of (λ (s : Bor (List ℕ)). Some s.now) rdr)

-- a reader of a text, whose next read gives a record of it
pub record IsReading (rdr : Reader (Bor (List ℕ))) : Type 0 where
  pub trim : rdr.trim ≡ trim.None
  pub ready : Ready rdr
  pub config : rdr.config ≡ default_config
  pub rest : List ℕ
  pub source : source_of (λ (s : Bor (List ℕ)). Some s.now) rdr ≡ Some rest

-- the fault of a read, where the next row has this number
abbrev pub fault_of : ErrorKind → ℕ → TableFault
fault_of (kind.Utf8 pos err) n = fault.BadText n
fault_of (kind.Io e) n = fault.NoMemory
fault_of (kind.UnequalLengths pos expected len) n = fault.NoMemory
fault_of (kind.Serialize text) n = fault.NoMemory
fault_of (kind.Deserialize pos err) n = fault.NoMemory
fault_of kind.OutOfMemory n = fault.NoMemory

-- the next row was read from those left, or there is none, or it is no text
abbrev pub ReadsRow : List Row → ℕ → Reader (Bor (List ℕ)) → List (List ℕ) → Result (Option ℕ) TableFault → Type 0
ReadsRow left n rdr fields (Ok (Some len)) =
    IsReading rdr × (left ≡ row_of fields ∷ rows_left rdr) × (is_text (row_of fields) ≡ true) × (len ≡ row_len (map cell_of fields))
ReadsRow left n rdr fields (Ok None) = left ≡ []
ReadsRow left n rdr fields (Err (fault.BadText m)) = (bad_text left ≡ Some 0) × (m ≡ n)
ReadsRow left n rdr fields (Err fault.NoMemory) = Unit {0}

-- the rows still to come, of a reader or after its end
abbrev pub coming_of : Bool → Reader (Bor (List ℕ)) → List Row
coming_of true rdr = []
coming_of false rdr = rows_left rdr

abbrev pub stand_of : Bool → Reader (Bor (List ℕ)) → Packed → ℕ → Stand
stand_of ended rdr fields number = record { number = number; row = row_of (fields_of fields); coming = coming_of ended rdr }

-- what the parts of a source over a text keep
pub record IsSource (ended : Bool) (rdr : Reader (Bor (List ℕ))) (fields : Packed) (len number : ℕ) : Type 0 where
  pub reading : ended ≡ false → IsReading rdr
  pub count : len ≡ row_len (map cell_of (fields_of fields))
  pub none : ended ≡ true → fields_of fields ≡ []
  pub small : number + length (coming_of ended rdr) < 2 ^ 64
