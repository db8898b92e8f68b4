-- Rows that are read one at a time.
use Rattle.std.proofs.Common.{◌≡◌, ◌+◌, ◌<◌, ◌≤◌, ◌∙◌, ◌^◌, if◌then◌else◌, ℕ, Bool, zero, suc, true, false, List, [], ◌∷◌, ◌++◌, length, map, get_or, filter, Option, Some, None, Ok, Err, inl, refl, ap, sym, subst, arith, Bor}
use Rattle.std.proofs.lemmas.List.{get_or-take, length-map, length-take}
use Rattle.std.proofs.lemmas.List.Sums.{length-filter, count_by-le-length}
use Rattle.csv.specs.Machine.{Read, next_record}
use Rattle.csv.specs.Reading.{ExplainsRead, NextIs, ReadRecord, ReadsNext, Ready, TookRecord, default_config, records_from, records_next, source_of, pending_of, is_bom, strip_bom}
use Rattle.csv.specs.Records.{AllText, field_at, fields_of}
use Rattle.csv.specs.Records.{Row as Packed}
use Rattle.csv.specs.declared.error.ErrorKind.{ErrorKind}
use Rattle.csv.specs.declared.error.ErrorKind.TheVariants as kind
use Rattle.csv.specs.declared.parser.Config.{Config}
use Rattle.csv.specs.declared.parser.State.{State}
use Rattle.csv.specs.declared.parser.State.TheVariants as st
use Rattle.csv.specs.declared.reader.Reader.{Reader}
use Rattle.csv.specs.declared.reader.Trim.TheVariants as trim
use Rattle.csv.proofs.ReadFacts.{rows-end}
use Rattle.csv.proofs.RecordFacts.{field-there}
use Rattle.rm_table.specs.Rows.{Row, bad_text, cell_of, has_cell, row_len, row_of, rows_from, rows_of}
use Rattle.rm_table.specs.Source.{IsReading, IsSource, ReadsRow, fault_of, rows_left}
use Rattle.rm_table.specs.declared.TableFault.{TableFault}
use Rattle.rm_table.proofs.CellLemmas.{cell-is}
use Rattle.rm_table.proofs.RecordLemmas.{bad-kept, read-more, records_after, records_left, records-end, records-more, rows-front}
use Rattle.rm_table.proofs.TextLemmas.{bad-first, test-true}
use Rattle.rm_table.proofs.TrimLemmas.{record-is-text, row-is-text}

abbrev Slice : Type 0
Slice = Bor (List ℕ)

abbrev bytes_in : Slice → Option (List ℕ)
bytes_in s = Some s.now

-- one record more
pub reading-more : (a b : Reader Slice) (f : List (List ℕ)) → IsReading a → ReadRecord bytes_in a b true f → b.first ≡ true
    → IsReading b × (rows_left a ≡ rows_from (f ∷ []) ++ rows_left b)
reading-more a b f h read first =
    let r = read-more bytes_in a b f h.rest h.config h.source read in (
      record { trim = read.3 ∙ h.trim; ready = inl first; config = read.2 ∙ h.config; rest = r.0; source = r.1 },
      rw (h.source, r.1) (ap rows_from r.2 ∙ rows-front f (records_after b.state r.0)),
    )

pub fewer-records : (a b : Reader Slice) (f : List (List ℕ)) → IsReading a → ReadRecord bytes_in a b true f → records_left b < records_left a
fewer-records a b f h read =
    let r = read-more bytes_in a b f h.rest h.config h.source read in
    rw (h.source, r.1, r.2) (omega arith)

-- a record whose row has no cell
pub reading-past : (a b : Reader Slice) (f : List (List ℕ)) → IsReading a → ReadRecord bytes_in a b true f → b.first ≡ true → row_len (map cell_of f) ≡ 0
    → IsReading b × (rows_left a ≡ rows_left b)
reading-past a b f h read first none =
    let more = reading-more a b f h read first in
    (more.0, more.1 ∙ rw none refl)

-- a row that has a cell
kept : (row : Row) → 0 < length row → filter has_cell (row ∷ []) ≡ row ∷ []
kept [] h = absurd (omega (arith, h))
kept (cell ∷ cells) h = refl

row-size : (f : List (List ℕ)) → length (row_of f) ≡ row_len (map cell_of f)
row-size f = omega (arith, length-take (row_len (map cell_of f)) (map cell_of f))

pub reading-row : (a b : Reader Slice) (f : List (List ℕ)) (n len : ℕ) → IsReading a → ReadRecord bytes_in a b true f → b.first ≡ true → AllText f
    → 0 < len → len ≡ row_len (map cell_of f) → ReadsRow (rows_left a) n b f (Ok (Some len))
reading-row a b f n len h read first texts some is =
    let more = reading-more a b f h read first in
    let size : 0 < length (row_of f) = omega (arith, some, is, row-size f) in
    (more.0, more.1 ∙ rw (kept (row_of f) size) refl, test-true (row_of f) (row-is-text f texts), is)

-- no record is left
pub reading-end : (a b : Reader Slice) (f : List (List ℕ)) → IsReading a → ReadRecord bytes_in a b false f → rows_left a ≡ []
reading-end a b f h read =
    let none = records-end a.state h.rest (rows-end bytes_in a b f default_config h.rest h.config h.source read) in
    rw h.source (ap rows_from none)

-- the record that was read is the first of those left
took-one : (s : State) (xs ys : List ℕ) (f : List (List ℕ)) (t : State) (o : Option Read) → next_record default_config s [] [] xs ≡ o → NextIs o true f t ys
    → (rest : List (List (List ℕ))) × (records_after s xs ≡ f ∷ rest)
took-one s xs ys f t None e h = cc h
took-one s xs ys f t (Some q) e h = (records_after q.1 q.2, records-more s xs q e ∙ rw h.1 refl)

took : (s t : State) (xs : List ℕ) (after : Option (List ℕ)) (f : List (List ℕ)) → ReadsNext default_config s (Some xs) after true f t
    → (rest : List (List (List ℕ))) × (records_after s xs ≡ f ∷ rest)
took s t xs None f h = absurd h
took s t xs (Some ys) f h = took-one s xs ys f t (next_record default_config s [] [] xs) refl h

-- the next record is no text
reading-bad : (a b : Reader Slice) (f : List (List ℕ)) → IsReading a → TookRecord bytes_in a b f → ¬ (AllText f) → bad_text (rows_left a) ≡ Some 0
reading-bad a b f h read bad =
    let r = took a.state b.state h.rest (pending_of (bytes_in b.rdr) b) f (rw (h.config, h.source) at read) in
    let no_text : ¬ (AllText (row_of f)) = λ texts. bad (record-is-text f texts) in
    let first = bad-kept (row_of f) (map row_of r.0) no_text in
    rw (h.source, r.1, first) (bad-first (row_of f) (rows_from r.0) no_text)

stops : (a b : Reader Slice) (k : ErrorKind) (n : ℕ) (f : List (List ℕ)) → IsReading a → ExplainsRead bytes_in a b true k
    → ReadsRow (rows_left a) n b f (Err (fault_of k n))
stops a b (kind.Utf8 pos err) n f h why = (reading-bad a b why.1 h why.2 why.3, refl)
stops a b (kind.Io e) n f h why = tt
stops a b (kind.UnequalLengths pos expected len) n f h why = tt
stops a b (kind.Serialize text) n f h why = tt
stops a b (kind.Deserialize pos err) n f h why = tt
stops a b kind.OutOfMemory n f h why = tt

pub reading-stops : (a b : Reader Slice) (k : ErrorKind) (n : ℕ) (f : List (List ℕ)) (left : List Row) (told : TableFault) → IsReading a
    → ExplainsRead bytes_in a b true k → left ≡ rows_left a → told ≡ fault_of k n → ReadsRow left n b f (Err told)
reading-stops a b k n f left told h why is fault =
    subst (λ (l : List Row). ReadsRow l n b f (Err told)) (sym is) (subst (λ (t : TableFault). ReadsRow (rows_left a) n b f (Err t)) (sym fault) (stops a b k n f h why))

-- a text has no more records than bytes, but for one
records-next-few : (cfg : Config) (n : ℕ) (o : Option Read) → ((s : State) (xs : List ℕ) → length (records_from cfg n s xs) ≤ n) → length (records_next (records_from cfg n) o) ≤ suc n
records-next-few cfg n None few = omega arith
records-next-few cfg n (Some q) few = omega (arith, few q.1 q.2)

records-few : (cfg : Config) (n : ℕ) (s : State) (xs : List ℕ) → length (records_from cfg n s xs) ≤ n
unfolding records_from
records-few cfg zero s xs = omega arith
records-few cfg (suc n) s xs = records-next-few cfg n (next_record cfg s [] [] xs) (λ t ys. records-few cfg n t ys)

either-few : (b : Bool) (xs ys : List ℕ) (n : ℕ) → length xs ≤ n → length ys ≤ n → length (if b then xs else ys) ≤ n
either-few true xs ys n h k = h
either-few false xs ys n h k = k

strip-few : (bytes : List ℕ) → length (strip_bom bytes) ≤ length bytes
unfolding strip_bom
strip-few [] = omega arith
strip-few (a ∷ []) = omega arith
strip-few (a ∷ b ∷ []) = omega arith
strip-few (a ∷ b ∷ c ∷ rest) = either-few (is_bom a b c) rest (a ∷ b ∷ c ∷ rest) (length (a ∷ b ∷ c ∷ rest)) (omega arith) (omega arith)

rows-few : (records : List (List (List ℕ))) → length (rows_from records) ≤ length records
rows-few records = omega (arith, length-filter has_cell (map row_of records), count_by-le-length has_cell (map row_of records), length-map records row_of)

text-few : (bytes : List ℕ) → length (rows_of bytes) ≤ length bytes + 1
unfolding rows_of
text-few bytes = omega (arith, rows-few (records_after st.StartRecord (strip_bom bytes)), records-few default_config (length (strip_bom bytes) + 1) st.StartRecord (strip_bom bytes), strip-few bytes)

-- at the beginning of a text
pub start-rows : (rdr : Reader Slice) (bytes : List ℕ) → rdr.state ≡ st.StartRecord → source_of bytes_in rdr ≡ Some (strip_bom bytes) → rows_left rdr ≡ rows_of bytes
unfolding rows_of
start-rows rdr bytes state source = rw (state, source) refl

pub start-source : (rdr : Reader Slice) (fields : Packed) (bytes : List ℕ) → rdr.trim ≡ trim.None → Ready rdr → rdr.config ≡ default_config
    → rdr.state ≡ st.StartRecord → source_of bytes_in rdr ≡ Some (strip_bom bytes) → fields_of fields ≡ [] → length bytes + 1 < 2 ^ 64 → IsSource false rdr fields 0 0
start-source rdr fields bytes trim ready config state source none short = record {
  reading = λ _. record { trim = trim; ready = ready; config = config; rest = strip_bom bytes; source = source };
  count = rw none refl;
  none = λ e. none;
  small = rw (start-rows rdr bytes state source) (omega (arith, short, text-few bytes));
}

-- the cell at a place of the row at hand
pub cell-at : (fields : List (List ℕ)) (j len : ℕ) (field cell : List ℕ) → j < len → len ≡ row_len (map cell_of fields) → Some field ≡ field_at fields j → cell ≡ cell_of field
    → cell ≡ get_or (row_of fields) j []
cell-at fields j len field cell lt is found at =
    let kept : j < row_len (map cell_of fields) = omega (arith, lt, is) in
    let within : j < length fields = omega (arith, kept, length-map fields cell_of) in
    sym (get_or-take (row_len (map cell_of fields)) (map cell_of fields) j [] kept ∙ cell-is fields j field cell within found at)

pub cell-there : (fields : List (List ℕ)) (j len : ℕ) → j < len → len ≡ row_len (map cell_of fields) → None ≡ field_at fields j → ⊥
cell-there fields j len lt is none = field-there fields j (omega (arith, lt, is, length-map fields cell_of)) (sym none)
