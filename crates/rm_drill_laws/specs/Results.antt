-- What is proved of texts of rows, and of the cells in them.
use Rattle.std.specs.Prelude.{◌≡◌, ◌⊎◌, ℕ, ◌+◌, ◌^◌, ◌<◌, ◌≤◌, ◌-◌, ◌*◌, true, List, [], ◌∷◌, ◌++◌, All, map, flat_map, length, get_or, decimal, Option, Some, None, Result, Ok, Err}
use Rattle.std.specs.List.{list_all, sum_by}
use Rattle.std.specs.Char.{is_ascii_alphanumeric}
use Rattle.std.specs.Fmt.{format_spec, styled_decimal}
use Rattle.csv.specs.Reading.{strip_bom}
use Rattle.csv.specs.Writing.{default_writer, row_text}
use Rattle.rm_base.specs.Text.{Text, is_name}
use Rattle.rm_base.specs.declared.codes.TheConstants.{MOST_NAME_BYTES}
use Rattle.rm_names.specs.Names.{AreDistinct, place_of}
use Rattle.rm_table.specs.Answer.{ReadsRows}
use Rattle.rm_table.specs.Rows.{Row, bad_text, rows_from, rows_of}
use Rattle.rm_table.specs.declared.TableFault.{TableFault}
use Rattle.rm_table.specs.declared.TableFault.TheVariants as fault
use Rattle.rm_roster.specs.Cells.{data_rows, header_check, is_number, number}
use Rattle.rm_roster.specs.Hospitals.{hospital_header}
use Rattle.rm_roster.specs.Items.{items_in}
use Rattle.rm_roster.specs.Readings.{ReadsNumber}
use Rattle.rm_drill_laws.specs.Plain.{choices_header, is_plain_cell, is_plain_row, line_bytes, plain_line, ranked_header}
use Rattle.rm_drill_laws.specs.Written.{flexible_writer, written}
use Rattle.rm_drill_laws.specs.Numbered.{in_digits, numbered, names_up_to}

-- ---- rows

-- the rows of the text that is written of them are these rows
abbrev pub ReadBack : List Row → Type 0
ReadBack rows = rows_of (written rows) ≡ rows

-- and none of them has a cell that isn't UTF-8
abbrev pub HasNoBadText : List Row → Type 0
HasNoBadText rows = bad_text (rows_of (written rows)) ≡ None

-- reading the text gives these rows, or memory is wanting
abbrev pub ReadsThem : List Row → Type 0
ReadsThem rows = (r : Result (List Row) TableFault) → ReadsRows (written rows) r → (r ≡ Ok rows) ⊎ (r ≡ Err fault.NoMemory)

-- their text is their lines
abbrev pub WrittenInLines : List Row → Type 0
WrittenInLines rows = written rows ≡ flat_map plain_line rows

-- so many bytes long
abbrev pub TakesBytes : List Row → Type 0
TakesBytes rows = length (written rows) ≡ sum_by line_bytes rows

-- at most so many where no cell has more than m bytes
abbrev pub TakesAtMost : List Row → Type 0
TakesAtMost rows = (m : ℕ) → All (λ row. All (λ cell. length cell ≤ m) row) rows → length (written rows) ≤ (m + 1) * sum_by length rows

-- the default writer, whose rows have one length, writes the same bytes of each
abbrev pub DefaultText : List Row → Type 0
DefaultText rows = written rows ≡ flat_map (row_text default_writer) rows

-- where the text doesn't begin with the byte order mark, its rows are the written ones, without what the definition of rows drops: blanks at
-- the ends of cells, empty cells at the ends of rows, and rows without a cell
abbrev pub ReadsTrimmed : List Row → Type 0
ReadsTrimmed rows = strip_bom (written rows) ≡ written rows → rows_of (written rows) ≡ rows_from rows

abbrev pub OfRows : (List Row → Type 0) → Type 0
OfRows Holds = (rows : List Row) → Holds rows

-- a further row is written at the end
abbrev pub WritesMore : Type 0
WritesMore = (rows : List Row) (row : Row) → written (rows ++ row ∷ []) ≡ written rows ++ row_text flexible_writer row

-- of plain rows
abbrev pub OfPlainRows : (List Row → Type 0) → Type 0
OfPlainRows Holds = (rows : List Row) → list_all is_plain_row rows ≡ true → Holds rows

-- ---- the first row as the header

-- the header and the rows after it
pub record ReadUnder (header : Row) (rows : List Row) : Type 0 where
  pub first : get_or (rows_of (written (header ∷ rows))) 0 [] ≡ header
  pub below : data_rows (rows_of (written (header ∷ rows))) ≡ rows

-- of plain rows under a plain header
abbrev pub OfPlainTables : (Row → List Row → Type 0) → Type 0
OfPlainTables Holds = (header : Row) (rows : List Row) → is_plain_row header ≡ true → list_all is_plain_row rows ≡ true → Holds header rows

-- the headers of a nation's three tables are plain
abbrev pub HeadersArePlain : Type 0
HeadersArePlain = list_all is_plain_row (hospital_header ∷ choices_header ∷ ranked_header ∷ []) ≡ true

-- a header that begins with the wanted cells is not refused, whatever cells and rows come after them
abbrev pub HeaderPasses : Type 0
HeaderPasses = (file : ℕ) (wanted more : List Text) (rows : List Row) → header_check file wanted ((wanted ++ more) ∷ rows) ≡ None

-- ---- numbers

-- the cell is the number n
pub record IsNumber (cell : Text) (n : ℕ) : Type 0 where
  pub is : is_number cell ≡ true
  pub value : number cell ≡ n

-- what a roster reads in the cell is n
abbrev pub ReadsAs : Text → ℕ → Type 0
ReadsAs cell n = (r : Option ℕ) → ReadsNumber cell r → r ≡ Some n

-- of decimal numbers of 64 bits
abbrev pub OfDecimals : (Text → Type 0) → Type 0
OfDecimals Holds = (n : ℕ) → n < 2 ^ 64 → Holds (decimal n)

-- of decimal numbers of at most nine digits
abbrev pub OfShortDecimals : (Text → ℕ → Type 0) → Type 0
OfShortDecimals Holds = (n : ℕ) → n < 10 ^ 9 → Holds (decimal n) n

abbrev pub IsPlain : Text → Type 0
IsPlain cell = is_plain_cell cell ≡ true

-- ---- numbered names

-- what a format writes of a number with a width and a zero, as `{n:05}` does, is the number in so many digits
abbrev pub PrintedInDigits : Type 0
PrintedInDigits = (width n : ℕ) → styled_decimal (format_spec 32 0 4 width (2 ^ 64 - 1)) n ≡ in_digits width n

-- without a width it is in as many digits as it has
abbrev pub NeedsNoWidth : Type 0
NeedsNoWidth = (n : ℕ) → in_digits 0 n ≡ decimal n

-- a number of at most so many digits gets just so many
abbrev pub FillsWidth : Type 0
FillsWidth = (width n : ℕ) → 0 < width → n < 10 ^ width → n < 2 ^ 64 → length (in_digits width n) ≡ width

-- of prefixes of letters and digits, and numbers of 64 bits
abbrev pub OfNames : (Text → Type 0) → Type 0
OfNames Holds = (prefix : Text) (width n : ℕ) → list_all is_ascii_alphanumeric prefix ≡ true → n < 2 ^ 64 → Holds (numbered prefix width n)

-- names of such numbers are the cells of a plain row
abbrev pub NamesArePlain : Type 0
NamesArePlain = (prefix : Text) (width : ℕ) (ns : List ℕ) → list_all is_ascii_alphanumeric prefix ≡ true → All (λ n. n < 2 ^ 64) ns
    → list_all is_plain_cell (map (numbered prefix width) ns) ≡ true

-- a plain cell that isn't too long may be a name
abbrev pub MayBeName : Type 0
MayBeName = (cell : Text) → is_plain_cell cell ≡ true → length cell ≤ MOST_NAME_BYTES → is_name cell ≡ true

-- numbers with the same name are the same
abbrev pub SameNumber : Type 0
SameNumber = (prefix : Text) (width m n : ℕ) → m < 2 ^ 64 → n < 2 ^ 64 → numbered prefix width m ≡ numbered prefix width n → m ≡ n

-- the names of the numbers from 1 to n
pub record ArePlaced (prefix : Text) (width n : ℕ) : Type 0 where
  pub distinct : AreDistinct (names_up_to prefix width n)
  pub placed : (i : ℕ) → i < n → place_of (names_up_to prefix width n) (numbered prefix width (i + 1)) ≡ Some i
  pub new : (i : ℕ) → n ≤ i → i + 1 < 2 ^ 64 → place_of (names_up_to prefix width n) (numbered prefix width (i + 1)) ≡ None

-- a list of such names is read as the list of their numbers, counted from 0
abbrev pub ReadsItems : Text → ℕ → ℕ → Type 0
ReadsItems prefix width n =
    (items : List ℕ) → All (λ i. i < n) items → items_in (names_up_to prefix width n) (map (λ i. numbered prefix width (i + 1)) items) ≡ items

abbrev pub OfNumberedLists : (Text → ℕ → ℕ → Type 0) → Type 0
OfNumberedLists Holds = (prefix : Text) (width n : ℕ) → n < 2 ^ 64 → Holds prefix width n
