-- What a value of a document says, read by its shape.
use Rattle.std.specs.Prelude.{ℕ, Bool, ◌==◌, nat_le, List, [], ◌∷◌, codes, ℤ, pos, negsuc, Option, Some, None, option_and_then, option_map, is_some, if◌then◌else◌}
use Rattle.std.specs.List.{list_all}
use Rattle.std.specs.Option.{option_map_or}
use Rattle.std.specs.Str.{bytes_eq, is_utf8}
use Rattle.toml.specs.Data.{Data, table, Items, no_items, item, Members, no_members, member, as_str, as_integer, as_array, as_table}
use Rattle.toml.specs.Parse.{parse_document}
use Rattle.rm_base.specs.Text.{Text}
use Rattle.rm_base.specs.declared.codes.TheConstants.{GREATEST_CAP}
use Rattle.rm_market.specs.declared.Run.{Run}
use Rattle.rm_policy.specs.declared.Kind.{Kind}
use Rattle.rm_policy.specs.declared.Kind.TheVariants as kinds
use Rattle.rm_policy.specs.declared.Ties.{Ties}
use Rattle.rm_policy.specs.declared.Ties.TheVariants as tie
use Rattle.rm_policy.specs.declared.values.Shape.{Shape}
use Rattle.rm_policy.specs.declared.values.Shape.TheVariants as shape

-- the document of a text, a table: bytes that aren't UTF-8 are none
unfoldable pub document_of : List ℕ → Option Data
document_of bytes = if is_utf8 bytes then option_map table (parse_document bytes) else None

-- ---- arrays and tables

abbrev pub data_in : Items → List Data
data_in no_items = []
data_in (item d ds) = d ∷ data_in ds

-- the elements of an array
abbrev pub elements : Data → Option (List Data)
elements d = option_map data_in (as_array d)

abbrev pub keys_present : Members → List Text
keys_present no_members = []
keys_present (member key d ms) = key ∷ keys_present ms

-- the keys of a table
abbrev pub keys_of : Data → List Text
keys_of d = option_map_or keys_present (as_table d) []

-- ---- texts

abbrev pub kind_named : Text → Option Kind
kind_named text =
    if bytes_eq text (codes "flexible") then Some kinds.Flexible
    else if bytes_eq text (codes "steps") then Some kinds.Steps
    else None

abbrev pub kind : Data → Option Kind
kind d = option_and_then kind_named (as_str d)

abbrev pub ties_named : Text → Option Ties
ties_named text =
    if bytes_eq text (codes "by-rank") then Some tie.ByRank
    else if bytes_eq text (codes "by-hospital") then Some tie.ByHospital
    else if bytes_eq text (codes "listed") then Some tie.Listed
    else None

abbrev pub ties : Data → Option Ties
ties d = option_and_then ties_named (as_str d)

-- ---- numbers

-- a number from 0 up to the most
abbrev pub up_to : ℕ → ℤ → Option ℕ
up_to most (pos n) = if nat_le n most then Some n else None
up_to most (negsuc n) = None

abbrev pub cap : Data → Option ℕ
cap d = option_and_then (up_to GREATEST_CAP) (as_integer d)

-- the one version of the language
abbrev pub version_numbered : ℤ → Option ℤ
version_numbered (pos n) = if n == 1 then Some (pos 1) else None
version_numbered (negsuc n) = None

abbrev pub version : Data → Option ℤ
version d = option_and_then version_numbered (as_integer d)

-- ---- pairs and runs

abbrev pub both : Option Text → Option Text → Option (Text × Text)
both (Some first) (Some second) = Some (first, second)
both (Some first) None = None
both None second = None

abbrev pub pair_in : List Data → Option (Text × Text)
pair_in (first ∷ second ∷ []) = both (as_str first) (as_str second)
pair_in _ = None

-- two texts, a doctor and a hospital
abbrev pub pair : Data → Option (Text × Text)
pair d = option_and_then pair_in (elements d)

abbrev pub run_with : Option ℤ → Option ℤ → Option ℤ → Option Run
run_with (Some value) (Some count) (Some fall) = Some (record { value = value; fall = fall; count = count })
run_with (Some value) (Some count) None = None
run_with (Some value) None fall = None
run_with None count fall = None

abbrev pub run_in : List Data → Option Run
run_in (value ∷ count ∷ []) = run_with (as_integer value) (as_integer count) (Some (pos 0))
run_in (value ∷ count ∷ fall ∷ []) = run_with (as_integer value) (as_integer count) (as_integer fall)
run_in _ = None

-- a run is value and count, or value, count and fall
abbrev pub run_written : Data → Option Run
run_written d = option_and_then run_in (elements d)

-- ---- arrays whose elements have one shape

abbrev pub has_shape : Shape → Data → Bool
has_shape shape.Table d = is_some (as_table d)
has_shape shape.Text d = is_some (as_str d)
has_shape shape.Pair d = is_some (pair d)
has_shape shape.Run d = is_some (run_written d)

-- the elements of an array, where each has this shape
abbrev pub elements_of : Shape → Data → Option (List Data)
elements_of s d = option_and_then (λ ds. if list_all (has_shape s) ds then Some ds else None) (elements d)

abbrev pub tables : Data → Option (List Data)
tables d = elements_of shape.Table d

abbrev pub texts : Data → Option (List Data)
texts d = elements_of shape.Text d

abbrev pub pairs : Data → Option (List Data)
pairs d = elements_of shape.Pair d

abbrev pub runs : Data → Option (List Data)
runs d = elements_of shape.Run d
