-- How files are kept in memory: in a list, in which the first of a name counts.
use Rattle.std.specs.Prelude.{List, map, string_bytes}
use Rattle.std.specs.FinMap.{from_entries}
use Rattle.rm_base.specs.Text.{Text, Files}
use Rattle.rm_outside.specs.declared.memory.NamedFile.{NamedFile}

abbrev pub kept_entry : NamedFile → Text × Text
kept_entry file = (string_bytes file.name, file.bytes.items)

abbrev pub files_of : List NamedFile → Files
files_of files = from_entries (map kept_entry files)
