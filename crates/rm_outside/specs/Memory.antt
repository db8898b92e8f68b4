-- Shelves and sinks in memory, some of whose calls fail by their numbers.
use Rattle.std.specs.Prelude.{ℕ, ◌==◌, ◌++◌, ◌-◌, Bool, ◌||◌, nat_lt, List, length, take, Option, Some, Result, Ok, Err, refl}
use Rattle.std.specs.Coded.{Coded, code_by, coded×, coded_ℕ, coded_list, coded_option}
use Rattle.std.specs.FinMap.{insert, code}
use Rattle.std.specs.List.{list_any}
use Rattle.rm_base.specs.Text.{Text, Files}
use Rattle.rm_outside.specs.Outside.{next_count}
use Rattle.rm_outside.specs.declared.Fetched.{Fetched}
use Rattle.rm_outside.specs.declared.FetchFault.{FetchFault}
use Rattle.rm_outside.specs.declared.FetchFault.TheVariants.{Failed, NoMemory}
use Rattle.rm_outside.specs.declared.PutFault.{PutFault}

-- the code of files, which a model's value needs
abbrev pub files_code : Coded Files
files_code = code (coded_list coded_ℕ) (coded_list coded_ℕ)

-- the call of this number, counted from 1, is one of those that fail
abbrev pub is_failing : List ℕ → ℕ → Bool
is_failing failing number = list_any (λ n. n == number) failing

-- ---- shelves

-- a shelf: its files, the numbers of the fetches that fail, how many fetches and faults there were, and the name that failed last
pub record ShelfData : Type 0 where
  pub files : Files
  pub failing : List ℕ
  pub fetches : ℕ
  pub faults : ℕ
  pub blame : Option Text

abbrev pub shelf_code : Coded ShelfData
shelf_code =
    code_by (Files × (List ℕ × (ℕ × (ℕ × Option Text))))
    (coded× files_code (coded× (coded_list coded_ℕ) (coded× coded_ℕ (coded× coded_ℕ (coded_option (coded_list coded_ℕ))))))
    (λ s. (s.files, (s.failing, (s.fetches, (s.faults, s.blame)))))
    (λ p. record { files = p.0; failing = p.1.0; fetches = p.1.1.0; faults = p.1.1.1.0; blame = p.1.1.1.1 }) (λ _. refl)

-- a name has these bytes
abbrev pub with_file : ShelfData → Text → Text → ShelfData
with_file s name bytes = record s { files = insert s.files name bytes }

-- the number of the next fetch
abbrev pub next_fetch : ShelfData → ℕ
next_fetch s = next_count s.fetches

-- the shelf after a fetch
abbrev pub after_fetch : ShelfData → Text → Result Fetched FetchFault → ShelfData
after_fetch s name (Err Failed) = record s { fetches = next_fetch s; faults = next_count s.faults; blame = Some name }
after_fetch s name (Err NoMemory) = record s { fetches = next_fetch s }
after_fetch s name (Ok answer) = record s { fetches = next_fetch s }

-- ---- sinks

-- a sink: what was written, the room that is left, the numbers of the puts that fail, and how many puts and faults there were
pub record SinkData : Type 0 where
  pub bytes : Text
  pub room : ℕ
  pub failing : List ℕ
  pub puts : ℕ
  pub faults : ℕ

-- the number of the next put
abbrev pub next_put : SinkData → ℕ
next_put s = next_count s.puts

-- the next put of this piece fails: by its number, or for want of room
abbrev pub refuses : SinkData → Text → Bool
refuses s piece = is_failing s.failing (next_put s) || nat_lt s.room (length piece)

-- the sink after a put
abbrev pub after_put : SinkData → Text → Result (Unit {0}) PutFault → SinkData
after_put s piece (Ok _) = record s { bytes = s.bytes ++ piece; room = s.room - length piece; puts = next_put s }
after_put s piece (Err fault) = record s { puts = next_put s; faults = next_count s.faults }

-- a sink that tears what doesn't fit: what was written, the room that is left, and how many faults there were
pub record TornData : Type 0 where
  pub bytes : Text
  pub room : ℕ
  pub faults : ℕ

-- such a sink after a put: of what doesn't fit it has as much as there was room for
abbrev pub after_torn_put : TornData → Text → Result (Unit {0}) PutFault → TornData
after_torn_put s piece (Ok _) = record s { bytes = s.bytes ++ piece; room = s.room - length piece }
after_torn_put s piece (Err fault) = record { bytes = s.bytes ++ take s.room piece; room = 0; faults = next_count s.faults }
