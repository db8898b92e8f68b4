-- What shelves and sinks tell, and what their calls do to it.
use Rattle.std.specs.Prelude.{◌≡◌, ◌≢◌, ◌⊎◌, ℕ, ◌+◌, ◌-◌, ◌<◌, ◌≤◌, ◌^◌, min, length, take, Option, Some, None, Result, Ok, Err, IfSome, IfOk}
use Rattle.std.specs.FinMap.{get}
use Rattle.std.specs.Io.KnownBytes.{Appends}
use Rattle.rm_base.specs.Text.{Text, Files}
use Rattle.rm_outside.specs.declared.Fetched.{Fetched}
use Rattle.rm_outside.specs.declared.Fetched.TheVariants.{Bytes, Absent, Long}
use Rattle.rm_outside.specs.declared.FetchFault.{FetchFault}
use Rattle.rm_outside.specs.declared.FetchFault.TheVariants.{Failed, NoMemory}

-- the last value of a counter, at which it stays
abbrev pub last_count : ℕ
last_count = 2 ^ 64 - 1

-- a counter's next value
abbrev pub next_count : ℕ → ℕ
next_count n = min (n + 1) last_count

-- a count of faults rose in a call, or stands at the last value
abbrev pub HasRisen : ℕ → ℕ → Type 0
HasRisen before after = (before < after) ⊎ (after ≡ last_count)

-- what an answer says of a file, which is there or isn't, at a limit of bytes
abbrev pub Tells : Option Text → ℕ → Fetched → Type 0
Tells file limit Absent = file ≡ None
Tells file limit Long = (bytes : Text) × (file ≡ Some bytes) × (limit < length bytes)
Tells file limit (Bytes v) = (file ≡ Some v.items) × (length v.items ≤ limit)

-- an answer is true of the files, where they are told
abbrev pub IsTold : Option Files → Text → ℕ → Result Fetched FetchFault → Type 0
IsTold files name limit result = IfSome files (λ fs. IfOk result (Tells (get fs name) limit))

-- the fault of a call of the system that failed, by the kind of its error: want of memory has a kind of its own
abbrev pub IsFaultOf : {Kind : Type 0} → Kind → Kind → FetchFault → Type 0
IsFaultOf out_of_memory kind fault = (kind ≡ out_of_memory → fault ≡ NoMemory) × (kind ≢ out_of_memory → fault ≡ Failed)

-- the blame after a fetch, where it is told: the name that failed, and else as it was
abbrev pub blame_after : Text → Result Fetched FetchFault → Option Text → Option Text
blame_after name (Err Failed) before = Some name
blame_after name (Err NoMemory) before = before
blame_after name (Ok answer) before = before

-- what was written has this more at its end, where it was told: where it was, it is
abbrev pub Gains : Option Text → Option Text → Text → Type 0
Gains = Appends

-- the same of some front of it
abbrev pub GainsPart : Option Text → Option Text → Text → Type 0
GainsPart before after text = (k : ℕ) × (k ≤ length text) × Gains before after (take k text)

-- a sink over a writer: what the writer tells that it holds, and the faults
pub record StreamData : Type 0 where
  pub written : Option Text
  pub faults : ℕ
