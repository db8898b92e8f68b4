-- What fetching the files of a folder answers.
use Rattle.std.specs.Prelude.{ℕ, Option, Result, Ok, Err}
use Rattle.rm_base.specs.Text.{Text}
use Rattle.rm_base.specs.declared.codes.TheConstants.{MOST_BYTES}
use Rattle.rm_outside.specs.Outside.{Tells}
use Rattle.rm_outside.specs.declared.Fetched.{Fetched}
use Rattle.rm_case.specs.Folder.{Folder}
use Rattle.rm_case.specs.Loading.{HasFailedIn}
use Rattle.rm_case.specs.declared.folder.Fetches.{Fetches}
use Rattle.rm_case.specs.declared.folder.FetchFailure.{FetchFailure}
use Rattle.rm_case.specs.declared.folder.FetchFailure.TheVariants as failure

-- the answers of three fetches are true of a folder's tables
pub record TellsTables (f : Folder) (hospitals doctors ranks : Fetched) : Type 0 where
  pub tells_hospitals : Tells f.hospitals MOST_BYTES hospitals
  pub tells_doctors : Tells f.doctors MOST_BYTES doctors
  pub tells_ranks : Tells f.ranks MOST_BYTES ranks

-- the answers of four fetches are true of a folder's files
pub record TellsFolder (f : Folder) (fetches : Fetches) : Type 0 where
  pub tables : TellsTables f fetches.hospitals fetches.doctors fetches.ranks
  pub policy : Tells f.policy MOST_BYTES fetches.policy

-- fetching fails only where the shelf failed
abbrev pub FetchFails : {A : Type 0} → ℕ → ℕ → Option (Option Text) → Text → Result A FetchFailure → Type 0
FetchFails before after blame F (Ok x) = Unit {0}
FetchFails before after blame F (Err (failure.Read file)) = HasFailedIn before after blame F file
FetchFails before after blame F (Err failure.NoMemory) = Unit {0}
