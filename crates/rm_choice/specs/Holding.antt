-- What a holder that chooses anew keeps.
use Rattle.std.specs.Prelude.{◌≡◌, ℕ, ◌≤◌, List}
use Rattle.rm_sets.specs.Sets.{IsSetBelow}
use Rattle.rm_choice.specs.Size.{Space, Fits}

-- a set that is its own choice, and space for every set of n contracts
pub record IsReady (n nodes : ℕ) (chosen : List ℕ → List ℕ) (held : List ℕ) (capacity : ℕ) (room : Space) : Type 0 where
  pub set : IsSetBelow n held
  pub settled : chosen held ≡ held
  pub space : n ≤ capacity
  pub fits : Fits n nodes room
