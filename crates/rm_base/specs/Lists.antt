-- Lists of numbers.
use Rattle.std.specs.Prelude.{ℕ, ◌<◌, ◌==◌, List, All}
use Rattle.std.specs.List.{IsDistinct}

-- a list of distinct numbers below n
abbrev pub IsListBelow : ℕ → List ℕ → Type 0
IsListBelow n list = IsDistinct ◌==◌ list × All (λ x. x < n) list
