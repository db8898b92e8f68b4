-- Lists of names, each a list of bytes, and the place of a name in them.
use Rattle.std.specs.Prelude.{◌≡◌, ℕ, List, [], ◌∷◌, ◌++◌, length, slice_get, Option, Some, None, position}
use Rattle.std.specs.Str.{bytes_eq}
use Rattle.rm_names.specs.declared.names.Added.{Added}
use Rattle.rm_names.specs.declared.names.Added.TheVariants as added

-- the place of a name
abbrev pub place_of : List (List ℕ) → List ℕ → Option ℕ
place_of names name = position (bytes_eq name) names

-- no two numbers have the same name: each name is found where it stands
pub record AreDistinct (names : List (List ℕ)) : Type 0 where
  pub found : (n : ℕ) (name : List ℕ) → slice_get names n ≡ Some name → place_of names name ≡ Some n

-- what adding a name answers and leaves
abbrev pub Adds : List (List ℕ) → List ℕ → List (List ℕ) → Added → Type 0
Adds old name new (added.Added n) = (place_of old name ≡ None) × (n ≡ length old) × (new ≡ old ++ name ∷ [])
Adds old name new (added.There n) = (place_of old name ≡ Some n) × (new ≡ old)
Adds old name new added.NoMemory = (place_of old name ≡ None) × (new ≡ old)
