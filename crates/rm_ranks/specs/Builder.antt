-- What building lists answers.
use Rattle.std.specs.Prelude.{◌≡◌, ℕ, ◌≤◌, ◌<◌, ◌^◌, ◌==◌, Bool, true, false, List, [], ◌∷◌, length, drop, get_or, Option, Some, None, IsSome, Result, Ok, Err, All}
use Rattle.std.specs.List.{IsDistinct, list_any}
use Rattle.rm_lists.specs.Grouping.{values_of_key}
use Rattle.rm_ranks.specs.Built.{ListsTold, last_list, begun, with_items}
use Rattle.rm_ranks.specs.declared.builder.ListFault.{ListFault}
use Rattle.rm_ranks.specs.declared.builder.ListFault.TheVariants as fault

-- a list is begun, unless it was begun before
abbrev pub Begins : ListsTold → ℕ → ℕ → ListsTold → Result (Unit {0}) ListFault → Type 0
Begins old i mark new (Ok _) = (get_or old.marks i None ≡ None) × (new ≡ begun old i mark)
Begins old i mark new (Err (fault.RowRepeated former)) = (get_or old.marks i None ≡ Some former) × (new ≡ old)
Begins old i mark new (Err fault.Repeated) = ⊥
Begins old i mark new (Err fault.TooMany) = ⊥
Begins old i mark new (Err fault.NoMemory) = ⊥

-- an item is added, unless the list has it or the lists hold as many as they may
abbrev pub Pushes : ListsTold → ℕ → ListsTold → Result (Unit {0}) ListFault → Type 0
Pushes old item new (Ok _) = (list_any (λ x. x == item) (last_list old) ≡ false) × (old.held < old.limit) × (new ≡ with_items old (item ∷ []))
Pushes old item new (Err fault.Repeated) = (list_any (λ x. x == item) (last_list old) ≡ true) × (new ≡ old)
Pushes old item new (Err fault.TooMany) = (list_any (λ x. x == item) (last_list old) ≡ false) × (old.limit ≤ old.held) × (new ≡ old)
Pushes old item new (Err fault.NoMemory) = new ≡ old
Pushes old item new (Err (fault.RowRepeated former)) = ⊥

-- the list begun last, if any, has a mark, and its items are those from its start on
abbrev pub IsLast : List ℕ → List ℕ → List (Option ℕ) → Option ℕ → ℕ → Type 0
IsLast items keys marks None start = drop start items ≡ []
IsLast items keys marks (Some i) start = (i < length marks) × IsSome (get_or marks i None) × (values_of_key i keys items ≡ drop start items)

-- what the builder keeps
pub record AreBuilt (items keys : List ℕ) (marks : List (Option ℕ)) (seen : List Bool) (at : Option ℕ) (start limit : ℕ) : Type 0 where
  pub few : length marks < 2 ^ 32
  pub beside : length items ≡ length keys
  pub known : All (λ k. k < length marks) keys
  pub unbegun : (i : ℕ) → get_or marks i None ≡ None → values_of_key i keys items ≡ []
  pub distinct : (i : ℕ) → IsDistinct ◌==◌ (values_of_key i keys items)
  pub last : IsLast items keys marks at start
  pub begun : start ≤ length items
  pub room : length items ≤ limit
  pub below : All (λ x. x < length seen) items
  pub noted : (x : ℕ) → list_any (λ y. y == x) (drop start items) ≡ get_or seen x false
