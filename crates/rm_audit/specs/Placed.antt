-- Of private calls: what is kept of a placement at the nodes of a board.
use Rattle.std.specs.Prelude.{◌≡◌, ℕ, ◌<◌, Bool, ◌&&◌, ◌||◌, nat_le, List, length, get_or, int_lt, Option, Some, None, option_map, if◌then◌else◌}
use Rattle.std.specs.Ordering.{int_eq}
use Rattle.rm_market.specs.Board.{Board}
use Rattle.rm_board.specs.TieKeys.{tie_key}
use Rattle.rm_valuation_laws.specs.Changes.{test_at}
use Rattle.rm_exchange.specs.declared.removal.Removal.{Removal as AnyRemoval}
use Rattle.rm_exchange.specs.Entrants.{HasHospitals, inner_cost, inner_size, IsLeastOf}
use Rattle.rm_audit.specs.declared.placed.Removal.{Removal}

-- the hospitals are the first nodes, and there are not too many nodes to count
pub record IsWalkable (b : Board) : Type 0 where
  pub hospitals : HasHospitals b
  pub small : length b.nodes < 4294967296

-- a removal without the number of its contract
abbrev pub bare : AnyRemoval → Removal
bare r = record { loss = r.loss; tie = r.tie }

-- the first removal loses less, or as much, and isn't before the second in tie order
abbrev pub is_no_dearer : Removal → Removal → Bool
is_no_dearer a c = int_lt a.loss c.loss || (int_eq a.loss c.loss && nat_le c.tie a.tie)

abbrev pub cheaper_of : Option Removal → Removal → Removal
cheaper_of None new = new
cheaper_of (Some old) new = if is_no_dearer old new then old else new

-- by node, of the contracts of H the one whose removal from S loses least inside the node, of equal loss the last in tie order
abbrev pub IsCheapestOf : Board → List ℕ → List ℕ → ℕ → Option Removal → Type 0
IsCheapestOf b S H k entry =
    (r : Option AnyRemoval) × (entry ≡ option_map bare r) × IsLeastOf (tie_key b) H (test_at b k) (inner_cost b S k) (inner_size b k) r

pub record AreCheapest (b : Board) (S H : List ℕ) (cheapest : List (Option Removal)) : Type 0 where
  pub all : length cheapest ≡ length b.nodes
  pub each : (k : ℕ) → k < length b.nodes → IsCheapestOf b S H k (get_or cheapest k None)
