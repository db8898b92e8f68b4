-- The board of regions: a node for each hospital, with the worths of its seats, and nodes for the regions' caps.
use Rattle.std.specs.Prelude.{◌≡◌, ◌⊎◌, ℕ, ◌+◌, ◌<◌, ◌==◌, List, length, replicate, sum_by, pos}
use Rattle.rm_market.specs.Board.{Board, Node, contract_count, hospital_of, node_at}
use Rattle.std.specs.List.{list_any}
use Rattle.rm_market.specs.Flexible.{Region, is_seat_of, seat_steps}
use Rattle.rm_valuation_laws.specs.Changes.{in_node}
use Rattle.rm_flexible_laws.specs.Region.{seat_at, region_at, IsPlace}

-- n is the node of the region's seat j
pub record IsSeatNode (b : Board) (r : Region) (j : ℕ) (n : Node) : Type 0 where
  pub contracts : (x : ℕ) → x < contract_count b → in_node b n x ≡ (hospital_of b x == (seat_at r j).hospital)
  pub steps : n.steps ≡ seat_steps r (j + 1) (seat_at r j)

-- n is the node of the region: as many steps of 0 as its cap
pub record IsCapNode (b : Board) (r : Region) (n : Node) : Type 0 where
  pub contracts : (x : ℕ) → x < contract_count b → in_node b n x ≡ list_any (is_seat_of b x) r.seats
  pub steps : n.steps ≡ replicate r.cap (pos 0)

-- node h is that of hospital h, and each other node is one of a region; a region without a node has a cap that bounds nothing
pub record IsCompiled (b : Board) (regions : List Region) : Type 0 where
  pub hospitals : (h i j : ℕ) → IsPlace regions h i j → (h < length b.nodes) × IsSeatNode b (region_at regions i) j (node_at b h)
  pub others : (k : ℕ) → k < length b.nodes → ((i : ℕ) × (j : ℕ) × IsPlace regions k i j)
      ⊎ ((i : ℕ) × (i < length regions) × IsCapNode b (region_at regions i) (node_at b k))
  pub caps : (i : ℕ) → i < length regions →
      ((k : ℕ) × (k < length b.nodes) × IsCapNode b (region_at regions i) (node_at b k))
      ⊎ ((region_at regions i).cap ≡ sum_by (λ s. s.capacity) (region_at regions i).seats)
