-- The board of a roster and a policy: nodes for hospitals and groups, each with its steps, and the tie order.
use Rattle.std.specs.Prelude.{ℕ, List, [], map, length, get_or, take, ◌==◌, sum_by, find, ℤ, Option, None, option_and_then, unwrap_or, if◌then◌else◌}
use Rattle.std.specs.List.{enumerate_from}
use Rattle.std.specs.Option.{option_map_or}
use Rattle.rm_names.specs.Names.{place_of}
use Rattle.rm_market.specs.Board.{Board}
use Rattle.rm_market.specs.Tree.{below}
use Rattle.rm_market.specs.Ties.{by_rank, by_hospital, listed_order}
use Rattle.rm_market.specs.Flexible.{Region, Seat, seat_steps}
use Rattle.rm_board_laws.specs.HospitalBoards.{hospital_board, group_nodes}
use Rattle.rm_roster.specs.Roster.{RosterData, hospitals_in}
use Rattle.rm_policy.specs.Policy.{PolicyData}
use Rattle.rm_policy.specs.Steps.{flat}
use Rattle.rm_policy.specs.Top.{is_flexible}
use Rattle.rm_policy.specs.declared.Ties.{Ties}
use Rattle.rm_policy.specs.declared.Ties.TheVariants as ties

-- ---- regions: the prefectures of a flexible policy

-- the number of the entry of prefecture q, if it has one
abbrev pub entry_of_prefecture : RosterData → PolicyData → ℕ → Option ℕ
entry_of_prefecture r p q = place_of (take (length p.orders) p.groups.names) (get_or r.prefectures q [])

abbrev pub capacities_in : RosterData → ℕ → ℕ
capacities_in r q = sum_by (λ h. get_or r.capacities h 0) (hospitals_in r q)

-- how many a prefecture may hold: the cap of its entry, or else as many as its hospitals
abbrev pub cap_of_prefecture : RosterData → PolicyData → ℕ → ℕ
cap_of_prefecture r p q = option_map_or (λ g. length (get_or p.groups.steps g [])) (entry_of_prefecture r p q) (capacities_in r q)

-- its hospitals in the order of their turns: that of its entry, or else that of their rows
abbrev pub order_of_prefecture : RosterData → PolicyData → ℕ → List ℕ
order_of_prefecture r p q = unwrap_or (option_and_then (λ g. get_or p.orders g None) (entry_of_prefecture r p q)) (hospitals_in r q)

abbrev pub seat_of : RosterData → ℕ → Seat
seat_of r h = record { hospital = h; target = get_or r.targets h 0; capacity = get_or r.capacities h 0 }

-- prefecture q as a region
abbrev pub region_of : RosterData → PolicyData → ℕ → Region
region_of r p q = record { cap = cap_of_prefecture r p q; seats = map (seat_of r) (order_of_prefecture r p q) }

-- the regions of a flexible policy, one per prefecture; a policy of steps has none
unfoldable pub regions_of : RosterData → PolicyData → List Region
regions_of r p = if is_flexible p.kind then map (region_of r p) (below (length r.prefectures)) else []

-- ---- the steps of hospitals

-- by the place, from 1, in its region's order
abbrev pub steps_in_region : Region → ℕ → List ℤ
steps_in_region g h = option_map_or (λ e. seat_steps g e.0 e.1) (find (λ e. e.1.hospital == h) (enumerate_from 1 g.seats)) []

abbrev pub flexible_steps : RosterData → PolicyData → ℕ → List ℤ
flexible_steps r p h = steps_in_region (region_of r p (get_or r.prefecture_of h 0)) h

-- those of its entry, or else steps of 0, as many as it has seats
abbrev pub own_steps : RosterData → PolicyData → ℕ → List ℤ
own_steps r p h = unwrap_or (get_or p.hospital_steps h None) (flat (get_or r.capacities h 0))

abbrev pub compiled_steps : RosterData → PolicyData → ℕ → List ℤ
compiled_steps r p h = if is_flexible p.kind then flexible_steps r p h else own_steps r p h

-- ---- the board

unfoldable pub tie_order_of : RosterData → PolicyData → Ties → List ℕ
tie_order_of r p ties.ByRank = by_rank r.ranks
tie_order_of r p ties.ByHospital = by_hospital r.ranks
tie_order_of r p ties.Listed = listed_order r.ranks p.listed

-- each hospital is a leaf and the node of that leaf, and then follow the groups
unfoldable pub compiled_board : RosterData → PolicyData → Board
compiled_board r p = hospital_board r.ranks (compiled_steps r p) (group_nodes p.groups.members p.groups.steps) (tie_order_of r p p.ties)
