-- A number for each contract by which contracts stand in tie order. It is found from the rank lists alone where they tell the order.
use Rattle.std.specs.Prelude.{ℕ, ◌+◌, ◌*◌, ◌^◌, Bool, true, ◌&&◌, ◌==◌, nat_lt, max, List, [], ◌∷◌, map, fold, length, slice_index_or, if◌then◌else◌}
use Rattle.std.specs.List.{list_all, position_or_len}
use Rattle.rm_market.specs.Board.{Board, hospital_of_number}
use Rattle.rm_market.specs.Ties.{rank_places}

-- the key by rank of a contract: its place in its hospital's rank list, times the number of hospitals, plus its hospital
abbrev pub rank_key : List (List ℕ) → ℕ → ℕ
rank_key ranks x = slice_index_or (rank_places ranks) x 0 * length ranks + hospital_of_number ranks x

-- each contract has a smaller key than all that follow it
abbrev pub ascends : (ℕ → ℕ) → List ℕ → Bool
ascends key [] = true
ascends key (x ∷ xs) = list_all (λ y. nat_lt (key x) (key y)) xs && ascends key xs

-- the order goes by place in the rank list and then by hospital, and the longest rank list times the number of hospitals is below 2 ^ 32, so
-- that each key by rank is
abbrev pub is_ranked : List (List ℕ) → List ℕ → Bool
is_ranked ranks ties = nat_lt (fold max 0 (map length ranks) * length ranks) (2 ^ 32) && ascends (rank_key ranks) ties

-- the key by rank in such an order; in any other one, the place of the contract there
unfoldable pub tie_key : Board → ℕ → ℕ
tie_key b x = if is_ranked b.ranks b.ties then rank_key b.ranks x else position_or_len (λ y. y == x) b.ties
