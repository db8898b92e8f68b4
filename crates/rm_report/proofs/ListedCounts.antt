-- A doctor has no more listed contracts than his list has hospitals.
use Rattle.std.proofs.Common.{◌≡◌, ◌+◌, ◌≤◌, ◌<◌, ℕ, List, [], ◌∷◌, length, take, get_or, map, sum_by, Option, Some, None, arith, ◌^◌}
use Rattle.std.specs.List.{filter_map, cons_option, enumerate_from}
use Rattle.std.proofs.lemmas.List.Sums.{sum_by-cons, sum_by_more_le}
use Rattle.rm_market.specs.Board.{number_of}
use Rattle.rm_market.specs.Market.{wishes_of, listed_contracts}
use Rattle.rm_case.specs.Case.{CaseData, IsCase, market}

filter_map-few : (f : ℕ → Option ℕ) (xs : List ℕ) → length (filter_map f xs) ≤ length xs
filter_map-few f [] = omega arith
filter_map-few f (x ∷ xs) = by (f x) (filter_map-few f xs)
  where
    by : (o : Option ℕ) → length (filter_map f xs) ≤ length xs → length (cons_option o (filter_map f xs)) ≤ length (x ∷ xs)
    by None few = omega arith
    by (Some y) few = omega arith

listed-from : (ranks : List (List ℕ)) (d : ℕ) (lists : List (List ℕ))
    → sum_by length (map (λ e. listed_contracts ranks e.0 e.1) (enumerate_from d lists)) ≤ sum_by length lists
listed-from ranks d [] = omega arith
listed-from ranks d (list ∷ lists) =
    omega (arith, sum_by-cons length list lists, sum_by-cons length (listed_contracts ranks d list) (map (λ e. listed_contracts ranks e.0 e.1) (enumerate_from (d + 1) lists)), filter_map-few (number_of ranks d) list, listed-from ranks (d + 1) lists)

-- the listed contracts of the doctors so far and of the next one are countable
pub listed-fits : (c : CaseData) (listed : List (List ℕ)) (d count : ℕ) (list : List ℕ) → IsCase c → listed ≡ (wishes_of (market c)).listed → d < length listed
    → count ≡ sum_by length (take d listed) → list ≡ get_or listed d [] → count + length list < 2 ^ 64
listed-fits c listed d count list is e low so_far next =
    let few : sum_by length listed ≤ sum_by length c.roster.lists = rw e (listed-from (market c).board.ranks 0 c.roster.lists) in
    rw next (omega (arith, so_far, few, sum_by_more_le length listed d [] low, is.roster.few_choices))
