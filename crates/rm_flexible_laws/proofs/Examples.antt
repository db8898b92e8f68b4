-- A small board of one region: all that is asked holds of it.
use Rattle.std.proofs.Common.{◌≡◌, ◌≢◌, ◌⊎◌, ℕ, zero, suc, ◌<◌, ◌≤◌, List, [], ◌∷◌, eqb, AllPairs, refl, subst, inl, inr, arith}
use Rattle.std.specs.Prelude.{sum_by}
use Rattle.std.proofs.lemmas.List.Elements.{All-cons, All-nil}
use Rattle.rm_market.specs.Board.{Board, contract_count, hospital_of, node_at}
use Rattle.std.specs.List.{list_any}
use Rattle.rm_market.specs.Flexible.{Region, is_seat_of}
use Rattle.rm_market.proofs.Small.{targets, targets_region}
use Rattle.rm_valuation_laws.specs.Changes.{in_node}
use Rattle.rm_flexible_laws.specs.Region.{region_at, IsRegion, IsRegions, IsPlace}
use Rattle.rm_flexible_laws.specs.Compiled.{IsSeatNode, IsCapNode, IsCompiled}

abbrev board : Board
board = targets.board

abbrev regions : List Region
regions = targets_region ∷ []

six : (P : ℕ → Type 0) → P 0 → P 1 → P 2 → P 3 → P 4 → P 5 → (x : ℕ) → x < 6 → P x
six P a b c d e f zero lt = a
six P a b c d e f (suc zero) lt = b
six P a b c d e f (suc (suc zero)) lt = c
six P a b c d e f (suc (suc (suc zero))) lt = d
six P a b c d e f (suc (suc (suc (suc zero)))) lt = e
six P a b c d e f (suc (suc (suc (suc (suc zero))))) lt = f
six P a b c d e f (suc (suc (suc (suc (suc (suc x)))))) lt = absurd (omega arith)

region : IsRegion targets_region
region = record {
  targets = All-cons (λ s. s.target ≤ s.capacity) (record { hospital = 0; target = 0; capacity = 3 }) (record { hospital = 1; target = 2; capacity = 3 } ∷ []) (omega arith)
      (All-cons (λ s. s.target ≤ s.capacity) (record { hospital = 1; target = 2; capacity = 3 }) [] (omega arith) (All-nil (λ s. s.target ≤ s.capacity)));
  cap = omega arith;
  apart = apart;
}
  where
    apart : AllPairs (λ s q. s.hospital ≢ q.hospital) targets_region.seats
    apart zero zero d lt ll = absurd (omega arith)
    apart zero (suc zero) d lt ll = λ e. absurd (omega arith)
    apart zero (suc (suc j)) d lt ll = absurd (omega arith)
    apart (suc i) zero d lt ll = absurd (omega arith)
    apart (suc i) (suc zero) d lt ll = absurd (omega arith)
    apart (suc i) (suc (suc j)) d lt ll = absurd (omega arith)

first : IsPlace regions 0 0 0
first = record { region = omega arith; seat = omega arith; hospital = refl }

second : IsPlace regions 1 0 1
second = record { region = omega arith; seat = omega arith; hospital = refl }

small_regions : IsRegions (contract_count board) (hospital_of board) regions
small_regions = record {
  each = All-cons IsRegion targets_region [] region (All-nil IsRegion);
  one = λ h i j k l p q. let a : i < 1 = p.region in let c : k < 1 = q.region in omega arith;
  all = six (λ x. (i : ℕ) × (j : ℕ) × IsPlace regions (hospital_of board x) i j) (0, 0, first) (0, 0, first) (0, 0, first) (0, 1, second) (0, 1, second) (0, 1, second);
}

first_node : IsSeatNode board targets_region 0 (node_at board 0)
first_node = record {
  contracts = six (λ x. in_node board (node_at board 0) x ≡ eqb (hospital_of board x) 0) refl refl refl refl refl refl;
  steps = refl;
}

second_node : IsSeatNode board targets_region 1 (node_at board 1)
second_node = record {
  contracts = six (λ x. in_node board (node_at board 1) x ≡ eqb (hospital_of board x) 1) refl refl refl refl refl refl;
  steps = refl;
}

cap_node : IsCapNode board targets_region (node_at board 2)
cap_node = record {
  contracts = six (λ x. in_node board (node_at board 2) x ≡ list_any (is_seat_of board x) targets_region.seats) refl refl refl refl refl refl;
  steps = refl;
}

small_compiled : IsCompiled board regions
small_compiled = record { hospitals = hospitals; others = others; caps = caps }
  where
    hospitals : (h i j : ℕ) → IsPlace regions h i j → (h < 3) × IsSeatNode board (region_at regions i) j (node_at board h)
    hospitals h zero zero p = subst (λ z. (z < 3) × IsSeatNode board targets_region 0 (node_at board z)) p.hospital (omega arith, first_node)
    hospitals h zero (suc zero) p = subst (λ z. (z < 3) × IsSeatNode board targets_region 1 (node_at board z)) p.hospital (omega arith, second_node)
    hospitals h zero (suc (suc j)) p = let lt : suc (suc j) < 2 = p.seat in absurd (omega arith)
    hospitals h (suc i) j p = let lt : suc i < 1 = p.region in absurd (omega arith)

    others : (k : ℕ) → k < 3 → ((i : ℕ) × (j : ℕ) × IsPlace regions k i j) ⊎ ((i : ℕ) × (i < 1) × IsCapNode board (region_at regions i) (node_at board k))
    others zero lt = inl (0, 0, first)
    others (suc zero) lt = inl (0, 1, second)
    others (suc (suc zero)) lt = inr (0, omega arith, cap_node)
    others (suc (suc (suc k))) lt = absurd (omega arith)

    caps : (i : ℕ) → i < 1 → ((k : ℕ) × (k < 3) × IsCapNode board (region_at regions i) (node_at board k)) ⊎ ((region_at regions i).cap ≡ sum_by (λ s. s.capacity) (region_at regions i).seats)
    caps zero lt = inl (2, omega arith, cap_node)
    caps (suc i) lt = absurd (omega arith)
