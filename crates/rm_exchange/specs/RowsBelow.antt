-- Of private calls: the rows of a certificate, as far as the leaves of chosen contracts were looked at.
use Rattle.std.specs.Prelude.{◌≡◌, ◌≢◌, ℕ, ◌<◌, ◌≤◌, List, length, get_or, ◌-ℤ◌, ◌<ℤ◌, ◌⊎◌, Option, Some, None, IfSome, IsTrue, IsFalse, All}
use Rattle.rm_sets.specs.Sets.{has, IsIn}
use Rattle.rm_market.specs.Board.{Board, leaf_of}
use Rattle.rm_market.specs.Best.{values_of, is_better, swapped}
use Rattle.rm_market.specs.Certificate.{kept_row, refused_row}
use Rattle.rm_market.specs.declared.CertRow.{CertRow}
use Rattle.rm_market.specs.declared.SwapRow.{SwapRow}
use Rattle.rm_valuation_laws.specs.Scores.{place}

-- of the contracts of S at this leaf, the last one in tie order, if there is any
abbrev pub IsLastAt : Board → List ℕ → ℕ → Option ℕ → Type 0
IsLastAt b S leaf None = (y : ℕ) → IsIn y S → leaf_of b y ≢ leaf
IsLastAt b S leaf (Some z) = IsIn z S × (leaf_of b z ≡ leaf) × ((y : ℕ) → IsIn y S → leaf_of b y ≡ leaf → place b.ties y ≤ place b.ties z)

-- the last contract of S at each leaf
pub record AreLasts (b : Board) (S : List ℕ) (lasts : List (Option ℕ)) : Type 0 where
  pub each : (leaf : ℕ) (d : Option ℕ) → leaf < length lasts → IsLastAt b S leaf (get_or lasts leaf d)
  pub all : (y : ℕ) → IsIn y S → leaf_of b y < length lasts

-- the best swap for x, and its change of worth, among the contracts of S with a leaf below this one
abbrev pub IsSwapBelow : Board → List ℕ → ℕ → ℕ → Option SwapRow → Type 0
IsSwapBelow b S leaf x None = (y : ℕ) → IsIn y S → leaf_of b y < leaf → IsFalse ((values_of b).feasible (swapped S x y))
IsSwapBelow b S leaf x (Some row) =
    IsIn row.out S
    × IsTrue ((values_of b).feasible (swapped S x row.out))
    × (row.change ≡ ((values_of b).worth (swapped S x row.out) -ℤ (values_of b).worth S))
    × ((y : ℕ) → IsIn y S → leaf_of b y < leaf → IsFalse (is_better (values_of b) (swapped S x y) (swapped S x row.out)))

-- a swap changes the worth by more than another one, or by as much and puts out the later contract in tie order
abbrev pub IsAhead : Board → SwapRow → SwapRow → Type 0
IsAhead b next best = (best.change <ℤ next.change) ⊎ ((best.change ≡ next.change) × (place b.ties best.out < place b.ties next.out))

abbrev pub with_swap : CertRow → Option SwapRow → CertRow
with_swap row swap = record { contract = row.contract; kept = row.kept; change = row.change; full = row.full; swap = swap }

-- the row of x; where x is refused, with the best swap among those leaves
pub record IsRowBelow (b : Board) (S : List ℕ) (leaf x : ℕ) (row : CertRow) : Type 0 where
  pub kept : IsIn x S → row ≡ kept_row (values_of b) S x
  pub refused : IsFalse (has x S) → row ≡ with_swap (refused_row b S x) row.swap
  pub swap : IsFalse (has x S) → IsSwapBelow b S leaf x row.swap

-- one row for each offered contract
pub record AreRowsBelow (b : Board) (S : List ℕ) (leaf : ℕ) (offers : List ℕ) (rows : List CertRow) : Type 0 where
  pub long : length rows ≡ length offers
  pub each : (i : ℕ) (d : CertRow) → i < length offers → IsRowBelow b S leaf (get_or offers i 0) (get_or rows i d)

-- each swap puts out one of so many contracts
abbrev pub HasOutsBelow : ℕ → List CertRow → Type 0
HasOutsBelow n rows = All (λ row. IfSome row.swap (λ swap. swap.out < n)) rows
