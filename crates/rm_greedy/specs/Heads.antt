-- Places in a list of offered contracts from which each hospital's contracts that aren't taken can be reached.
use Rattle.std.specs.Prelude.{◌≡◌, ℕ, ◌+◌, ◌<◌, ◌≤◌, List, length, slice_index}
use Rattle.rm_sets.specs.Sets.{IsIn}
use Rattle.rm_market.specs.Board.{Board, contract_count, leaf_of}
use Rattle.rm_valuation_laws.specs.Scores.{place}

-- of two contracts with one leaf the one of the lower number is not later in tie order
abbrev pub AreLeavesRanked : Board → Type 0
AreLeavesRanked b = (x y : ℕ) → x < y → y < contract_count b → leaf_of b x ≡ leaf_of b y → place b.ties x ≤ place b.ties y

-- the contract at place p and the one after it have the same leaf
abbrev pub GoesOn : Board → List ℕ → ℕ → Type 0
GoesOn b X p = (p + 1 < length X) × (leaf_of b (slice_index X (p + 1)) ≡ leaf_of b (slice_index X p))

-- the contracts at the places p to q have the same leaf
abbrev pub IsRun : Board → List ℕ → ℕ → ℕ → Type 0
IsRun b X p q = (k : ℕ) → p ≤ k → k < q → GoesOn b X k

-- a contract that isn't marked, or the last of its run
abbrev pub IsOpen : Board → List ℕ → List ℕ → ℕ → Type 0
IsOpen b X marks p = slice_index marks (slice_index X p) ≡ 1 → ¬ GoesOn b X p

-- from p on, q is the place of the first contract of the run that isn't marked, or of its last
pub record IsFirstOpen (b : Board) (X marks : List ℕ) (p q : ℕ) : Type 0 where
  pub within : q < length X
  pub after : p ≤ q
  pub run : IsRun b X p q
  pub marked : (k : ℕ) → p ≤ k → k < q → slice_index marks (slice_index X k) ≡ 1
  pub here : IsOpen b X marks q

-- places of X from one of which each contract of X outside S is reached without leaving its leaf
pub record AreHeads (b : Board) (X S heads : List ℕ) : Type 0 where
  pub within : (r : ℕ) → r < length heads → slice_index heads r < length X
  pub reach : (q : ℕ) → q < length X → ¬ IsIn (slice_index X q) S → (r : ℕ) × (r < length heads) × (slice_index heads r ≤ q) × IsRun b X (slice_index heads r) q
