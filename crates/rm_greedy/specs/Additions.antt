-- Single additions to a set of contracts, and which of them comes first.
use Rattle.std.specs.Prelude.{◌≡◌, ◌⊎◌, ℕ, ◌<◌, ◌≤◌, List, ◌==◌, pos, ◌+ℤ◌, ◌≤ℤ◌, ◌<ℤ◌, Option, Some, None, IsTrue, slice_index}
use Rattle.rm_sets.specs.Sets.{has, IsIn, with_one}
use Rattle.rm_market.specs.Board.{Board, is_feasible, worth}
use Rattle.rm_valuation_laws.specs.Scores.{place}
use Rattle.rm_greedy.specs.declared.addition.Addition.{Addition}

-- the marks say which of these contracts are in S
abbrev pub AreMarks : List ℕ → List ℕ → List ℕ → Type 0
AreMarks X S marks = (x : ℕ) → IsIn x X → has x S ≡ (slice_index marks x == 1)

-- the contract can be added to S; this is what it gains, which isn't negative, and this is its place in tie order
pub record IsAddition (b : Board) (S : List ℕ) (a : Addition) : Type 0 where
  pub outside : ¬ IsIn a.contract S
  pub passes : IsTrue (is_feasible b (with_one S a.contract))
  pub change : worth b (with_one S a.contract) ≡ worth b S +ℤ a.gain
  pub rises : pos 0 ≤ℤ a.gain
  pub tie : place b.ties a.contract ≡ a.place

-- x is in S, doesn't fit, or lowers the worth
abbrev pub IsNoAddition : Board → List ℕ → ℕ → Type 0
IsNoAddition b S x = ¬ IsIn x S → IsTrue (is_feasible b (with_one S x)) → worth b (with_one S x) <ℤ worth b S

-- the addition of x, or that it is none
abbrev pub IsCandidate : Board → List ℕ → ℕ → Option Addition → Type 0
IsCandidate b S x (Some a) = (a.contract ≡ x) × IsAddition b S a
IsCandidate b S x None = IsNoAddition b S x

-- the one gains more, or as much and stands before the other in tie order
abbrev pub ComesFirst : Addition → Addition → Type 0
ComesFirst a c = (c.gain <ℤ a.gain) ⊎ ((a.gain ≡ c.gain) × (a.place < c.place))

-- to add y to S is worth less than to add a, or as much, and y isn't before a in tie order
abbrev pub IsNoBetter : Board → List ℕ → Addition → ℕ → Type 0
IsNoBetter b S a y =
    (worth b (with_one S y) <ℤ worth b (with_one S a.contract))
    ⊎ ((worth b (with_one S y) ≡ worth b (with_one S a.contract)) × (a.place ≤ place b.ties y))

-- of the contracts Y, this is the addition to S of greatest worth, of equal worth the first in tie order
pub record IsFirst (b : Board) (S Y : List ℕ) (a : Addition) : Type 0 where
  pub member : IsIn a.contract Y
  pub addition : IsAddition b S a
  pub first : (y : ℕ) → IsIn y Y → ¬ IsIn y S → IsTrue (is_feasible b (with_one S y)) → IsNoBetter b S a y

-- that addition, or that there is none
abbrev pub IsFirstOf : Board → List ℕ → List ℕ → Option Addition → Type 0
IsFirstOf b S Y (Some a) = IsFirst b S Y a
IsFirstOf b S Y None = (y : ℕ) → IsIn y Y → IsNoAddition b S y
