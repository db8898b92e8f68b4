-- The flexible procedure of a case, with the doctors' turns in an order of one's own.
use Rattle.std.specs.Prelude.{◌≡◌, ℕ, List, ◌++◌, Option}
use Rattle.rm_market.specs.Board.{Board}
use Rattle.rm_market.specs.Flexible.{flexible}
use Rattle.rm_market.specs.Laws.{after}
use Rattle.rm_market.specs.Machine.{start, turns_of, IsClosed}
use Rattle.rm_market.specs.Market.{wishes_of, places_of}
use Rattle.rm_market.specs.Stable.{Wishes}
use Rattle.rm_market.specs.declared.Turn.{Turn}
use Rattle.rm_case.specs.Case.{CaseData, market, regions}
use Rattle.rm_case.specs.Solving.{places_on}

-- what the regions of the case keep of a set
abbrev pub kept_in : CaseData → List ℕ → List ℕ
kept_in c = flexible (market c).board (regions c)

-- what the turns of these doctors do, in this order, from the start
abbrev pub turns_in : CaseData → List ℕ → List Turn
turns_in c ds = turns_of (kept_in c) (wishes_of (market c)) (start (wishes_of (market c))) ds

-- what is held after these turns
abbrev pub held_after : CaseData → List ℕ → List ℕ
held_after c ds = (after (kept_in c) (wishes_of (market c)) ds).held

-- after these turns nobody can apply any more: no turn changes anything
abbrev pub HasEnded : CaseData → List ℕ → Type 0
HasEnded c ds = IsClosed (kept_in c) (wishes_of (market c)) (after (kept_in c) (wishes_of (market c)) ds)

-- these are the places that the procedure has given when it has ended: after the turns of these doctors, and some more
pub record IsPlayedOut (c : CaseData) (order : List ℕ) (places : List (Option ℕ)) : Type 0 where
  pub more : List ℕ
  pub ended : HasEnded c (order ++ more)
  pub placed : places ≡ places_of (market c) (held_after c (order ++ more))

-- ---- at a desk

-- the same by any choice, on any board
pub record IsPlayedBy (chosen : List ℕ → List ℕ) (b : Board) (w : Wishes) (order : List ℕ) (turns : List Turn) (places : List (Option ℕ)) : Type 0 where
  pub turned : turns ≡ turns_of chosen w (start w) order
  pub more : List ℕ
  pub ended : IsClosed chosen w (after chosen w (order ++ more))
  pub placed : places ≡ places_on b w (after chosen w (order ++ more)).held
