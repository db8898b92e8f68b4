-- What is proved of every lawful choice and all wishes, beside the laws of rm_market.
use Rattle.std.specs.Prelude.{◌≡◌, ◌⊎◌, ◌↔◌, ℕ, ◌<◌, List, ◌++◌, false, IsTrue}
use Rattle.rm_sets.specs.Sets.{has, IsIn, IsSetBelow, with_one, without}
use Rattle.rm_market.specs.Stable.{Wishes, IsOptimal, IsOnlyOptimal, Takes}
use Rattle.rm_market.specs.Best.{IsChoice, IsPathIndependent}
use Rattle.rm_market.specs.Machine.{IsClosed, is_closed, closing, IsOutcome, outcome_of}
use Rattle.rm_market.specs.Laws.{after, AreWishes, JoinedIsLawful}

-- where H is its own choice, one more contract is refused, kept, or swapped for one of H
abbrev pub SwapsOne : ℕ → (List ℕ → List ℕ) → Type 0
SwapsOne n chosen =
    (H : List ℕ) (x : ℕ) → IsSetBelow n H → x < n → chosen H ≡ H → has x H ≡ false →
    (chosen (with_one H x) ≡ H) ⊎ ((chosen (with_one H x) ≡ with_one H x) ⊎ ((z : ℕ) × IsIn z H × (chosen (with_one H x) ≡ without (with_one H x) z)))

-- each run goes on to a closed one
abbrev pub RunsClose : (List ℕ → List ℕ) → Wishes → Type 0
RunsClose chosen w = (ds : List ℕ) → (es : List ℕ) × IsClosed chosen w (after chosen w (ds ++ es))

-- some run ends in the one optimal set
abbrev pub HasOneOptimal : (List ℕ → List ℕ) → Wishes → Type 0
HasOneOptimal chosen w = (ds : List ℕ) × IsOnlyOptimal (Takes chosen) w (after chosen w ds).held

-- at most one set is optimal
abbrev pub OptimalIsOne : (List ℕ → List ℕ) → Wishes → Type 0
OptimalIsOne chosen w = (S T : List ℕ) → IsOptimal (Takes chosen) w S → IsOptimal (Takes chosen) w T → S ≡ T

-- ---- the theorems

-- something holds of every lawful choice among n contracts and all wishes over them
abbrev pub OfLawfulChoices : ((List ℕ → List ℕ) → Wishes → Type 0) → Type 0
OfLawfulChoices Holds = (n : ℕ) (chosen : List ℕ → List ℕ) (w : Wishes) → IsChoice n chosen → AreWishes n w → Holds chosen w

-- every lawful choice is path independent
abbrev pub LawfulIsPathIndependent : Type 0
LawfulIsPathIndependent = (n : ℕ) (chosen : List ℕ → List ℕ) → IsChoice n chosen → IsPathIndependent n chosen

-- it answers one more contract in one of three ways
abbrev pub ChoicesSwapOne : Type 0
ChoicesSwapOne = (n : ℕ) (chosen : List ℕ → List ℕ) → IsChoice n chosen → SwapsOne n chosen

-- and the outcome says in which
abbrev pub ChoicesHaveOutcomes : Type 0
ChoicesHaveOutcomes =
    (n : ℕ) (chosen : List ℕ → List ℕ) (H : List ℕ) (x : ℕ) → IsChoice n chosen → IsSetBelow n H → x < n → chosen H ≡ H → has x H ≡ false →
    IsOutcome H x (chosen (with_one H x)) (outcome_of H x (chosen (with_one H x)))

-- what lawful parts choose together is lawful
abbrev pub LawfulPartsJoin : Type 0
LawfulPartsJoin = (n : ℕ) (part : ℕ → ℕ) (parts : ℕ) (choose : ℕ → List ℕ → List ℕ) → JoinedIsLawful n part parts choose

-- nobody has a contract to offer exactly where no turn changes the state
abbrev pub ClosedIsTested : (List ℕ → List ℕ) → Wishes → Type 0
ClosedIsTested chosen w = (ds : List ℕ) → IsTrue (is_closed w (after chosen w ds)) ↔ IsClosed chosen w (after chosen w ds)

-- turns of every doctor, as many rounds as contracts are listed, end in a closed state
abbrev pub RoundsClose : (List ℕ → List ℕ) → Wishes → Type 0
RoundsClose chosen w = IsClosed chosen w (after chosen w (closing w))
