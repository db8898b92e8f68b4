-- What is proved of journals, for every lawful choice and all wishes, and in markets.
use Rattle.std.specs.Prelude.{◌≡◌, ◌↔◌, ℕ, List, ◌++◌}
use Rattle.rm_market.specs.Stable.{Wishes, IsOnlyOptimal, Takes}
use Rattle.rm_market.specs.Machine.{start, IsClosed}
use Rattle.rm_market.specs.Market.{Market, wishes_of, IsPlacementOf}
use Rattle.rm_market.specs.Laws.{after}
use Rattle.rm_journal_laws.specs.declared.Entry.{Entry}
use Rattle.rm_journal_laws.specs.declared.Check.{Check}
use Rattle.rm_journal_laws.specs.Journal.{AreGood, left_by, IsAccepted, journal_of, IsOwnJournal, own_journal, Says, check_of}

-- an accepted journal, whoever wrote it and in whatever order, ends in the one optimal set
abbrev pub AcceptedEndsOptimal : (List ℕ → List ℕ) → Wishes → Type 0
AcceptedEndsOptimal chosen w = (es : List Entry) → IsAccepted chosen w es → IsOnlyOptimal (Takes chosen) w (left_by chosen w es).held

-- the accepted journals are those of the closed runs
abbrev pub AcceptedIsClosedRun : (List ℕ → List ℕ) → Wishes → Type 0
AcceptedIsClosedRun chosen w =
    (es : List Entry) → IsAccepted chosen w es ↔ ((ds : List ℕ) × IsClosed chosen w (after chosen w ds) × (es ≡ journal_of chosen w ds))

-- the journal of a run leads where the run does
abbrev pub JournalFollowsRun : (List ℕ → List ℕ) → Wishes → Type 0
JournalFollowsRun chosen w =
    (ds : List ℕ) → AreGood chosen w (start w) (journal_of chosen w ds) × (left_by chosen w (journal_of chosen w ds) ≡ after chosen w ds)

-- good entries go on to an accepted journal
abbrev pub GoodGoesOn : (List ℕ → List ℕ) → Wishes → Type 0
GoodGoesOn chosen w = (es : List Entry) → AreGood chosen w (start w) es → (more : List Entry) × IsAccepted chosen w (es ++ more)

-- what the plain program writes is the own journal, and no other journal is
abbrev pub HasOwnJournal : (List ℕ → List ℕ) → Wishes → Type 0
HasOwnJournal chosen w = IsOwnJournal chosen w (own_journal chosen w)

abbrev pub OwnJournalIsOne : (List ℕ → List ℕ) → Wishes → Type 0
OwnJournalIsOne chosen w = (es : List Entry) → IsOwnJournal chosen w es → es ≡ own_journal chosen w

-- of each journal exactly one check says what is so, and the plain program gives it
abbrev pub CheckIsOne : (List ℕ → List ℕ) → Wishes → Type 0
CheckIsOne chosen w = (es : List Entry) (check : Check) → Says chosen w es check ↔ (check ≡ check_of chosen w es)

-- in a market, with its best subsets, an accepted journal ends in the placement
abbrev pub AcceptedEndsInPlacement : Market → (List ℕ → List ℕ) → Type 0
AcceptedEndsInPlacement m chosen = (es : List Entry) → IsAccepted chosen (wishes_of m) es → IsPlacementOf m (left_by chosen (wishes_of m) es).held

-- and all of the rest holds there too
abbrev pub InMarket : ((List ℕ → List ℕ) → Wishes → Type 0) → Market → (List ℕ → List ℕ) → Type 0
InMarket Holds m chosen = Holds chosen (wishes_of m)
