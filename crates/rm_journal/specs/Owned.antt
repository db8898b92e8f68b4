-- The own journal while it is written: each offer is of the least doctor who can offer then.
use Rattle.std.specs.Prelude.{◌≡◌, ◌≢◌, ℕ, ◌<◌, ◌^◌, List, length, nat_le, Option, Some, None, if◌then◌else◌}
use Rattle.rm_market.specs.Best.{IsChoice}
use Rattle.rm_market.specs.Laws.{AreWishes}
use Rattle.rm_market.specs.Machine.{State, start, next_offer}
use Rattle.rm_market.specs.Stable.{Wishes}
use Rattle.rm_journal_laws.specs.declared.Entry.{Entry}
use Rattle.rm_journal_laws.specs.Journal.{AreGood, AreInOrder, left_by}

-- good entries, each of the least doctor who can offer, lead to s
pub record IsOwnSoFar (chosen : List ℕ → List ℕ) (w : Wishes) (s : State) (es : List Entry) : Type 0 where
  pub few : length w.owners < 2 ^ 32
  pub choice : IsChoice (length w.owners) chosen
  pub wishes : AreWishes (length w.owners) w
  pub good : AreGood chosen w (start w) es
  pub in_order : AreInOrder chosen w (start w) es
  pub leads : left_by chosen w es ≡ s

-- of the first n doctors nobody can offer, but for one who may
abbrev pub NobodyElse : Wishes → State → ℕ → Option ℕ → Type 0
NobodyElse w s n one = (d : ℕ) → d < n → Some d ≢ one → next_offer w s d ≡ None

-- of the doctors up to d
abbrev pub up_to : ℕ → Option ℕ → Option ℕ
up_to d None = None
up_to d (Some e) = if nat_le e d then Some e else None
