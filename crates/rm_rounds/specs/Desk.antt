-- What a contract sees of a desk, and what each desk keeps.
use Rattle.std.specs.Prelude.{◌≡◌, ◌≢◌, ◌⊎◌, ℕ, ◌-◌, ◌<◌, ◌^◌, List, length, map, Option, Some, None, get_or, set}
use Rattle.rm_market.specs.Stable.{Wishes, at}
use Rattle.rm_market.specs.Machine.{State, next_offer, run, offered_so_far}
use Rattle.rm_market.specs.Laws.{AreWishes, after}
use Rattle.rm_market.specs.declared.Outcome.{Outcome}
use Rattle.rm_market.specs.declared.Outcome.TheVariants as out
use Rattle.rm_market.specs.declared.Turn.{Turn}
use Rattle.rm_market.specs.declared.Turn.TheVariants as turns
use Rattle.rm_rounds.specs.declared.turn.Doctor.{Doctor}

-- the doctors' wishes, how many of his contracts each has offered, and the holder
pub record DeskTold (H : Type 0) : Type 0 where
  pub wishes : Wishes
  pub spent : List ℕ
  pub holder : H

-- how many contracts each doctor has offered
abbrev pub spent_each : List Doctor → List ℕ
spent_each doctors = map (λ a. a.spent) doctors

-- the held contract of each doctor
abbrev pub place_each : List Doctor → List (Option ℕ)
place_each doctors = map (λ a. a.place) doctors

abbrev pub wishes : List ℕ → List (List ℕ) → Wishes
wishes owners listed = record { owners = owners; listed = listed }

abbrev pub state : List ℕ → List ℕ → State
state spent held = record { spent = spent; held = held }

-- the state of the machine at a desk
abbrev pub desk_state : {H : Type 0} → (H → List ℕ) → DeskTold H → State
desk_state held k = state k.spent (held k.holder)

-- turns led here from the start, each doctor's held contract is at hand, and the number of contracts fits a u32
pub record IsDesk (n : ℕ) (chosen : List ℕ → List ℕ) (w : Wishes) (s : State) (places : List (Option ℕ)) : Type 0 where
  pub few : n < 2 ^ 32
  pub wishes : AreWishes n w
  pub reached : (ds : List ℕ) × (s ≡ after chosen w ds)
  pub long : length places ≡ length w.listed
  pub place : (d : ℕ) → d < length w.listed → get_or places d None ≡ at w d s.held

-- the held contract of each doctor after d offered x
abbrev pub places_after : List ℕ → List (Option ℕ) → ℕ → ℕ → Outcome → List (Option ℕ)
places_after owners places d x out.Kept = set places d (Some x)
places_after owners places d x out.Refused = places
places_after owners places d x (out.Swapped z) = set (set places (get_or owners z 0) None) d (Some x)

-- who is to go on after d's turn: he, where his contract was refused, or whoever was put out
abbrev pub going_on : List ℕ → ℕ → Turn → Option ℕ
going_on owners d turns.Idle = None
going_on owners d turns.Done = None
going_on owners d (turns.Moved x out.Kept) = None
going_on owners d (turns.Moved x out.Refused) = Some d
going_on owners d (turns.Moved x (out.Swapped z)) = Some (get_or owners z 0)

-- how many contracts weren't offered yet
abbrev pub left : Wishes → State → ℕ
left w s = length w.owners - length (offered_so_far w s)

abbrev pub one_if_some : Option ℕ → ℕ
one_if_some None = 0
one_if_some (Some e) = 1

-- turns lead from s to t
abbrev pub Leads : (List ℕ → List ℕ) → Wishes → State → State → Type 0
Leads chosen w s t = (ds : List ℕ) × (t ≡ run chosen w s ds)

-- turns lead from s to t, where d, and each doctor who can't offer in s, can't offer, but for the one who is to go on
pub record Settles (chosen : List ℕ → List ℕ) (w : Wishes) (next : Option ℕ) (d : ℕ) (s t : State) : Type 0 where
  pub reached : Leads chosen w s t
  pub settled : (e : ℕ) → Some e ≢ next → (e ≡ d) ⊎ (next_offer w s e ≡ None) → next_offer w t e ≡ None
