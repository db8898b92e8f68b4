-- What a contract sees of offers that travel, and what each `Transit` keeps.
use Rattle.std.specs.Prelude.{◌≡◌, ℕ, ◌<◌, ◌^◌, Bool, true, false, List, length, map, set, get_or}
use Rattle.rm_market.specs.Stable.{Wishes}
use Rattle.rm_market.specs.Laws.{AreWishes}
use Rattle.rm_market.specs.declared.Outcome.{Outcome}
use Rattle.rm_market.specs.declared.Outcome.TheVariants as out
use Rattle.rm_transit_laws.specs.Transit as law
use Rattle.rm_transit_laws.specs.declared.Event.{Event}
use Rattle.rm_transit_laws.specs.declared.Event.TheVariants as events
use Rattle.rm_transit_laws.specs.declared.Mark.{Mark}
use Rattle.rm_transit_laws.specs.declared.Mark.TheVariants as marks
use Rattle.rm_transit.specs.declared.moves.Doctor.{Doctor}
use Rattle.rm_transit.specs.declared.moves.Sign.{Sign}
use Rattle.rm_transit.specs.declared.moves.Sign.TheVariants as own

-- the doctors' wishes, how many of his contracts each has sent, his mark, and the holder
pub record TransitTold (H : Type 0) : Type 0 where
  pub wishes : Wishes
  pub spent : List ℕ
  pub signs : List law.Sign
  pub holder : H

abbrev pub sign_told : Sign → law.Sign
sign_told own.Empty = law.none
sign_told (own.Offer x) = law.offer_travels x
sign_told (own.Held x) = law.is_held x
sign_told (own.Refusal x) = law.refusal_travels x

-- whether there is no mark
abbrev pub is_unmarked : law.Sign → Bool
is_unmarked law.none = true
is_unmarked (law.offer_travels x) = false
is_unmarked (law.is_held x) = false
is_unmarked (law.refusal_travels x) = false

-- how many contracts each doctor has sent
abbrev pub spent_each : List Doctor → List ℕ
spent_each doctors = map (λ a. a.spent) doctors

-- the mark of each doctor
abbrev pub sign_each : List Doctor → List law.Sign
sign_each doctors = map (λ a. sign_told a.sign) doctors

abbrev pub wishes : List ℕ → List (List ℕ) → Wishes
wishes owners listed = record { owners = owners; listed = listed }

abbrev pub state : List Doctor → List ℕ → law.Transit
state doctors held = record { spent = spent_each doctors; signs = sign_each doctors; held = held }

-- the state of the machine
abbrev pub transit_state : {H : Type 0} → (H → List ℕ) → TransitTold H → law.Transit
transit_state held k = record { spent = k.spent; signs = k.signs; held = held k.holder }

-- events led here from the start, and the number of contracts fits a u32
pub record IsTransit (n : ℕ) (chosen : List ℕ → List ℕ) (w : Wishes) (t : law.Transit) : Type 0 where
  pub few : n < 2 ^ 32
  pub wishes : AreWishes n w
  pub reached : (es : List Event) × (t ≡ law.after_events chosen w es)

-- the event is of one of the doctors or contracts
abbrev pub IsEventOf : Wishes → Event → Type 0
IsEventOf w (events.Send d) = d < length w.listed
IsEventOf w (events.Offer x) = x < length w.owners
IsEventOf w (events.Refusal x) = x < length w.owners

-- the marks after the offer of x arrived with this outcome
abbrev pub signs_after : List ℕ → List law.Sign → ℕ → Outcome → List law.Sign
signs_after owners signs x out.Kept = set signs (get_or owners x 0) (law.is_held x)
signs_after owners signs x out.Refused = set signs (get_or owners x 0) (law.refusal_travels x)
signs_after owners signs x (out.Swapped z) = set (set signs (get_or owners z 0) (law.refusal_travels z)) (get_or owners x 0) (law.is_held x)

-- whether nothing of a doctor travels, and he can't send
abbrev pub settled_mark : Mark → Bool
settled_mark marks.Free = false
settled_mark marks.Done = true
settled_mark (marks.Offered x) = false
settled_mark (marks.Held x) = true
settled_mark (marks.Refused x) = false
