-- Offers and refusals that travel, and arrive in any order.
use Rattle.std.specs.Prelude.{ℕ, ◌+◌, Bool, true, false, not, ◌&&◌, ◌==◌, List, [], ◌∷◌, map, length, replicate, take, Option, Some, None, is_some, is_none, slice_get, slice_set, slice_index, slice_index_or, if◌then◌else◌}
use Rattle.std.specs.List.{list_all}
use Rattle.rm_sets.specs.Sets.{has, with_one, below, all_below}
use Rattle.rm_market.specs.Stable.{Wishes, owner, list_of}
use Rattle.rm_market.specs.Machine.{outcome_of}
use Rattle.rm_transit_laws.specs.declared.Event.{Event}
use Rattle.rm_transit_laws.specs.declared.Event.TheVariants as events
use Rattle.rm_transit_laws.specs.declared.Mark.{Mark}
use Rattle.rm_transit_laws.specs.declared.Mark.TheVariants as marks
use Rattle.rm_transit_laws.specs.declared.Step.{Step}
use Rattle.rm_transit_laws.specs.declared.Step.TheVariants as steps

-- the mark of a doctor: none, or a contract whose offer travels, that is held, or whose refusal travels
pub data Sign : Type 0 where
  none : Sign
  offer_travels : ℕ → Sign
  is_held : ℕ → Sign
  refusal_travels : ℕ → Sign

-- per doctor, how many of his listed contracts were sent, and his mark; and what is held
pub record Transit : Type 0 where
  pub spent : List ℕ
  pub signs : List Sign
  pub held : List ℕ

abbrev pub departed : Wishes → Transit
departed w = record { spent = replicate (length w.listed) 0; signs = replicate (length w.listed) none; held = [] }

abbrev pub sign_of : Transit → ℕ → Sign
sign_of t d = slice_index_or t.signs d none

abbrev pub with_sign : Transit → ℕ → Sign → Transit
with_sign t d sign = record t { signs = slice_set t.signs d sign }

-- the contract that d can send: his next one, where he has no mark
abbrev pub to_send : Sign → Option ℕ → Option ℕ
to_send none next = next
to_send (offer_travels x) next = None
to_send (is_held x) next = None
to_send (refusal_travels x) next = None

abbrev pub sendable : Wishes → Transit → ℕ → Option ℕ
sendable w t d = to_send (sign_of t d) (slice_get (list_of w d) (slice_index t.spent d))

abbrev pub after_send : Transit → ℕ → Option ℕ → Transit
after_send t d None = t
after_send t d (Some x) = record { spent = slice_set t.spent d (slice_index t.spent d + 1); signs = slice_set t.signs d (offer_travels x); held = t.held }

abbrev pub is_offer_of : ℕ → Sign → Bool
is_offer_of x (offer_travels y) = x == y
is_offer_of x none = false
is_offer_of x (is_held y) = false
is_offer_of x (refusal_travels y) = false

abbrev pub is_refusal_of : ℕ → Sign → Bool
is_refusal_of x (refusal_travels y) = x == y
is_refusal_of x none = false
is_refusal_of x (is_held y) = false
is_refusal_of x (offer_travels y) = false

-- the mark of d when x has arrived and this is held: his own offer is answered, and a contract of his that left is refused
abbrev pub answered : ℕ → List ℕ → Sign → Sign
answered x held (offer_travels y) = if x == y then (if has y held then is_held y else refusal_travels y) else offer_travels y
answered x held (is_held y) = if has y held then is_held y else refusal_travels y
answered x held none = none
answered x held (refusal_travels y) = refusal_travels y

abbrev pub arrived : (List ℕ → List ℕ) → Transit → ℕ → Transit
arrived chosen t x =
    let held = chosen (with_one t.held x) in record { spent = t.spent; signs = map (answered x held) t.signs; held = held }

-- the state after an event; a repeated or untimely one changes nothing
abbrev pub happens : (List ℕ → List ℕ) → Wishes → Transit → Event → Transit
happens chosen w t (events.Send d) = after_send t d (sendable w t d)
happens chosen w t (events.Offer x) = if is_offer_of x (sign_of t (owner w x)) then arrived chosen t x else t
happens chosen w t (events.Refusal x) = if is_refusal_of x (sign_of t (owner w x)) then with_sign t (owner w x) none else t

abbrev pub all_happen : (List ℕ → List ℕ) → Wishes → Transit → List Event → Transit
all_happen chosen w t [] = t
all_happen chosen w t (e ∷ es) = all_happen chosen w (happens chosen w t e) es

-- what an event does
abbrev pub sent_step : Option ℕ → Step
sent_step None = steps.Nothing
sent_step (Some x) = steps.Sent x

abbrev pub step_of : (List ℕ → List ℕ) → Wishes → Transit → Event → Step
step_of chosen w t (events.Send d) = sent_step (sendable w t d)
step_of chosen w t (events.Offer x) =
    if is_offer_of x (sign_of t (owner w x)) then steps.Arrived (outcome_of t.held x (chosen (with_one t.held x))) else steps.Nothing
step_of chosen w t (events.Refusal x) = if is_refusal_of x (sign_of t (owner w x)) then steps.Returned else steps.Nothing

-- where a doctor stands
abbrev pub mark_from : Sign → Bool → Mark
mark_from none has_next = if has_next then marks.Free else marks.Done
mark_from (offer_travels x) has_next = marks.Offered x
mark_from (is_held x) has_next = marks.Held x
mark_from (refusal_travels x) has_next = marks.Refused x

abbrev pub mark_of : Wishes → Transit → ℕ → Mark
mark_of w t d = mark_from (sign_of t d) (is_some (slice_get (list_of w d) (slice_index t.spent d)))

-- nothing travels, and nobody can send
abbrev pub is_at_rest : Sign → Bool
is_at_rest none = true
is_at_rest (is_held x) = true
is_at_rest (offer_travels x) = false
is_at_rest (refusal_travels x) = false

abbrev pub all_rest : Wishes → Transit → Bool
all_rest w t = list_all (λ d. is_at_rest (sign_of t d) && is_none (sendable w t d)) (below (length w.listed))

-- ---- what was delivered

-- the contracts that were sent so far and no longer travel as offers
abbrev pub delivered : Wishes → Transit → List ℕ
delivered w t =
    all_below (length w.owners)
    (λ x. has x (take (slice_index t.spent (owner w x)) (list_of w (owner w x))) && not (is_offer_of x (sign_of t (owner w x))))

-- the state after these events from the start
abbrev pub after_events : (List ℕ → List ℕ) → Wishes → List Event → Transit
after_events chosen w es = all_happen chosen w (departed w) es
