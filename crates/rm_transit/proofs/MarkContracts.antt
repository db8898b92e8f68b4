-- The contracts that marks tell are contracts of the doctors' wishes.
use Rattle.std.proofs.Common.{◌≡◌, ◌<◌, ℕ, List, [], ◌∷◌, cond, eqb, length, get_or, map, Option, Some, None, IfSome, All, refl, sym, subst, ⊎_elim, arith}
use Rattle.std.proofs.lemmas.Bool.{cond_both, cases_lt}
use Rattle.std.proofs.lemmas.List.{get_or_past}
use Rattle.std.proofs.lemmas.List.Elements.{All-nil, All-cons, All-get_or, All-map, All-replicate, All-set, All-weaker}
use Rattle.std.proofs.lemmas.Option.{slice_get_within, get_or_from_slice_get}
use Rattle.std.specs.Prelude.{slice_get, is_some, Bool, true, false}
use Rattle.rm_sets.specs.Sets.{has, IsIn}
use Rattle.rm_sets.proofs.Members.{IsIn-get_or}
use Rattle.rm_market.specs.Stable.{Wishes, owner, list_of}
use Rattle.rm_market.specs.Laws.{AreWishes}
use Rattle.rm_transit_laws.specs.declared.Event.{Event}
use Rattle.rm_transit_laws.specs.declared.Event.TheVariants as events
use Rattle.rm_transit_laws.specs.Transit.{Sign, none, offer_travels, is_held, refusal_travels, Transit, sign_of, with_sign, to_send, sendable, after_send, answered, arrived, happens, all_happen, is_offer_of, is_refusal_of, departed, after_events, mark_from, mark_of}
use Rattle.rm_transit.specs.Running.{contract_in}

-- the contract of a mark, if it has one, is among n
abbrev IsBelow : ℕ → Sign → Type 0
IsBelow n none = Unit {0}
IsBelow n (offer_travels x) = x < n
IsBelow n (is_held x) = x < n
IsBelow n (refusal_travels x) = x < n

answered_below : (n x : ℕ) (H : List ℕ) (s : Sign) → IsBelow n s → IsBelow n (answered x H s)
answered_below n x H none h = h
answered_below n x H (is_held y) h = cond_both (has y H) (is_held y) (refusal_travels y) (IsBelow n) (λ _. h) (λ _. h)
answered_below n x H (refusal_travels y) h = h
answered_below n x H (offer_travels y) h =
    cond_both (eqb x y) (cond (has y H) (is_held y) (refusal_travels y)) (offer_travels y) (IsBelow n)
    (λ _. cond_both (has y H) (is_held y) (refusal_travels y) (IsBelow n) (λ _. h) (λ _. h))
    (λ _. h)

module _ (n : ℕ) (C : List ℕ → List ℕ) (w : Wishes) (are : AreWishes n w) where
  listed_below : (d k x : ℕ) → slice_get (list_of w d) k ≡ Some x → x < n
  listed_below d k x e =
      ⊎_elim
      (λ lt.
      let inside : IsIn x (list_of w d) = subst (λ y. IsIn y (list_of w d)) (get_or_from_slice_get (list_of w d) k x 0 e) (IsIn-get_or (list_of w d) k 0 (slice_get_within (list_of w d) k x e)) in
      let low = (are.lists d lt).below x inside in
      let same = are.contracts in
      omega (arith, low, same))
      (λ past. absurd (cc (subst (λ L. slice_get L k ≡ Some x) (get_or_past w.listed d [] past) e)))
      (cases_lt d (length w.listed))

  sent_below : (t : Transit) (d x : ℕ) (s : Sign) → to_send s (slice_get (list_of w d) (get_or t.spent d 0)) ≡ Some x → x < n
  sent_below t d x none e = listed_below d (get_or t.spent d 0) x e
  sent_below t d x (offer_travels y) e = absurd (cc e)
  sent_below t d x (is_held y) e = absurd (cc e)
  sent_below t d x (refusal_travels y) e = absurd (cc e)

  happens_below : (t : Transit) (e : Event) → All (IsBelow n) t.signs → All (IsBelow n) (happens C w t e).signs
  happens_below t (events.Send d) all = by (sendable w t d) refl
    where
      by : (o : Option ℕ) → sendable w t d ≡ o → All (IsBelow n) (after_send t d o).signs
      by None e = all
      by (Some x) e = All-set (IsBelow n) t.signs d (offer_travels x) (sent_below t d x (sign_of t d) e) all
  happens_below t (events.Offer x) all =
      cond_both (is_offer_of x (sign_of t (owner w x))) (arrived C t x) t (λ u. All (IsBelow n) u.signs)
      (λ _. let held = (arrived C t x).held in All-map (IsBelow n) (answered x held) t.signs (All-weaker (IsBelow n) (λ s. IsBelow n (answered x held s)) (answered_below n x held) t.signs all))
      (λ _. all)
  happens_below t (events.Refusal x) all =
      cond_both (is_refusal_of x (sign_of t (owner w x))) (with_sign t (owner w x) none) t (λ u. All (IsBelow n) u.signs)
      (λ _. All-set (IsBelow n) t.signs (owner w x) none tt all)
      (λ _. all)

  all_below : (es : List Event) (t : Transit) → All (IsBelow n) t.signs → All (IsBelow n) (all_happen C w t es).signs
  all_below [] t all = all
  all_below (e ∷ es) t all = all_below es (happens C w t e) (happens_below t e all)

  sign_below : (es : List Event) (d : ℕ) → IsBelow n (sign_of (after_events C w es) d)
  sign_below es d =
      let signs = (after_events C w es).signs in
      let all = all_below es (departed w) (All-replicate (IsBelow n) (length w.listed) none tt) in
      ⊎_elim
      (λ lt. All-get_or (IsBelow n) signs d none lt all)
      (λ past. subst (IsBelow n) (sym (get_or_past signs d none past)) tt)
      (cases_lt d (length signs))

  told_below : (b : Bool) (s : Sign) → IsBelow n s → IfSome (contract_in (mark_from s b)) (λ x. x < n)
  told_below true none h = tt
  told_below false none h = tt
  told_below b (offer_travels x) h = h
  told_below b (is_held x) h = h
  told_below b (refusal_travels x) h = h

  pub marks_below : (es : List Event) (ds : List ℕ) → All (λ m. IfSome (contract_in m) (λ x. x < n)) (map (mark_of w (after_events C w es)) ds)
  marks_below es [] = All-nil (λ m. IfSome (contract_in m) (λ x. x < n))
  marks_below es (d ∷ ds) =
      let t = after_events C w es in
      All-cons (λ m. IfSome (contract_in m) (λ x. x < n)) (mark_of w t d) (map (mark_of w t) ds)
      (told_below (is_some (slice_get (list_of w d) (get_or t.spent d 0))) (sign_of t d) (sign_below es d))
      (marks_below es ds)
