-- Turns one after the other.
use Rattle.std.proofs.Common.{◌≡◌, ◌∙◌, ◌+◌, ◌<◌, ℕ, List, [], ◌∷◌, ◌++◌, length, get_or, take, Option, refl, ap, ap₂, subst, subst₂, sym}
use Rattle.std.proofs.lemmas.List.{take_more}
use Rattle.rm_market.specs.Board.{Board, owners_of}
use Rattle.rm_market.specs.Machine.{State, after_turn, run, start, turn_of, turns_of, IsClosed}
use Rattle.rm_market.specs.Stable.{Wishes}
use Rattle.rm_market.specs.declared.Turn.{Turn}
use Rattle.rm_rounds.specs.Desk.{wishes}
use Rattle.rm_case.specs.Solving.{places_on}
use Rattle.rm_replay.specs.Played.{IsPlayedBy}

pub run_more : (C : List ℕ → List ℕ) (w : Wishes) (s : State) (ds es : List ℕ) → run C w s (ds ++ es) ≡ run C w (run C w s ds) es
run_more C w s [] es = refl
run_more C w s (d ∷ ds) es = run_more C w (after_turn C w s d) ds es

turns_more : (C : List ℕ → List ℕ) (w : Wishes) (s : State) (ds : List ℕ) (d : ℕ) → turns_of C w s (ds ++ d ∷ []) ≡ turns_of C w s ds ++ turn_of C w (run C w s ds) d ∷ []
turns_more C w s [] d = refl
turns_more C w s (e ∷ ds) d = ap (λ ts. turn_of C w s e ∷ ts) (turns_more C w (after_turn C w s e) ds d)

-- one turn more of an order
pub order_run :
    (C D : List ℕ → List ℕ) (w v : Wishes) (s now next : State) (order : List ℕ) (i : ℕ) →
    i < length order → D ≡ C → v ≡ w → now ≡ run C w s (take i order) → next ≡ after_turn D v now (get_or order i 0) → next ≡ run C w s (take (i + 1) order)
order_run C D w v s now next order i lt e u at turned =
    let d = get_or order i 0 in
    turned ∙ ap₂ (λ c x. after_turn c x now d) e u ∙ ap (λ t. after_turn C w t d) at
    ∙ sym (run_more C w s (take i order) (d ∷ [])) ∙ sym (ap (run C w s) (take_more order i 0 lt))

pub order_turns :
    (C D : List ℕ → List ℕ) (w v : Wishes) (s now : State) (order : List ℕ) (old new : List Turn) (turn : Turn) (i : ℕ) →
    i < length order → D ≡ C → v ≡ w → now ≡ run C w s (take i order) → old ≡ turns_of C w s (take i order) →
    turn ≡ turn_of D v now (get_or order i 0) → new ≡ old ++ turn ∷ [] → new ≡ turns_of C w s (take (i + 1) order)
order_turns C D w v s now order old new turn i lt e u at before told pushed =
    let d = get_or order i 0 in
    let same : turn ≡ turn_of C w (run C w s (take i order)) d = told ∙ ap₂ (λ c x. turn_of c x now d) e u ∙ ap (λ t. turn_of C w t d) at in
    pushed ∙ ap₂ (λ L t. L ++ t ∷ []) before same ∙ sym (turns_more C w s (take i order) d) ∙ sym (ap (turns_of C w s) (take_more order i 0 lt))

-- ---- at a desk

-- the turns of an order, and then further turns until nobody can offer
pub desk_played :
    (C D E F : List ℕ → List ℕ) (b : Board) (own : List ℕ) (listed : List (List ℕ)) (u v w : Wishes) (r s t : State) (order : List ℕ) (turns : List Turn) (places : List (Option ℕ)) →
    own ≡ owners_of b → u ≡ wishes own listed → r ≡ start (wishes own listed) → D ≡ C →
    turns ≡ turns_of D u r order → s ≡ run D u r order → v ≡ u → E ≡ D →
    (ds : List ℕ) × (t ≡ run E v s ds) → IsClosed F w t → w ≡ v → F ≡ E → places ≡ places_on b w t.held →
    IsPlayedBy C b (wishes (owners_of b) listed) order turns places
desk_played C D E F b own listed u v w r s t order turns places o opened first d told taken kept e reached closed last f at =
    let W = wishes (owners_of b) listed in
    let U : u ≡ W = opened ∙ ap (λ L. wishes L listed) o in
    let R : r ≡ start W = first ∙ ap (λ L. start (wishes L listed)) o in
    let V : v ≡ W = kept ∙ U in
    let X : w ≡ W = last ∙ V in
    let S : s ≡ run C W (start W) order = taken ∙ ap₂ (λ c x. run c x r order) d U ∙ ap (λ x. run C W x order) R in
    let T : t ≡ run C W (start W) (order ++ reached.0) =
    reached.1 ∙ ap₂ (λ c x. run c x s reached.0) (e ∙ d) V ∙ ap (λ x. run C W x reached.0) S ∙ sym (run_more C W (start W) order reached.0) in
    record {
      turned = told ∙ ap₂ (λ c x. turns_of c x r order) d U ∙ ap (λ x. turns_of C W x order) R;
      more = reached.0;
      ended = subst (IsClosed C W) T (subst₂ (λ c x. IsClosed c x t) (f ∙ e ∙ d) X closed);
      placed = at ∙ ap₂ (λ x z. places_on b x z.held) X T;
    }
