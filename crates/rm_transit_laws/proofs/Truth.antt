-- The marks of doctors are true.
use Rattle.std.proofs.Common.{ℕ, List, ap, ◌∙◌, subst, arith}
use Rattle.std.proofs.lemmas.Option.{slice_get-get_or}
use Rattle.std.specs.Prelude.{Some}
use Rattle.rm_sets.specs.Sets.{IsIn}
use Rattle.rm_market.specs.Stable.{Wishes, list_of}
use Rattle.rm_transit_laws.specs.Transit.{Sign, none, offer_travels, is_held, refusal_travels, Transit, sign_of, after_events}
use Rattle.rm_transit_laws.specs.Results.{IsMarked, MarksAreTrue}
use Rattle.rm_matching_laws.specs.Results.{OfLawfulChoices}
use Rattle.rm_matching_laws.proofs.EveryChoice.{lawful}
use Rattle.rm_matching_laws.proofs.Places.{place, place-lt, place_read}
use Rattle.rm_matching_laws.proofs.Stable.{AreLawful}
use Rattle.rm_transit_laws.proofs.Marks as marks
use Rattle.rm_transit_laws.proofs.Moves.{reached}

module _ (C : List ℕ → List ℕ) (D : Wishes) (m : AreLawful C D) where
  marked_by : (s : Transit) (d : ℕ) (n : Sign) → marks.IsMarked C D s d n → IsMarked D s d n
  marked_by s d none h = h
  marked_by s d (offer_travels x) h =
      let L = list_of D d in (
        (m.lists d).owned x h.0,
        (place x L, (let e = h.1 in omega arith), slice_get-get_or L (place x L) 0 (place-lt x L h.0) ∙ ap Some (place_read x L 0 h.0)),
        h.2,
      )
  marked_by s d (is_held x) h = (h.1, h.0)
  marked_by s d (refusal_travels x) h = h

  true_of : MarksAreTrue C D
  true_of = record {
    spent = λ es. (reached C D m es).long;
    signs = λ es. (reached C D m es).marks_long;
    marked = λ es d. let s = after_events C D es in marked_by s d (sign_of s d) ((reached C D m es).marked d);
    once = λ es x y i j. let r = reached C D m es in r.progress.single x y (subst (IsIn x) r.held i) (subst (IsIn y) r.held j);
  }

pub marks_true : OfLawfulChoices MarksAreTrue
marks_true n C D c a = true_of C D (lawful n C D c a)
