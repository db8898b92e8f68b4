-- What an offer did, and the test for closed states.
use Rattle.std.proofs.Common.{◌≡◌, ◌↔◌, ℕ, ◌<◌, List, Bool, true, false, not, ◌⊎◌, length, refl, sym, ap, ◌∙◌, subst, ⊎_elim, Option, Some, None, find, is_none, true≢false}
use Rattle.std.proofs.lemmas.Bool.{cases_eq, not-true, not-false}
use Rattle.std.specs.Prelude.{IsTrue, if◌then◌else◌}
use Rattle.rm_sets.specs.Sets.{has, IsIn, IsSetBelow, with_one, without, all_below}
use Rattle.rm_sets.proofs.Sets.{not_both}
use Rattle.rm_sets.proofs.Members.{IsIn-with_one_old, IsIn-with_one_new, IsIn-without, not_in_without}
use Rattle.rm_sets.proofs.Search.{from_list_all, into_list_all}
use Rattle.rm_market.specs.Best.{IsChoice}
use Rattle.rm_market.specs.Stable.{Wishes}
use Rattle.rm_market.specs.Machine.{next_offer, IsClosed, is_closed, IsOutcome, outcome_from, outcome_of}
use Rattle.rm_market.specs.declared.Outcome.TheVariants as out
use Rattle.rm_market.specs.Laws.{after}
use Rattle.rm_matching_laws.proofs.PathIndependence.{cases_chosen-with_one}
use Rattle.rm_matching_laws.proofs.Places.{find_some, find_none}
use Rattle.rm_matching_laws.proofs.Stable.{AreLawful}
use Rattle.rm_matching_laws.proofs.Runs.{IsReached-after}
use Rattle.rm_matching_laws.proofs.ClosedRuns.{nobody_closed, closed_cannot}

-- ---- what an offer did

pub outcome_is :
    (n : ℕ) (chosen : List ℕ → List ℕ) (H : List ℕ) (x : ℕ) → IsChoice n chosen → IsSetBelow n H → x < n → chosen H ≡ H → has x H ≡ false →
    IsOutcome H x (chosen (with_one H x)) (outcome_of H x (chosen (with_one H x)))
outcome_is n chosen H x c h lt own fresh =
    by (chosen (with_one H x)) (cases_chosen-with_one n chosen c H x h lt own fresh)
    (has x (chosen (with_one H x))) refl (find (λ z. not (has z (chosen (with_one H x)))) H) refl
  where
    by :
        (new : List ℕ) → (new ≡ H) ⊎ ((new ≡ with_one H x) ⊎ ((z : ℕ) × IsIn z H × (new ≡ without (with_one H x) z))) →
        (t : Bool) → has x new ≡ t → (o : Option ℕ) → find (λ z. not (has z new)) H ≡ o → IsOutcome H x new (if t then outcome_from o else out.Refused)
    by new h false e o f =
        ⊎_elim
        (λ same. same)
        (λ rest. absurd (⊎_elim
        (λ all. not_both (has x new) (subst (IsIn x) (sym all) (IsIn-with_one_new H x)) e)
        (λ s. not_both (has x new) (subst (IsIn x) (sym s.2) (IsIn-without (with_one H x) s.0 x (IsIn-with_one_new H x) (λ same. not_both (has x H) (subst (λ y. IsIn y H) (sym same) s.1) fresh))) e)
        rest))
        h
    by new h true e None f =
        ⊎_elim
        (λ same. absurd (not_both (has x H) (subst (IsIn x) same e) fresh))
        (λ rest. ⊎_elim
        (λ all. all)
        (λ s. absurd (not_both (has s.0 new)
        (not-false (has s.0 new) (find_none (λ z. not (has z new)) H f s.0 s.1))
        (subst (λ S. has s.0 S ≡ false) (sym s.2) (not_in_without (with_one H x) s.0))))
        rest)
        h
    by new h true e (Some y) f =
        let p = find_some (λ z. not (has z new)) H y f in
        let gone : has y new ≡ false = not-true (has y new) p.1 in
        ⊎_elim
        (λ same. absurd (not_both (has y new) (subst (IsIn y) (sym same) p.0) gone))
        (λ rest. ⊎_elim
        (λ all. absurd (not_both (has y new) (subst (IsIn y) (sym all) (IsIn-with_one_old H x y p.0)) gone))
        (λ s. (
          p.0,
          ⊎_elim
              (λ same. s.2 ∙ ap (without (with_one H x)) (sym same))
              (λ ne. absurd (not_both (has y new) (subst (IsIn y) (sym s.2) (IsIn-without (with_one H x) s.0 y (IsIn-with_one_old H x y p.0) ne)) gone))
              (cases_eq y s.0),
        ))
        rest)
        h

-- ---- closed states

from_is_none : (o : Option ℕ) → is_none o ≡ true → o ≡ None
from_is_none None e = refl
from_is_none (Some x) e = absurd (true≢false (sym e))

pub closed_test : (chosen : List ℕ → List ℕ) (w : Wishes) → AreLawful chosen w → (ds : List ℕ) → IsTrue (is_closed w (after chosen w ds)) ↔ IsClosed chosen w (after chosen w ds)
closed_test chosen w m ds = (
  λ e. nobody_closed chosen w m (after chosen w ds)
      (λ d i. from_is_none (next_offer w (after chosen w ds) d) (from_list_all (λ a. is_none (next_offer w (after chosen w ds) a)) (all_below (length w.listed) (λ _. true)) e d i)),
  λ closed. into_list_all (λ a. is_none (next_offer w (after chosen w ds) a)) (all_below (length w.listed) (λ _. true))
      (λ d i. ap is_none (closed_cannot chosen w m (after chosen w ds) (IsReached-after chosen w m ds) closed d)),
)
