-- The laws of every lawful choice, from the lemmas on progress and runs.
use Rattle.std.proofs.Common.{ℕ, List, [], length, sym, subst, ⊎_elim}
use Rattle.std.proofs.lemmas.Bool.{cases_Bool, cases_lt}
use Rattle.std.proofs.lemmas.List.{get_or_past}
use Rattle.std.specs.List.{IsDistinct}
use Rattle.std.specs.Prelude.{IsFalse}
use Rattle.rm_sets.proofs.Sets.{not_both}
use Rattle.rm_sets.proofs.Members.{not_in_nil, not_in_from}
use Rattle.rm_market.specs.Best.{IsChoice}
use Rattle.rm_market.specs.Stable.{Wishes, at, prefers_place, IsOptimal, IsOnlyOptimal, Takes}
use Rattle.rm_market.specs.Machine.{IsClosed}
use Rattle.rm_market.specs.Laws.{IsListOf, AreWishes, after, RunsWell, IsTruthful, EveryChoiceRunsWell}
use Rattle.rm_matching_laws.specs.Results.{RunsClose, HasOneOptimal}
use Rattle.rm_matching_laws.proofs.Places.{PrefersPlace}
use Rattle.rm_matching_laws.proofs.Stable.{AreLawful, from_prefers_place, optimal_is_one}
use Rattle.rm_matching_laws.proofs.Runs.{held_is_chosen, refused_is_nowhere}
use Rattle.rm_matching_laws.proofs.ClosedRuns.{closed_is_optimal, runs_close}
use Rattle.rm_matching_laws.proofs.RuralHospitals.{same_placed}
use Rattle.rm_matching_laws.proofs.TruthfulLists.{truthful}

no_list : (w : Wishes) (d : ℕ) → IsListOf w d []
unfolding IsDistinct
no_list w d = record { distinct = tt; owned = λ x i. absurd (not_in_nil x i); below = λ x i. absurd (not_in_nil x i) }

pub lawful : (n : ℕ) (chosen : List ℕ → List ℕ) (w : Wishes) → IsChoice n chosen → AreWishes n w → AreLawful chosen w
lawful n chosen w c a = record {
  choice = subst (λ k. IsChoice k chosen) (sym a.contracts) c;
  lists = λ d. ⊎_elim (λ lt. a.lists d lt) (λ past. subst (IsListOf w d) (sym (get_or_past w.listed d [] past)) (no_list w d)) (cases_lt d (length w.listed));
}

module _ (C : List ℕ → List ℕ) (D : Wishes) (m : AreLawful C D) where
  only_optimal : (ds : List ℕ) → IsClosed C D (after C D ds) → IsOnlyOptimal (Takes C) D (after C D ds).held
  only_optimal ds closed =
      let o : IsOptimal (Takes C) D (after C D ds).held = closed_is_optimal C D m ds closed in
      record { optimal = o; only = λ T t. optimal_is_one C D T (after C D ds).held t o }

  runs_well : RunsWell C D
  runs_well = record {
    held = held_is_chosen C D m;
    refused = λ ds x T i out stable in_T. not_both _ in_T (refused_is_nowhere C D m ds x i (not_in_from x (after C D ds).held out) T stable);
    closed = only_optimal;
  }

  one_optimal : HasOneOptimal C D
  one_optimal = let r = runs_close C D m [] in (r.0, only_optimal r.0 r.1)

  -- what isn't so by places isn't so by the test
  test_false : (d : ℕ) (S T : List ℕ) → (PrefersPlace D d (at D d S) (at D d T) → ⊥) → IsFalse (prefers_place D d (at D d S) (at D d T))
  test_false d S T not_so =
      ⊎_elim
      (λ yes. absurd (not_so (from_prefers_place D d (at D d S) (at D d T) (m.lists d).distinct yes)))
      (λ no. no)
      (cases_Bool (prefers_place D d (at D d S) (at D d T)))

  is_truthful : IsTruthful C D
  is_truthful d l S T there h s t = test_false d T S (truthful C D m d l h S T s t)

-- ---- of n contracts

pub every_choice : EveryChoiceRunsWell
every_choice n chosen w c a =
    let m : AreLawful chosen w = lawful n chosen w c a in
    (runs_well chosen w m, λ S T d s t. same_placed chosen w m S T s t d, is_truthful chosen w m)

pub runs_close_of : (n : ℕ) (chosen : List ℕ → List ℕ) (w : Wishes) → IsChoice n chosen → AreWishes n w → RunsClose chosen w
runs_close_of n chosen w c a = runs_close chosen w (lawful n chosen w c a)

pub one_optimal_of : (n : ℕ) (chosen : List ℕ → List ℕ) (w : Wishes) → IsChoice n chosen → AreWishes n w → HasOneOptimal chosen w
one_optimal_of n chosen w c a = one_optimal chosen w (lawful n chosen w c a)
