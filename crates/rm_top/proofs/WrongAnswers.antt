-- Wrong answers, and what refuses them.
use Rattle.std.proofs.Common.{◌≡◌, ℕ, ◌<◌, List, [], ◌∷◌, ◌++◌, length, true, false, get_or, Option, Some, Ok, Err, IsFalse, refl, sym, ap, ◌∙◌, arith, true≢false}
use Rattle.rm_sets.specs.Sets.{has}
use Rattle.rm_sets.proofs.Sets.{IsSetBelow-all_below}
use Rattle.rm_base.specs.Text.{Text, Files}
use Rattle.rm_base.specs.declared.Refusal.{Refusal}
use Rattle.rm_base.specs.declared.codes.TheConstants.{OWN_FILE}
use Rattle.rm_market.specs.Board.{is_feasible}
use Rattle.rm_market.specs.Flexible.{Region}
use Rattle.rm_market.specs.Market.{Market, IsList, IsStableIn, IsPlacementOf, replaced, wishes_of}
use Rattle.rm_market.specs.Stable.{at, prefers_place}
use Rattle.rm_market.proofs.OnLiterals.{market_on_literals}
use Rattle.rm_market.proofs.Small.{crossed, two, two_region}
use Rattle.rm_plain_laws.proofs.ListsBelow.{list_below}
use Rattle.rm_market_laws.proofs.Market.{solve_is}
use Rattle.rm_market_laws.proofs.Wishes.{IsMarket-replaced}
use Rattle.rm_verdict_laws.proofs.Plain.{stable_test}
use Rattle.rm_group_laws.specs.Markets.{NoGroupGains, NothingBetterIn, FillsTheSame}
use Rattle.rm_group_laws.proofs.WrongAnswers.{crossed_is_market, first_choices}
use Rattle.rm_kamada_kojima_laws.specs.Stability.{IsKKStable}
use Rattle.rm_kamada_kojima_laws.proofs.Examples.{pair_market}
use Rattle.rm_policy.specs.Top.{is_flexible}
use Rattle.rm_case.specs.Case.{CaseData, market, market_of, regions}
use Rattle.rm_case.specs.Regions.{AreRegionsOf}
use Rattle.rm_top.specs.Answers.{FailedOn}
use Rattle.rm_top.specs.Command.{Command, folder_in}
use Rattle.rm_top.specs.Headline.{NobodyGains, PlacesTheSame, procedure_after, HasEnded, EndsIn, IsPlaced}
use Rattle.rm_top.proofs.Placed.{ends_in}

-- ---- any case

-- what is over a capacity or a cap is no placement
over_a_cap : (c : CaseData) (S : List ℕ) → is_feasible (market c).board S ≡ false → ¬ IsPlaced c S
over_a_cap c S over is = true≢false (sym is.feasible ∙ over)

-- nor is a set to which a doctor prefers another stable one
second_best : (c : CaseData) (S T : List ℕ) (d : ℕ) → d < length (wishes_of (market c)).listed → IsStableIn (market c) T
    → prefers_place (wishes_of (market c)) d (at (wishes_of (market c)) d T) (at (wishes_of (market c)) d S) ≡ true → ¬ IsPlaced c S
second_best c S T d lt stable better is = true≢false (sym better ∙ is.placement.optimal.best_for_all T d stable lt)

-- nor one that another word of the headline refuses
a_doctor_gains : (c : CaseData) (S : List ℕ) → ¬ NobodyGains (market c) S → ¬ IsPlaced c S
a_doctor_gains c S not is = not is.truthful

a_group_gains : (c : CaseData) (S : List ℕ) → ¬ NoGroupGains (market c) S → ¬ IsPlaced c S
a_group_gains c S not is = not is.groups

better_for_all : (c : CaseData) (S : List ℕ) → ¬ NothingBetterIn (market c) S → ¬ IsPlaced c S
better_for_all c S not is = not is.efficient

others_placed : (c : CaseData) (S : List ℕ) → ¬ PlacesTheSame (market c) S → ¬ IsPlaced c S
others_placed c S not is = not is.same

others_filled : (c : CaseData) (S : List ℕ) → ¬ FillsTheSame (market c) S → ¬ IsPlaced c S
others_filled c S not is = not is.fills

other_end : (c : CaseData) (S : List ℕ) → is_flexible c.policy.kind ≡ true → ¬ EndsIn (market c) (regions c) S → ¬ IsPlaced c S
other_end c S kind not is = not (is.flexible kind)

blocked : (c : CaseData) (S : List ℕ) → is_flexible c.policy.kind ≡ true → ¬ IsKKStable (market c) (regions c) S → ¬ IsPlaced c S
blocked c S kind not is = not (is.kk_stable kind)

-- ---- two hospitals with one seat each, of which each ranks first the doctor who likes the other one better

-- the set that is best for the hospitals is stable, and no more
stable_alone : ¬ IsPlacementOf crossed (0 ∷ 2 ∷ [])
unfolding market_on_literals
stable_alone is = true≢false (is.optimal.best_for_all (1 ∷ 3 ∷ []) 0 first_choices (omega arith))

-- the first doctor has his first choice if he lists nothing else
first_choice_alone : IsPlacementOf (replaced crossed 0 (0 ∷ [])) (1 ∷ 3 ∷ [])
unfolding market_on_literals
first_choice_alone = solve_is (replaced crossed 0 (0 ∷ [])) (IsMarket-replaced crossed crossed_is_market 0 (0 ∷ []) (list_below 2 (0 ∷ []) refl))

gain_by_another_list : ¬ NobodyGains crossed (0 ∷ 2 ∷ [])
unfolding market_on_literals
gain_by_another_list says = true≢false (says.no_gain 0 (0 ∷ []) (1 ∷ 3 ∷ []) (omega arith) (list_below 2 (0 ∷ []) refl) first_choice_alone)

-- any list at all has a placement, which is no gain
any_list : (m : Market) (S : List ℕ) (d : ℕ) (list : List ℕ) → NobodyGains m S → d < length m.lists → IsList m.board list
    → (T : List ℕ) × IsPlacementOf (replaced m d list) T × IsFalse (prefers_place (wishes_of m) d (at (wishes_of m) d T) (at (wishes_of m) d S))
any_list m S d list says lt ok = let is = says.exists d list ok in (is.0, is.1, says.no_gain d list is.0 lt ok is.1)

-- nobody has a place, where a stable set that isn't the placement places both
second_choices : IsStableIn crossed (0 ∷ 2 ∷ [])
unfolding market_on_literals
second_choices = (stable_test crossed (0 ∷ 2 ∷ []) crossed_is_market (IsSetBelow-all_below 4 (λ x. has x (0 ∷ 2 ∷ [])))).0 refl

other_doctors : ¬ PlacesTheSame crossed []
unfolding market_on_literals
other_doctors says = true≢false (says (0 ∷ 2 ∷ []) 0 second_choices)

-- ---- two hospitals in one region with one seat, of which the first turns first

two_regions : AreRegionsOf two.board (two_region ∷ [])
unfolding market_on_literals
two_regions = record { lawful = pair_market.lawful; compiled = pair_market.compiled }

-- from any turns on the procedure can be brought to an end, and S is held there
ends_after : (m : Market) (regions : List Region) (S ds : List ℕ) → EndsIn m regions S
    → (es : List ℕ) × HasEnded m regions (ds ++ es) × ((procedure_after m regions (ds ++ es)).held ≡ S)
ends_after m regions S ds s = let end = s.goes_on ds in (end.0, end.1, s.ends (ds ++ end.0) end.1)

-- so it ends in one set alone
ends_once : (m : Market) (regions : List Region) (S T : List ℕ) → EndsIn m regions S → EndsIn m regions T → S ≡ T
ends_once m regions S T s t = let end = ends_after m regions S [] s in sym end.2 ∙ t.ends end.0 end.1

-- it ends with the first doctor at the first hospital
right_end : EndsIn two (two_region ∷ []) (0 ∷ [])
unfolding market_on_literals
right_end = ends_in two (two_region ∷ []) (0 ∷ []) pair_market.market two_regions (solve_is two pair_market.market)

-- and not with him at the second hospital, where he would stay if nobody could be put out
first_come : ¬ EndsIn two (two_region ∷ []) (2 ∷ [])
first_come says = zero_or_two _ _ refl refl (ap (λ (L : List ℕ). get_or L 0 0) (ends_once two (two_region ∷ []) (0 ∷ []) (2 ∷ []) right_end says))
  where
    zero_or_two : (a b : ℕ) → a ≡ 0 → b ≡ 2 → a ≡ b → ⊥
    zero_or_two a b zero two e = omega (arith, zero, two, e)

-- ---- a read that failed

-- the own file is named only where the folder is accepted
refused_folder : (files : Files) (command : Command) (blame : Option (Option Text)) (r : Refusal) → market_of files (folder_in command) ≡ Err r
    → ¬ FailedOn (Some files) blame command OWN_FILE
refused_folder files command blame r refused failed = let accepted = failed.needed refl in not_both (sym accepted.1 ∙ refused)
  where
    not_both : {c : CaseData} → Ok c ≡ Err r → ⊥
    not_both e = cc
