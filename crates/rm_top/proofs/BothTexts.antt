-- The text of two placements side by side.
use Rattle.std.proofs.Common.{◌≡◌, ℕ, List, Option}
use Rattle.rm_base.specs.Text.{Text}
use Rattle.rm_case.specs.Case.{CaseData, IsCase}
use Rattle.rm_laws.specs.WhatIf.{AreBothPlaces}
use Rattle.rm_report.specs.Texts.{ArePlaces, pair_text}
use Rattle.rm_top.specs.Answers.{IsPairText}
use Rattle.rm_top.proofs.Placed.{placed}
use Rattle.rm_top.proofs.PlacesWithin.{others_within, places_long, places_within}

module _ (c : CaseData) (d : ℕ) (list : List ℕ) (declared others : List (Option ℕ)) (case : IsCase c) (both : AreBothPlaces c d list declared others) where
  pub declared_within : ArePlaces c declared
  declared_within = rw both.first_places (places_long c both.first case, places_within c both.first case both.placements.declared)

  pub others_are_within : ArePlaces c others
  others_are_within = rw both.second_places (others_within c d list both.second case both.placements.other)

  pub both_told : (text : Text) → text ≡ pair_text c declared others → IsPairText c d list text
  both_told text is = (
    both.first,
    both.second,
    placed c both.first case both.placements.declared.optimal.stable.kept.feasible both.placements.declared,
    both.placements,
    rw (both.first_places, both.second_places) at is,
  )
