use Rattle.std.proofs.Common.{◌∙◌, refl, sym}
use Rattle.rm_top.specs.Answers.{IsChoiceText, IsDoctorsText, IsTransitText}
use Rattle.rm_case.specs.Choices.{choices_of}
use Rattle.rm_case.specs.Own.{offers_of}
use Rattle.rm_transit.specs.Events.{events_told}
use Rattle.rm_top.specs.declared.command.Kind.TheVariants as kinds
use Rattle.rm_top.proofs.Answering.{of_same, unopposed}
use Rattle.rm_top.proofs.telling.text_on.Goals.{in-Place, in-Check, in-Report, in-Choose+in_ok-choose_text-in-Choose, in-Journal, in-WhatIf+in_ok-whatif_text-in-WhatIf, in-Transit+in_ok-travel_text-in-Transit}
use Rattle.rm_top.proofs.telling.text_on.Goals as goal

pub returns-in-Ok-clause-told : goal.returns-in-Ok-clause-told
returns-in-Ok-clause-told c =
    let command = c.args.command.now in
    let case = c.args.case.now in
    let rows = c.args.own.now in
    let text = c.in-Ok.text.items in
    elim c.match-kind.branch [
      | in-Place w ↦ unopposed command case rows kinds.Place text (sym c.kind.ensures ∙ w.in-Place.is) refl (rw (sym w.made-is ∙ c.in-Ok.is) at w.place_text-made.ensures) tt
      | in-Check w ↦ unopposed command case rows kinds.Check text (sym c.kind.ensures ∙ w.in-Check.is) refl (rw (sym w.made-is ∙ c.in-Ok.is) at w.check_text-made.ensures) tt
      | in-Report w ↦ unopposed command case rows kinds.Report text (sym c.kind.ensures ∙ w.in-Report.is) refl (rw (sym w.made-is ∙ c.in-Ok.is) at w.report_text-made.ensures) tt
      | in-Choose+in_ok-choose_text-in-Choose w ↦
          let told = w.in_ok-choose_text-in-Choose.ensures.text in
          unopposed command case rows kinds.Choose text (sym c.kind.ensures ∙ w.in-Choose.is) told.0
          (of_same (λ t. IsChoiceText case (offers_of case rows) t.items) w.made-is c.in-Ok.is told) tt
      | in-WhatIf+in_ok-whatif_text-in-WhatIf w ↦
          let told = w.in_ok-whatif_text-in-WhatIf.ensures.text in
          unopposed command case rows kinds.WhatIf text (sym c.kind.ensures ∙ w.in-WhatIf.is) told.0
          (rw w.doctor.ensures at (of_same (λ t. IsDoctorsText case w.doctor.result.now (choices_of case rows) t.items) w.made-is c.in-Ok.is told)) tt
      | in-Transit+in_ok-travel_text-in-Transit w ↦
          let told = w.in_ok-travel_text-in-Transit.ensures.text in
          unopposed command case rows kinds.Transit text (sym c.kind.ensures ∙ w.in-Transit.is) told.0
          (of_same (λ t. IsTransitText case (events_told case rows) t.items) w.made-is c.in-Ok.is told) tt
      | in-Journal w ↦ unopposed command case rows kinds.Journal text (sym c.kind.ensures ∙ w.in-Journal.is) refl (rw (sym w.made-is ∙ c.in-Ok.is) at w.own_journal_text-made.ensures) tt
    ]
