use Rattle.std.proofs.Common.{◌∙◌, ◌-◌, ◌/◌, length, set, ap, refl, arith}
use Rattle.std.proofs.lemmas.List.{length-drop, drop-set-add, drop-set-lt}
use Rattle.rm_exchange.proofs.Rounds.{change_starts, change_climbs, change_stops, round_read}
use Rattle.rm_exchange.proofs.tournament.Tournament.put.Goals as goal

pub loop-j-init : goal.loop-j-init
loop-j-init c =
    let width = c.self.inside.width in
    let entries = c.self.inside.entries.items in
    let twice = c.self.invariant.entries_are.twice in
    let long = length-drop width entries ∙ ap (λ n. n - width) twice in
    let same = ap length c.self.view_is in
    let inside = c.requires in (
      change_starts width c.args.place entries c.self.inside.best c.args.rival c.self.invariant (omega arith),
      drop-set-add width entries c.args.place c.args.rival ∙ ap (λ v. set v c.args.place c.args.rival) c.self.view_is,
    )

pub loop-j-preserved : goal.loop-j-preserved
loop-j-preserved c =
    let width = c.loop-j.self-inside.width in
    let entries = c.loop-j.self-inside.entries.items in
    let j = c.loop-j.j in
    let here = c.loop-j.invariant.0.rounds.here in
    let past = c.loop-j-test.true in (
      change_climbs width entries c.loop-j.self-inside.best j (j / 2) c.cheaper-winner.result c.loop-j.invariant.0 c.loop-j-test.true (omega arith)
          (round_read width entries (j / 2) _ _ c.cheaper-winner.result c.loop-j.invariant.0.rounds.twice (omega arith) c.index.ensures c.index-in-loop-j.ensures c.cheaper-winner.ensures),
      drop-set-lt width entries (j / 2) c.cheaper-winner.result (omega arith) ∙ c.loop-j.invariant.1,
    )

pub invariant_of-self : goal.invariant_of-self
invariant_of-self c =
    let width = c.loop-j.self-inside.width in
    let entries = c.loop-j.self-inside.entries.items in
    let j = c.loop-j.j in
    let here = c.loop-j.invariant.0.rounds.here in
    let past = c.loop-j-test.true in
    change_stops width entries c.loop-j.self-inside.best j (j / 2) c.cheaper-winner.result _ c.loop-j.invariant.0 c.loop-j-test.true (omega arith)
    (round_read width entries (j / 2) _ _ c.cheaper-winner.result c.loop-j.invariant.0.rounds.twice (omega arith) c.index.ensures c.index-in-loop-j.ensures c.cheaper-winner.ensures) c.index-in-loop-j-2.ensures (c.if-is_same.ensures.0 refl)
