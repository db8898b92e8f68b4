use Rattle.std.proofs.Common.{◌≡◌, arith, pos, w64, Some, rules, subst, sym}
use Rattle.std.proofs.lemmas.Int.{ints, to_z-of_z}
use mir.Val.{to_z, of_z}
use Rattle.rm_exchange.specs.Counted.{IsSwapChange}
use Rattle.rm_sets.proofs.Places.{place_told}
use Rattle.rm_exchange.proofs.Changes.{fits_i64, swap_ties, swap_unfit, swap_decides}
use Rattle.rm_exchange.proofs.verdicts.is_better_for.Goals as goal

pub returns-in_default : goal.returns-in_default
returns-in_default c = λ S t out.
    let h = rw (to_z-of_z w64 c.args.loss (fits_i64 c.args.loss c.requires.low c.requires.high)) at c.swap_change.ensures in
    sym (swap_unfit c.args.board.now S c.args.x c.args.z (subst (IsSwapChange c.args.board.now S c.args.x c.args.z) c.in_default.is (h S c.args.z t out)))

pub returns-then-change-eq0 : goal.returns-then-change-eq0
returns-then-change-eq0 c = λ S t out.
    let h = rw (to_z-of_z w64 c.args.loss (fits_i64 c.args.loss c.requires.low c.requires.high)) at c.swap_change.ensures in
    let change = subst (IsSwapChange c.args.board.now S c.args.x c.args.z) c.in-Some.is (h S c.args.z t out) in
    let zero : c.in-Some.change ≡ pos 0 = search rules in
    rw (place_told _ c.args.board.now.ties _ c.tie.ensures, place_told _ c.args.board.now.ties _ c.tie-then-change-eq0.ensures)
    (sym (swap_ties c.args.board.now S c.args.x c.args.z t.chosen t.member out c.requires.contract (subst (λ n. IsSwapChange c.args.board.now S c.args.x c.args.z (Some n)) zero change)))

pub returns : goal.returns
returns c = λ S t out.
    let h = rw (to_z-of_z w64 c.args.loss (fits_i64 c.args.loss c.requires.low c.requires.high)) at c.swap_change.ensures in
    let change = subst (IsSwapChange c.args.board.now S c.args.x c.args.z) c.in-Some.is (h S c.args.z t out) in
    let same : to_z w64 (of_z w64 c.in-Some.change) ≡ c.in-Some.change = search rules in
    let zero : c.in-Some.change ≡ pos 0 → ⊥ = λ e. let test = c.if-change-eq0.false in absurd (grind (arith, ints)) in
    rw same (sym (swap_decides c.args.board.now S c.args.x c.args.z c.in-Some.change t.chosen t.member out change zero))
