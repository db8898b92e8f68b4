use Rattle.std.proofs.Common.{◌≡◌, rules, w64, subst}
use mir.Val.{to_z, of_z}
use Rattle.std.proofs.lemmas.Int.{to_z-of_z}
use Rattle.rm_sets.proofs.Sets.{not_both}
use Rattle.rm_exchange.specs.Counted.{IsSwapChange}
use Rattle.rm_exchange.specs.RowsBelow.{IsSwapBelow}
use Rattle.rm_exchange.proofs.Changes.{fits_i64}
use Rattle.rm_exchange.proofs.SwapBelow.{unfit_at, first_at, ahead_at, behind_at}
use Rattle.rm_exchange.proofs.certificates.better_swap.Goals as goal

pub returns-in_default-clause-swap : goal.returns-in_default-clause-swap
returns-in_default-clause-swap c = λ S leaf t last out below.
    let b = c.args.board.now in
    let h = rw (to_z-of_z w64 c.args.loss (fits_i64 c.args.loss c.requires.low c.requires.high)) at c.swap_change.ensures in
    unfit_at b S leaf c.args.x c.args.z c.args.swap t.chosen last out (subst (IsSwapChange b S c.args.x c.args.z) c.in_default.is (h S c.args.z t out)) below

pub returns-in_default-swap-clause-swap : goal.returns-in_default-swap-clause-swap
returns-in_default-swap-clause-swap c = λ S leaf t last out below.
    let b = c.args.board.now in
    let h = rw (to_z-of_z w64 c.args.loss (fits_i64 c.args.loss c.requires.low c.requires.high)) at c.swap_change.ensures in
    let same : to_z w64 (of_z w64 c.in-Some.change) ≡ c.in-Some.change = search rules in
    rw same
    (first_at b S leaf c.args.x c.args.z c.in-Some.change t.chosen last out (subst (IsSwapChange b S c.args.x c.args.z) c.in-Some.is (h S c.args.z t out))
    (subst (IsSwapBelow b S leaf c.args.x) c.in_default-swap.is below))

pub returns-then-is_ahead-clause-swap : goal.returns-then-is_ahead-clause-swap
returns-then-is_ahead-clause-swap c = λ S leaf t last out below.
    let b = c.args.board.now in
    let h = rw (to_z-of_z w64 c.args.loss (fits_i64 c.args.loss c.requires.low c.requires.high)) at c.swap_change.ensures in
    let same : to_z w64 (of_z w64 c.in-Some.change) ≡ c.in-Some.change = search rules in
    let ahead = rw same at (c.is_ahead.ensures.0 c.if-is_ahead.true) in
    rw same
    (ahead_at b S leaf c.args.x c.args.z c.in-Some.change c.in-Some-swap.best t.chosen last out (subst (IsSwapChange b S c.args.x c.args.z) c.in-Some.is (h S c.args.z t out))
    (subst (IsSwapBelow b S leaf c.args.x) c.in-Some-swap.is below) ahead)

pub returns-clause-swap : goal.returns-clause-swap
returns-clause-swap c = λ S leaf t last out below.
    let b = c.args.board.now in
    let h = rw (to_z-of_z w64 c.args.loss (fits_i64 c.args.loss c.requires.low c.requires.high)) at c.swap_change.ensures in
    let same : to_z w64 (of_z w64 c.in-Some.change) ≡ c.in-Some.change = search rules in
    let ahead = rw same at c.is_ahead.ensures.1 in
    behind_at b S leaf c.args.x c.args.z c.in-Some.change c.in-Some-swap.best t.chosen last out (subst (IsSwapChange b S c.args.x c.args.z) c.in-Some.is (h S c.args.z t out))
    (subst (IsSwapBelow b S leaf c.args.x) c.in-Some-swap.is below) (λ a. not_both c.is_ahead.result (ahead a) c.if-is_ahead.false)
