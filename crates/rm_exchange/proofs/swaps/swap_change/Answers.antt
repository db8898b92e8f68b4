use Rattle.std.proofs.Common.{◌-ℤ◌, FitsSigned, w64, subst, arith}
use Rattle.std.proofs.lemmas.Int.{ints, to_z-of_z}
use Rattle.rm_sets.specs.Sets.{without}
use Rattle.rm_valuation.specs.Counts.{IsGain}
use Rattle.rm_exchange.proofs.Changes.{fits_i64, without_feasible, still_outside, swap_changed}
use Rattle.rm_exchange.proofs.swaps.swap_change.Goals as goal

pub returns-in_default : goal.returns-in_default
returns-in_default c = λ S z t out.
    subst (IsGain c.args.board.now (without S z) c.args.x) c.in_default.is (c.gain.ensures.change (without S z) (still_outside S z c.args.x out) (without_feasible c.args.board.now S z t.chosen) t.counted)

pub returns : goal.returns
returns c = λ S z t out.
    let g = subst (IsGain c.args.board.now (without S z) c.args.x) c.in-Some.is (c.gain.ensures.change (without S z) (still_outside S z c.args.x out) (without_feasible c.args.board.now S z t.chosen) t.counted) in
    let range = c.in-Some.ensures.range in
    let low = c.requires.low in
    let high = c.requires.high in
    let fits : FitsSigned w64 (c.in-Some.gain -ℤ c.args.loss) = omega (arith, ints, range.0, range.1, low, high) in
    rw (to_z-of_z w64 c.in-Some.gain (fits_i64 c.in-Some.gain range.0 range.1), to_z-of_z w64 c.args.loss (fits_i64 c.args.loss low high), to_z-of_z w64 (c.in-Some.gain -ℤ c.args.loss) fits)
    (swap_changed c.args.board.now S c.args.x z c.args.counts.now c.args.loss c.in-Some.gain t g)
