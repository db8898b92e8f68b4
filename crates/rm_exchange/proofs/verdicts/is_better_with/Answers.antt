use Rattle.std.proofs.Common.{FitsSigned, w64, arith, sym, subst}
use Rattle.std.proofs.lemmas.Int.{ints, to_z-of_z}
use Rattle.rm_valuation.specs.Counts.{IsGain}
use Rattle.rm_exchange.proofs.Changes.{addition_unfit, addition_decides}
use Rattle.rm_exchange.proofs.verdicts.is_better_with.Goals as goal

pub returns-in_default : goal.returns-in_default
returns-in_default c = λ S ch out a.
    sym (addition_unfit c.args.board.now S c.args.x (subst (IsGain c.args.board.now S c.args.x) c.in_default.is (c.gain.ensures.change S out ch.feasible a)))

pub returns : goal.returns
returns c = λ S ch out a.
    let g = subst (IsGain c.args.board.now S c.args.x) c.in-Some.is (c.gain.ensures.change S out ch.feasible a) in
    let fits : FitsSigned w64 c.in-Some.gain = omega (arith, ints, c.in-Some.ensures.range.0, c.in-Some.ensures.range.1) in
    simp (to_z-of_z, fits) (sym (addition_decides c.args.board.now S c.args.x c.in-Some.gain ch c.requires.contract out g))
