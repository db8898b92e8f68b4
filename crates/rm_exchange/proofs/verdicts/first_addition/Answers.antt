use Rattle.std.proofs.Common.{◌≡◌, Some, None, get_or, sym, subst, arith, ◌∙◌}
use Rattle.std.specs.Prelude.{find}
use Rattle.std.proofs.lemmas.List.{take_all}
use Rattle.rm_sets.specs.Sets.{with_one}
use Rattle.rm_sets.proofs.Members.{IsIn-get_or}
use Rattle.rm_market.specs.Best.{values_of, is_better}
use Rattle.rm_valuation.proofs.Taken.{none_more, some_here, outside}
use Rattle.rm_exchange.proofs.verdicts.first_addition.Goals as goal

pub is_better_with-requires-clause-contract : goal.is_better_with-requires-clause-contract
is_better_with-requires-clause-contract c = c.requires.refused.below _ (IsIn-get_or c.args.refused.now c.loop-i.i 0 c.loop-i-test.true)

pub returns-then-is_better_with : goal.returns-then-is_better_with
returns-then-is_better_with c = λ X S e ch a.
    let b = c.args.board.now in
    let L = c.args.refused.now in
    let i = IsIn-get_or L c.loop-i.i 0 c.loop-i-test.true in
    sym (subst (λ M. find (λ x. is_better (values_of b) (with_one S x) S) M ≡ Some (get_or L c.loop-i.i 0)) e
    (some_here (λ x. is_better (values_of b) (with_one S x) S) c.loop-i.i L c.loop-i-test.true (c.loop-i.invariant S (outside L X S e) ch a)
    (sym (c.is_better_with.ensures S ch (outside L X S e (get_or L c.loop-i.i 0) i) a) ∙ c.if-is_better_with.true)))

pub loop-i-preserved : goal.loop-i-preserved
loop-i-preserved c = λ S out ch a.
    let b = c.args.board.now in
    let L = c.args.refused.now in
    let i = IsIn-get_or L c.loop-i.i 0 c.loop-i-test.true in
    none_more (λ x. is_better (values_of b) (with_one S x) S) c.loop-i.i L c.loop-i-test.true (c.loop-i.invariant S out ch a)
    (sym (c.is_better_with.ensures S ch (out (get_or L c.loop-i.i 0) i) a) ∙ c.if-is_better_with.false)

pub returns : goal.returns
returns c = λ X S e ch a.
    let b = c.args.board.now in
    let L = c.args.refused.now in
    let past = c.loop-i-test.false in
    sym (subst (λ M. find (λ x. is_better (values_of b) (with_one S x) S) M ≡ None) (take_all c.loop-i.i L (omega (arith, past)) ∙ e) (c.loop-i.invariant S (outside L X S e) ch a))
