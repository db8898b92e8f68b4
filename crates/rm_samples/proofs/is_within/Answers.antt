use Rattle.std.proofs.Common.{◌≡◌, subst, arith, get_or, sym, ⊎_elim, ◌∙◌}
use Rattle.std.proofs.lemmas.Bool.{cases_lt}
use Rattle.rm_sets.specs.Sets.{IsIn}
use Rattle.rm_sets.proofs.Members.{place_from_IsIn}
use Rattle.rm_choice.proofs.Offers.{has-list_any}
use Rattle.rm_samples.proofs.is_within.Goals as goal

pub loop-i-preserved : goal.loop-i-preserved
loop-i-preserved c = λ k lt.
    let here : IsIn (get_or c.args.xs.now c.loop-i.i 0) c.args.ys.now = sym (c.contains.ensures.value ∙ has-list_any (get_or c.args.xs.now c.loop-i.i 0) c.args.ys.now) ∙ c.if-not-contains.false in
    ⊎_elim
    (λ less. c.loop-i.invariant k less)
    (λ le. let e : k ≡ c.loop-i.i = omega (arith, le, lt) in subst (λ n. IsIn (get_or c.args.xs.now n 0) c.args.ys.now) (sym e) here)
    (cases_lt k c.loop-i.i)

pub returns : goal.returns
returns c = λ _ x i.
    let p = place_from_IsIn c.args.xs.now x 0 i in
    let lt = p.1 in
    let past = c.loop-i-test.false in
    subst (λ y. IsIn y c.args.ys.now) p.2 (c.loop-i.invariant p.0 (omega (arith, lt, past)))
