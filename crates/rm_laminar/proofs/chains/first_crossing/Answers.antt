use Rattle.std.proofs.Common.{◌≡◌, ◌∙◌, ◌<◌, ℕ, List, [], get_or, sym, arith, ⊎_elim, ap}
use Rattle.std.proofs.lemmas.Bool.{cases_lt}
use Rattle.std.proofs.lemmas.List.{length-map}
use Rattle.rm_market.specs.Board.{crosses}
use Rattle.rm_laminar.specs.Chains.{chain_lists}
use Rattle.rm_laminar.proofs.ListOfLists.{list-at}
use Rattle.rm_laminar.proofs.Counts.{position-some, position-none}
use Rattle.rm_laminar.proofs.chains.first_crossing.Goals as goal

here : (c : goal.After-deref) → get_or (chain_lists c.args.earlier.now) c.loop-a.a [] ≡ c.deref.result.now
here c = list-at c.args.earlier.now c.loop-a.a c.index-earlier-a.result c.loop-a-test.true c.index-earlier-a.is ∙ sym c.deref.ensures.value

pub is_crossing-requires-clause-sets : goal.is_crossing-requires-clause-sets
is_crossing-requires-clause-sets c = (rw (here c) at (c.requires.sets c.loop-a.a c.loop-a-test.true), c.requires.group)

pub is_crossing-requires-clause-shared : goal.is_crossing-requires-clause-shared
is_crossing-requires-clause-shared c = rw (here c) at (c.requires.counts c.loop-a.a c.loop-a-test.true)

pub returns-then-is_crossing-clause-first : goal.returns-then-is_crossing-clause-first
returns-then-is_crossing-clause-first c =
    let at : get_or (chain_lists c.args.earlier.now) c.loop-a.a [] ≡ c.deref.result.now = list-at c.args.earlier.now c.loop-a.a c.index-earlier-a.result c.loop-a-test.true c.index-earlier-a.is ∙ sym c.deref.ensures.value in
    sym (position-some (λ (a : List ℕ). crosses a c.args.group.now) (chain_lists c.args.earlier.now) c.loop-a.a [] (rw length-map c.loop-a-test.true) c.loop-a.invariant
    (ap (λ (a : List ℕ). crosses a c.args.group.now) at ∙ sym c.is_crossing.ensures ∙ c.if-is_crossing.true))

pub loop-a-preserved : goal.loop-a-preserved
loop-a-preserved c =
    let at : get_or (chain_lists c.args.earlier.now) c.loop-a.a [] ≡ c.deref.result.now = list-at c.args.earlier.now c.loop-a.a c.index-earlier-a.result c.loop-a-test.true c.index-earlier-a.is ∙ sym c.deref.ensures.value in
    λ k lt. ⊎_elim
    (λ (less : k < c.loop-a.a). c.loop-a.invariant k less)
    (λ le.
    let same : k ≡ c.loop-a.a = omega arith in
    ap (λ (j : ℕ). crosses (get_or (chain_lists c.args.earlier.now) j []) c.args.group.now) same ∙ ap (λ (a : List ℕ). crosses a c.args.group.now) at ∙ sym c.is_crossing.ensures ∙ c.if-is_crossing.false)
    (cases_lt k c.loop-a.a)

pub returns-clause-first : goal.returns-clause-first
returns-clause-first c = sym (position-none (λ (a : List ℕ). crosses a c.args.group.now) (chain_lists c.args.earlier.now) c.loop-a.a [] (rw length-map c.loop-a-test.false) c.loop-a.invariant)
