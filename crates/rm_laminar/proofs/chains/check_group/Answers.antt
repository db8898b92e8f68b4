use Rattle.std.proofs.Common.{◌≡◌, ◌∙◌, ◌<◌, ℕ, List, [], Some, None, position, get_or, length, refl, sym, ap, rules}
use Rattle.rm_market.specs.Board.{crosses}
use Rattle.rm_market.specs.declared.TreeFault.TheVariants.{Empty, Deep}
use Rattle.rm_laminar.specs.Chains.{chain_lists}
use Rattle.rm_laminar.proofs.ListOfLists.{list-at, lists-length}
use Rattle.rm_laminar.proofs.Counts.{deep-same}
use Rattle.rm_laminar.proofs.Loops.{group-empty, group-crosses, group-deep, group-passes}
use Rattle.rm_laminar.proofs.chains.check_group.Goals as goal

pub returns-then-is_empty : goal.returns-then-is_empty
returns-then-is_empty c =
    group-empty (chain_lists c.args.earlier.now) c.args.group.now (sym c.is_empty.ensures ∙ c.if-is_empty.true)
    ∙ ap (λ (n : ℕ). Some (Empty n)) (lists-length c.args.earlier.now)

pub first_crossing-requires-clause-sets : goal.first_crossing-requires-clause-sets
first_crossing-requires-clause-sets c = λ a lt. (c.requires.groups.sets a (rw lists-length lt)).ascending

pub first_crossing-requires-clause-counts : goal.first_crossing-requires-clause-counts
first_crossing-requires-clause-counts c = rw c.deref.ensures.value c.in-Ok.ensures.counts

pub returns-in-Some : goal.returns-in-Some
returns-in-Some c =
    let lt : c.in-Some.a < length c.args.earlier.now = c.in-Some.ensures.within in
    let at : get_or (chain_lists c.args.earlier.now) c.in-Some.a [] ≡ c.deref-in-Some.result.now = list-at c.args.earlier.now c.in-Some.a c.index-earlier-a.result lt c.index-earlier-a.is ∙ sym c.deref-in-Some.ensures.value in
    rw c.crossing_of.ensures
    (group-crosses (chain_lists c.args.earlier.now) c.args.group.now c.in-Some.a (sym c.is_empty.ensures ∙ c.if-is_empty.false) (sym c.in-Some.ensures.first)
    ∙ rw (at, lists-length) refl)

pub returns-then-is_deep : goal.returns-then-is_deep
returns-then-is_deep c =
    let none : position (λ (earlier : List ℕ). crosses earlier c.args.group.now) (chain_lists c.args.earlier.now) ≡ None = search rules in
    group-deep (chain_lists c.args.earlier.now) c.args.group.now (sym c.is_empty.ensures ∙ c.if-is_empty.false) none
    (deep-same (length c.args.chains.now) (chain_lists c.args.earlier.now) c.args.chains.now c.args.group.now c.requires.chains c.requires.group ∙ sym c.is_deep.ensures ∙ c.if-is_deep.true)
    ∙ ap (λ (n : ℕ). Some (Deep n)) (lists-length c.args.earlier.now)

pub returns : goal.returns
returns c =
    let none : position (λ (earlier : List ℕ). crosses earlier c.args.group.now) (chain_lists c.args.earlier.now) ≡ None = search rules in
    group-passes (chain_lists c.args.earlier.now) c.args.group.now (sym c.is_empty.ensures ∙ c.if-is_empty.false) none
    (deep-same (length c.args.chains.now) (chain_lists c.args.earlier.now) c.args.chains.now c.args.group.now c.requires.chains c.requires.group ∙ sym c.is_deep.ensures ∙ c.if-is_deep.false)
