use Rattle.std.proofs.Common.{rules, ℕ, Bool, Option, None, false, refl, arith}
use Rattle.std.proofs.lemmas.List.{length-replicate}
use Rattle.rm_lists.proofs.Grouped.{dealt-none}
use Rattle.rm_ranks.proofs.Building.{none-built}
use Rattle.rm_ranks.proofs.builder.ListsBuilder.new.Goals as goal

pub invariant_of-result : goal.invariant_of-result
invariant_of-result c =
    let marks = c.in_ok-vec.ensures.items_if_clones_equal (λ y h. search rules) in
    let seen = c.in_ok-vec-2.ensures.items_if_clones_equal (λ y h. h) in
    rw (c.new.ensures.items, c.new-2.ensures.items, marks, seen) (none-built c.args.lists c.args.items c.args.limit (omega (arith, c.ranges.lists.fits)))

pub returns : goal.returns
returns c =
    let marks = c.in_ok-vec.ensures.items_if_clones_equal (λ y h. search rules) in
    let seen = c.in_ok-vec-2.ensures.items_if_clones_equal (λ y h. h) in
    rw (c.new.ensures.items, c.new-2.ensures.items, marks, seen, length-replicate {A = Bool} c.args.items false, length-replicate {A = Option ℕ} c.args.lists None, dealt-none {X = ℕ} c.args.lists) refl
