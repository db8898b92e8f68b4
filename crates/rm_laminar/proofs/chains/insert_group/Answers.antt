use Rattle.std.proofs.Common.{◌+◌, [], take, get_or, length, arith}
use Rattle.std.proofs.lemmas.List.{take_all}
use Rattle.rm_sets.proofs.Members.{IsIn-get_or}
use Rattle.rm_market.specs.Tree.{put, tree_sets}
use Rattle.rm_laminar.specs.Chains.{chain_lists, is_larger}
use Rattle.rm_laminar.proofs.ListOfLists.{lists-length}
use Rattle.rm_laminar.proofs.Members.{new-member}
use Rattle.rm_laminar.proofs.Grown.{put-at}
use Rattle.rm_laminar.proofs.Loops.{none-changed, unchanged, one-changed, nodes-below}
use Rattle.rm_laminar.proofs.chains.insert_group.Goals as goal

pub loop-i-init : goal.loop-i-init
loop-i-init c = none-changed (put (is_larger (length c.args.group.now) (tree_sets (length c.args.chains.now) (chain_lists c.args.earlier.now))) (length c.args.chains.now + length c.args.earlier.now)) c.args.chains.now

pub list-requires : goal.list-requires
list-requires c =
    let below = c.requires.group.below (get_or c.args.group.now c.loop-i.i 0) (IsIn-get_or c.args.group.now c.loop-i.i 0 c.loop-i-test.true) in
    omega (arith, below, c.loop-i.invariant.lengths)

pub place_in-place-requires : goal.place_in-place-requires
place_in-place-requires c =
    let below = c.requires.group.below (get_or c.args.group.now c.loop-i.i 0) (IsIn-get_or c.args.group.now c.loop-i.i 0 c.loop-i-test.true) in
    let nodes = nodes-below (length c.args.chains.now) (chain_lists c.args.earlier.now) c.args.chains.now (get_or c.args.group.now c.loop-i.i 0) c.requires.chains below in
    let fresh = new-member c.args.group.now c.loop-i.i c.requires.group.ascending c.loop-i-test.true in
    let here = unchanged (put (is_larger (length c.args.group.now) (tree_sets (length c.args.chains.now) (chain_lists c.args.earlier.now))) (length c.args.chains.now + length c.args.earlier.now)) (get_or c.args.group.now c.loop-i.i 0) c.args.chains.now c.loop-i.chains (take c.loop-i.i c.args.group.now) c.loop-i.invariant fresh below in
    let same = lists-length c.args.earlier.now in
    rw (c.list.ensures, here, c.len-hospitals.ensures, ← same) nodes

pub insert-requires-clause-list : goal.insert-requires-clause-list
insert-requires-clause-list c =
    let below = c.requires.group.below (get_or c.args.group.now c.loop-i.i 0) (IsIn-get_or c.args.group.now c.loop-i.i 0 c.loop-i-test.true) in
    omega (arith, below, c.loop-i.invariant.lengths)

pub insert-requires-clause-place : goal.insert-requires-clause-place
insert-requires-clause-place c = rw c.list.ensures at c.place_in-place.ensures.within

pub loop-i-preserved : goal.loop-i-preserved
loop-i-preserved c =
    let below = c.requires.group.below (get_or c.args.group.now c.loop-i.i 0) (IsIn-get_or c.args.group.now c.loop-i.i 0 c.loop-i-test.true) in
    let fresh = new-member c.args.group.now c.loop-i.i c.requires.group.ascending c.loop-i-test.true in
    let place = rw (c.list.ensures, c.len-hospitals.ensures) at c.place_in-place.ensures.place in
    let new = rw (c.len-hospitals.ensures, place) at c.in_ok-insert.ensures in
    let at = put-at (is_larger (length c.args.group.now) (tree_sets (length c.args.chains.now) (chain_lists c.args.earlier.now))) (length c.args.chains.now + length c.args.earlier.now) (get_or c.loop-i.chains (get_or c.args.group.now c.loop-i.i 0) []) in
    one-changed (put (is_larger (length c.args.group.now) (tree_sets (length c.args.chains.now) (chain_lists c.args.earlier.now))) (length c.args.chains.now + length c.args.earlier.now)) c.loop-i.i
    c.args.chains.now c.loop-i.chains c.insert.new.self c.args.group.now c.loop-i.invariant c.loop-i-test.true fresh below (rw at at new)

pub returns : goal.returns
returns c = rw (take_all c.loop-i.i c.args.group.now c.loop-i-test.false) at c.loop-i.invariant
