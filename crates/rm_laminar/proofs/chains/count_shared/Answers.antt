use Rattle.std.proofs.Common.{◌≡◌, ◌∙◌, [], get_or, length, arith}
use Rattle.std.proofs.lemmas.List.{take_all}
use Rattle.rm_sets.specs.Sets.{has}
use Rattle.rm_sets.proofs.Members.{IsIn-get_or}
use Rattle.rm_sets.proofs.Sizes.{length_below}
use Rattle.rm_laminar.specs.Chains.{chain_lists}
use Rattle.rm_laminar.proofs.ListOfLists.{lists-length}
use Rattle.rm_laminar.proofs.Loops.{count-step, shared-room, nodes-below}
use Rattle.rm_laminar.proofs.chains.count_shared.Goals as goal

pub list-requires : goal.list-requires
list-requires c = c.requires.group.below (get_or c.args.group.now c.loop-i.i 0) (IsIn-get_or c.args.group.now c.loop-i.i 0 c.loop-i-test.true)

pub count_chain-requires-clause-nodes : goal.count_chain-requires-clause-nodes
count_chain-requires-clause-nodes c =
    let below = c.requires.group.below (get_or c.args.group.now c.loop-i.i 0) (IsIn-get_or c.args.group.now c.loop-i.i 0 c.loop-i-test.true) in
    let nodes = nodes-below (length c.args.chains.now) (chain_lists c.args.earlier.now) c.args.chains.now (get_or c.args.group.now c.loop-i.i 0) c.requires.chains below in
    let same = lists-length c.args.earlier.now in
    let len : length c.loop-i.shared ≡ length c.args.earlier.now = c.loop-i.auto.shared ∙ c.requires.len in
    rw (c.list.ensures, c.len-hospitals.ensures, len, ← same) nodes

pub count_chain-requires-clause-room : goal.count_chain-requires-clause-room
count_chain-requires-clause-room c =
    let below = c.requires.group.below (get_or c.args.group.now c.loop-i.i 0) (IsIn-get_or c.args.group.now c.loop-i.i 0 c.loop-i-test.true) in
    let shallow = c.requires.chains.shallow (get_or c.args.group.now c.loop-i.i 0) below in
    let few = length_below (length c.args.chains.now) c.args.group.now c.requires.group in
    shared-room c.loop-i.shared c.list.result.now (length c.args.earlier.now) c.loop-i.i (λ a h. has h (get_or (chain_lists c.args.earlier.now) a [])) c.args.group.now
    (c.loop-i.auto.shared ∙ c.requires.len) c.loop-i.invariant (omega (arith, few, c.requires.groups.few_hospitals)) (rw c.list.ensures shallow)

pub loop-i-preserved : goal.loop-i-preserved
loop-i-preserved c =
    let len : length c.loop-i.shared ≡ length c.args.earlier.now = c.loop-i.auto.shared ∙ c.requires.len in
    λ a lt.
    let more = c.count_chain.ensures a (rw len lt) in
    let more' = rw (c.list.ensures, c.len-hospitals.ensures) at more in
    count-step (length c.args.chains.now) (chain_lists c.args.earlier.now) c.args.chains.now c.args.group.now c.loop-i.i a (get_or c.loop-i.shared a 0) (get_or c.count_chain.new.shared a 0)
    c.requires.chains c.requires.group c.loop-i-test.true (rw lists-length lt) (c.loop-i.invariant a lt) more'

pub returns : goal.returns
returns c = λ a lt. rw (take_all c.loop-i.i c.args.group.now c.loop-i-test.false) at (c.loop-i.invariant a lt)
